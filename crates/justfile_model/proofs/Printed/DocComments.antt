-- The comment as which a doc is printed ends before the line feed printed after it, like the comment from which the doc was taken.
use Rattle.std.proofs.Common.{◌≡◌, ℕ, Bool, true, false, cond, eqb, List, [], ◌∷◌, ◌++◌, get_or, drop, Option, Some, None, refl, sym, ap, ◌∙◌, subst, arith}
use Rattle.std.specs.Str.{IsUtf8, trim}
use Rattle.justfile_model.specs.Grammars.Docs.{Before, LineEnd, Nothing, Other, doc_in, some_text}
use Rattle.justfile_model.specs.Printed.Printing.{doc_comment, ends_in_return}
use Rattle.justfile_model.proofs.Lists.AllParts.{parts}
use Rattle.justfile_model.proofs.Lists.Binds.{never_some}
use Rattle.justfile_model.proofs.Lexing.CommentEnds.{EndsBeforeFeed, NoFeeds, ends_before_feed, no_feeds, no_return}
use Rattle.justfile_model.proofs.Printed.TrimLaws.{IsDoc, doc_comment_text, doc_of_comment, doc_within}

-- ---- docs

doc_text : (before : Before) (comment doc : List ℕ) → doc_in before comment ≡ Some doc → some_text (trim (drop 1 comment)) ≡ Some doc
doc_text Nothing comment doc h = unless _ _ h
  where
    unless : (b : Bool) (o : Option (List ℕ)) → cond b None o ≡ Some doc → o ≡ Some doc
    unless true o e = never_some doc e
    unless false o e = e
doc_text LineEnd comment doc h = h
doc_text Other comment doc h = never_some doc h

feeds_dropped : (t : List ℕ) → NoFeeds t → NoFeeds (drop 1 t)
feeds_dropped [] h = tt
feeds_dropped (b ∷ bs) h = h.1

doc_feeds : (comment doc : List ℕ) → IsUtf8 (drop 1 comment) → EndsBeforeFeed comment → some_text (trim (drop 1 comment)) ≡ Some doc → NoFeeds doc
doc_feeds comment doc u h e =
    let a = doc_within (drop 1 comment) doc u e in
    let P : ℕ → Type 0 = λ b. eqb b 10 ≡ false in
    (parts P doc a.trail (parts P a.lead (doc ++ a.trail) (subst NoFeeds a.is (feeds_dropped comment (no_feeds comment (10 ∷ []) (omega (arith, h [])))))).1).0

doc_return : (doc : List ℕ) → IsDoc doc → ends_in_return (35 ∷ 32 ∷ doc) ≡ false
doc_return [] d = never_some [] d.some
doc_return (b ∷ bs) d = ap ends_in_return (sym d.encodes_are) ∙ no_return d.codes_of d.no_trail

-- if the comment ends before a line feed, so does the comment that its doc is printed as
pub doc_comment_ends : (before : Before) (comment doc : List ℕ) → IsUtf8 (drop 1 comment) → EndsBeforeFeed comment → doc_in before comment ≡ Some doc
    → EndsBeforeFeed (doc_comment doc)
doc_comment_ends before comment doc u h e =
    let d = doc_of_comment before comment doc u e in
    subst EndsBeforeFeed (sym (doc_comment_text doc d))
    (ends_before_feed (35 ∷ 32 ∷ doc) (refl, (refl, doc_feeds comment doc u h (doc_text before comment doc e))) (doc_return doc d))

-- it begins with a number sign
pub doc_comment_first : (doc : List ℕ) → IsDoc doc → get_or (doc_comment doc) 0 0 ≡ 35
doc_comment_first doc d = ap (λ l. get_or l 0 0) (doc_comment_text doc d)
