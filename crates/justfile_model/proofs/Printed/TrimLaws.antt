-- The doc of a comment has no whitespace at its ends, so the comment as which it is printed has the same doc.
use Rattle.std.proofs.Common.{◌≡◌, ℕ, suc, Bool, true, false, cond, eqb, List, [], ◌∷◌, ◌++◌, length, get_or, drop, Option, Some, None, refl, sym, ap, ◌∙◌, subst, arith}
use Rattle.std.specs.Prelude.{◌&&◌}
use Rattle.std.specs.Char.{is_whitespace}
use Rattle.std.specs.Str.{IsUtf8, chars, trim, trim_start, trim_end, drop_trailing_whitespace, skip_leading_whitespace}
use Rattle.std.proofs.Math.Utf8.{encodes, scalars, scalar}
use Rattle.std.proofs.lemmas.Bool.{and_parts, and_from}
use Rattle.std.proofs.lemmas.Bool.Decides.{nat_tests}
use Rattle.std.proofs.lemmas.Str.{chars-encodes, encodes-chars, encodes-append, scalars-chars, encode_ascii, IsUtf8-past_char}
use Rattle.justfile_model.specs.Grammars.Docs.{Before, Nothing, LineEnd, Other, doc_in, some_text}
use Rattle.justfile_model.specs.Printed.Printing.{doc_comment, fixed_text}
use Rattle.justfile_model.proofs.Lists.Binds.{never_some, never_nil, some_back}

-- ---- characters without the whitespace at their end

stays : (c : ℕ) (cs : List ℕ) (P : List ℕ → Type 0) → P [] → ((is_whitespace c && eqb (length (drop_trailing_whitespace cs)) 0) ≡ false → P (c ∷ drop_trailing_whitespace cs)) → P (drop_trailing_whitespace (c ∷ cs))
stays c cs P f g = by (is_whitespace c && eqb (length (drop_trailing_whitespace cs)) 0) refl
  where
    by : (b : Bool) → (is_whitespace c && eqb (length (drop_trailing_whitespace cs)) 0) ≡ b → P (cond b [] (c ∷ drop_trailing_whitespace cs))
    by true e = f
    by false e = g e

-- what stood before the whitespace that was dropped
pub record TrimmedTo (cs ds : List ℕ) : Type 0 where
  pub dropped : List ℕ
  pub is : cs ≡ ds ++ dropped

pub kept : (cs : List ℕ) → TrimmedTo cs (drop_trailing_whitespace cs)
kept [] = record { dropped = []; is = refl }
kept (c ∷ cs) = stays c cs (TrimmedTo (c ∷ cs)) (record { dropped = c ∷ cs; is = refl }) (λ e. record { dropped = (kept cs).dropped; is = ap (λ l. c ∷ l) (kept cs).is })

pub kept_scalars : (cs : List ℕ) → scalars cs ≡ true → scalars (drop_trailing_whitespace cs) ≡ true
kept_scalars [] h = refl
kept_scalars (c ∷ cs) h =
    let parts = and_parts (scalar c) (scalars cs) h in
    stays c cs (λ l. scalars l ≡ true) refl (λ e. and_from (scalar c) (scalars (drop_trailing_whitespace cs)) parts.0 (kept_scalars cs parts.1))

pub dropped_once : (cs : List ℕ) → drop_trailing_whitespace (drop_trailing_whitespace cs) ≡ drop_trailing_whitespace cs
dropped_once [] = refl
dropped_once (c ∷ cs) =
    stays c cs (λ l. drop_trailing_whitespace l ≡ l) refl
    (λ e. ap (λ l. cond (is_whitespace c && eqb (length l) 0) [] (c ∷ l)) (dropped_once cs) ∙ ap (λ b. cond b [] (c ∷ drop_trailing_whitespace cs)) e)

-- ---- characters without the whitespace at their start

starts : (c : ℕ) (cs : List ℕ) (P : List ℕ → Type 0) → (is_whitespace c ≡ true → P (skip_leading_whitespace cs)) → (is_whitespace c ≡ false → P (c ∷ cs))
    → P (skip_leading_whitespace (c ∷ cs))
starts c cs P f g = by (is_whitespace c) refl
  where
    by : (b : Bool) → is_whitespace c ≡ b → P (cond b (skip_leading_whitespace cs) (c ∷ cs))
    by true e = f e
    by false e = g e

record Skipped (cs ds : List ℕ) : Type 0 where
  lead : List ℕ
  is : cs ≡ lead ++ ds

skipped : (cs : List ℕ) → Skipped cs (skip_leading_whitespace cs)
skipped [] = record { lead = []; is = refl }
skipped (c ∷ cs) =
    starts c cs (Skipped (c ∷ cs)) (λ e. record { lead = c ∷ (skipped cs).lead; is = ap (λ l. c ∷ l) (skipped cs).is }) (λ e. record { lead = []; is = refl })

skipped_scalars : (cs : List ℕ) → scalars cs ≡ true → scalars (skip_leading_whitespace cs) ≡ true
skipped_scalars [] h = refl
skipped_scalars (c ∷ cs) h =
    starts c cs (λ l. scalars l ≡ true) (λ e. skipped_scalars cs (and_parts (scalar c) (scalars cs) h).1) (λ e. h)

-- nothing is dropped before a character that isn't whitespace
kept_first : (c : ℕ) (cs : List ℕ) → is_whitespace c ≡ false → drop_trailing_whitespace (c ∷ cs) ≡ c ∷ drop_trailing_whitespace cs
kept_first c cs e = ap (λ b. cond (b && eqb (length (drop_trailing_whitespace cs)) 0) [] (c ∷ drop_trailing_whitespace cs)) e

-- where the whitespace at the start is gone, it stays so
skipped_once : (cs : List ℕ) → skip_leading_whitespace (drop_trailing_whitespace (skip_leading_whitespace cs)) ≡ drop_trailing_whitespace (skip_leading_whitespace cs)
skipped_once [] = refl
skipped_once (c ∷ cs) =
    starts c cs (λ l. skip_leading_whitespace (drop_trailing_whitespace l) ≡ drop_trailing_whitespace l) (λ e. skipped_once cs)
    (λ e. ap skip_leading_whitespace (kept_first c cs e) ∙ ap (λ b. cond b (skip_leading_whitespace (drop_trailing_whitespace cs)) (c ∷ drop_trailing_whitespace cs)) e
    ∙ sym (kept_first c cs e))

-- ---- texts

-- a text by its characters, which have no whitespace at their ends; it is not empty
pub record IsDoc (doc : List ℕ) : Type 0 where
  pub codes_of : List ℕ
  pub scalars_are : scalars codes_of ≡ true
  pub encodes_are : encodes codes_of ≡ doc
  pub no_lead : skip_leading_whitespace codes_of ≡ codes_of
  pub no_trail : drop_trailing_whitespace codes_of ≡ codes_of
  pub some : some_text doc ≡ Some doc

trim_chars : (bs : List ℕ) → scalars (skip_leading_whitespace (chars bs)) ≡ true → trim bs ≡ encodes (drop_trailing_whitespace (skip_leading_whitespace (chars bs)))
unfolding trim_start trim_end
trim_chars bs h = ap (λ cs. encodes (drop_trailing_whitespace cs)) (chars-encodes (skip_leading_whitespace (chars bs)) h)

chars_of : (doc : List ℕ) (d : IsDoc doc) → chars doc ≡ d.codes_of
chars_of doc d = ap chars (sym d.encodes_are) ∙ chars-encodes d.codes_of d.scalars_are

-- it has no whitespace at either end
doc_trimmed : (doc : List ℕ) → IsDoc doc → trim doc ≡ doc
doc_trimmed doc d =
    let lead : skip_leading_whitespace (chars doc) ≡ d.codes_of = ap skip_leading_whitespace (chars_of doc d) ∙ d.no_lead in
    trim_chars doc (ap scalars lead ∙ d.scalars_are) ∙ ap (λ cs. encodes (drop_trailing_whitespace cs)) lead ∙ ap encodes d.no_trail ∙ d.encodes_are

some_of : (text doc : List ℕ) → some_text text ≡ Some doc → (text ≡ doc) × (some_text doc ≡ Some doc)
some_of [] doc h = never_some doc h
some_of (b ∷ bs) doc h = let is = some_back (b ∷ bs) doc h in (is, subst (λ t. some_text t ≡ Some t) is refl)

-- a trimmed text is a doc, if it isn't empty
doc_of_text : (text doc : List ℕ) → IsUtf8 text → some_text (trim text) ≡ Some doc → IsDoc doc
doc_of_text text doc u h =
    let cs = chars text in
    let lead = skipped_scalars cs (scalars-chars text u) in
    let s = some_of (trim text) doc h in
    record {
      codes_of = drop_trailing_whitespace (skip_leading_whitespace cs);
      scalars_are = kept_scalars (skip_leading_whitespace cs) lead;
      encodes_are = sym (trim_chars text lead) ∙ s.0;
      no_lead = skipped_once cs;
      no_trail = dropped_once (skip_leading_whitespace cs);
      some = s.1;
    }

-- ---- the comment that a doc is printed as

chars_space : (b : ℕ) (bs : List ℕ) → chars (32 ∷ b ∷ bs) ≡ 32 ∷ chars (b ∷ bs)
unfolding chars
chars_space b bs = refl

chars_hash : (b : ℕ) (bs : List ℕ) → chars (35 ∷ 32 ∷ b ∷ bs) ≡ 35 ∷ 32 ∷ chars (b ∷ bs)
unfolding chars
chars_hash b bs = refl

space_trimmed : (b : ℕ) (bs : List ℕ) → trim (32 ∷ b ∷ bs) ≡ trim (b ∷ bs)
unfolding trim_start
space_trimmed b bs = ap (λ cs. trim_end (encodes (skip_leading_whitespace cs))) (chars_space b bs)

-- it is a doc again, where a line begins
doc_again : (doc : List ℕ) → IsDoc doc → doc_in LineEnd (doc_comment doc) ≡ Some doc
unfolding fixed_text
doc_again [] d = never_some [] d.some
doc_again (b ∷ bs) d = ap some_text (space_trimmed b bs ∙ doc_trimmed (b ∷ bs) d)

-- and where the file begins
first_doc_again : (doc : List ℕ) → IsDoc doc → doc_in Nothing (doc_comment doc) ≡ Some doc
unfolding fixed_text
first_doc_again [] d = never_some [] d.some
first_doc_again (b ∷ bs) d = ap some_text (space_trimmed b bs ∙ doc_trimmed (b ∷ bs) d)

not_none : (b : Bool) (o : Option (List ℕ)) (doc : List ℕ) → cond b None o ≡ Some doc → o ≡ Some doc
not_none true o doc h = never_some doc h
not_none false o doc h = h

pub doc_of_comment : (before : Before) (comment doc : List ℕ) → IsUtf8 (drop 1 comment) → doc_in before comment ≡ Some doc → IsDoc doc
doc_of_comment Nothing comment doc u h = doc_of_text (drop 1 comment) doc u (not_none _ _ doc h)
doc_of_comment LineEnd comment doc u h = doc_of_text (drop 1 comment) doc u h
doc_of_comment Other comment doc u h = never_some doc h

-- the doc of a comment is the doc of the comment that it is printed as, at the same place
pub taken_again : (before : Before) (comment doc : List ℕ) → IsUtf8 (drop 1 comment) → doc_in before comment ≡ Some doc
    → doc_in before (doc_comment doc) ≡ Some doc
taken_again Nothing comment doc u h = first_doc_again doc (doc_of_comment Nothing comment doc u h)
taken_again LineEnd comment doc u h = doc_again doc (doc_of_comment LineEnd comment doc u h)
taken_again Other comment doc u h = never_some doc h

-- ---- its text

hash_plain : (b : ℕ) (bs : List ℕ) (cs : List ℕ) → chars (b ∷ bs) ≡ cs → trim_end (35 ∷ 32 ∷ b ∷ bs) ≡ encodes (drop_trailing_whitespace (35 ∷ 32 ∷ cs))
unfolding trim_end
hash_plain b bs cs e = ap (λ cs. encodes (drop_trailing_whitespace cs)) (chars_hash b bs ∙ ap (λ cs. 35 ∷ 32 ∷ cs) e)

not_empty : (n : ℕ) → eqb (suc n) 0 ≡ false
not_empty n = grind (arith, nat_tests)

space_kept : (c : ℕ) (cs : List ℕ) → drop_trailing_whitespace (c ∷ cs) ≡ c ∷ cs → drop_trailing_whitespace (35 ∷ 32 ∷ c ∷ cs) ≡ 35 ∷ 32 ∷ c ∷ cs
space_kept c cs e = ap (λ l. 35 ∷ cond (eqb (length l) 0) [] (32 ∷ l)) e ∙ ap (λ b. 35 ∷ cond b [] (32 ∷ c ∷ cs)) (not_empty (length cs))

encoded : (cs bs : List ℕ) → encodes cs ≡ bs → encodes (35 ∷ 32 ∷ cs) ≡ 35 ∷ 32 ∷ bs
encoded cs bs e = λ i. encode_ascii 35 (omega arith) i ++ (encode_ascii 32 (omega arith) i ++ e i)

-- the comment of a doc has no whitespace at its end
pub doc_comment_trimmed : (doc : List ℕ) → IsDoc doc → trim_end (doc_comment doc) ≡ doc_comment doc
unfolding fixed_text
doc_comment_trimmed [] d = never_some [] d.some
doc_comment_trimmed (b ∷ bs) d = hash_plain b bs d.codes_of (chars_of (b ∷ bs) d) ∙ ap encodes (go d.codes_of d.encodes_are d.no_trail) ∙ encoded d.codes_of (b ∷ bs) d.encodes_are
  where
    go : (cs : List ℕ) → encodes cs ≡ b ∷ bs → drop_trailing_whitespace cs ≡ cs → drop_trailing_whitespace (35 ∷ 32 ∷ cs) ≡ 35 ∷ 32 ∷ cs
    go [] e h = never_nil b bs (sym e)
    go (c ∷ cs) e h = space_kept c cs h

pub doc_comment_utf8 : (doc : List ℕ) → IsDoc doc → IsUtf8 (doc_comment doc)
unfolding fixed_text
doc_comment_utf8 [] d = never_some [] d.some
doc_comment_utf8 (b ∷ bs) d = (35 ∷ 32 ∷ d.codes_of, (d.scalars_are, encoded d.codes_of (b ∷ bs) d.encodes_are))

-- it begins with a number sign and a space
pub doc_comment_text : (doc : List ℕ) → IsDoc doc → doc_comment doc ≡ 35 ∷ 32 ∷ doc
unfolding fixed_text
doc_comment_text [] d = never_some [] d.some
doc_comment_text (b ∷ bs) d = refl

-- the text around the doc
pub record Around (text doc : List ℕ) : Type 0 where
  pub lead : List ℕ
  pub trail : List ℕ
  pub is : text ≡ lead ++ (doc ++ trail)

pub doc_within : (text doc : List ℕ) → IsUtf8 text → some_text (trim text) ≡ Some doc → Around text doc
doc_within text doc u h =
    let cs = chars text in
    let front = skipped cs in
    let back = kept (skip_leading_whitespace cs) in
    let d = trim_chars text (skipped_scalars cs (scalars-chars text u)) in
    record {
      lead = encodes front.lead;
      trail = encodes back.dropped;
      is = sym (encodes-chars text u) ∙ ap encodes front.is ∙ encodes-append front.lead (skip_leading_whitespace cs)
          ∙ ap (λ l. encodes front.lead ++ l)
          (ap encodes back.is ∙ encodes-append (drop_trailing_whitespace (skip_leading_whitespace cs)) back.dropped
          ∙ ap (λ l. l ++ encodes back.dropped) (sym d ∙ (some_of (trim text) doc h).0));
    }

-- ---- comments

hash_first : (comment : List ℕ) → get_or comment 0 0 ≡ 35 → comment ≡ 35 ∷ drop 1 comment
hash_first [] h = cc
hash_first (b ∷ bs) h = ap (λ c. c ∷ bs) h

-- what follows the number sign of a comment is UTF-8 as the comment is
pub past_hash : (comment : List ℕ) → get_or comment 0 0 ≡ 35 → IsUtf8 comment → IsUtf8 (drop 1 comment)
past_hash comment h u =
    IsUtf8-past_char comment (drop 1 comment) 35 u (hash_first comment h ∙ ap (λ x. x ++ drop 1 comment) (sym (encode_ascii 35 (omega arith))))
