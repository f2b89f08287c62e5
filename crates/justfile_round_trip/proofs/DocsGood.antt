-- If items are good, they are good with their docs as comments.
use Rattle.std.proofs.Common.{◌≡◌, ℕ, Bool, true, false, cond, List, [], ◌∷◌, Option, Some, None, refl, sym, subst, ap, ◌∙◌}
use Rattle.std.specs.Prelude.{◌&&◌, ◌||◌, is_some, not}
use Rattle.std.specs.List.{AllByRecursion}
use Rattle.justfile_model.specs.Grammars.Docs.{Before, LineEnd, Other, comment_taken, doc_in, doc_of, doc_or_comment, documented, redocumented, taken, takes_doc, can_take_doc}
use Rattle.justfile_model.specs.Grammars.Files.{sets_doc}
use Rattle.justfile_model.specs.Lexing.Modes.{is_empty}
use Rattle.justfile_model.specs.Printed.Printing.{doc_comment, shown_doc}
use Rattle.justfile_model.specs.Printed.PrintedAttributes.{after_doc, doc_written, docs_written}
use Rattle.justfile_model.specs.Trees.Tree.{Comment, Construct, Module, Newline, Recipe, Shape, bare_recipe}
use Rattle.justfile_model.proofs.Printed.DocComments.{doc_comment_ends, doc_comment_first}
use Rattle.justfile_model.proofs.Printed.DocsText.{none_shown}
use Rattle.justfile_model.proofs.Printed.PlainFiles.{InComment}
use Rattle.justfile_model.proofs.Printed.PrintedDocs.{Utf8Comment}
use Rattle.justfile_model.proofs.Printed.TrimLaws.{doc_comment_trimmed, doc_comment_utf8, doc_of_comment, past_hash}
use Rattle.justfile_round_trip.proofs.Canon.{ShapeContent, ShapeItem}
use Rattle.justfile_round_trip.proofs.Attributes.CanonAttributes.{ShapeEntry}
use Rattle.justfile_round_trip.proofs.DocsNormal.{Begun, begun_comment, comment, construct}
use Rattle.justfile_round_trip.proofs.Good.{GoodComment}
use Rattle.justfile_round_trip.proofs.Items.GoodContents.{content_no_doc, content_undocumented}
use Rattle.justfile_round_trip.proofs.Items.GoodItems as good
use Rattle.justfile_round_trip.proofs.Items.GoodItems.{AtStart, ItemRest, blank_only, follows_body}

-- the comment that a doc is printed as, which was taken of a good one
good_doc : (before : Before) (t doc : List ℕ) → GoodComment t → doc_in before t ≡ Some doc → GoodComment (doc_comment doc)
good_doc before t doc h e =
    let u = past_hash t h.comment.first h.utf8 in
    let d = doc_of_comment before t doc u e in
    record {
      comment = record { first = doc_comment_first doc d; ends = doc_comment_ends before t doc u h.comment.ends e };
      trimmed = doc_comment_trimmed doc d;
      utf8 = doc_comment_utf8 doc d;
    }

-- ---- constructs without docs

-- a construct without a doc is written as it is, without one
bare_written : (entries : List ShapeEntry) (content : ShapeContent) (items : Shape) → doc_of content ≡ None
    → doc_written (Construct entries content) items ≡ Construct entries (redocumented None content) ∷ items
bare_written entries content items e = ap (λ o. after_doc o (Construct entries (redocumented None content) ∷ items)) (none_shown entries content e)

-- if a recipe wants a doc, no attribute sets one, and the recipe has none yet
unsaid : (takes says : Bool) (o : Option (List ℕ)) → (takes && not says && not (is_some o)) ≡ true → (says ≡ false) × (o ≡ None)
unsaid true false None h = (refl, refl)
unsaid _ _ _ h = cc

doc_before : (doc : List ℕ) (content : ShapeContent) (entries : List ShapeEntry) (items : Shape) → can_take_doc sets_doc entries content ≡ true
    → after_doc (cond (sets_doc entries) None (Some doc)) (Construct entries (redocumented None content) ∷ items)
    ≡ Comment (doc_comment doc) ∷ Newline ∷ doc_written (Construct entries content) items
doc_before doc content entries items h =
    let w = unsaid (takes_doc content) (sets_doc entries) (doc_of content) h in
    ap (λ b. after_doc (cond b None (Some doc)) (Construct entries (redocumented None content) ∷ items)) w.0
    ∙ ap (λ x. Comment (doc_comment doc) ∷ Newline ∷ x) (sym (bare_written entries content items w.1))

-- one that gets a doc is written after its comment
doc_put : (doc : List ℕ) (content : ShapeContent) (entries : List ShapeEntry) (items : Shape) → can_take_doc sets_doc entries content ≡ true
    → doc_written (Construct entries (redocumented (Some doc) content)) items
    ≡ Comment (doc_comment doc) ∷ Newline ∷ doc_written (Construct entries content) items
doc_put doc (Module parts) entries items h = doc_before doc (Module parts) entries items h
doc_put doc (Recipe parts) entries items h = doc_before doc (Recipe parts) entries items h
doc_put doc _ entries items h = cc

module _ (limit : ℕ) where
  -- ---- a comment before items that are good

  after_comment : (t : List ℕ) (items : Shape) → GoodComment t → AtStart limit items → AtStart limit (Comment t ∷ Newline ∷ items)
  after_comment t items h more = good.comment h (good.line_end more)

  taken_good : (before : Before) (t : List ℕ) (i : ShapeItem) (items : Shape) (o : Option (List ℕ)) → doc_in before t ≡ o → GoodComment t
      → AtStart limit (docs_written (i ∷ items)) → AtStart limit (docs_written (comment_taken sets_doc t i items o))
  taken_good before t i items None e h more = after_comment t _ h more
  taken_good before t (Construct entries content) items (Some doc) e h more = by (can_take_doc sets_doc entries content) refl
    where
      by : (b : Bool) → can_take_doc sets_doc entries content ≡ b
          → AtStart limit (docs_written (doc_or_comment sets_doc t (Construct entries content) items (cond b (Some (Construct entries (redocumented (Some doc) content))) None)))
      by true w = subst (AtStart limit) (sym (doc_put doc content entries (docs_written items) w)) (after_comment (doc_comment doc) _ (good_doc before t doc h e) more)
      by false w = after_comment t _ h more
  taken_good before t _ items (Some doc) e h more = after_comment t _ h more

  comment_good : (before : Before) (t : List ℕ) (items : Shape) → GoodComment t → AtStart limit (docs_written items)
      → AtStart limit (docs_written (taken sets_doc before (Comment t) (Newline ∷ items)))
  comment_good before t [] h more = after_comment t _ h more
  comment_good before t (i ∷ items) h more = taken_good before t i items (doc_in before t) refl h more

  trailing_kept : (t : List ℕ) (items : Shape) → taken sets_doc Other (Comment t) (Newline ∷ items) ≡ Comment t ∷ Newline ∷ items
  trailing_kept t [] = refl
  trailing_kept t (i ∷ items) = refl

  -- ---- after a body

  -- a property of items that begin with a comment or a construct, with their docs as comments
  begun_written : (f : Shape → Bool) → ((t : List ℕ) (items : Shape) → f (Comment t ∷ items) ≡ false)
      → ((entries : List ShapeEntry) (content : ShapeContent) (items : Shape) → f (Construct entries content ∷ items) ≡ false)
      → {s : Shape} → Begun s → f (docs_written s) ≡ false
  begun_written f of_comment of_construct comment = of_comment _ _
  begun_written f of_comment of_construct (construct {entries = entries} {content = content} {items = items}) = by (shown_doc entries content)
    where
      by : (o : Option (List ℕ)) → f (after_doc o (Construct entries (redocumented None content) ∷ docs_written items)) ≡ false
      by None = of_construct _ _ _
      by (Some doc) = of_comment _ _

  begun_not_blank : {s : Shape} → Begun s → blank_only (docs_written s) ≡ false
  begun_not_blank begun = begun_written blank_only (λ t items. refl) (λ entries content items. refl) begun

  blank_kept : (before : Before) (s : Shape) → blank_only (docs_written (documented sets_doc before s)) ≡ blank_only s
  blank_kept before [] = refl
  blank_kept before (Newline ∷ s) = blank_kept LineEnd s
  blank_kept before (Comment t ∷ s) = begun_not_blank (begun_comment before t (documented sets_doc Other s))
  blank_kept before (Construct entries content ∷ s) = begun_not_blank (construct {entries = entries} {content = content} {items = documented sets_doc Other s})

  begun_some : {s : Shape} → Begun s → is_empty (docs_written s) ≡ false
  begun_some begun = begun_written is_empty (λ t items. refl) (λ entries content items. refl) begun

  empty_kept : (before : Before) (s : Shape) → is_empty (docs_written (documented sets_doc before s)) ≡ is_empty s
  empty_kept before [] = refl
  empty_kept before (Newline ∷ s) = refl
  empty_kept before (Comment t ∷ s) = begun_some (begun_comment before t (documented sets_doc Other s))
  empty_kept before (Construct entries content ∷ s) = begun_some (construct {entries = entries} {content = content} {items = documented sets_doc Other s})

  follows_kept : (before : Before) (s : Shape) → follows_body (docs_written (documented sets_doc before s)) ≡ follows_body s
  follows_kept before s = λ i. empty_kept before s i || not (blank_kept before s i)

  -- ---- items

  -- a construct without a doc, whose rest is good
  construct_good : (entries : List ShapeEntry) (content : ShapeContent) (items : Shape) → doc_of content ≡ None
      → AtStart limit (Construct entries (redocumented None content) ∷ docs_written items) → AtStart limit (docs_written (Construct entries content ∷ items))
  construct_good entries content items e h = subst (AtStart limit) (sym (bare_written entries content (docs_written items) e)) h

  mutual
    pub docs_good : (before : Before) {s : Shape} → AtStart limit s → AtStart limit (docs_written (documented sets_doc before s))
    docs_good before good.end = good.end
    docs_good before (good.newline more) = good.newline (docs_good LineEnd more)
    docs_good before (good.comment {t = t} h (good.line_end {items = items} more)) = comment_good before t (documented sets_doc LineEnd items) h (docs_good LineEnd more)
    docs_good before (good.on_line {entries = entries} {content = content} {items = items} attributes h more) =
        construct_good entries content (documented sets_doc Other items) (content_no_doc limit h)
        (subst (λ c. AtStart limit (Construct entries c ∷ docs_written (documented sets_doc Other items))) (sym (content_undocumented limit h))
        (good.on_line attributes h (rest_good more)))
    docs_good before (good.recipe {entries = entries} {h = header} {comment = text} {l = l} {ls = ls} attributes h commented body (good.body_end {items = items} follows last more)) =
        construct_good entries (Recipe (bare_recipe header text (l ∷ ls))) (documented sets_doc Other (Newline ∷ items)) refl
        (good.recipe attributes h commented body
        (good.body_end (follows_kept LineEnd items ∙ follows) (λ p. ap (λ s. docs_written (documented sets_doc LineEnd s)) (last p)) (docs_good LineEnd more)))

    rest_good : {s : Shape} → ItemRest limit s → ItemRest limit (docs_written (documented sets_doc Other s))
    rest_good (good.trailing {t = t} h (good.line_end {items = items} more)) =
        subst (λ s. ItemRest limit (docs_written s)) (sym (trailing_kept t (documented sets_doc LineEnd items))) (good.trailing h (good.line_end (docs_good LineEnd more)))
    rest_good (good.bare (good.line_end more)) = good.bare (good.line_end (docs_good LineEnd more))

  pub start_comments : {s : Shape} → AtStart limit s → AllByRecursion (InComment Utf8Comment) s
  start_comments = good.start_has limit (InComment Utf8Comment) tt (λ t h. past_hash t h.comment.first h.utf8) (λ entries content e. tt)
