-- Printed docs become docs again, and no other comment becomes one.
use Rattle.std.proofs.Common.{◌≡◌, ◌∙◌, ℕ, Bool, true, false, cond, not, ◌&&◌, List, [], ◌∷◌, drop, Option, Some, None, is_some, refl, sym, ap, subst, true≢false}
use Rattle.std.specs.List.{AllByRecursion}
use Rattle.std.specs.Str.{IsUtf8}
use Rattle.justfile_model.specs.Grammars.Docs.{Before, LineEnd, Other, comment_taken, doc_in, doc_of, doc_or_comment, documented, item_with_doc, redocumented, taken, can_take_doc}
use Rattle.justfile_model.specs.Grammars.Files.{sets_doc}
use Rattle.justfile_model.specs.Printed.Printing.{doc_comment, shown_doc}
use Rattle.justfile_model.specs.Printed.PrintedAttributes.{after_doc, docs_written}
use Rattle.justfile_model.specs.Trees.Tree.{Assignment, Comment, Construct, Content, Entry, Module, Newline, OrderedItem, Recipe, RecipeParts}
use Rattle.justfile_model.proofs.Lists.Binds.{never_some, some_back}
use Rattle.justfile_model.proofs.Printed.DocsKept.{taken_cases}
use Rattle.justfile_model.proofs.Printed.DocsText.{none_shown}
use Rattle.justfile_model.proofs.Printed.PlainFiles.{InComment, IsPlain}
use Rattle.justfile_model.proofs.Printed.TrimLaws.{taken_again}

no_doc_yet : (b : Bool) (doc : Option (List ℕ)) → (true && not b && not (is_some doc)) ≡ true → (b ≡ false) × (doc ≡ None)
no_doc_yet true doc e = absurd (true≢false (sym e))
no_doc_yet false None e = (refl, refl)
no_doc_yet false (Some doc) e = absurd (true≢false (sym e))

-- a recipe that can get a doc has none, and no attribute sets one
pub can_take_is : {A B C S : Type 0} (entries : List (Entry A B)) (parts : RecipeParts A B C S) → can_take_doc sets_doc entries (Recipe parts) ≡ true
    → (sets_doc entries ≡ false) × (parts.doc ≡ None)
can_take_is entries parts e = no_doc_yet (sets_doc entries) parts.doc e

unless_some : {X : Type 0} (b : Bool) (o : Option X) (x : X) → cond b None o ≡ Some x → (b ≡ false) × (o ≡ Some x)
unless_some true o x e = never_some x e
unless_some false o x e = (refl, e)

-- what follows the number sign is UTF-8
abbrev pub Utf8Comment : List ℕ → Type 0
Utf8Comment comment = IsUtf8 (drop 1 comment)

module _ {A B C : Type 0} where
  -- no attribute sets the doc, if there is one, and it is the doc of the comment that it is printed as, after `before`
  pub record DocAgain (before : Before) (entries : List (Entry A B)) (content : Content A B C (Unit {0})) : Type 0 where
    pub shown : shown_doc entries content ≡ doc_of content
    pub again : (doc : List ℕ) → doc_of content ≡ Some doc → doc_in before (doc_comment doc) ≡ Some doc

  -- a comment before these items becomes no doc
  abbrev NoDoc : Before → (comment : List ℕ) → List (OrderedItem A B C) → Type 0
  NoDoc before comment (Newline ∷ Construct entries content ∷ items) =
      (doc : List ℕ) → doc_in before comment ≡ Some doc → can_take_doc sets_doc entries content ≡ false
  NoDoc before comment items = Unit {0}

  -- each doc is found again, and no other comment becomes a doc
  abbrev pub SettledDocs : Before → List (OrderedItem A B C) → Type 0
  SettledDocs before [] = Unit {0}
  SettledDocs before (Newline ∷ items) = SettledDocs LineEnd items
  SettledDocs before (Comment text ∷ items) = NoDoc before text items × SettledDocs Other items
  SettledDocs before (Construct entries content ∷ items) = DocAgain before entries content × SettledDocs Other items

  -- ---- what is printed

  redocumented_same : (content : Content A B C (Unit {0})) (o : Option (List ℕ)) → doc_of content ≡ o → redocumented o content ≡ content
  redocumented_same (Module parts) o e = λ i. Module (record { doc = sym e i; optional = parts.optional; name = parts.name; path = parts.path })
  redocumented_same (Recipe parts) o e = λ i. Recipe (record { doc = sym e i; header = parts.header; comment = parts.comment; body = parts.body })
  redocumented_same _ o e = refl

  -- the doc is found again
  with_doc_again : (entries : List (Entry A B)) (content : Content A B C (Unit {0})) (doc : List ℕ) → shown_doc entries content ≡ doc_of content → doc_of content ≡ Some doc
      → item_with_doc sets_doc doc (Construct entries (redocumented None content)) ≡ Some (Construct entries content)
  with_doc_again entries (Assignment parts) doc s e = never_some doc e
  with_doc_again entries (Module parts) doc s e =
      let n = unless_some (sets_doc entries) parts.doc doc (s ∙ e) in
      let again : Content A B C (Unit {0}) = Module (record { doc = Some doc; optional = parts.optional; name = parts.name; path = parts.path }) in
      ap (λ b. cond (true && not b && true) (Some (Construct entries again)) None) n.0 ∙ ap (λ c. Some (Construct entries c)) (redocumented_same (Module parts) (Some doc) e)
  with_doc_again entries (Recipe parts) doc s e =
      let n = unless_some (sets_doc entries) parts.doc doc (s ∙ e) in
      let again : Content A B C (Unit {0}) = Recipe (record { doc = Some doc; header = parts.header; comment = parts.comment; body = parts.body }) in
      ap (λ b. cond (true && not b && true) (Some (Construct entries again)) None) n.0 ∙ ap (λ c. Some (Construct entries c)) (redocumented_same (Recipe parts) (Some doc) e)
  with_doc_again entries _ doc s e = never_some doc e

  comment_stays : (before : Before) (comment : List ℕ) (items : List (OrderedItem A B C)) → NoDoc before comment items → taken sets_doc before (Comment comment) items ≡ Comment comment ∷ items
  comment_stays before comment items h =
      taken_cases sets_doc before comment (λ l. l ≡ Comment comment ∷ items) items refl
      (λ entries content more doc is e w. absurd (true≢false (sym w ∙ subst (NoDoc before comment) is h doc e)))

  construct_again : (before : Before) (entries : List (Entry A B)) (content : Content A B C (Unit {0})) (printed items : List (OrderedItem A B C))
      → DocAgain before entries content → documented sets_doc Other printed ≡ items → (o : Option (List ℕ)) → doc_of content ≡ o
      → documented sets_doc before (after_doc o (Construct entries (redocumented None content) ∷ printed)) ≡ Construct entries content ∷ items
  construct_again before entries content printed items h others None e = λ i. Construct entries (redocumented_same content None e i) ∷ others i
  construct_again before entries content printed items h others (Some doc) e =
      let bare = Construct entries (redocumented None content) in
      (λ i. comment_taken sets_doc (doc_comment doc) bare (others i) (h.again doc e i))
      ∙ ap (doc_or_comment sets_doc (doc_comment doc) bare items) (with_doc_again entries content doc h.shown e)

  -- items whose docs are settled have them again where they are printed
  pub printed_docs : (before : Before) (items : List (OrderedItem A B C)) → SettledDocs before items → documented sets_doc before (docs_written items) ≡ items
  printed_docs before [] h = refl
  printed_docs before (Newline ∷ items) h = ap (λ l. Newline ∷ l) (printed_docs LineEnd items h)
  printed_docs before (Comment text ∷ items) h = ap (taken sets_doc before (Comment text)) (printed_docs Other items h.1) ∙ comment_stays before text items h.0
  printed_docs before (Construct entries content ∷ items) h =
      ap (λ o. documented sets_doc before (after_doc o (Construct entries (redocumented None content) ∷ docs_written items))) h.0.shown
      ∙ construct_again before entries content (docs_written items) items h.0 (printed_docs Other items h.1) (doc_of content) refl

  -- ---- the docs that are found again

  no_doc_again : (before : Before) (entries : List (Entry A B)) (content : Content A B C (Unit {0})) → doc_of content ≡ None → DocAgain before entries content
  no_doc_again before entries content e =
      record { shown = none_shown entries content e ∙ sym e; again = λ doc h. never_some doc (sym e ∙ h) }

  -- a construct that takes a doc has it
  doc_taken : (entries : List (Entry A B)) (content : Content A B C (Unit {0})) (doc : List ℕ) → can_take_doc sets_doc entries content ≡ true
      → (sets_doc entries ≡ false) × (doc_of (redocumented (Some doc) content) ≡ Some doc)
  doc_taken entries (Module parts) doc w = ((no_doc_yet (sets_doc entries) parts.doc w).0, refl)
  doc_taken entries (Recipe parts) doc w = ((can_take_is entries parts w).0, refl)
  doc_taken entries _ doc w = cc

  new_doc_again : (before : Before) (comment doc : List ℕ) (entries : List (Entry A B)) (content : Content A B C (Unit {0})) → Utf8Comment comment
      → doc_in before comment ≡ Some doc → can_take_doc sets_doc entries content ≡ true → DocAgain before entries (redocumented (Some doc) content)
  new_doc_again before comment doc entries content u e w =
      let n = doc_taken entries content doc w in
      record {
        shown = ap (λ b. cond b None (doc_of (redocumented (Some doc) content))) n.0;
        again = λ d h. subst (λ x. doc_in before (doc_comment x) ≡ Some x) (some_back doc d (sym n.1 ∙ h)) (taken_again before comment doc u e);
      }

  comment_settled : (before : Before) (comment : List ℕ) (items : List (OrderedItem A B C)) → Utf8Comment comment → SettledDocs Other items
      → SettledDocs before (taken sets_doc before (Comment comment) items)
  comment_settled before comment (Newline ∷ i ∷ items) u h = by i (doc_in before comment) refl h
    where
      by : (i : OrderedItem A B C) (o : Option (List ℕ)) → doc_in before comment ≡ o → SettledDocs LineEnd (i ∷ items)
          → SettledDocs before (comment_taken sets_doc comment i items o)
      by (Construct entries content) None e h = ((λ doc f. never_some doc (sym e ∙ f)), h)
      by (Construct entries content) (Some doc) e h = wanted (can_take_doc sets_doc entries content) refl
        where
          wanted : (b : Bool) → can_take_doc sets_doc entries content ≡ b
              → SettledDocs before (doc_or_comment sets_doc comment (Construct entries content) items (cond b (Some (Construct entries (redocumented (Some doc) content))) None))
          wanted true w = (new_doc_again before comment doc entries content u e w, h.1)
          wanted false w = ((λ d f. w), h)
      by _ None e h = (tt, h)
      by _ (Some doc) e h = (tt, h)
  comment_settled before comment _ u h = (tt, h)

  -- the docs that are taken of comments are settled
  pub documented_settled : (before : Before) (items : List (OrderedItem A B C)) → AllByRecursion IsPlain items → AllByRecursion (InComment Utf8Comment) items
      → SettledDocs before (documented sets_doc before items)
  documented_settled before [] p u = tt
  documented_settled before (Newline ∷ items) p u = documented_settled LineEnd items p.1 u.1
  documented_settled before (Comment text ∷ items) p u =
      comment_settled before text (documented sets_doc Other items) u.0 (documented_settled Other items p.1 u.1)
  documented_settled before (Construct entries content ∷ items) p u = (no_doc_again before entries content p.0, documented_settled Other items p.1 u.1)
