-- What docs don't change: a count of items without their comments and docs is the same with docs as with comments in their place; and docs
-- don't depend on the projections of tokens.
use Rattle.std.proofs.Common.{◌≡◌, ◌∙◌, ℕ, ◌+◌, Bool, true, false, cond, not, ◌&&◌, ◌||◌, List, [], ◌∷◌, map, Option, Some, None, is_some, refl, sym, ap, arith}
use Rattle.std.specs.List.{list_any}
use Rattle.std.specs.Option.{option_map}
use Rattle.justfile_vocabulary.specs.declared.attribute_kind.AttributeKind.{AttributeKind}
use Rattle.justfile_vocabulary.specs.declared.attribute_kind.AttributeKind.TheVariants.{Doc}
use Rattle.justfile_model.specs.Meanings.AttributeKinds.{same_attribute}
use Rattle.justfile_model.specs.Trees.ContentKeys.{kind_of_attribute}
use Rattle.justfile_model.specs.Grammars.Docs.{Before, LineEnd, Other, comment_taken, doc_in, doc_or_comment, documented, item_with_doc, redocumented, taken, can_take_doc}
use Rattle.justfile_model.specs.Grammars.Files.{bindings, content_bindings, content_recipes, recipes, sets_doc}
use Rattle.justfile_model.specs.Printed.Printing.{printable, printable_content, shown_doc}
use Rattle.justfile_model.specs.Printed.PrintedAttributes.{after_doc, docs_written}
use Rattle.justfile_model.specs.Trees.Tree.{Assignment, Comment, Construct, Content, Entry, Item, Module, Newline, OrderedItem, Recipe, Tree, lexeme, nothing, over_content, over_entry, over_item, shape_of}
use Rattle.justfile_model.proofs.Meanings.SameViewRules.{kind_over}

-- ---- a comment before items

-- it stays, or is the doc of the construct after its line end
module _ {A B C S D : Type 0} (has_doc : D → Bool) (before : Before) (comment : List ℕ) where
  pub taken_cases : (P : List (Item A B C S D) → Type 0) (items : List (Item A B C S D)) → P (Comment comment ∷ items)
      → ((attributes : D) (content : Content A B C S) (more : List (Item A B C S D)) (doc : List ℕ) → items ≡ Newline ∷ Construct attributes content ∷ more
      → doc_in before comment ≡ Some doc → can_take_doc has_doc attributes content ≡ true → P (Construct attributes (redocumented (Some doc) content) ∷ more))
      → P (taken has_doc before (Comment comment) items)
  taken_cases P (Newline ∷ i ∷ items) stays takes = by (doc_in before comment) i refl stays (λ attributes content. takes attributes content items)
    where
      by : (o : Option (List ℕ)) (i : Item A B C S D) → doc_in before comment ≡ o → P (Comment comment ∷ Newline ∷ i ∷ items)
          → ((attributes : D) (content : Content A B C S) (doc : List ℕ) → ◌≡◌ {A = List (Item A B C S D)} (Newline ∷ i ∷ items) (Newline ∷ Construct attributes content ∷ items)
          → doc_in before comment ≡ Some doc → can_take_doc has_doc attributes content ≡ true → P (Construct attributes (redocumented (Some doc) content) ∷ items))
          → P (comment_taken has_doc comment i items o)
      by (Some doc) (Construct attributes content) e stays takes = by_test (can_take_doc has_doc attributes content) refl
        where
          by_test : (b : Bool) → can_take_doc has_doc attributes content ≡ b
              → P (doc_or_comment has_doc comment (Construct attributes content) items (cond b (Some (Construct attributes (redocumented (Some doc) content))) None))
          by_test true w = takes attributes content doc refl e w
          by_test false w = stays
      by o i e stays takes = stays
  taken_cases P _ stays takes = stays

-- ---- what counts constructs

-- it looks at constructs alone, and not at their docs
pub record CountsConstructs {A B C S D Z : Type 0} (count : List (Item A B C S D) → Z) : Type 0 where
  pub more : D → Content A B C S → Z → Z
  pub newline : (items : List (Item A B C S D)) → count (Newline ∷ items) ≡ count items
  pub comment : (text : List ℕ) (items : List (Item A B C S D)) → count (Comment text ∷ items) ≡ count items
  pub construct : (attributes : D) (content : Content A B C S) (items : List (Item A B C S D)) → count (Construct attributes content ∷ items) ≡ more attributes content (count items)
  pub doc_apart : (attributes : D) (content : Content A B C S) (doc : Option (List ℕ)) (z : Z) → more attributes (redocumented doc content) z ≡ more attributes content z

module _ {A B C S D Z : Type 0} (count : List (Item A B C S D) → Z) (c : CountsConstructs count) where
  redocumented_counts : (attributes : D) (content : Content A B C S) (doc : Option (List ℕ)) (items more : List (Item A B C S D)) → count items ≡ count more
      → count (Construct attributes (redocumented doc content) ∷ items) ≡ count (Construct attributes content ∷ more)
  redocumented_counts attributes content doc items more same =
      c.construct attributes (redocumented doc content) items ∙ c.doc_apart attributes content doc (count items) ∙ ap (c.more attributes content) same
      ∙ sym (c.construct attributes content more)

  module _ (has_doc : D → Bool) where
    taken_counts : (before : Before) (comment : List ℕ) (items : List (Item A B C S D)) → count (taken has_doc before (Comment comment) items) ≡ count items
    taken_counts before comment items =
        taken_cases has_doc before comment (λ l. count l ≡ count items) items (c.comment comment items) (λ attributes content more doc is e w.
        redocumented_counts attributes content (Some doc) more more refl ∙ sym (c.newline (Construct attributes content ∷ more)) ∙ ap count (sym is))

    pub documented_counts : (before : Before) (items : List (Item A B C S D)) → count (documented has_doc before items) ≡ count items
    documented_counts before [] = refl
    documented_counts before (Newline ∷ items) =
        c.newline (documented has_doc LineEnd items) ∙ documented_counts LineEnd items ∙ sym (c.newline items)
    documented_counts before (Comment text ∷ items) =
        taken_counts before text (documented has_doc Other items) ∙ documented_counts Other items ∙ sym (c.comment text items)
    documented_counts before (Construct attributes content ∷ items) =
        c.construct attributes content (documented has_doc Other items) ∙ ap (c.more attributes content) (documented_counts Other items)
        ∙ sym (c.construct attributes content items)

module _ {A B C Z : Type 0} (count : List (OrderedItem A B C) → Z) (c : CountsConstructs count) where
  after_counts : (entries : List (Entry A B)) (content : Content A B C (Unit {0})) (items : List (OrderedItem A B C)) (doc : Option (List ℕ))
      → count (after_doc doc items) ≡ count items
  after_counts entries content items None = refl
  after_counts entries content items (Some doc) = c.comment _ (Newline ∷ items) ∙ c.newline items

  pub docs_written_counts : (items : List (OrderedItem A B C)) → count (docs_written items) ≡ count items
  docs_written_counts [] = refl
  docs_written_counts (Newline ∷ items) = c.newline (docs_written items) ∙ docs_written_counts items ∙ sym (c.newline items)
  docs_written_counts (Comment text ∷ items) = c.comment text (docs_written items) ∙ docs_written_counts items ∙ sym (c.comment text items)
  docs_written_counts (Construct entries content ∷ items) =
      after_counts entries content (Construct entries (redocumented None content) ∷ docs_written items) (shown_doc entries content)
      ∙ redocumented_counts count c entries content None (docs_written items) items (docs_written_counts items)

-- ---- numbers, literals, and what can be printed

same_bindings : {A B C S : Type 0} (content : Content A B C S) (doc : Option (List ℕ)) → content_bindings (redocumented doc content) ≡ content_bindings content
same_bindings (Assignment parts) doc = refl
same_bindings _ doc = refl

same_recipes : {A B C S : Type 0} (content : Content A B C S) (doc : Option (List ℕ)) → content_recipes (redocumented doc content) ≡ content_recipes content
same_recipes (Assignment parts) doc = refl
same_recipes _ doc = refl

module _ {A B C S D : Type 0} where
  -- a sum over constructs of a number that docs do not change
  summed : (number : Content A B C S → ℕ) → ((content : Content A B C S) (doc : Option (List ℕ)) → number (redocumented doc content) ≡ number content)
      → (count : List (Item A B C S D) → ℕ)
      → ((items : List (Item A B C S D)) → count (Newline ∷ items) ≡ count items)
      → ((text : List ℕ) (items : List (Item A B C S D)) → count (Comment text ∷ items) ≡ count items)
      → ((attributes : D) (content : Content A B C S) (items : List (Item A B C S D)) → count (Construct attributes content ∷ items) ≡ number content + count items)
      → CountsConstructs count
  summed number same count newline comment construct = record {
    more = λ attributes content n. number content + n;
    newline = newline;
    comment = comment;
    construct = construct;
    doc_apart = λ attributes content doc n. ap (λ m. m + n) (same content doc);
  }

  pub bindings_count : CountsConstructs {A = A} {B = B} {C = C} {S = S} {D = D} bindings
  bindings_count = summed content_bindings same_bindings bindings (λ items. omega arith) (λ text items. omega arith) (λ attributes content items. refl)

  pub recipes_count : CountsConstructs {A = A} {B = B} {C = C} {S = S} {D = D} recipes
  recipes_count = summed content_recipes same_recipes recipes (λ items. omega arith) (λ text items. omega arith) (λ attributes content items. refl)

same_printable : {B C S : Type 0} (content : Content (List ℕ) B C S) (doc : Option (List ℕ)) → printable_content (redocumented doc content) ≡ printable_content content
same_printable (Assignment parts) doc = refl
same_printable _ doc = refl

module _ {B C S D : Type 0} where
  pub printable_count : CountsConstructs {A = List ℕ} {B = B} {C = C} {S = S} {D = D} printable
  printable_count = record {
    more = λ attributes content b. printable_content content && b;
    newline = λ items. refl;
    comment = λ text items. refl;
    construct = λ attributes content items. refl;
    doc_apart = λ attributes content doc b. ap (λ m. m && b) (same_printable content doc);
  }

-- ---- over other leaves

module _ {A B C S D A' B' C' S' D' : Type 0} (f : A → A') (g : B → B') (h : C → C') (k : S → S') (m : D → D')
    (has_doc : D → Bool) (other : D' → Bool) (same : (attributes : D) → other (m attributes) ≡ has_doc attributes) where
  abbrev over : Item A B C S D → Item A' B' C' S' D'
  over = over_item f g h k m

  can_take_over : (attributes : D) (content : Content A B C S) → can_take_doc other (m attributes) (over_content f g h k content) ≡ can_take_doc has_doc attributes content
  can_take_over attributes (Module parts) = ap (λ b. true && not b && not (is_some parts.doc)) (same attributes)
  can_take_over attributes (Recipe parts) = ap (λ b. true && not b && not (is_some parts.doc)) (same attributes)
  can_take_over attributes _ = refl

  redocumented_over : (doc : Option (List ℕ)) (content : Content A B C S)
      → redocumented doc (over_content f g h k content) ≡ over_content f g h k (redocumented doc content)
  redocumented_over doc (Assignment parts) = refl
  redocumented_over doc _ = refl

  with_doc_over : (doc : List ℕ) (attributes : D) (content : Content A B C S)
      → item_with_doc other doc (over (Construct attributes content)) ≡ option_map over (item_with_doc has_doc doc (Construct attributes content))
  with_doc_over doc attributes content =
      (λ i. cond (can_take_over attributes content i) (Some (Construct (m attributes) (redocumented_over (Some doc) content i))) None)
      ∙ go (can_take_doc has_doc attributes content)
    where
      go : (b : Bool) → cond b (Some (over (Construct attributes (redocumented (Some doc) content)))) None
          ≡ option_map over (cond b (Some (Construct attributes (redocumented (Some doc) content))) None)
      go true = refl
      go false = refl

  doc_or_over : (comment : List ℕ) (i : Item A B C S D) (items : List (Item A B C S D)) (o : Option (Item A B C S D))
      → doc_or_comment other comment (over i) (map over items) (option_map over o) ≡ map over (doc_or_comment has_doc comment i items o)
  doc_or_over comment i items None = refl
  doc_or_over comment i items (Some x) = refl

  comment_over : (comment : List ℕ) (i : Item A B C S D) (items : List (Item A B C S D)) (o : Option (List ℕ))
      → comment_taken other comment (over i) (map over items) o ≡ map over (comment_taken has_doc comment i items o)
  comment_over comment i items None = refl
  comment_over comment (Construct attributes content) items (Some doc) =
      ap (doc_or_comment other comment (over (Construct attributes content)) (map over items)) (with_doc_over doc attributes content)
      ∙ doc_or_over comment (Construct attributes content) items (item_with_doc has_doc doc (Construct attributes content))
  comment_over comment _ items (Some doc) = refl

  taken_over : (before : Before) (comment : List ℕ) (items : List (Item A B C S D))
      → taken other before (Comment comment) (map over items) ≡ map over (taken has_doc before (Comment comment) items)
  taken_over before comment (Newline ∷ i ∷ items) = comment_over comment i items (doc_in before comment)
  taken_over before comment _ = refl

  pub documented_over : (before : Before) (items : List (Item A B C S D))
      → documented other before (map over items) ≡ map over (documented has_doc before items)
  documented_over before [] = refl
  documented_over before (Newline ∷ items) = ap (λ l. Newline ∷ l) (documented_over LineEnd items)
  documented_over before (Comment text ∷ items) =
      ap (taken other before (Comment text)) (documented_over Other items) ∙ taken_over before text (documented has_doc Other items)
  documented_over before (Construct attributes content ∷ items) = ap (λ l. over (Construct attributes content) ∷ l) (documented_over Other items)

module _ {A B A' B' : Type 0} (f : A → A') (g : B → B') where
  pub any_kind_over : (P : AttributeKind → Bool) (entries : List (Entry A B))
      → list_any (λ (e : Entry _ _). P (kind_of_attribute e.attribute)) (map (over_entry f g) entries) ≡ list_any (λ (e : Entry _ _). P (kind_of_attribute e.attribute)) entries
  any_kind_over P [] = refl
  any_kind_over P (e ∷ entries) = λ i. P (kind_over f g e.attribute i) || any_kind_over P entries i

  says_doc_over : (entries : List (Entry A B)) → sets_doc (map (over_entry f g) entries) ≡ sets_doc entries
  says_doc_over = any_kind_over (λ kind. same_attribute kind Doc)

-- the docs of a shape are those of its tree
pub documented_shape : (before : Before) (tree : Tree) → documented sets_doc before (shape_of tree) ≡ shape_of (documented sets_doc before tree)
documented_shape before tree =
    documented_over lexeme nothing nothing (λ star. star) (map (over_entry lexeme nothing)) sets_doc sets_doc (says_doc_over lexeme nothing) before tree
