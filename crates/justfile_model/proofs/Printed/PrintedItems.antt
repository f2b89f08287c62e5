-- The items of a shape, written as they are printed, mean the items of the shape, and break no rule.
use Rattle.std.proofs.Common.{◌≡◌, ◌∙◌, ℕ, List, [], ◌∷◌, ◌++◌, map, Option, Some, None, refl, sym, subst, ap}
use Rattle.std.specs.List.{AllByRecursion}
use Rattle.std.specs.Option.{option_map}
use Rattle.justfile_model.specs.Meanings.AttributeRules.{attributes_broken, of_some}
use Rattle.justfile_model.specs.Grammars.Conditions.{VersionNumbers}
use Rattle.justfile_model.specs.Meanings.ConstructRules.{form_broken, meaning_broken}
use Rattle.justfile_model.specs.Grammars.Docs.{Before, LineEnd, Nothing, Other, documented, redocumented, taken}
use Rattle.justfile_model.specs.Grammars.Files.{all_literals, broken, content_literals, if_both, item_broken, item_literals, ordered, ordered_item, sets_doc, undocumented, with_entries, written_literals}
use Rattle.justfile_model.specs.LiteralTexts.Literals.{Expansions}
use Rattle.justfile_model.specs.Meanings.Meaning.{entries_of}
use Rattle.justfile_model.specs.Printed.NormalShape.{normal}
use Rattle.justfile_model.specs.Printed.Printing.{shown_doc}
use Rattle.justfile_model.specs.Printed.PrintedAttributes.{after_doc, docs_written, rewritten, rewritten_entries, rewritten_item}
use Rattle.justfile_model.specs.Trees.Tree.{Assignment, Comment, Construct, Content, Dependency, DependencyArgument, Entry, Module, Newline, OrderedItem, Recipe, Shape, WrittenItem, WrittenShape, starless, starless_argument, starless_dependency}
use Rattle.justfile_model.proofs.Lists.Binds.{nothing_in, some_back}
use Rattle.justfile_model.proofs.Lists.Mapped.{map_same, option_same}
use Rattle.justfile_model.proofs.Meanings.Ordered.{construct_meant, meanings_of, undocumented_of}
use Rattle.justfile_model.proofs.Printed.DocsKept.{taken_cases}
use Rattle.justfile_model.proofs.Printed.PlainFiles.{each_normal}
use Rattle.justfile_model.proofs.Printed.PrintedDocs.{SettledDocs, printed_docs}
use Rattle.justfile_model.proofs.Printed.PrintedEntries.{construct_again, entries_again, sees}
use Rattle.justfile_model.proofs.Lists.AllParts.{both, parts}
use Rattle.justfile_model.proofs.Printed.PrintedLiterals.{HaveTexts, HasText, literals_from_written}

-- an item of a shape
abbrev pub ShapeItem : Type 0
ShapeItem = OrderedItem (List ℕ) (Unit {0}) (Unit {0})

abbrev ShapeContent : Type 0
ShapeContent = Content (List ℕ) (Unit {0}) (Unit {0}) (Unit {0})

abbrev ShapeEntries : Type 0
ShapeEntries = List (Entry (List ℕ) (Unit {0}))

-- ---- a shape keeps no place of a star

module _ {A B : Type 0} where
  argument_starless : (a : DependencyArgument A B (Unit {0})) → starless_argument a ≡ a
  argument_starless a = λ i. record { star = option_same (λ star. tt) (λ star. refl) a.star i; value = a.value }

  dependency_starless : (d : Dependency A B (Unit {0})) → starless_dependency d ≡ d
  dependency_starless d = λ i. record {
    star = option_same (λ star. tt) (λ star. refl) d.star i;
    path = d.path;
    arguments = map_same starless_argument argument_starless d.arguments i;
  }

  pub content_starless : {C : Type 0} (c : Content A B C (Unit {0})) → starless c ≡ c
  content_starless (Recipe parts) = λ i. Recipe (record {
    doc = parts.doc;
    header = record {
      quiet = parts.header.quiet;
      name = parts.header.name;
      parameters = parts.header.parameters;
      priors = map_same starless_dependency dependency_starless parts.header.priors i;
      subsequents = map_same starless_dependency dependency_starless parts.header.subsequents i;
    };
    comment = parts.comment;
    body = parts.body;
  })
  content_starless _ = refl

-- ---- each item

abbrev entries_in : ShapeItem → ShapeEntries
entries_in Newline = []
entries_in (Comment text) = []
entries_in (Construct entries content) = entries

-- where this is the running version
module _ (current : VersionNumbers) (expander : Expansions) where
  -- the item as it is printed means the item, breaks no rule, and its literals have texts
  pub record PrintsAgain (i : ShapeItem) : Type 0 where
    pub means : ordered_item (sees expander) (rewritten_item i) ≡ Some i
    pub unbroken : item_broken current (sees expander) (rewritten_item i) ≡ []
    pub texts : HaveTexts expander (item_literals written_literals (rewritten_item i))

  newline_again : PrintsAgain Newline
  newline_again = record { means = refl; unbroken = refl; texts = tt }

  comment_again : (text : List ℕ) → PrintsAgain (Comment text)
  comment_again text = record { means = refl; unbroken = refl; texts = tt }

  -- the meaning of an item that breaks no rule, and whose literals have texts
  item_again : (w : WrittenItem (List ℕ) (Unit {0}) (Unit {0}) (Unit {0})) (i : ShapeItem) → ordered_item (sees expander) w ≡ Some i
      → item_broken current (sees expander) w ≡ [] → HaveTexts expander (item_literals written_literals w) → PrintsAgain i
  item_again Newline i h u t = subst PrintsAgain (some_back Newline i h) newline_again
  item_again (Comment text) i h u t = subst PrintsAgain (some_back (Comment text) i h) (comment_again text)
  item_again (Construct ws c) i h u t =
      let m = construct_meant (sees expander) ws c i h in
      let item : ShapeItem = Construct m.entries c in
      let same : i ≡ item = m.item_is ∙ ap (Construct m.entries) (content_starless c) in
      let f = nothing_in (attributes_broken (sees expander) ws ++ of_some (meaning_broken (sees expander) c) (entries_of (sees expander) ws)) (form_broken current (sees expander) c) u in
      let n = nothing_in (attributes_broken (sees expander) ws) (of_some (meaning_broken (sees expander) c) (entries_of (sees expander) ws)) f.0 in
      let p = parts (HasText expander) (written_literals ws) (content_literals c) t in
      subst PrintsAgain (sym same) (record {
        means = ap (with_entries c) (entries_again expander ws m.entries m.means n.0) ∙ ap (λ c. Some (Construct m.entries c)) (content_starless c);
        unbroken = construct_again expander ws m.entries m.means current c u;
        texts = both (HasText expander) (written_literals (rewritten_entries m.entries)) (content_literals c)
            (literals_from_written expander ws m.entries m.means n.0 p.0) p.1;
      })

  abbrev pub AllPrintAgain : Shape → Type 0
  AllPrintAgain = AllByRecursion PrintsAgain

  -- the meaning of written items, one by one, that break no rule, and whose literals have texts
  pub items_again : (written : WrittenShape) (all : Shape) → undocumented (sees expander) written ≡ Some all → broken current (sees expander) written ≡ []
      → HaveTexts expander (all_literals written) → AllPrintAgain all
  items_again [] all h u t = subst AllPrintAgain (some_back [] all h) tt
  items_again (w ∷ written) all h u t =
      let m = meanings_of (sees expander) w written all h in
      let n = nothing_in (item_broken current (sees expander) w) (broken current (sees expander) written) u in
      let p = parts (HasText expander) (item_literals written_literals w) (all_literals written) t in
      subst AllPrintAgain (sym m.all_are) (item_again w m.first m.first_is n.0 p.0, items_again written m.others m.others_are n.1 p.1)

  -- ---- with docs and without

  means_again : (entries : ShapeEntries) (content again : ShapeContent) → PrintsAgain (Construct entries content)
      → with_entries again (entries_of (sees expander) (rewritten_entries entries)) ≡ Some (Construct entries again)
  means_again entries content again h =
      let m = construct_meant (sees expander) (rewritten_entries entries) content (Construct entries content) h.means in
      ap (with_entries again) (m.means ∙ ap Some (sym (ap entries_in m.item_is))) ∙ ap (λ c. Some (Construct entries c)) (content_starless again)

  -- a doc changes nothing of it
  redocumented_again : (entries : ShapeEntries) (content : ShapeContent) (doc : Option (List ℕ)) → PrintsAgain (Construct entries content)
      → PrintsAgain (Construct entries (redocumented doc content))
  redocumented_again entries (Module parts) doc h =
      let again : ShapeContent = Module (record { doc = doc; optional = parts.optional; name = parts.name; path = parts.path }) in
      record { means = means_again entries (Module parts) again h; unbroken = h.unbroken; texts = h.texts }
  redocumented_again entries (Recipe parts) doc h =
      let again : ShapeContent = Recipe (record { doc = doc; header = parts.header; comment = parts.comment; body = parts.body }) in
      record { means = means_again entries (Recipe parts) again h; unbroken = h.unbroken; texts = h.texts }
  redocumented_again entries (Assignment parts) doc h = h
  redocumented_again entries content doc h = h

  taken_prints : (before : Before) (comment : List ℕ) (s : Shape) → AllPrintAgain s → AllPrintAgain (taken sets_doc before (Comment comment) s)
  taken_prints before comment s h =
      taken_cases sets_doc before comment AllPrintAgain s (comment_again comment, h) (λ entries content more doc is e w.
      let k = subst AllPrintAgain is h in
      (redocumented_again entries content (Some doc) k.1.0, k.1.1))

  pub documented_prints : (before : Before) (s : Shape) → AllPrintAgain s → AllPrintAgain (documented sets_doc before s)
  documented_prints before [] h = tt
  documented_prints before (Newline ∷ s) h = (h.0, documented_prints LineEnd s h.1)
  documented_prints before (Comment text ∷ s) h = taken_prints before text (documented sets_doc Other s) (documented_prints Other s h.1)
  documented_prints before (Construct entries content ∷ s) h = (h.0, documented_prints Other s h.1)

  -- the meaning of a written shape that breaks no rule, and whose literals have texts
  pub shape_again : (written : WrittenShape) (s : Shape) → ordered (sees expander) written ≡ Some s → broken current (sees expander) written ≡ []
      → HaveTexts expander (all_literals written) → AllPrintAgain s
  shape_again written s h u t =
      let m = undocumented_of (sees expander) written s h in
      subst AllPrintAgain (sym m.all_are) (documented_prints Nothing m.items (items_again written m.items m.items_are u t))

  after_doc_again : (entries : ShapeEntries) (content : ShapeContent) (s : Shape) (doc : Option (List ℕ)) → PrintsAgain (Construct entries content) → AllPrintAgain s
      → AllPrintAgain (after_doc doc (Construct entries (redocumented None content) ∷ s))
  after_doc_again entries content s None h k = (redocumented_again entries content None h, k)
  after_doc_again entries content s (Some doc) h k = (comment_again _, (newline_again, (redocumented_again entries content None h, k)))

  pub docs_written_again : (s : Shape) → AllPrintAgain s → AllPrintAgain (docs_written s)
  docs_written_again [] h = tt
  docs_written_again (Construct entries content ∷ s) h = after_doc_again entries content (docs_written s) (shown_doc entries content) h.0 (docs_written_again s h.1)
  docs_written_again (i ∷ s) h = (h.0, docs_written_again s h.1)

  -- ---- its normal form

  pub normal_again : (s : Shape) → AllPrintAgain s → AllPrintAgain (normal s)
  normal_again s h = each_normal PrintsAgain newline_again s h

  -- ---- all items as they are printed

  items_mean : (s : Shape) → AllPrintAgain s → undocumented (sees expander) (map rewritten_item s) ≡ Some s
  items_mean [] h = refl
  items_mean (i ∷ s) h = λ j. if_both (h.0.means j) (items_mean s h.1 j)

  items_unbroken : (s : Shape) → AllPrintAgain s → broken current (sees expander) (map rewritten_item s) ≡ []
  items_unbroken [] h = refl
  items_unbroken (i ∷ s) h = λ j. h.0.unbroken j ++ items_unbroken s h.1 j

  items_texts : (s : Shape) → AllPrintAgain s → HaveTexts expander (all_literals (map rewritten_item s))
  items_texts [] h = tt
  items_texts (i ∷ s) h =
      both (HasText expander) (item_literals written_literals (rewritten_item i)) (all_literals (map rewritten_item s)) h.0.texts (items_texts s h.1)

  -- with docs as comments
  pub rewritten_undocumented : (s : Shape) → AllPrintAgain s → undocumented (sees expander) (rewritten s) ≡ Some (docs_written s)
  rewritten_undocumented s h = items_mean (docs_written s) (docs_written_again s h)

  pub rewritten_means : (s : Shape) → AllPrintAgain s → SettledDocs Nothing s → ordered (sees expander) (rewritten s) ≡ Some s
  rewritten_means s h d = ap (option_map (documented sets_doc Nothing)) (rewritten_undocumented s h) ∙ ap Some (printed_docs Nothing s d)

  pub rewritten_unbroken : (s : Shape) → AllPrintAgain s → broken current (sees expander) (rewritten s) ≡ []
  rewritten_unbroken s h = items_unbroken (docs_written s) (docs_written_again s h)

  pub rewritten_texts : (s : Shape) → AllPrintAgain s → HaveTexts expander (all_literals (rewritten s))
  rewritten_texts s h = items_texts (docs_written s) (docs_written_again s h)
