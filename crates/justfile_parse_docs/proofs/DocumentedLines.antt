-- The lines of a file, whose items get their docs as soon as they are read.
use Rattle.std.proofs.Common.{◌≡◌, ◌∙◌, ℕ, List, [], ◌∷◌, ◌++◌, drop, length, map, take, IfErr, OnOk, Result, Ok, Err, refl, subst, sym, ap}
use Rattle.std.proofs.Math.Seq.{drop-append_seam, take-append_seam}
use Rattle.std.proofs.lemmas.List.{drop-map, length-map, map-append, take-map}
use Rattle.justfile_item.specs.declared.item.Item.{Item}
use Rattle.justfile_model.specs.Readers.PartReader.{after_numbered}
use Rattle.justfile_model.specs.Readers.ReaderState.{NoNumber}
use Rattle.justfile_numbers.specs.declared.numerator.Numerator.{Numerator}
use Rattle.justfile_parse_base.specs.Counting.{counters_of}
use Rattle.justfile_parse_base.specs.ParseErrors.{IsParseError}
use Rattle.justfile_parse_base.specs.declared.parse_error.ParseError.{ParseError}
use Rattle.justfile_parse_base.specs.declared.parse_error.ParseError.TheVariants as errors
use Rattle.justfile_parse_base.proofs.HeaderErrors.{failed}
use Rattle.justfile_parse_docs.specs.Docs.{LeafItem, taken_docs, with_item, with_items}
use Rattle.justfile_parse_docs.specs.ReadItems.{IsDocumented, IsDocumentedLine, ReadsLine}
use Rattle.justfile_parse_docs.proofs.TakenDocs.{from_first}
use Rattle.justfile_parse_expression.specs.TableReader.{ReadError, State}
use Rattle.justfile_parse_expression.specs.declared.expression_error.ExpressionError.TheVariants as causes
use Rattle.justfile_parse_item.specs.ItemTable.{ReadItems}
use Rattle.justfile_parse_item.specs.Tree.{item_tree}
use Rattle.justfile_parse_docs.proofs.Loop.{refused_first, taken}

abbrev Trees : Type 0
Trees = List LeafItem

with_both : (before items more : Trees) → with_items before (items ++ more) ≡ with_items (with_items before items) more
with_both before [] more = refl
with_both before (i ∷ items) more = with_both (with_item before i) items more

-- items with docs, and after them those of a line with theirs, are all with docs
pub still_documented : (plain more old new : List Item) → map item_tree old ≡ with_items [] (map item_tree plain) → map item_tree new ≡ with_items (map item_tree old) (map item_tree more)
    → map item_tree new ≡ with_items [] (map item_tree (plain ++ more))
still_documented plain more old new before after =
    after ∙ ap (λ (l : Trees). with_items l (map item_tree more)) before ∙ sym (with_both [] (map item_tree plain) (map item_tree more))
    ∙ ap (with_items []) (sym (map-append item_tree plain more))

-- all items of a file with their docs
pub all_documented : (plain items : List Item) (n : Numerator) (s : State) (found : ReadItems) → map item_tree items ≡ with_items [] (map item_tree plain)
    → found ≡ Ok ((map item_tree plain, counters_of n), s) → IsDocumented items n s found
all_documented plain items n s found documents read = record { plain = plain; read = read; documents = documents ∙ from_first (map item_tree plain) }

-- a line that is refused, or for which no number is left
pub line_refused : (old : List Item) (found : ReadItems) (error : ParseError) (s : State) (wanting : ReadError)
    → IsParseError error s (after_numbered (map item_tree old) found ≡ Err wanting) (after_numbered (map item_tree old) found) → IsParseError error s (found ≡ Err wanting) found
line_refused old found error s wanting h =
    failed (after_numbered (map item_tree old) found) found (λ e. refused_first (map item_tree old) e found) error s _ _ (refused_first (map item_tree old) wanting found) h

-- a line whose items were appended, and then got their docs, unless memory ran out
module _ (old added new : List Item) (n : Numerator) (s : State) (found : ReadItems) where
  documented_after : after_numbered (map item_tree old) found ≡ Ok ((map item_tree added, counters_of n), s) → map item_tree new ≡ taken_docs (length old) (length old) added
      → IsDocumentedLine old new n s found
  documented_after h documents =
      let t = taken (map item_tree old) (map item_tree added) (counters_of n) s found h in
      let count = length old in
      let long : length (map item_tree old) ≡ count = length-map old item_tree in
      let first : map item_tree (take count added) ≡ map item_tree old =
      sym (take-map item_tree count added) ∙ ap (take count) (sym t.2) ∙ ap (λ k. take k (map item_tree old ++ t.0)) (sym long) ∙ take-append_seam (map item_tree old) t.0 in
      let rest : map item_tree (drop count added) ≡ t.0 =
      sym (drop-map item_tree count added) ∙ ap (drop count) (sym t.2) ∙ ap (λ k. drop k (map item_tree old ++ t.0)) (sym long) ∙ drop-append_seam (map item_tree old) t.0 in
      record {
        plain = drop count added;
        read = t.1 ∙ ap (λ (l : Trees). Ok ((l, counters_of n), s)) (sym rest);
        documents = documents ∙ ap (λ (l : Trees). with_items l (map item_tree (drop count added))) first;
      }

  pub line_documented : (count : ℕ) → count ≡ length old → (result : Result (Unit {0}) ParseError) → after_numbered (map item_tree old) found ≡ Ok ((map item_tree added, counters_of n), s)
      → OnOk result (map item_tree new ≡ taken_docs count count added) → IfErr result (λ error. error ≡ errors.Expression causes.Memory) → ReadsLine result old new n s found
  line_documented count counted (Ok done) h documents memory =
      documented_after h (subst (λ (k : ℕ). map item_tree new ≡ taken_docs k k added) counted documents)
  line_documented count counted (Err error) h documents memory =
      subst (λ (e : ParseError). IsParseError e s (found ≡ Err (NoNumber (counters_of n))) found) (sym memory) tt
