-- An item that was parsed is appended, and is what was read.
use Rattle.std.proofs.Common.{◌≡◌, ◌∙◌, ℕ, ◌+◌, ◌-◌, ◌<◌, false, List, [], ◌∷◌, ◌++◌, OnOk, Option, Some, Result, Ok, Err, ap, arith, get_or, length, map, subst, sym}
use Rattle.std.proofs.Math.Seq.{get_or-append_seam}
use Rattle.std.proofs.lemmas.List.{length-append, map-append}
use Rattle.std.proofs.lemmas.Option.{slice_get-get_or, slice_get_past}
use Rattle.std.specs.List.{slice_get}
use Rattle.justfile_token.specs.declared.token.Token.{Token}
use Rattle.justfile_numbers.specs.declared.numerator.Numerator.{Numerator}
use Rattle.justfile_item.specs.declared.item.Item.{Item}
use Rattle.justfile_model.specs.Readers.Reader.{has_body}
use Rattle.justfile_model.specs.Readers.ReaderState as reading
use Rattle.justfile_model.specs.Readers.ReaderState.{Counters}
use Rattle.justfile_model.specs.Trees.Tree.{OrderedItem}
use Rattle.justfile_expression.specs.LeafTree.{Leaf}
use Rattle.justfile_parse_base.specs.ParseErrors.{IsParseError}
use Rattle.justfile_parse_base.specs.declared.parse_error.ParseError.{ParseError}
use Rattle.justfile_parse_base.specs.declared.parse_error.ParseError.TheVariants as errors
use Rattle.justfile_parse_expression.specs.TableReader.{State}
use Rattle.justfile_parse_expression.specs.View.{state_of}
use Rattle.justfile_parse_expression.specs.declared.parser_state.ParserState.{ParserState}
use Rattle.justfile_parse_expression.specs.declared.expression_error.ExpressionError.TheVariants as causes
use Rattle.justfile_parse_base.specs.Counting.{ReadsCounted, counters_of}
use Rattle.justfile_parse_item.specs.DerivedFields.{HasDerivedItemFields}
use Rattle.justfile_parse_item.specs.ItemTable.{ReadItem}
use Rattle.justfile_parse_item.specs.MethodResults.{ParsesUncounted}
use Rattle.justfile_parse_item.specs.Pushes.{AppendsItem, Pushes, last_tree, tree_or_end}
use Rattle.justfile_parse_item.specs.Tree.{item_tree}
use Rattle.justfile_parse_item.proofs.DerivedItemFields.{pushed_fields}

abbrev Done : Type 0
Done = Result (Unit {0}) ParseError

slice_last : {X : Type 0} (xs : List X) (x : X) → slice_get (xs ++ x ∷ []) (length (xs ++ x ∷ []) - 1) ≡ Some x
slice_last xs x =
    let n : length (xs ++ x ∷ []) ≡ length xs + 1 = length-append xs (x ∷ []) in
    slice_get-get_or (xs ++ x ∷ []) (length (xs ++ x ∷ []) - 1) x (omega (arith, n))
    ∙ ap (λ (y : _). Some y) (ap (λ (i : ℕ). get_or (xs ++ x ∷ []) i x) (omega (arith, n)) ∙ get_or-append_seam xs x [] x)

-- the last item is the one that was appended
pub pushed_last : (item : Item) (old new : List Item) → new ≡ old ++ item ∷ [] → last_tree new ≡ item_tree item
unfolding last_tree
pushed_last item old new e =
    ap (λ (l : List Item). tree_or_end (slice_get l (length l - 1))) e
    ∙ ap (λ (o : Option Item). tree_or_end o) (slice_last old item)

-- the last item by its place
pub last_at : (items : List Item) (d : Item) → 0 < length items → last_tree items ≡ item_tree (get_or items (length items - 1) d)
unfolding last_tree
last_at items d h = ap (λ (o : Option Item). tree_or_end o) (slice_get-get_or items (length items - 1) d (omega (arith, h)))

pub last_none : (items : List Item) → length items ≡ 0 → false ≡ has_body (last_tree items)
unfolding last_tree
last_none items h = ap (λ (o : Option Item). has_body (tree_or_end o)) (sym (slice_get_past items (length items - 1) (omega (arith, h))))

-- what was appended was read
pub reads : (item : Item) (old new : List Item) (result : Done) (n : Numerator) (s : State) (found : ReadItem) → Pushes item old new result
    → found ≡ Ok ((item_tree item, counters_of n), s) → ReadsCounted (λ _. last_tree new) result n s found
reads item old new (Ok done) n s found h e = e ∙ ap (λ (i : OrderedItem Leaf Token ℕ). Ok ((i, counters_of n), s)) (sym (pushed_last item old new h))
reads item old new (Err error) n s found h e =
    let P : ParseError → Type 0 = λ x. IsParseError x s (found ≡ Err (reading.NoNumber (counters_of n))) found in
    subst P (sym h) tt

-- the same for a construct that takes no number
pub reads_uncounted : {E : Type 0} (answer : E → List ℕ → Result (List ℕ) (List ℕ)) (item : Item) (old new : List Item) (result : Done)
    (before after : ParserState E) (read : Counters → State → ReadItem) → Pushes item old new result
    → ((n : Counters) → read n (state_of answer before) ≡ Ok ((item_tree item, n), state_of answer after))
    → ParsesUncounted answer (λ _. last_tree new) result before after read
unfolding ParsesUncounted
reads_uncounted answer item old new (Ok done) before after read h e n =
    e n ∙ ap (λ (i : OrderedItem Leaf Token ℕ). Ok ((i, n), state_of answer after)) (sym (pushed_last item old new h))
reads_uncounted answer item old new (Err error) before after read h e n =
    let P : ParseError → Type 0 = λ x. IsParseError x (state_of answer after) ⊥ (read n (state_of answer before)) in
    subst P (sym h) tt

-- one item was appended
pub appends : (item : Item) (old new : List Item) (result : Done) → Pushes item old new result → HasDerivedItemFields item → OnOk result (AppendsItem old new)
appends item old new (Ok done) h fields = record {
  trees =
      ap (λ (l : List Item). map item_tree l) h
      ∙ map-append item_tree old (item ∷ [])
      ∙ ap (λ (i : OrderedItem Leaf Token ℕ). map item_tree old ++ i ∷ []) (sym (pushed_last item old new h));
  fields = pushed_fields old new item h fields;
}
appends item old new (Err error) h fields = tt
