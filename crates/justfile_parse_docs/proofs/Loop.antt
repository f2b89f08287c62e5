-- The loop over the lines of a file.
use Rattle.std.proofs.Common.{◌≡◌, ℕ, ◌+◌, ◌<◌, ◌≤◌, List, [], ◌∷◌, ◌++◌, length, map, Some, None, Ok, Err, refl, sym, ap, ◌∙◌, arith}
use Rattle.std.proofs.lemmas.List.{map-append}
use Rattle.justfile_numbers.specs.Numerator.{bindings_of, constants_of, recipes_of}
use Rattle.justfile_numbers.specs.declared.numerator.Numerator.{Numerator}
use Rattle.justfile_token.specs.declared.token.Token.{Token}
use Rattle.justfile_vocabulary.specs.declared.token_kind.TokenKind.TheVariants as kinds
use Rattle.justfile_item.specs.declared.item.Item as file
use Rattle.justfile_model.specs.Trees.Tree.{OrderedItem}
use Rattle.justfile_model.specs.Readers.Reader as files
use Rattle.justfile_model.specs.Readers.PartReader.{after_numbered}
use Rattle.justfile_model.specs.Readers.ReaderState.{◌>>=◌, Counters}
use Rattle.justfile_parse_item.specs.ItemTable as reader
use Rattle.justfile_parse_item.specs.ItemTable.{ReadItems, after_byte_order_mark, items, attribute_leaves, line, read_nothing}
use Rattle.justfile_parse_expression.specs.TableReader.{Read, ReadError, State, accept, leaves}
use Rattle.justfile_parse_base.specs.ParseErrors.{IsParseError}
use Rattle.justfile_parse_item.specs.MethodResults.{CountersMoved}
use Rattle.justfile_parse_expression.specs.MethodResults.{IsExpressionError, literal_read_error, read_error_at}
use Rattle.justfile_parse_item.specs.Tree.{item_tree}
use Rattle.justfile_expression.specs.LeafTree.{Leaf}
use Rattle.justfile_parse_base.specs.declared.parse_error.ParseError.{ParseError}
use Rattle.justfile_parse_expression.specs.Significant.{TableToken}
use Rattle.justfile_parse_expression.specs.declared.expression_error.ExpressionError.{ExpressionError}
use Rattle.justfile_parse_expression.specs.declared.expression_error.ExpressionError.TheVariants.{Refused, Literal, Memory, Numbers}
use Rattle.justfile_model.proofs.Readers.ItemReading as laws
use Rattle.justfile_model.proofs.Readers.ReadingSteps as steps
use Rattle.justfile_model.proofs.Readers.ReadingSteps.{known}
use Rattle.justfile_parse_base.proofs.HeaderErrors.{failed}
use Rattle.justfile_parse_item.proofs.CounterBounds.{line_moves}
use Rattle.justfile_parse_base.specs.Counting.{counters_of, identifiers_left}

abbrev Items : Type 0
Items = List (OrderedItem Leaf Token ℕ)

-- what is read after items
pub taken : (done all : Items) (m : Counters) (rest : State) (found : ReadItems) → after_numbered done found ≡ Ok ((all, m), rest) → (more : Items) × (found ≡ Ok ((more, m), rest)) × (done ++ more ≡ all)
unfolding after_numbered
taken done all m rest (Ok x) h =
    let pair : ◌≡◌ {A = (Items × Counters) × State} ((done ++ x.0.0, x.0.1), x.1) ((all, m), rest) = cc in (
      x.0.0,
      ap (λ (p : Counters × State). Ok ((x.0.0, p.0), p.1)) (ap (λ (p : (Items × Counters) × State). (p.0.1, p.1)) pair),
      ap (λ (p : (Items × Counters) × State). p.0.0) pair,
    )
taken done all m rest (Err e) h = cc

pub refused_first : (done : Items) (e : ReadError) (found : ReadItems) → after_numbered done found ≡ Err e → found ≡ Err e
unfolding after_numbered
refused_first done e (Ok x) h = cc
refused_first done e (Err f) h = h

-- a line takes a token
pub line_shrinks : (q : State) (n m : Counters) (more : Items) (rest : State) → line n q ≡ Ok ((more, m), rest) → length rest.left < length q.left
line_shrinks q n m more rest value = (steps.past q (line n q) ((more, m), rest) (laws.line_goes leaves attribute_leaves n q) value).0

-- from one place to another these items were read
pub record IsReadTo (s q : State) (first next : Numerator) (done : List file.Item) : Type 0 where
  pub read : after_numbered (map item_tree done) (items (counters_of next) q) ≡ items (counters_of first) s
  pub depth : q.depth ≡ 0
  pub least : bindings_of first ≤ bindings_of next
  pub recipes_least : recipes_of first ≤ recipes_of next
  pub most : bindings_of next + recipes_of next + identifiers_left q ≤ bindings_of first + recipes_of first + identifiers_left s
  pub constants : constants_of next ≡ constants_of first

pub begins : (s : State) (first : Numerator) → s.depth ≡ 0 → IsReadTo s s first first []
begins s first none = record { depth = none; read = laws.numbered_begin (items (counters_of first) s); least = omega arith; recipes_least = omega arith; most = omega arith; constants = refl }

module _ (s q : State) (first next : Numerator) (done : List file.Item) (so_far : IsReadTo s q first next done) where
  pub moved : CountersMoved first next (identifiers_left s)
  moved = record { least = so_far.least; recipes_least = so_far.recipes_least; most_is = omega (arith, so_far.most); constants = so_far.constants }

  module _ (none : accept kinds.Eof q ≡ None) where
    pub goes_on : (then : Numerator) (more : List file.Item) (rest : State) → line (counters_of next) q ≡ Ok ((map item_tree more, counters_of then), rest) → IsReadTo s rest first then (done ++ more)
    goes_on then more rest value =
        let trees = map item_tree more in
        let moves = line_moves (counters_of next) q so_far.depth trees (counters_of then) rest value in
        let past = known {X = (Items × Counters) × State} ((trees, counters_of then), rest) (λ x. length x.1.left < length q.left × (x.1.depth ≡ q.depth) × (x.1.run ≡ q.run)) value (laws.line_goes leaves attribute_leaves (counters_of next) q) in
        record {
          depth = past.1 ∙ so_far.depth;
          read =
              ap (λ (l : Items). after_numbered l (items (counters_of then) rest)) (map-append item_tree done more)
              ∙ sym (laws.items_go_on leaves attribute_leaves (map item_tree done) (counters_of next) q trees (counters_of then) rest none value)
              ∙ so_far.read;
          least = omega (arith, so_far.least, moves.least);
          recipes_least = omega (arith, so_far.recipes_least, moves.recipes_least);
          most = omega (arith, so_far.most, moves.most);
          constants = moves.constants ∙ so_far.constants;
        }

    fails : (e : ReadError) → line (counters_of next) q ≡ Err e → items (counters_of first) s ≡ Err e
    fails e h = sym so_far.read ∙ laws.items_fail leaves attribute_leaves (map item_tree done) (counters_of next) q e none h

    -- a line is refused, or no number is left for it
    pub errs : (error : ParseError) (left : State) (wanting : ReadError)
        → IsParseError error left (line (counters_of next) q ≡ Err wanting) (line (counters_of next) q)
        → IsParseError error left (items (counters_of first) s ≡ Err wanting) (items (counters_of first) s)
    errs error left wanting h = failed (line (counters_of next) q) (items (counters_of first) s) fails error left _ _ (fails wanting) h

    -- where a line moved the numerator, so is the file's
    pub moved_on : (then : Numerator) → CountersMoved next then (identifiers_left q) → CountersMoved first then (identifiers_left s)
    moved_on then h =
        record {
          least = omega (arith, so_far.least, h.least);
          recipes_least = omega (arith, so_far.recipes_least, h.recipes_least);
          most_is = omega (arith, so_far.most, h.most_is);
          constants = h.constants ∙ so_far.constants;
        }

  module _ (end : TableToken) (rest : State) (is : accept kinds.Eof q ≡ Some (end, rest)) where
    abbrev item_rest_end : Unit {0} × State → ReadItems
    item_rest_end x = Ok (([], counters_of next), x.1)

    end_by : (table_tokens : List TableToken) → files.end_of_tokens leaves attribute_leaves (counters_of next) rest table_tokens ≡ (reader.nothing_by rest table_tokens >>= item_rest_end)
    end_by [] = refl
    end_by (t ∷ ts) = refl

    at_end_is : items (counters_of first) s ≡ after_numbered (map item_tree done) (read_nothing rest >>= item_rest_end)
    unfolding files.at_end read_nothing
    at_end_is = sym so_far.read ∙ laws.items_at_end leaves attribute_leaves (map item_tree done) (counters_of next) q end rest is ∙ ap (after_numbered (map item_tree done)) (end_by rest.left)

    pub ends : read_nothing rest ≡ Ok (tt, rest) → items (counters_of first) s ≡ Ok ((map item_tree done, counters_of next), rest)
    ends h = at_end_is ∙ ap (λ (f : Read (Unit {0})). after_numbered (map item_tree done) (f >>= item_rest_end)) h ∙ laws.numbered_nothing (map item_tree done) (counters_of next) rest

    past : (e : ReadError) → read_nothing rest ≡ Err e → items (counters_of first) s ≡ Err e
    past e h = at_end_is ∙ ap (λ (f : Read (Unit {0})). after_numbered (map item_tree done) (f >>= item_rest_end)) h ∙ laws.numbered_refused (map item_tree done) e

    pub goes_past : (stop : ExpressionError) (IsShort : Type 0) → IsExpressionError stop rest ⊥ (read_nothing rest) → IsExpressionError stop rest IsShort (items (counters_of first) s)
    goes_past (Refused r) IsShort h = past (read_error_at r rest) h
    goes_past (Literal refused) IsShort h = past (literal_read_error refused.value.error) h
    goes_past Memory IsShort h = tt
    goes_past Numbers IsShort h = absurd h

-- a file is its items after a byte order mark
pub file_is : (n : Counters) (s : State) → reader.file n s ≡ items n (after_byte_order_mark s)
unfolding files.file
file_is n s = refl
