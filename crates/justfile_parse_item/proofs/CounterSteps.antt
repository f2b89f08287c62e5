-- How far the numerator moves, one step after another.
use Rattle.std.proofs.Common.{◌≡◌, ℕ, ◌+◌, ◌≤◌, Bool, true, false, cond, Ok, Err, refl, sym, ap, subst, ◌∙◌, arith}
use Rattle.justfile_numbers.specs.declared.numerator.Numerator.{Numerator}
use Rattle.justfile_vocabulary.specs.declared.token_kind.TokenKind.TheVariants as kinds
use Rattle.justfile_model.specs.Readers.Reader as files
use Rattle.justfile_model.specs.Readers.Reader.{with_recipes}
use Rattle.justfile_model.specs.Readers.ReaderState.{Counters, NoNumber}
use Rattle.justfile_parse_item.specs.ItemTable.{next_recipe_number}
use Rattle.justfile_parse_item.specs.MethodResults.{CountersMoved}
use Rattle.justfile_parse_expression.specs.TableReader.{Read, State, expect, leaves}
use Rattle.justfile_parse_expression.specs.Significant.{TableToken}
use Rattle.justfile_parse_base.specs.Counting.{TookBindingNumbers, counters_of, identifiers_left}
use Rattle.justfile_parse_base.specs.SharedTable.{next_binding_number}
use Rattle.justfile_parse_base.proofs.BindingNumbers.{took_one}
use Rattle.justfile_parse_base.proofs.Fewer.{expect_fewer, fewer_at, name_fewer}

-- nothing is numbered
pub unmoved : (old new : Numerator) (most : ℕ) → new ≡ old → CountersMoved old new most
unmoved old new most e =
    let P : Numerator → Type 0 = λ n. CountersMoved old n most in
    subst P (sym e) (record { least = omega arith; recipes_least = omega arith; most_is = omega arith; constants = refl })

pub more_moved : (old new : Numerator) (most more : ℕ) → CountersMoved old new most → most ≤ more → CountersMoved old new more
more_moved old new most more h le = record { least = h.least; recipes_least = h.recipes_least; most_is = omega (arith, h.most_is, le); constants = h.constants }

-- bindings alone are numbered
pub took_moved : (old new : Numerator) (before following : ℕ) → TookBindingNumbers old new before following → CountersMoved old new before
took_moved old new before following h = record { least = h.least; recipes_least = omega (arith, h.recipes); most_is = omega (arith, h.most, h.recipes); constants = h.constants }

-- an assignment is numbered, whose name was taken
pub binding_moved : (old new : Numerator) (number : ℕ) (s rest there : State) (name : TableToken) → expect kinds.Identifier s ≡ Ok (name, rest)
    → next_binding_number (counters_of old) there ≡ Ok ((number, counters_of new), there) → CountersMoved old new (identifiers_left s)
binding_moved old new number s rest there name taken numbers =
    took_moved old new (identifiers_left s) 0 (took_one old new number there (identifiers_left s) 0 numbers (omega (arith, name_fewer s (name, rest) taken)))

-- the parameters of a function are numbered, whose name and parenthesis were taken
pub function_moved : (old new : Numerator) (s rest opened : State) (name opener : TableToken) (following : ℕ) → expect kinds.Identifier s ≡ Ok (name, rest)
    → expect kinds.ParenL rest ≡ Ok (opener, opened) → TookBindingNumbers old new (identifiers_left opened) following → CountersMoved old new (identifiers_left s)
function_moved old new s rest opened name opener following taken next numbers =
    more_moved old new (identifiers_left opened) (identifiers_left s) (took_moved old new (identifiers_left opened) following numbers)
    (omega (arith, name_fewer s (name, rest) taken, fewer_at rest (expect kinds.ParenL rest) (opener, opened) (expect_fewer kinds.ParenL rest) next))

-- after its parameters a recipe is numbered, whose name was taken
pub recipe_moved : (old next new : Numerator) (number : ℕ) (s : State) (before following : ℕ) → TookBindingNumbers old next before (following + 1)
    → next_recipe_number (counters_of next) s ≡ Ok ((number, counters_of new), s) → CountersMoved old new before
unfolding files.next_recipe_number
recipe_moved old next new number s before following h is = go (leaves.has_number (counters_of next).recipes) is
  where
    counters_in : Read (ℕ × Counters) → Counters
    counters_in (Ok x) = x.0.1
    counters_in (Err e) = counters_of new

    moved : with_recipes ((counters_of next).recipes + 1) (counters_of next) ≡ counters_of new → CountersMoved old new before
    moved e = record {
      least = omega (arith, ap (λ (c : Counters). c.bindings) e, h.least);
      recipes_least = omega (arith, ap (λ (c : Counters). c.recipes) e, h.recipes);
      most_is = omega (arith, ap (λ (c : Counters). c.bindings) e, ap (λ (c : Counters). c.recipes) e, h.most, h.recipes);
      constants = sym (ap (λ (c : Counters). c.constants) e) ∙ h.constants;
    }

    go : (b : Bool) → ◌≡◌ {A = Read (ℕ × Counters)} (cond b (Ok (((counters_of next).recipes, with_recipes ((counters_of next).recipes + 1) (counters_of next)), s)) (Err (NoNumber (counters_of next)))) (Ok ((number, counters_of new), s))
        → CountersMoved old new before
    go true e = moved (ap counters_in e)
    go false e = let f : ◌≡◌ {A = Read (ℕ × Counters)} (Err (NoNumber (counters_of next))) (Ok ((number, counters_of new), s)) = e in cc
