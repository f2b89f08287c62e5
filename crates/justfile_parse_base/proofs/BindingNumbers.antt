-- How many numbers are taken, one step after another.
use Rattle.std.proofs.Common.{◌≡◌, ℕ, ◌+◌, ◌≤◌, Bool, true, false, cond, Some, Ok, Err, refl, sym, ap, subst, ◌∙◌, arith}
use Rattle.justfile_numbers.specs.declared.numerator.Numerator.{Numerator}
use Rattle.justfile_vocabulary.specs.declared.token_kind.TokenKind.{TokenKind}
use Rattle.justfile_model.specs.Readers.HeaderReader as headers
use Rattle.justfile_model.specs.Readers.HeaderReader.{with_bindings}
use Rattle.justfile_model.specs.Readers.ReaderState.{Counters, NoNumber}
use Rattle.justfile_parse_expression.specs.TableReader.{Read, State, accept, expect, leaves}
use Rattle.justfile_parse_expression.specs.Significant.{TableToken}
use Rattle.justfile_parse_base.specs.Counting.{TookBindingNumbers, counters_of, identifiers_left}
use Rattle.justfile_parse_base.specs.SharedTable.{next_binding_number}
use Rattle.justfile_parse_base.proofs.Fewer.{accept_fewer, expect_fewer, fewer_at}

-- no number is taken
pub took_none : (n : Numerator) (before following : ℕ) → following ≤ before → TookBindingNumbers n n before following
took_none n before following h = record { least = omega arith; most = omega (arith, h); recipes = refl; constants = refl }

pub unmoved : (old new : Numerator) (before following : ℕ) → new ≡ old → following ≤ before → TookBindingNumbers old new before following
unmoved old new before following e h = subst (λ (n : Numerator). TookBindingNumbers old n before following) (sym e) (took_none old before following h)

-- first some, then others
pub took_both : (a b c : Numerator) (before between following : ℕ) → TookBindingNumbers a b before between → TookBindingNumbers b c between following → TookBindingNumbers a c before following
took_both a b c before between following h k = record {
  least = omega (arith, h.least, k.least);
  most = omega (arith, h.most, k.most);
  recipes = k.recipes ∙ h.recipes;
  constants = k.constants ∙ h.constants;
}

-- more were there before, or fewer are left
pub within : (a b : Numerator) (before following more fewer : ℕ) → TookBindingNumbers a b before following → before ≤ more → fewer ≤ following → TookBindingNumbers a b more fewer
within a b before following more fewer h i j = record { least = h.least; most = omega (arith, h.most, i, j); recipes = h.recipes; constants = h.constants }

-- the next number is taken for a name
pub took_one : (old new : Numerator) (number : ℕ) (s : State) (before following : ℕ) → next_binding_number (counters_of old) s ≡ Ok ((number, counters_of new), s) → following + 1 ≤ before
    → TookBindingNumbers old new before following
unfolding headers.next_binding_number
took_one old new number s before following is h = go (leaves.has_number (counters_of old).bindings) is
  where
    Found : Type 0
    Found = (ℕ × Counters) × State

    counters_in : Read (ℕ × Counters) → Counters
    counters_in (Ok x) = x.0.1
    counters_in (Err e) = counters_of new

    moved : with_bindings ((counters_of old).bindings + 1) (counters_of old) ≡ counters_of new → TookBindingNumbers old new before following
    moved e = record {
      least = omega (arith, ap (λ (c : Counters). c.bindings) e);
      most = omega (arith, ap (λ (c : Counters). c.bindings) e, h);
      recipes = sym (ap (λ (c : Counters). c.recipes) e);
      constants = sym (ap (λ (c : Counters). c.constants) e);
    }

    go : (b : Bool) → ◌≡◌ {A = Read (ℕ × Counters)} (cond b (Ok (((counters_of old).bindings, with_bindings ((counters_of old).bindings + 1) (counters_of old)), s)) (Err (NoNumber (counters_of old)))) (Ok ((number, counters_of new), s))
        → TookBindingNumbers old new before following
    go true e = moved (ap counters_in e)
    go false e = let f : ◌≡◌ {A = Read (ℕ × Counters)} (Err (NoNumber (counters_of old))) (Ok ((number, counters_of new), s)) = e in cc

-- a number is taken for a name, and then nothing is read or reading stops
pub took_for_name : (old new : Numerator) (number : ℕ) (first last : State) (following : ℕ) → next_binding_number (counters_of old) last ≡ Ok ((number, counters_of new), last)
    → identifiers_left last + 1 ≤ identifiers_left first → following ≤ identifiers_left last → TookBindingNumbers old new (identifiers_left first) following
took_for_name old new number first last following is h k = took_one old new number last (identifiers_left first) following is (omega (arith, h, k))

-- a token was taken before
pub took_after_token : (old new : Numerator) (kind : TokenKind) (s : State) (x : TableToken × State) (following : ℕ) → accept kind s ≡ Some x → TookBindingNumbers old new (identifiers_left x.1) following
    → TookBindingNumbers old new (identifiers_left s) following
took_after_token old new kind s x following is h = within old new (identifiers_left x.1) following (identifiers_left s) following h (accept_fewer kind s x is) (omega arith)

-- a token is taken after it
pub took_before_token : (old new : Numerator) (kind : TokenKind) (before : ℕ) (s : State) (x : TableToken × State) → expect kind s ≡ Ok x → TookBindingNumbers old new before (identifiers_left s)
    → TookBindingNumbers old new before (identifiers_left x.1)
took_before_token old new kind before s x is h = within old new before (identifiers_left s) before (identifiers_left x.1) h (omega arith) (fewer_at s (expect kind s) x (expect_fewer kind s) is)

-- no number is taken for the name of the recipe
pub took_in_header : (old new : Numerator) (before following more fewer : ℕ) → TookBindingNumbers old new before following → before + 1 ≤ more → fewer ≤ following → TookBindingNumbers old new more (fewer + 1)
took_in_header old new before following more fewer h i j = record { least = h.least; most = omega (arith, h.most, i, j); recipes = h.recipes; constants = h.constants }
