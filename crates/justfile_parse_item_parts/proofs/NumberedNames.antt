-- The loop that parses the parameters of functions, one after another.
use Rattle.std.proofs.Common.{◌≡◌, ◌∙◌, ℕ, ◌≤◌, ◌+◌, Bool, true, false, cond, List, [], ◌∷◌, ◌++◌, append_assoc, map, Option, Some, None, Ok, Err, IfOk, refl, sym, ap, subst, arith}
use Rattle.std.proofs.lemmas.List.{append-nil, map-append}
use Rattle.justfile_numbers.specs.Numerator.{number_of}
use Rattle.justfile_token.specs.declared.name.Name.{Name}
use Rattle.justfile_numbers.specs.declared.number.Number.{Number}
use Rattle.justfile_numbers.specs.declared.numerator.Numerator.{Numerator}
use Rattle.justfile_token.specs.declared.token.Token.{Token}
use Rattle.justfile_vocabulary.specs.declared.token_kind.TokenKind.TheVariants as kinds
use Rattle.justfile_model.specs.Readers.PartReader as parts
use Rattle.justfile_model.specs.Readers.PartReader.{after_numbered}
use Rattle.justfile_model.specs.Readers.ReaderState.{◌>>=◌, Counters, choose}
use Rattle.justfile_model.proofs.Readers.PartReading.{names_is}
use Rattle.justfile_parse_base.specs.SharedTable.{separator}
use Rattle.justfile_parse_base.specs.ParseErrors.{IsParseError}
use Rattle.justfile_parse_base.specs.declared.parse_error.ParseError.{ParseError}
use Rattle.justfile_parse_expression.specs.TableReader.{Read, ReadError, State, accept, expect, leaves}
use Rattle.justfile_parse_expression.specs.Significant.{TableToken}
use Rattle.justfile_parse_base.specs.Counting.{TookBindingNumbers, counters_of, identifiers_left}
use Rattle.justfile_parse_base.specs.SharedTable.{next_binding_number}
use Rattle.justfile_parse_base.proofs.BindingNumbers.{took_both, took_none}
use Rattle.justfile_parse_base.proofs.Fewer.{Fewer, either_fewer, expect_fewer, then_fewer}
use Rattle.justfile_parse_base.proofs.HeaderErrors.{failed}
use Rattle.justfile_parse_item_parts.specs.PartTable as reader
use Rattle.justfile_parse_item_parts.specs.PartTable.{names_step, numbered_name, one_name}
use Rattle.justfile_parse_item_parts.specs.Parts.{numbered_leaf, numbered_leaves}
use Rattle.justfile_expression.specs.LeafTree.{Leaf, Named}

abbrev Names : Type 0
Names = List Leaf × Counters

abbrev Step : Type 0
Step = (List Leaf × Bool) × Counters

abbrev Taken : Type 0
Taken = Option (TableToken × State)

-- ---- one step of the loop

-- what is read after a step
abbrev pub after_step : Step × State → Read Names
after_step x = cond x.0.0.1 (Ok ((x.0.0.0, x.0.1), x.1)) (after_numbered x.0.0.0 (reader.names (x.0.1, x.1)))

grouped : (before : List Leaf) (leaf : Leaf) (found : Read Names) → after_numbered before (after_numbered (leaf ∷ []) found) ≡ after_numbered (before ++ leaf ∷ []) found
unfolding after_numbered
grouped before leaf (Ok x) = ap (λ (l : List Leaf). Ok ((l, x.0.1), x.1)) (sym (append_assoc before (leaf ∷ []) x.0.0))
grouped before leaf (Err e) = refl

refused_after : (before : List Leaf) (e : ReadError) → ◌≡◌ {A = Read Names} (after_numbered before (Err e)) (Err e)
unfolding after_numbered
refused_after before e = refl

nothing_after : (before : List Leaf) (n : Counters) (s : State) → after_numbered before (Ok (([], n), s)) ≡ Ok ((before, n), s)
unfolding after_numbered
nothing_after before n s = ap (λ (l : List Leaf). Ok ((l, n), s)) (append-nil before)

-- the closing parenthesis, where the names are at their end
abbrev ended_names : Counters → TableToken × State → Read Names
ended_names n closer = Ok (([], n), closer.1)

abbrev is_last : Bool → TableToken × State → Read Bool
is_last last token = Ok (last, token.1)

abbrev with_last : Names → Bool × State → Read Step
with_last all last = Ok (((all.0, last.0), all.1), last.1)

abbrev ended_step : List Leaf → Counters → TableToken × State → Read Step
ended_step before n closer = Ok (((before, true), n), closer.1)

module _ (before : List Leaf) where
  abbrev all_before : (Leaf × Counters) × State → Names
  all_before name = (before ++ name.0.0 ∷ [], name.0.1)

  abbrev then_all : (Leaf × Counters) × State → Read Names
  then_all name = Ok (all_before name, name.1)

  abbrev then_last : Names × State → Read Step
  then_last all = separator kinds.ParenR all.1 >>= with_last all.0

  -- what is read after a name
  abbrev others : (Leaf × Counters) × State → Read Names
  others name =
      after_numbered (name.0.0 ∷ []) (choose (accept kinds.Comma name.1) (parts.names_end leaves name.0.1 name.1) (λ comma. reader.names (name.0.1, comma.1)))

  module _ (name : (Leaf × Counters) × State) where
    closed : (found : Read TableToken) → after_numbered before (after_numbered (name.0.0 ∷ []) (found >>= ended_names name.0.1))
        ≡ (((found >>= is_last true) >>= with_last (all_before name)) >>= after_step)
    unfolding after_numbered
    closed (Ok closer) = refl
    closed (Err e) = refl

    parted : (o : Taken) → after_numbered before (after_numbered (name.0.0 ∷ []) (choose o (parts.names_end leaves name.0.1 name.1) (λ comma. reader.names (name.0.1, comma.1))))
        ≡ ((choose o (expect kinds.ParenR name.1 >>= is_last true) (is_last false) >>= with_last (all_before name)) >>= after_step)
    unfolding parts.names_end
    parted (Some comma) = grouped before name.0.0 (reader.names (name.0.1, comma.1))
    parted None = closed (expect kinds.ParenR name.1)

  named : (found : Read (Leaf × Counters)) → after_numbered before (found >>= others) ≡ (((found >>= then_all) >>= then_last) >>= after_step)
  unfolding separator
  named (Ok name) = parted name (accept kinds.Comma name.1)
  named (Err e) = refused_after before e

  module _ (n : Counters) (s : State) where
    step_by : (o : Taken) → after_numbered before (choose o (numbered_name n s >>= others) (ended_names n))
        ≡ (choose o ((numbered_name n s >>= then_all) >>= then_last) (ended_step before n) >>= after_step)
    step_by (Some closer) = nothing_after before n closer.1
    step_by None = named (numbered_name n s)

    -- the names after others are those of a step, and those after it
    pub step_is : after_numbered before (reader.names (n, s)) ≡ (names_step before n s >>= after_step)
    unfolding names_step one_name parts.names_rule
    step_is = ap (after_numbered before) (names_is leaves (n, s)) ∙ step_by (accept kinds.ParenR s)

-- ---- a loop

-- from one place to another these names were read
pub record IsReadTo (s q : State) (first next : Numerator) (done : List (Name × Number)) : Type 0 where
  pub read : after_numbered (numbered_leaves done) (reader.names (counters_of next, q)) ≡ reader.names (counters_of first, s)
  pub numbers : TookBindingNumbers first next (identifiers_left s) (identifiers_left q)

nothing_before : (found : Read Names) → after_numbered [] found ≡ found
unfolding after_numbered
nothing_before (Ok x) = refl
nothing_before (Err e) = refl

pub begins : (s : State) (first : Numerator) → IsReadTo s s first first []
begins s first = record { read = nothing_before (reader.names (counters_of first, s)); numbers = took_none first (identifiers_left s) (identifiers_left s) (omega arith) }

module _ (s q : State) (first next : Numerator) (done : List (Name × Number)) (so_far : IsReadTo s q first next done) where
  abbrev Found : Read Step
  Found = names_step (numbered_leaves done) (counters_of next) q

  pub read_on : reader.names (counters_of first, s) ≡ (Found >>= after_step)
  read_on = sym so_far.read ∙ step_is (numbered_leaves done) (counters_of next) q

  module _ (new : List (Name × Number)) (then : Numerator) (rest : State) (numbers : TookBindingNumbers next then (identifiers_left q) (identifiers_left rest)) where
    pub ends : Found ≡ Ok (((numbered_leaves new, true), counters_of then), rest) → reader.names (counters_of first, s) ≡ Ok ((numbered_leaves new, counters_of then), rest)
    ends is = read_on ∙ ap (λ (o : Read Step). o >>= after_step) is

    pub goes_on : Found ≡ Ok (((numbered_leaves new, false), counters_of then), rest) → IsReadTo s rest first then new
    goes_on is = record { read = sym (read_on ∙ ap (λ (o : Read Step). o >>= after_step) is); numbers = took_both first next then (identifiers_left s) (identifiers_left q) (identifiers_left rest) so_far.numbers numbers }

  fails : (e : ReadError) → Found ≡ Err e → reader.names (counters_of first, s) ≡ Err e
  fails e is = read_on ∙ ap (λ (o : Read Step). o >>= after_step) is

  -- a name is refused, or no number is left for it
  pub errs : (error : ParseError) (left : State) (wanting : ReadError) → IsParseError error left (Found ≡ Err wanting) Found
      → IsParseError error left (reader.names (counters_of first, s) ≡ Err wanting) (reader.names (counters_of first, s))
  errs error left wanting h = failed Found (reader.names (counters_of first, s)) fails error left _ _ (fails wanting) h

-- ---- what stands after a name

pub separator_fewer : (s : State) → Fewer {A = Bool} s (separator kinds.ParenR s)
unfolding separator
separator_fewer s =
    either_fewer {A = Bool} kinds.Comma s _ _ (then_fewer {A = TableToken} {B = Bool} s (expect kinds.ParenR s) _ (expect_fewer kinds.ParenR s) (λ closer. omega arith)) (λ comma. omega arith)

-- ---- one name

module _ (old : List (Name × Number)) (first : Numerator) (s : State) where
  pub name_read : (table_token : TableToken) (rest : State) (name : Name) (number : Number) (next : Numerator) (new : List (Name × Number)) → expect kinds.Identifier s ≡ Ok (table_token, rest)
      → next_binding_number (counters_of first) rest ≡ Ok ((number.0, counters_of next), rest) → name.token ≡ table_token.0 → new ≡ old ++ (name, number) ∷ []
      → one_name (numbered_leaves old) (counters_of first) s ≡ Ok ((numbered_leaves new, counters_of next), rest)
  unfolding one_name parts.numbered_name leaves
  name_read table_token rest name number next new taken numbers same is =
      let all : numbered_leaves new ≡ numbered_leaves old ++ Named table_token.0 (Some number) ∷ [] =
      ap numbered_leaves is ∙ map-append numbered_leaf old ((name, number) ∷ []) ∙ ap (λ (t : Token). numbered_leaves old ++ Named t (Some number) ∷ []) same in
      rw (taken, numbers, all) refl
