-- Where a number is needed and there is none, in the form that callers use.
use Rattle.std.proofs.Common.{◌≡◌, ℕ, zero, suc, ◌+◌, ◌<◌, ◌≤◌, Bool, true, false, cond, List, [], length, Ok, Err, IfOk, IsOk, refl, sym, ap, ◌∙◌, subst, arith}
use Rattle.std.specs.Prelude.{◌-◌, ◌^◌}
use Rattle.justfile_model.specs.Readers.HeaderReader as r
use Rattle.justfile_model.specs.Meanings.ReadAttribute.{ReadAttribute, token_view}
use Rattle.justfile_model.specs.Readers.Reader.{any_recipe, with_recipes}
use Rattle.justfile_model.specs.Readers.ReaderState.{◌>>=◌, Counters}
use Rattle.justfile_model.specs.Lexing.Tok.{Tok}
use Rattle.justfile_model.specs.Trees.Tree.{WrittenItem}
use Rattle.justfile_model.specs.Readers.TreeReader.{Read, State, token_attributes, token_leaves}
use Rattle.justfile_model.specs.declared.parameter_kind.ParameterKind.{ParameterKind}
use Rattle.justfile_model.specs.declared.parameter_kind.ParameterKind.TheVariants.{Plus, Singular, Star}
use Rattle.justfile_model.proofs.Readers.HeaderReading.{parameter_goes, singulars_is}
use Rattle.justfile_model.proofs.Relations.NaturalHeaders as natural
use Rattle.justfile_model.proofs.Relations.NaturalHeaders.{LacksHeader, LacksLast, LacksParameter, LacksSingular}
use Rattle.justfile_model.proofs.Relations.NaturalParts as parts
use Rattle.justfile_model.proofs.Relations.NaturalParts.{LacksName}
use Rattle.justfile_model.proofs.Readers.ReadingSteps.{past}
use Rattle.justfile_parse_file.specs.WantsNumber.{AreNamed, AreNumbered, HeaderLacks, IsAfterPrefix, LacksRecipe, NamePlace, Place, RuleList, a_name, attributes_at, more, no_name, none, nothing, numbered_name, parameter, plus, star}

module _ (rules : RuleList) where
  -- what is read of parameters
  abbrev Found : Type 0
  Found = Read (r.Parameters token_leaves token_view rules)

  abbrev singulars : Place rules → Found
  singulars = r.singulars token_leaves token_view rules

  -- the parameters that take one argument are read one after another
  module _ (most : ℕ) (all : (x y : Place rules) → length x.1.left < most → singulars x ≡ Ok y → AreNumbered rules x y) where
    after_first : (x y : Place rules) → length x.1.left ≤ most → (found : Found) → parameter rules Singular x ≡ found → (found >>= singulars) ≡ Ok y → AreNumbered rules x y
    after_first x y few (Ok p) is e = more is (all p y (omega (arith, few, (past x.1 _ p (parameter_goes token_leaves token_view rules Singular x) is).0)) e)
    after_first x y few (Err refusal) is e = cc

    by_test : (x y : Place rules) → length x.1.left ≤ most → (b : Bool) → cond b (parameter rules Singular x >>= singulars) (Ok x) ≡ Ok y → AreNumbered rules x y
    by_test x y few true e = after_first x y few (parameter rules Singular x) refl e
    by_test x y few false e = let same : x ≡ y = cc in subst (AreNumbered rules x) same none

    step : (x y : Place rules) → length x.1.left ≤ most → singulars x ≡ Ok y → AreNumbered rules x y
    unfolding r.singulars_rule
    step x y few e = by_test x y few (r.begins_parameter token_leaves x.1) (sym (singulars_is token_leaves token_view rules x) ∙ e)

  all_numbered : (most : ℕ) (x y : Place rules) → length x.1.left < most → singulars x ≡ Ok y → AreNumbered rules x y
  all_numbered zero x y less e = absurd (omega (arith, less))
  all_numbered (suc most) x y less e = step most (all_numbered most) x y (omega (arith, less)) e

  -- after parameters that got their numbers one comes next for which no number is left, with these counters
  record Lacking (from : Place rules) (m : Counters) : Type 0 where
    place : Place rules
    numbered : AreNumbered rules from place
    counters : place.0.1 ≡ m
    kind : ParameterKind
    begin : Place rules
    prefixed : IsAfterPrefix rules place kind begin
    is_parameter : IsOk (parameter rules kind begin)

  singular_lacking : {x : Place rules} {m : Counters} → LacksSingular token_leaves token_view rules x m → Lacking x m
  singular_lacking (natural.singular_lacks {x = x} reads) =
      record { place = x; numbered = none; counters = refl; kind = Singular; begin = x; prefixed = nothing; is_parameter = reads refl }
  singular_lacking (natural.later_lacks is lacks) =
      let l = singular_lacking lacks in
      record { place = l.place; numbered = more is l.numbered; counters = l.counters; kind = l.kind; begin = l.begin; prefixed = l.prefixed; is_parameter = l.is_parameter }

  last_lacking : {from x : Place rules} → AreNumbered rules from x → LacksLast token_leaves token_view rules x → Lacking from x.0.1
  last_lacking {from} {x} before (natural.plus_lacks {p = p} taken reads) =
      record { place = x; numbered = before; counters = refl; kind = Plus; begin = (x.0, p.1); prefixed = plus taken; is_parameter = reads refl }
  last_lacking {from} {x} before (natural.star_lacks {p = p} taken reads) =
      record { place = x; numbered = before; counters = refl; kind = Star; begin = (x.0, p.1); prefixed = star taken; is_parameter = reads refl }

  lacking : {n m : Counters} {s : State} → LacksParameter token_leaves token_view rules n s m → Lacking (([], n), s) m
  lacking (natural.lacks_singular lacks) = singular_lacking lacks
  lacking {n} {m} {s} (natural.lacks_last {x = x} is lacks) = last_lacking (all_numbered (suc (length s.left)) (([], n), s) x (omega arith) is) lacks

  pub header_lacks : (n m : Counters) (s : State) → LacksHeader token_leaves token_view rules n s m → m.bindings ≡ 2 ^ 32 - 1 → HeaderLacks rules s n m
  header_lacks n m s h last =
      let l = lacking h.lacks in
      record {
        name = h.name;
        name_read = h.named;
        options = h.options;
        options_apart = h.distinct;
        place = l.place;
        numbered = l.numbered;
        counters = l.counters;
        kind = l.kind;
        begin = l.begin;
        prefixed = l.prefixed;
        is_parameter = l.is_parameter;
        at_end = last;
      }

-- after names that got their numbers one comes next for which no number is left, with these counters
pub record Naming (from : NamePlace) (m : Counters) : Type 0 where
  pub place : NamePlace
  pub named : AreNamed from place
  pub counters : place.0 ≡ m
  pub is_name : IsOk (numbered_name place)

pub naming : {x : NamePlace} {m : Counters} → LacksName token_leaves x m → Naming x m
naming (parts.name_lacks {x = x} reads) = record { place = x; named = no_name; counters = refl; is_name = reads refl }
naming (parts.later_lacks is taken lacks) =
    let l = naming lacks in
    record { place = l.place; named = a_name is taken l.named; counters = l.counters; is_name = l.is_name }

-- a recipe that gets no number
pub recipe_lacks : {ws : List ReadAttribute} {header : State} (n m : Counters) (s : State) → attributes_at s ≡ Ok (ws, header) → (found : Read (WrittenItem Tok Tok ℕ Tok × Counters))
    → any_recipe token_leaves token_attributes ws n header ≡ found → IsOk found → IfOk found (λ y. y.0.1 ≡ with_recipes (m.recipes + 1) m) → m.recipes ≡ 2 ^ 32 - 1
    → LacksRecipe s n m
recipe_lacks {ws} {header} n m s before (Ok y) is has counts last =
    record {
      attributes = ws;
      header = header;
      attributes_read = before;
      recipe = y.0.0;
      rest = y.1;
      is_recipe = is ∙ ap (λ (c : Counters). Ok ((y.0.0, c), y.1)) counts;
      at_end = last;
    }
recipe_lacks n m s before (Err e) is has counts last = cc
