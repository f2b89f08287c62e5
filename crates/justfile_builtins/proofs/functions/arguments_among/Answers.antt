use Rattle.std.specs.Borrow.{Bor}
use Rattle.std.specs.List.{find}
use Rattle.std.specs.Prelude.{map, option_map}
use Rattle.std.specs.Str.{bytes_eq}
use Rattle.std.proofs.Common.{rules, tests, ◌≡◌, Bool, true, false, List, ℕ, [], ◌∷◌, Option, Some, cond, refl}
use Rattle.std.proofs.lemmas.Iterator.{YieldsList-from_slice}
use Rattle.std.proofs.lemmas.Iterator.Search.{find_from_yields_List}
use Rattle.justfile_builtins.specs.Functions.{arguments_among}
use Rattle.justfile_builtins.specs.declared.functions.Arguments.{Arguments}
use Rattle.justfile_builtins.proofs.functions.arguments_among.Goals as goal

-- what is found among references is found among what they refer to
found : (name : List ℕ) (functions : List (Bor (List ℕ) × Arguments))
    → option_map (λ f. f.1) (find (λ f. bytes_eq name f.0.now) functions) ≡ arguments_among name (map (λ f. (f.0.now, f.1)) functions)
found name [] = refl
found name (f ∷ fs) = by (bytes_eq name f.0.now) _ _ (found name fs)
  where
    by : (same : Bool) (a : Option (Bor (List ℕ) × Arguments)) (o : Option (List ℕ × Arguments)) → option_map (λ f. f.1) a ≡ option_map (λ f. f.1) o
        → option_map (λ f. f.1) (cond same (Some f) a) ≡ option_map (λ f. f.1) (cond same (Some (f.0.now, f.1)) o)
    by true a o h = refl
    by false a o h = h

pub returns : goal.returns
returns c =
    search (
      rules,
      tests,
      found c.args.name.now c.args.functions.now,
      find_from_yields_List (λ f. bytes_eq c.args.name.now f.0.now) _ _ c.find.result c.find.ensures.ran
          (YieldsList-from_slice c.args.functions.now cc) (λ x b q k. search (rules, tests)),
    )
