-- The functions whose calls need the setting `lists`.
use Rattle.std.proofs.Common.{◌≡◌, ℕ, Bool, true, false, List, codes, Option, Some, if◌then◌else◌, refl, sym, subst}
use Rattle.std.specs.Option.{is_some}
use Rattle.std.specs.Str.{bytes_eq}
use Rattle.std.proofs.lemmas.Slice.Eq.{bytes_eq-Decides}
use Rattle.justfile_vocabulary.specs.declared.list_feature.ListFeature.{ListFeature}
use Rattle.justfile_model.specs.Grammars.Features.{function_feature}
use Rattle.justfile_builtins.specs.Functions.{arguments_of}

-- a name that is this word or uses the feature otherwise
step : (name word : List ℕ) (found : ListFeature) (rest : Option ListFeature) (feature : ListFeature) (same : Bool) → bytes_eq name word ≡ same
    → is_some (arguments_of word) ≡ true → (rest ≡ Some feature → is_some (arguments_of name) ≡ true)
    → (if same then Some found else rest) ≡ Some feature → is_some (arguments_of name) ≡ true
step name word found rest feature true e known others is = subst (λ (w : List ℕ). is_some (arguments_of w) ≡ true) (sym ((bytes_eq-Decides name word).0 e)) known
step name word found rest feature false e known others is = others is

pub has_list_functions : (name : List ℕ) (feature : ListFeature) → function_feature name ≡ Some feature → is_some (arguments_of name) ≡ true
unfolding arguments_of
has_list_functions name feature =
    step name (codes "bool") _ _ feature _ refl refl
    (step name (codes "join_list") _ _ feature _ refl refl
    (step name (codes "num_jobs") _ _ feature _ refl refl
    (step name (codes "show") _ _ feature _ refl refl
    (step name (codes "split") _ _ feature _ refl refl
    (step name (codes "which") _ _ feature _ refl refl (λ e. cc))))))
