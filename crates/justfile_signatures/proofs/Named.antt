-- The parameters of one more mention.
use Rattle.std.proofs.Common.{◌≡◌, ◌∙◌, ◌+◌, ◌<◌, ℕ, List, [], ◌∷◌, ◌++◌, length, take, get_or, Option, None, Some, refl, sym, ap}
use Rattle.std.specs.List.{cons_option, filter_map}
use Rattle.std.specs.Option.{option_to_list}
use Rattle.std.proofs.lemmas.List.{take_more}
use Rattle.std.proofs.lemmas.List.Elements.{filter_map-append}
use Rattle.editor_language.specs.declared.mention.Mention.{Mention}
use Rattle.justfile_signatures.specs.Known.{parameter_name}

one_named : (o : Option (List ℕ)) → option_to_list o ≡ cons_option o []
one_named None = refl
one_named (Some t) = refl

pub named_more : (ms : List Mention) (i : ℕ) (m : Mention) (old new : List (List ℕ)) → i < length ms → m ≡ get_or ms i m → old ≡ filter_map parameter_name (take i ms)
    → new ≡ old ++ option_to_list (parameter_name m) → new ≡ filter_map parameter_name (take (i + 1) ms)
named_more ms i m old new inside at before made =
    made
    ∙ ap (λ (l : List (List ℕ)). l ++ option_to_list (parameter_name m)) before
    ∙ ap (λ (l : List (List ℕ)). filter_map parameter_name (take i ms) ++ l) (one_named (parameter_name m))
    ∙ sym (filter_map-append parameter_name (take i ms) (m ∷ []))
    ∙ ap (filter_map parameter_name) (ap (λ (y : Mention). take i ms ++ y ∷ []) at ∙ sym (take_more ms i m inside))
