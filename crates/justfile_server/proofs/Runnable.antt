-- What can be run among one more item.
use Rattle.std.proofs.Common.{◌≡◌, ◌∙◌, ◌+◌, ◌<◌, ℕ, List, [], ◌∷◌, ◌++◌, length, map, take, get_or, Option, None, Some, refl, sym, ap}
use Rattle.std.specs.List.{cons_option, filter_map}
use Rattle.std.specs.Option.{option_to_list}
use Rattle.std.proofs.lemmas.List.{map-append, take_more}
use Rattle.std.proofs.lemmas.List.Elements.{filter_map-append}
use Rattle.justfile_token.specs.declared.token.Token.{Token}
use Rattle.justfile_item.specs.declared.item.Item.{Item}
use Rattle.justfile_server.specs.Runs.{Ran, runnable, to_run}

one : (o : Option Token) → option_to_list o ≡ cons_option o []
one None = refl
one (Some t) = refl

pub runs_more : (items : List Item) (i : ℕ) (item : Item) (name : Option Token) (old new : List Ran) → i < length items → item ≡ get_or items i item → name ≡ runnable item
    → old ≡ map to_run (filter_map runnable (take i items)) → new ≡ old ++ map to_run (option_to_list name) → new ≡ map to_run (filter_map runnable (take (i + 1) items))
runs_more items i item name old new inside at named before made =
    made
    ∙ ap (λ (l : List Ran). l ++ map to_run (option_to_list name)) before
    ∙ ap (λ (o : Option Token). map to_run (filter_map runnable (take i items)) ++ map to_run (option_to_list o)) named
    ∙ ap (λ (l : List Token). map to_run (filter_map runnable (take i items)) ++ map to_run l) (one (runnable item))
    ∙ sym (map-append to_run (filter_map runnable (take i items)) (cons_option (runnable item) []))
    ∙ ap (map to_run) (sym (filter_map-append runnable (take i items) (item ∷ [])))
    ∙ ap (λ (l : List Item). map to_run (filter_map runnable l)) (ap (λ (y : Item). take i items ++ y ∷ []) at ∙ sym (take_more items i item inside))
