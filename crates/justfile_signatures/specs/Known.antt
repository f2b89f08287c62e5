-- The parameters of what a justfile defines.
use Rattle.std.specs.Prelude.{ℕ, ◌==◌, ◌&&◌, Bool, true, false, not, List, [], ◌∷◌, Option, None, Some, cond, drop, map, string_bytes}
use Rattle.std.specs.List.{filter_map, prefix_len, take_while}
use Rattle.std.specs.Str.{bytes_eq}
use Rattle.editor_language.specs.Mentions.{role_number}
use Rattle.editor_language.specs.declared.mention.Mention.{Mention}
use Rattle.editor_language.specs.declared.mention.Role.TheVariants.{Function, Parameter, Recipe}
use denote.Ref.{Bor}

abbrev pub shown : List (Bor (List ℕ)) → List (List ℕ)
shown names = map (λ (n : Bor (List ℕ)). n.now) names

-- what a called name stands for
abbrev pub called_number : (is_recipe : Bool) → ℕ
called_number true = role_number Recipe
called_number false = role_number Function

-- the mention defines what is called so
abbrev pub is_definition : (name : List ℕ) (is_recipe : Bool) → Mention → Bool
is_definition name is_recipe m = m.defines && role_number m.role == called_number is_recipe && bytes_eq (string_bytes m.name) name

-- the mentions from that one on
abbrev pub from_definition : (name : List ℕ) (is_recipe : Bool) → List Mention → List Mention
from_definition name is_recipe mentions = drop (prefix_len (λ m. not (is_definition name is_recipe m)) mentions) mentions

-- the mention defines something that is no parameter
abbrev pub is_other : Mention → Bool
is_other m = m.defines && not (role_number m.role == role_number Parameter)

-- the mentions before something else is defined
abbrev pub own : List Mention → List Mention
own mentions = take_while (λ m. not (is_other m)) mentions

-- the parameter that a mention defines, if it defines one
abbrev pub parameter_name : Mention → Option (List ℕ)
parameter_name m = cond (m.defines && role_number m.role == role_number Parameter) (Some (string_bytes m.name)) None

-- those that are defined after the first of these
abbrev pub parameters_after : List Mention → Option (List (List ℕ))
parameters_after [] = None
parameters_after (definition ∷ mentions) = Some (filter_map parameter_name (own mentions))

-- the parameters of what is called so, if it is defined: those that are defined after it and before anything else
abbrev pub parameters_of : (name : List ℕ) (is_recipe : Bool) → List Mention → Option (List (List ℕ))
parameters_of name is_recipe mentions = parameters_after (from_definition name is_recipe mentions)
