-- The texts of parameters and dependencies, by their parts.
use Rattle.std.proofs.Common.{◌≡◌, ℕ, Bool, List, [], ◌∷◌, ◌++◌, map, codes, length, refl, sym, ap, ◌∙◌, arith}
use Rattle.std.specs.List.{flat_map}
use Rattle.std.specs.Option.{option_map}
use Rattle.justfile_token.specs.Name.{name_text}
use Rattle.justfile_token.specs.Namepath.{names_in, namepath_text}
use Rattle.justfile_token.specs.Path.{path_text, separated_name}
use Rattle.justfile_token.specs.declared.name.Name.{Name}
use Rattle.justfile_model.specs.Printed.Printing as printing
use Rattle.justfile_model.specs.Printed.Printing.{fixed_text, dependency_argument_text}
use Rattle.justfile_model.specs.Trees.Tree.{over_dependency_argument, lexeme, nothing}
use Rattle.justfile_recipe_header.specs.Header.{argument_text, call_text, dependencies_text, dependency_argument_of, dependency_text_of, is_starred, name_of, names_text, parameter_text_of, parameters_text, star_of, star_text, subsequents_text_of}
use Rattle.justfile_recipe_header.specs.declared.parameter.Parameter.{Parameter}
use Rattle.justfile_recipe_header.specs.declared.unresolved_dependency.DependencyArgument.{DependencyArgument}
use Rattle.justfile_recipe_header.specs.declared.unresolved_dependency.UnresolvedDependency.{UnresolvedDependency}

pub parameters_parts : (parameters : List Parameter) → flat_map (λ p. fixed_text (codes " ") ++ parameter_text_of p) parameters ≡ parameters_text parameters
parameters_parts [] = refl
parameters_parts (p ∷ parameters) = ap (λ t. (fixed_text (codes " ") ++ parameter_text_of p) ++ t) (parameters_parts parameters)

pub dependencies_parts : (dependencies : List UnresolvedDependency)
    → flat_map (λ d. fixed_text (codes " ") ++ dependency_text_of d) dependencies ≡ dependencies_text dependencies
dependencies_parts [] = refl
dependencies_parts (d ∷ dependencies) = ap (λ t. (fixed_text (codes " ") ++ dependency_text_of d) ++ t) (dependencies_parts dependencies)

-- the names after the first
names_rest : (names : List Name) → flat_map (λ n. codes "::" ++ name_text n) names ≡ flat_map separated_name (map name_text names)
names_rest [] = refl
names_rest (n ∷ names) = ap (λ t. (codes "::" ++ name_text n) ++ t) (names_rest names)

pub names_parts : (names : List Name) (first : Name) (rest : List Name) → names ≡ first ∷ rest
    → name_text first ++ flat_map (λ n. fixed_text (codes "::") ++ name_text n) rest ≡ names_text names
unfolding fixed_text
names_parts names first rest e = ap (λ t. name_text first ++ t) (names_rest rest) ∙ ap names_text (sym e)

lexemes : (names : List Name) → map lexeme (map name_of names) ≡ map name_text names
lexemes [] = refl
lexemes (n ∷ names) = ap (λ ns. name_text n ∷ ns) (lexemes names)

arguments_parts : (arguments : List DependencyArgument)
    → flat_map dependency_argument_text (map (over_dependency_argument lexeme nothing (λ star. star)) (map dependency_argument_of arguments))
    ≡ flat_map (λ a. fixed_text (codes " ") ++ argument_text a) arguments
unfolding fixed_text
arguments_parts [] = refl
arguments_parts (a ∷ arguments) = ap (λ t. (fixed_text (codes " ") ++ argument_text a) ++ t) (arguments_parts arguments)

-- in parentheses if there are arguments
parenthesized_parts : (starred : Bool) (path path' : List ℕ) → path ≡ path' → (arguments : List DependencyArgument) → (arguments ≡ [] → ⊥)
    → printing.parenthesized (option_map (λ star. star) (star_of starred)) path (map (over_dependency_argument lexeme nothing (λ star. star)) (map dependency_argument_of arguments))
    ≡ star_text starred ++ fixed_text (codes "(") ++ path' ++ flat_map (λ a. fixed_text (codes " ") ++ argument_text a) arguments ++ fixed_text (codes ")")
parenthesized_parts starred path path' e [] some = absurd (some refl)
parenthesized_parts starred path path' e (a ∷ arguments) some =
    λ i. star_text starred ++ fixed_text (codes "(") ++ e i ++ arguments_parts (a ∷ arguments) i ++ fixed_text (codes ")")

pub call_parts : (d : UnresolvedDependency) → (d.arguments.items ≡ [] → ⊥) → call_text d ≡ dependency_text_of d
call_parts d some = sym (parenthesized_parts (is_starred d) _ _ (ap path_text (lexemes (names_in d.recipe))) d.arguments.items some)

parenthesized_none : (starred : Bool) (path path' : List ℕ) → path ≡ path' → (arguments : List DependencyArgument) → arguments ≡ []
    → printing.parenthesized (option_map (λ star. star) (star_of starred)) path (map (over_dependency_argument lexeme nothing (λ star. star)) (map dependency_argument_of arguments))
    ≡ path'
parenthesized_none starred path path' e [] none = e
parenthesized_none starred path path' e (a ∷ arguments) none = absurd cc

pub bare_parts : (d : UnresolvedDependency) → d.arguments.items ≡ [] → namepath_text d.recipe ≡ dependency_text_of d
bare_parts d none = sym (parenthesized_none (is_starred d) _ _ (ap path_text (lexemes (names_in d.recipe))) d.arguments.items none)

pub subsequents_some : (ds : List UnresolvedDependency) → (ds ≡ [] → ⊥) → fixed_text (codes " &&") ++ dependencies_text ds ≡ subsequents_text_of ds
subsequents_some [] some = absurd (some refl)
subsequents_some (d ∷ ds) some = refl

pub subsequents_none : (ds : List UnresolvedDependency) → ds ≡ [] → [] ≡ subsequents_text_of ds
subsequents_none [] none = refl
subsequents_none (d ∷ ds) none = absurd cc

-- a dependency in parentheses, by equal values of its star and its arguments
pub called : (d : UnresolvedDependency) (starred : Bool) (arguments : List DependencyArgument) → starred ≡ is_starred d → arguments ≡ d.arguments.items
    → star_text starred ++ fixed_text (codes "(") ++ namepath_text d.recipe ++ flat_map (λ a. fixed_text (codes " ") ++ argument_text a) arguments ++ fixed_text (codes ")")
    ≡ call_text d
called d starred arguments e f =
    ap (λ b. star_text b ++ fixed_text (codes "(") ++ namepath_text d.recipe ++ flat_map (λ a. fixed_text (codes " ") ++ argument_text a) arguments ++ fixed_text (codes ")")) e
    ∙ ap (λ others. star_text (is_starred d) ++ fixed_text (codes "(") ++ namepath_text d.recipe ++ flat_map (λ a. fixed_text (codes " ") ++ argument_text a) others ++ fixed_text (codes ")")) f

pub emptied : {X : Type 0} (xs : List X) → length xs ≡ 0 → xs ≡ []
emptied [] e = refl
emptied (x ∷ xs) e = absurd (omega arith)
