-- The names that could be meant.
use Rattle.std.proofs.Common.{◌≡◌, ◌∙◌, ◌++◌, ℕ, List, [], Option, ap, option_to_list}
use Rattle.std.specs.List.{find, flat_map}
use Rattle.justfile_problems.specs.declared.facts.Definition.{Definition}
use Rattle.justfile_problems.specs.declared.facts.Use.{Use}
use Rattle.justfile_problems.specs.declared.problem.Problem.{Problem}
use Rattle.justfile_findings.specs.Suggestions.{built_in, is_at, meant, names_for}

-- those that the file defines, and those that are built in
pub both : (none defined all : List (List ℕ)) (used : Option Use) (definitions : List Definition) (uses : List Use) (problem : Problem) → none ≡ [] → used ≡ find (is_at problem) uses
    → defined ≡ none ++ flat_map (λ d. option_to_list (meant problem used d)) definitions → all ≡ defined ++ built_in problem.what → all ≡ names_for definitions uses problem
both none defined all used definitions uses problem is_none is_used are whole =
    whole ∙ ap (λ (l : List (List ℕ)). l ++ built_in problem.what)
    (are ∙ ap (λ (l : List (List ℕ)). l ++ flat_map (λ d. option_to_list (meant problem used d)) definitions) is_none
    ∙ ap (λ (u : Option Use). flat_map (λ d. option_to_list (meant problem u d)) definitions) is_used)
