-- What is wrong with a justfile.
use Rattle.std.specs.Prelude.{◌++◌, Bool, IsPermutation, List}
use Rattle.std.specs.List.{flat_map}
use Rattle.std.specs.List.Sorted.{IsNonDecreasingBy}
use Rattle.justfile_problems.specs.Circular.{AreCirclesOf}
use Rattle.justfile_problems.specs.declared.circular.Circle.{Circle}
use Rattle.justfile_problems.specs.Problems.{all_problems}
use Rattle.justfile_problems.specs.declared.problem.Problem.{Problem}
use Rattle.justfile_ast.specs.declared.ast.Ast.{Ast}
use Rattle.justfile_facts.specs.Definitions.{item_definitions}
use Rattle.justfile_facts.specs.Facts.{AreFactsOf}
use Rattle.justfile_facts.specs.Rules.{rules_of}
use Rattle.justfile_facts.specs.Suspects.{item_suspects, noted}
use Rattle.justfile_facts.specs.Uses.{item_uses}
use Rattle.justfile_lint.specs.declared.file.Findings.{Findings}

-- all that is wrong with a file; `imported` is whether another file may import it
abbrev pub problems_of : (imported : Bool) → Ast → List Problem
problems_of imported ast =
    let items = ast.items.items in
    all_problems (rules_of imported items) (flat_map item_definitions items) (flat_map item_uses items) (flat_map item_suspects items ++ flat_map noted ast.list_features.items)

-- the circles of a file
abbrev pub AreCirclesIn : Ast → List Circle → Type 0
AreCirclesIn ast = AreCirclesOf (flat_map item_definitions ast.items.items) (flat_map item_uses ast.items.items)

-- what the file says of names, all problems, in the order of the text, and the circles
pub record AreFindingsOf (imported : Bool) (ast : Ast) (found : Findings) : Type 0 where
  pub facts : AreFactsOf imported ast.items.items ast.list_features.items found.facts
  pub all : IsPermutation (problems_of imported ast) found.problems.items
  pub in_order : IsNonDecreasingBy (λ p. p.token.offset) found.problems.items
  pub circles : AreCirclesIn ast found.circles.items
