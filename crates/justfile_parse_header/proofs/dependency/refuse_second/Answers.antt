use Rattle.std.proofs.Common.{◌≡◌, ◌++◌, ◌∷◌, [], false, List, map, Some, None}
use Rattle.justfile_token.specs.declared.fault.Fault.TheVariants as faults
use Rattle.justfile_model.specs.Meanings.RecipeRules.{stars}
use Rattle.justfile_parse_expression.specs.Significant.{TableToken}
use Rattle.justfile_parse_header.specs.HeaderTable.{second_from}
use Rattle.justfile_parse_header.specs.Tree.{read_argument}
use Rattle.justfile_parse_header.proofs.Stars.{one_star, refuses_second, second_fails}
use Rattle.justfile_parse_header.proofs.dependency.refuse_second.Goals as goal

pub returns-in-None : goal.returns-in-None
returns-in-None c =
    let all : List TableToken = stars (map read_argument c.args.before.now) ++ c.args.star ∷ [] in
    let found : second_from false all ≡ None = cc in
    λ s. one_star s all found

pub returns-in-Some : goal.returns-in-Some
returns-in-Some c =
    let all : List TableToken = stars (map read_argument c.args.before.now) ++ c.args.star ∷ [] in
    let second : TableToken = (c.in-Some.second, c.in-Some.field-0-1) in
    let found : second_from false all ≡ Some second = cc in
    λ s. second_fails s (faults.Compile c.error.result) c.rule_error.result c.rule_error.ensures all second found
    (refuses_second second c.error.result c.error.ensures.token c.error.ensures.kind)
