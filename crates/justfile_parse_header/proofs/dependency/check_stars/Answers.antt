use Rattle.std.proofs.Common.{◌≡◌, subst, List, Option, map, Some, None}
use Rattle.justfile_token.specs.declared.fault.Fault.TheVariants as faults
use Rattle.justfile_model.specs.Meanings.Meaning.{first_of}
use Rattle.justfile_model.specs.Meanings.RecipeRules.{stars}
use Rattle.justfile_parse_base.specs.ParseErrors.{IsParseError}
use Rattle.justfile_parse_expression.specs.Significant.{TableToken}
use Rattle.justfile_parse_header.specs.Tree.{read_argument}
use Rattle.justfile_parse_header.proofs.Stars.{missing_fails, outside_fails, place_checked, refuses_missing, refuses_outside}
use Rattle.justfile_parse_header.proofs.dependency.check_stars.Goals as goal

pub returns-in-None-Some : goal.returns-in-None-Some
returns-in-None-Some c =
    let all : List TableToken = stars (map read_argument c.args.arguments.now) in
    let first : TableToken = (c.in-None-Some.first, c.in-None-Some.field-0-1-1) in
    let none : None ≡ c.args.star = cc in
    let found : first_of all ≡ Some first = cc in
    λ s. subst (λ (o : Option TableToken). IsParseError c.rule_error.result s ⊥ (place_checked s o all)) none
    (outside_fails s (faults.Compile c.error.result) c.rule_error.result c.rule_error.ensures all first found
    (refuses_outside first c.error.result c.error.ensures.token c.error.ensures.kind))

pub returns-in-Some-None : goal.returns-in-Some-None
returns-in-Some-None c =
    let all : List TableToken = stars (map read_argument c.args.arguments.now) in
    let star : TableToken = (c.in-Some-None.star, c.in-Some-None.field-0-1-0) in
    let there : Some star ≡ c.args.star = cc in
    let found : first_of all ≡ None = cc in
    let error = c.error-in-Some-None in
    let failure = c.rule_error-in-Some-None in
    λ s. subst (λ (o : Option TableToken). IsParseError failure.result s ⊥ (place_checked s o all)) there
    (missing_fails s (faults.Compile error.result) failure.result failure.ensures star all found (refuses_missing star error.result error.ensures.token error.ensures.kind))
