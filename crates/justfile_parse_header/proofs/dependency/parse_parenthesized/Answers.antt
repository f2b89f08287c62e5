use Rattle.std.proofs.Common.{◌≡◌, List, subst, map, Ok}
use Rattle.std.proofs.lemmas.Result.{err_from_is_err_and}
use Rattle.justfile_model.specs.Readers.HeaderReader.{obeying}
use Rattle.justfile_parse_base.specs.ParseErrors.{IsParseError}
use Rattle.justfile_parse_expression.specs.TableReader.{Read}
use Rattle.justfile_parse_expression.specs.View.{state_of}
use Rattle.justfile_parse_header.specs.HeaderTable.{misplaced_star}
use Rattle.justfile_parse_header.specs.Tree.{read_argument}
use Rattle.justfile_parse_base.specs.Trees.{path_tree}
use Rattle.justfile_parse_header.specs.declared.dependency.ReadArgument.{ReadArgument}
use Rattle.justfile_parse_header.proofs.Dependencies.{parenthesized_read, stars_fail}
use Rattle.justfile_parse_header.proofs.dependency.parse_parenthesized.Goals as goal

pub returns : goal.returns
returns g c =
    let A = g.X.Expander.answer in
    let rest = state_of A c.parse_arguments.new.parser in
    let UnbrokenItems : List ReadArgument → Type 0 = λ l. ◌≡◌ {A = Read (Unit {0})} (obeying (misplaced_star c.args.star (map read_argument l)) rest) (Ok (tt, rest)) in
    parenthesized_read c.args.star (state_of A c.args.parser.now) c.in_ok-expect.field-0.now (state_of A c.expect.new.self)
    (record { arguments = c.in_ok-arguments-2.arguments; recipe = c.in_ok-recipe.recipe }) (state_of A c.parse_namepath.new.parser)
    c.in_ok-arguments.arguments.items rest c.in_ok-expect.ensures.reads c.in_ok-recipe.ensures c.in_ok-arguments.ensures
    (subst UnbrokenItems c.as_slice.ensures.value (c.in_ok-check_stars.ensures rest)) c.in_ok-arguments-2.ensures

pub returns-in_err-check_stars : goal.returns-in_err-check_stars
returns-in_err-check_stars g c =
    let A = g.X.Expander.answer in
    let rest = state_of A c.parse_arguments.new.parser in
    let error = c.in_err-check_stars.field-0.0 in
    let Halted : List ReadArgument → Type 0 = λ l. IsParseError error rest ⊥ (obeying (misplaced_star c.args.star (map read_argument l)) rest) in
    let p = err_from_is_err_and c.from_residual-in_err-check_stars.result c.from_residual-in_err-check_stars.ensures.1 in
    rw (p.1, p.2)
    (stars_fail c.args.star (state_of A c.args.parser.now) c.in_ok-expect.field-0.now (state_of A c.expect.new.self)
    (path_tree c.in_ok-recipe.recipe) (state_of A c.parse_namepath.new.parser)
    c.in_ok-arguments.arguments.items rest error c.in_ok-expect.ensures.reads c.in_ok-recipe.ensures c.in_ok-arguments.ensures
    (subst Halted c.as_slice.ensures.value (c.in_err-check_stars.ensures rest)))
