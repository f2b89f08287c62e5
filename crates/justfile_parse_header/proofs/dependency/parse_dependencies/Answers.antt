use Rattle.std.proofs.Common.{◌∙◌, sym}
use Rattle.std.proofs.lemmas.Result.{err_from_is_err_and}
use Rattle.justfile_model.proofs.Readers.HeaderReading.{dependency_goes}
use Rattle.justfile_parse_expression.specs.View.{state_of}
use Rattle.justfile_parse_expression.specs.TableReader.{leaves}
use Rattle.justfile_parse_base.proofs.Progress.{shrinks}
use Rattle.justfile_parse_header.specs.HeaderTable.{dependency}
use Rattle.justfile_parse_header.specs.Tree.{dependency_tree}
use Rattle.justfile_parse_header.proofs.Dependencies.{dependencies_err}
use Rattle.justfile_parse_header.proofs.dependency.parse_dependencies.Goals as goal

pub dependencies-smaller : goal.dependencies-smaller
dependencies-smaller g c =
    let A = g.X.Expander.answer in
    let s = state_of A c.dependencies.parser in
    shrinks A c.dependencies.parser c.parse_dependency.new.parser (dependency s) (dependency_tree c.in_ok-dependency.dependency) (dependency_goes leaves s) c.in_ok-dependency.ensures

pub returns-in_err-dependency : goal.returns-in_err-dependency
returns-in_err-dependency g c =
    let A = g.X.Expander.answer in
    let p = err_from_is_err_and c.from_residual.result c.from_residual.ensures.1 in
    rw (p.1, p.2)
    (dependencies_err c.args.dependencies.now.items c.dependencies.dependencies.items (state_of A c.args.parser.now) (state_of A c.dependencies.parser)
    c.dependencies.invariant (sym c.begins_dependency.ensures ∙ c.if-not-begins_dependency.false)
    c.in_err-dependency.field-0.0 (state_of A c.parse_dependency.new.parser) c.in_err-dependency.ensures)
