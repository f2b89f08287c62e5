use Rattle.std.proofs.Common.{◌≡◌, ◌<◌, sym, subst, List, [], map, None}
use Rattle.std.proofs.lemmas.Result.{err_from_is_err_and}
use Rattle.justfile_vocabulary.specs.declared.token_kind.TokenKind.TheVariants as kinds
use Rattle.justfile_model.proofs.Readers.HeaderReading.{dependency_argument_goes}
use Rattle.justfile_parse_base.specs.ParseErrors.{IsParseError}
use Rattle.justfile_parse_base.proofs.Progress.{shrinks}
use Rattle.justfile_parse_expression.specs.TableReader.{accept, leaves}
use Rattle.justfile_parse_expression.specs.View.{state_of, tokens_left}
use Rattle.justfile_parse_expression.specs.declared.parser_state.ParserState.{ParserState}
use Rattle.justfile_parse_header.specs.HeaderTable.{dependency_argument, dependency_arguments}
use Rattle.justfile_parse_header.specs.Tree.{read_argument}
use Rattle.justfile_parse_header.specs.declared.dependency.ReadArgument.{ReadArgument}
use Rattle.justfile_parse_header.proofs.Dependencies.{arguments_fail}
use Rattle.justfile_parse_header.proofs.dependency.parse_arguments.Goals as goal

pub arguments-smaller : goal.arguments-smaller
arguments-smaller g c =
    let A = g.X.Expander.answer in
    let q = c.accept.new.self in
    let s = state_of A q in
    let before = map read_argument c.as_slice.result.now in
    let P : ParserState _ → Type 0 = λ p. tokens_left c.parse_argument.new.parser < tokens_left p in
    subst P c.in_default.ensures.moves
    (shrinks A q c.parse_argument.new.parser (dependency_argument before s) (read_argument c.in_ok-argument.argument) (dependency_argument_goes leaves before s) c.in_ok-argument.ensures)

pub returns-in_err-argument : goal.returns-in_err-argument
returns-in_err-argument g c =
    let A = g.X.Expander.answer in
    let s = state_of A c.args.parser.now in
    let q = state_of A c.accept.new.self in
    let done = c.arguments.arguments.items in
    let error = c.in_err-argument.field-0.0 in
    let left = state_of A c.parse_argument.new.parser in
    let p = err_from_is_err_and c.from_residual.result c.from_residual.ensures.1 in
    let P : ParserState _ → Type 0 = λ p. dependency_arguments (map read_argument done, state_of A p) ≡ dependency_arguments ([], s) in
    let Q : ParserState _ → Type 0 = λ p. accept kinds.ParenR (state_of A p) ≡ None in
    let R : List ReadArgument → Type 0 = λ l. IsParseError error left ⊥ (dependency_argument (map read_argument l) q) in
    let here = sym c.in_default.ensures.moves in
    rw (p.1, p.2)
    (arguments_fail done s q (subst P here c.arguments.invariant) (subst Q here c.in_default.ensures.takes) error left
    (subst R c.as_slice.ensures.value c.in_err-argument.ensures))
