use Rattle.std.proofs.Common.{ap, ◌∙◌, sym, subst, List, map, All, Contains}
use Rattle.std.proofs.lemmas.Result.{IfErr-weaker, IfOk-weaker}
use Rattle.justfile_model.specs.Lexing.Tok.{tok_of}
use Rattle.justfile_parse_expression.specs.FormatStrings.{IsTable}
use Rattle.justfile_parse_expression.specs.Significant.{TableToken, significant_of}
use Rattle.justfile_parse_expression.specs.Conditions.{conditions_of}
use Rattle.justfile_parse_file.proofs.FormatStrings.{ended_lex}
use Rattle.justfile_parse_file.proofs.Parsed.{module_path_of, nonempty, parsed_of, sound_lex, unparsed_of, working_directory_of}
use Rattle.justfile_lex.proofs.TableLemmas.{table_tokens_among}
use Rattle.justfile_parse_file.proofs.file.parse.Goals as goal

pub parse_significant-requires : goal.parse_significant-requires
parse_significant-requires g c =
    let table = c.in_ok-table.table.items in
    let is = c.in_ok-table.ensures.marked in
    subst IsTable (sym c.as_slice.ensures.value)
    (nonempty c.requires.text (map tok_of c.args.tokens.now) table c.requires.lexed is, sound_lex c.args.tokens.now table c.requires is, ended_lex c.args.tokens.now table c.requires is)

pub returns-clause-unparsed : goal.returns-clause-unparsed
returns-clause-unparsed g c =
    let Q : List TableToken → Type 0 = λ t. All (λ table_token. Contains c.args.tokens.now table_token.0) t in
    IfErr-weaker c.parse_significant.result _ _
    (unparsed_of (conditions_of g.X.Expander.answer c.args.expander.now c.args.current c.args.limit) c.args.tokens.now c.as_slice.result.now c.args.numerator.now c.parse_significant.new.numerator
    (ap (map significant_of) c.as_slice.ensures.value ∙ c.in_ok-table.ensures.marked)
    (subst Q (sym c.as_slice.ensures.value) (table_tokens_among c.args.tokens.now c.in_ok-table.table.items c.in_ok-table.ensures)))
    c.parse_significant.ensures.unread

pub returns-clause-parsed : goal.returns-clause-parsed
returns-clause-parsed g c =
    let Q : List TableToken → Type 0 = λ t. All (λ table_token. Contains c.args.tokens.now table_token.0) t in
    IfOk-weaker c.parse_significant.result _ _
    (parsed_of (conditions_of g.X.Expander.answer c.args.expander.now c.args.current c.args.limit) c.args.tokens.now c.as_slice.result.now c.args.numerator.now c.parse_significant.new.numerator
    (ap (map significant_of) c.as_slice.ensures.value ∙ c.in_ok-table.ensures.marked)
    (subst Q (sym c.as_slice.ensures.value) (table_tokens_among c.args.tokens.now c.in_ok-table.table.items c.in_ok-table.ensures)) _)
    c.parse_significant.ensures.file

pub returns-clause-module_path : goal.returns-clause-module_path
returns-clause-module_path g c = module_path_of _ _ _ _ _ c.parse_significant.result c.parse_significant.ensures.file

pub returns-clause-working_directory : goal.returns-clause-working_directory
returns-clause-working_directory g c = working_directory_of _ _ _ _ _ c.parse_significant.result c.parse_significant.ensures.file
