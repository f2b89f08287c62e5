use Rattle.std.proofs.Common.{◌∙◌, sym, ap, subst, List, map, All, Contains}
use Rattle.std.proofs.lemmas.Result.{err_from_is_err_and, IfErr-weaker, IfOk-weaker}
use Rattle.justfile_model.specs.Lexing.SignificantTokens.{SignificantToken, identifiers, significant_tokens}
use Rattle.justfile_model.specs.Lexing.Tok.{tok_of}
use Rattle.justfile_model.proofs.Lexing.LexedLaws.{one_list}
use Rattle.justfile_parse_expression.specs.Conditions.{conditions_of}
use Rattle.justfile_parse_expression.specs.FormatStrings.{IsTable}
use Rattle.justfile_parse_expression.specs.Significant.{TableToken, significant_of}
use Rattle.justfile_lex.proofs.TableLemmas.{table_tokens_among}
use Rattle.justfile_parse_docs.specs.ParsedItems.{CountersMoved}
use Rattle.justfile_parse_file.proofs.FormatStrings.{ended_lex}
use Rattle.justfile_parse_file.proofs.Parsed.{lexical, lexed_once, module_path_of, no_tree, nonempty, parsed_of, sound_lex, text_parsed, unparsed_of, working_directory_of}
use Rattle.justfile_parse_file.proofs.file.parse_source.Goals as goal

pub parse_significant-requires : goal.parse_significant-requires
parse_significant-requires g c =
    let table = c.in_ok-table.table.items in
    let t = c.in_ok-table.ensures.table in
    let one = lexed_once c.args.path.now c.args.src.now c.utf8.src t.tokens t.lexed t.sources in
    let is = t.significant.marked in
    subst IsTable (sym c.as_slice.ensures.value) (nonempty c.args.src.now (map tok_of t.tokens) table t.lexed is, sound_lex t.tokens table one is, ended_lex t.tokens table one is)

pub returns-clause-no_tree : goal.returns-clause-no_tree
returns-clause-no_tree g c =
    let t = c.in_ok-table.ensures.table in
    let Q : List TableToken → Type 0 = λ table_tokens. All (λ table_token. Contains t.tokens table_token.0) table_tokens in
    let conditions = conditions_of g.X.Expander.answer c.args.expander.now c.args.current c.args.limit in
    let old = c.args.numerator.now in
    let new = c.parse_significant.new.numerator in
    IfErr-weaker c.parse_significant.result _ _
    (λ fault h. no_tree conditions c.args.path.now c.args.src.now c.utf8.src t.tokens t.lexed t.sources old new fault
    (unparsed_of conditions t.tokens c.as_slice.result.now old new (ap (map significant_of) c.as_slice.ensures.value ∙ t.significant.marked)
    (subst Q (sym c.as_slice.ensures.value) (table_tokens_among t.tokens c.in_ok-table.table.items t.significant)) fault h))
    c.parse_significant.ensures.unread

pub returns-clause-parsed : goal.returns-clause-parsed
returns-clause-parsed g c =
    let t = c.in_ok-table.ensures.table in
    let Q : List TableToken → Type 0 = λ table_tokens. All (λ table_token. Contains t.tokens table_token.0) table_tokens in
    let conditions = conditions_of g.X.Expander.answer c.args.expander.now c.args.current c.args.limit in
    let old = c.args.numerator.now in
    let new = c.parse_significant.new.numerator in
    IfOk-weaker c.parse_significant.result _ _
    (λ ast h. text_parsed conditions c.args.path.now c.args.src.now c.utf8.src t.tokens t.lexed t.sources old new c.args.source.now.file_depth c.args.source.now.import_offsets.now ast
    (parsed_of conditions t.tokens c.as_slice.result.now old new (ap (map significant_of) c.as_slice.ensures.value ∙ t.significant.marked)
    (subst Q (sym c.as_slice.ensures.value) (table_tokens_among t.tokens c.in_ok-table.table.items t.significant)) c.args.source.now ast h))
    c.parse_significant.ensures.file

pub returns-clause-moved : goal.returns-clause-moved
returns-clause-moved g c tokens lexed =
    let t = c.in_ok-table.ensures.table in
    let Q : List SignificantToken → Type 0 = λ us. CountersMoved c.args.numerator.now c.parse_significant.new.numerator (identifiers us) in
    let is = ap (map significant_of) c.as_slice.ensures.value ∙ t.significant.marked ∙ ap significant_tokens (one_list c.args.src.now _ tokens t.lexed lexed) in
    subst Q is c.parse_significant.ensures.moved

pub returns-in_err-table-clause-no_tree : goal.returns-in_err-table-clause-no_tree
returns-in_err-table-clause-no_tree g c =
    let p = err_from_is_err_and c.from_residual.result c.from_residual.ensures.1 in
    rw (p.1, p.2) (lexical (conditions_of g.X.Expander.answer c.args.expander.now c.args.current c.args.limit) c.args.path.now c.args.src.now c.args.numerator.now c.in_err-table.field-0.0 c.in_err-table.ensures.fault)

pub returns-clause-constants : goal.returns-clause-constants
returns-clause-constants g c = c.parse_significant.ensures.moved.constants

pub returns-clause-unmoved : goal.returns-clause-unmoved
returns-clause-unmoved g c none =
    let t = c.in_ok-table.ensures.table in
    absurd (none (map tok_of t.tokens) t.lexed)

pub returns-clause-module_path : goal.returns-clause-module_path
returns-clause-module_path g c = module_path_of _ _ _ _ _ c.parse_significant.result c.parse_significant.ensures.file

pub returns-clause-working_directory : goal.returns-clause-working_directory
returns-clause-working_directory g c = working_directory_of _ _ _ _ _ c.parse_significant.result c.parse_significant.ensures.file
