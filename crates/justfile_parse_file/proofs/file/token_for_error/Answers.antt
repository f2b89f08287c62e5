use Rattle.std.proofs.Common.{◌-◌, Option, get_or, length, subst, sym, arith}
use Rattle.justfile_parse_expression.specs.Significant.{TableToken}
use Rattle.justfile_parse_file.specs.MethodResults.{IsNextPlace}
use Rattle.justfile_parse_file.proofs.Tables.{in_table, last_at}
use Rattle.justfile_parse_file.proofs.file.token_for_error.Goals as goal

pub returns-in-None : goal.returns-in-None
returns-in-None c =
    let table = c.args.tokens.now in
    let d = c.index-tokens-tokens.result in
    let P : Option TableToken → Type 0 = λ next. IsNextPlace table next (get_or table (length table - 1) d).0 in
    subst P (sym c.in-None.is) (in_table table (length table - 1) d (omega (arith, c.requires)), last_at table d c.requires)
