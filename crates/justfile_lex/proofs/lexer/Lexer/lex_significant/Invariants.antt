use Rattle.std.proofs.Common.{drop}
use Rattle.justfile_scan.specs.WhiteRun.{IsRunOf}
use Rattle.justfile_lex.proofs.LexerLemmas.{left}
use Rattle.justfile_lex.proofs.Runs.{ReadsTable}
use Rattle.justfile_lex.proofs.lexer.Lexer.lex_significant.Given as goal

abbrev pub invariant-tokens : goal.invariant-tokens
invariant-tokens l = record { reads : ReadsTable l.path l.src l.lexer l.glued l.table.items; run : IsRunOf (drop l.lexer.offset l.lexer.src.now) l.run }

abbrev pub decreases-tokens : goal.decreases-tokens
decreases-tokens l = left l.lexer
