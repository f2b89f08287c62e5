use Rattle.std.proofs.Common.{drop}
use Rattle.justfile_scan.specs.WhiteRun.{IsRunOf}
use Rattle.justfile_lex.proofs.LexerLemmas.{left}
use Rattle.justfile_lex.proofs.Runs.{Runs}
use Rattle.justfile_lex.proofs.lexer.Lexer.lex.Given as goal

abbrev pub invariant-tokens : goal.invariant-tokens
invariant-tokens l = record { runs : Runs l.path l.src l.tokens.items l.lexer; run : IsRunOf (drop l.lexer.offset l.lexer.src.now) l.run }

abbrev pub decreases-tokens : goal.decreases-tokens
decreases-tokens l = left l.lexer
