use Rattle.std.proofs.Common.{sym, ap, subst}
use Rattle.justfile_model.specs.Lexing.Tok.{tok_of}
use Rattle.justfile_model.specs.Lexing.LexResult.{IsFrom}
use Rattle.justfile_model.specs.Lexing.LexicalFault.{UnterminatedInterpolation, lexical_fault_of}
use Rattle.justfile_model.specs.Lexing.Lexed.{IsFault}
use Rattle.justfile_lex.proofs.LexerLemmas.{unclosed_fault, from_open}
use Rattle.justfile_lex.proofs.lexer.Lexer.interpolation_fault.Goals as goal

pub returns : goal.returns
returns c =
    let l = c.args.self.now in
    let t = c.args.start in
    record {
      fault = UnterminatedInterpolation;
      kind_is = ap lexical_fault_of c.new.ensures.kind;
      is_fault = subst (λ u. IsFault l.src.now UnterminatedInterpolation (tok_of u)) (sym c.new.ensures.token) (unclosed_fault l t c.requires.reading c.requires.at_end c.requires.open);
      from = subst (IsFrom l.path.now l.src.now) (sym c.new.ensures.token) (from_open l t c.requires.reading c.requires.open);
    }
