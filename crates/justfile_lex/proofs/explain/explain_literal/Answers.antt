use Rattle.std.proofs.Common.{◌≡◌, ℕ, Bool, List, None, Err, arith}
use Rattle.std.specs.Result.{result_ok}
use Rattle.std.proofs.lemmas.Grind.{common_steps}
use Rattle.justfile_vocabulary.specs.declared.token_kind.TokenKind.{TokenKind}
use Rattle.justfile_token.specs.declared.string_kind.StringKind.{StringKind}
use Rattle.justfile_model.specs.Lexing.LexicalFault.{Here}
use Rattle.justfile_model.specs.Lexing.Next.{literal_part, unterminated}
use Rattle.justfile_lex.proofs.explain.explain_literal.Goals as goal

-- a literal that is no token has no end
endless : (k : StringKind) (format : Bool) (n : ℕ) (more whole : TokenKind) (rest : List ℕ) → result_ok (literal_part k format n more whole rest) ≡ None
    → literal_part k format n more whole rest ≡ Err (Here (unterminated k.delimiter) 0 n)
unfolding literal_part
endless k format n more whole rest none = grind (arith, common_steps)

pub returns : goal.returns
returns c = grind (arith, common_steps, endless)
