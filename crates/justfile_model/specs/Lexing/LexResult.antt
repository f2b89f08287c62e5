-- The results of lexing.
use Rattle.std.specs.Prelude.{◌≡◌, ℕ, List}
use Rattle.justfile_token.specs.declared.compile_error.CompileError.{CompileError}
use Rattle.justfile_token.specs.declared.fault.Fault.{Fault}
use Rattle.justfile_token.specs.declared.fault.Fault.TheVariants.{Compile, Memory, Numbers}
use Rattle.justfile_token.specs.declared.token.Token.{Token}
use Rattle.justfile_model.specs.Lexing.LexicalFault.{LexicalFault, lexical_fault_of}
use Rattle.justfile_model.specs.Lexing.Lexed.{IsFault}
use Rattle.justfile_model.specs.Lexing.Tok.{tok_of}

-- the token has this path and this source
pub record IsFrom (path src : List ℕ) (t : Token) : Type 0 where
  pub path_is : t.path.now ≡ path
  pub src_is : t.src.now ≡ src

-- the error is the fault of the text, at the fault's position
pub record IsLexicalError (path src : List ℕ) (e : CompileError) : Type 0 where
  pub fault : LexicalFault
  pub kind_is : lexical_fault_of e.kind ≡ fault
  pub is_fault : IsFault src fault (tok_of e.token)
  pub from : IsFrom path src e.token

-- Running out of memory tells nothing about the text.
abbrev pub IsLexerFault : (path src : List ℕ) → Fault → Type 0
IsLexerFault path src (Compile e) = IsLexicalError path src e
IsLexerFault path src Memory = Unit {0}
IsLexerFault path src Numbers = ⊥
