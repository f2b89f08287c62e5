-- The results of cooking a token that is a literal.
use Rattle.std.specs.Prelude.{◌≡◌, ℕ, ◌+◌, ◌-◌, Bool, false, ◌&&◌, nat_lt, nat_le, List, length, slice_index, Option, Some, None, Result, Ok, Err, option_map, string_bytes}
use Rattle.justfile_vocabulary.specs.ByteNames as byte
use Rattle.justfile_token.specs.StringKind.{kind_of, delimiter_len}
use Rattle.justfile_token.specs.Token.{lexeme_of}
use Rattle.justfile_token.specs.declared.compile_error.CompileError.{CompileError}
use Rattle.justfile_token.specs.declared.compile_error_kind.CompileErrorKind.{CompileErrorKind}
use Rattle.justfile_token.specs.declared.compile_error_kind.CompileErrorKind.TheVariants as kinds
use Rattle.justfile_token.specs.declared.fault.Fault.{Fault}
use Rattle.justfile_token.specs.declared.fault.Fault.TheVariants.{Compile, Memory, Numbers}
use Rattle.justfile_vocabulary.specs.declared.format_string_part.FormatStringPart.{FormatStringPart}
use Rattle.justfile_token.specs.declared.string_kind.StringKind.{StringKind}
use Rattle.justfile_token.specs.declared.string_literal.StringLiteral.{StringLiteral}
use Rattle.justfile_token.specs.declared.token.Token.{Token}
use Rattle.justfile_model.specs.LiteralTexts.EscapeFault.{escape_fault_of}
use Rattle.justfile_model.specs.LiteralTexts.Literals.{Expansions, LiteralFault, Escape, Refused, Shebang, cooked_text, string_of, front_len, end_len, cooked_format_text}

-- the lexeme has `front` bytes before its text and `end` bytes after it, and the bytes next to the text are ASCII
abbrev pub is_framed : (front end : ℕ) → List ℕ → Bool
is_framed front end lexeme = nat_le (front + end) (length lexeme) && nat_lt (slice_index lexeme (front - 1)) byte.after_ascii && nat_lt (slice_index lexeme (length lexeme - end)) byte.after_ascii

-- a delimiter of the lexeme's kind can be cut off at each end; whether the bytes there are that delimiter isn't asked
abbrev pub is_quoted : List ℕ → Bool
is_quoted lexeme = is_framed (delimiter_len (kind_of lexeme)) (delimiter_len (kind_of lexeme)) lexeme

-- the results of an expander that has one for each text
abbrev pub answers_by : {X : Type 0} → (X → List ℕ → Result (List ℕ) (List ℕ)) → X → Expansions
answers_by answer expander text = Some (answer expander text)

-- the fault of a literal that an error kind reports, if it reports one; the expander is always called, so `Unasked` is never reported
abbrev pub literal_fault_of : CompileErrorKind → Option LiteralFault
literal_fault_of (kinds.ShellExpansion err) = Some (Refused (string_bytes err))
literal_fault_of kinds.BacktickShebang = Some Shebang
literal_fault_of kind = option_map Escape (escape_fault_of kind)

abbrev pub IsKindOf : LiteralFault → CompileErrorKind → Type 0
IsKindOf fault kind = literal_fault_of kind ≡ Some fault

-- The error says why the literal has no text, and is reported at the token.
pub record IsTextError (text : Result (List ℕ) LiteralFault) (token : Token) (error : CompileError) : Type 0 where
  pub fault : LiteralFault
  pub text_is : text ≡ Err fault
  pub kind_is : IsKindOf fault error.kind
  pub token_is : error.token ≡ token

-- Running out of memory tells nothing about the text.
abbrev pub IsTextFault : Result (List ℕ) LiteralFault → Token → Fault → Type 0
IsTextFault text token (Compile error) = IsTextError text token error
IsTextFault text token Memory = Unit {0}
IsTextFault text token Numbers = ⊥

-- the token as a literal that isn't a part of a format string
pub record IsStringOf (expander : Expansions) (token : Token) (expand : Bool) (literal : StringLiteral) : Type 0 where
  pub token_is : literal.token ≡ token
  pub cooked : cooked_text expander (string_of expand (lexeme_of token)) ≡ Ok (string_bytes literal.cooked)
  pub expand_is : literal.expand ≡ expand
  pub kind : literal.kind ≡ kind_of (lexeme_of token)
  pub part : literal.part ≡ None

-- what this part has around its text can be cut off from the lexeme; whether the bytes there are those of such a part isn't asked
abbrev pub is_part : StringKind → FormatStringPart → List ℕ → Bool
is_part kind part = is_framed (front_len kind part) (end_len kind part)

-- the token as a part of a format string
pub record IsPartOf (kind : StringKind) (part : FormatStringPart) (token : Token) (literal : StringLiteral) : Type 0 where
  pub token_is : literal.token ≡ token
  pub cooked : cooked_format_text kind part (lexeme_of token) ≡ Ok (string_bytes literal.cooked)
  pub expand_is : literal.expand ≡ false
  pub kind_is : literal.kind ≡ kind
  pub part_is : literal.part ≡ Some part
