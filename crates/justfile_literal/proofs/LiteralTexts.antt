-- The texts of literals, and the bounds at which they are cut out of the lexeme.
use Rattle.std.proofs.Common.{◌≡◌, ℕ, ◌+◌, ◌-◌, ◌<◌, ◌≤◌, Bool, true, if◌then◌else◌, IsTrue, List, length, slice_index, Result, Ok, Err, Some, option_map, IsUtf8, sym, ap, ◌∙◌, subst, arith, string_bytes}
use Rattle.std.specs.Global.{Global}
use Rattle.std.specs.Prelude.{String}
use Rattle.std.specs.Str.{IsCharBoundary}
use Rattle.std.proofs.lemmas.Str.{IsCharBoundary-after_ascii}
use Rattle.std.proofs.lemmas.Bool.Decides.{nat_tests}
use Rattle.justfile_token.specs.declared.expander.ExpandFault.{ExpandFault}
use Rattle.justfile_token.specs.declared.expander.ExpandFault.TheVariants as expansion
use Rattle.justfile_token.specs.declared.fault.Fault.{Fault}
use Rattle.justfile_token.specs.declared.fault.Fault.TheVariants.{Compile, Memory, Numbers}
use Rattle.justfile_token.specs.declared.string_kind.StringKind.{StringKind}
use Rattle.justfile_token.specs.declared.token.Token.{Token}
use Rattle.justfile_token.specs.Expander.{Refuses}
use Rattle.justfile_token.specs.StringKind.{escapes}
use Rattle.justfile_model.specs.LiteralTexts.Cook.{Cooks, IsCookFault}
use Rattle.justfile_model.specs.LiteralTexts.FirstPiece as pieces
use Rattle.justfile_model.specs.LiteralTexts.Literals.{Escape, Refused, by_answer, by_escapes, escaped}
use Rattle.justfile_literal.specs.Literal.{IsTextFault, is_framed, literal_fault_of}
use Rattle.justfile_token.specs.declared.compile_error_kind.CompileErrorKind.{CompileErrorKind}
use Rattle.justfile_token.specs.declared.compile_error_kind.CompileErrorKind.TheVariants as errors
use Rattle.justfile_model.specs.LiteralTexts.EscapeFault.{EscapeFault, escape_fault_of}
use Rattle.justfile_literal.proofs.Texts.{cooked_complete, fault_complete}

-- without this many bytes at its two ends, the lexeme is a text between two ASCII bytes
pub record IsFramed (front end : ℕ) (lexeme : List ℕ) : Type 0 where
  pub long : front + end ≤ length lexeme
  pub before : slice_index lexeme (front - 1) < 128
  pub later : slice_index lexeme (length lexeme - end) < 128

pub framed_is : (front end : ℕ) (lexeme : List ℕ) → IsTrue (is_framed front end lexeme) → IsFramed front end lexeme
framed_is front end lexeme h = record { long = grind (arith, nat_tests); before = grind (arith, nat_tests); later = grind (arith, nat_tests) }

-- a character begins after the opening delimiter
pub begins : (front end : ℕ) (lexeme : List ℕ) → IsUtf8 lexeme → 0 < front → IsTrue (is_framed front end lexeme) → IsCharBoundary lexeme front
begins front end lexeme u some h =
    let f = framed_is front end lexeme h in
    let at : front - 1 + 1 ≡ front = omega (arith, some) in
    subst (IsCharBoundary lexeme) at (IsCharBoundary-after_ascii lexeme (front - 1) u (omega (arith, some, f.long)) f.before)

-- with escapes, the text is the cooked one
by_pieces : (kind : StringKind) (text : List ℕ) → escapes kind.delimiter ≡ true → escaped kind text ≡ by_escapes (pieces.cooked_from_left text)
by_pieces kind text e = ap (λ (b : Bool). if b then by_escapes (pieces.cooked_from_left text) else Ok text) e

string_is : (kind : StringKind) (raw text : List ℕ) → escapes kind.delimiter ≡ true → text ≡ raw → escaped kind raw ≡ by_escapes (pieces.cooked_from_left text)
string_is kind raw text e same = ap (escaped kind) (sym same) ∙ by_pieces kind text e

pub cooked_string : (kind : StringKind) (raw text cooked : List ℕ) → IsUtf8 text → escapes kind.delimiter ≡ true → text ≡ raw → Cooks text cooked → escaped kind raw ≡ Ok cooked
cooked_string kind raw text cooked u e same c = string_is kind raw text e same ∙ ap by_escapes (cooked_complete text cooked u c)

-- an error of an escape is that of a literal
escape_says : (kind : CompileErrorKind) (fault : EscapeFault) → escape_fault_of kind ≡ Some fault → literal_fault_of kind ≡ Some (Escape fault)
escape_says (errors.ShellExpansion err) fault h = cc
escape_says errors.BacktickShebang fault h = cc
escape_says _ fault h = ap (option_map Escape) h

pub refused_string : (kind : StringKind) (raw text : List ℕ) (token : Token) (fault : Fault) → IsUtf8 text → escapes kind.delimiter ≡ true → text ≡ raw → IsCookFault text token fault → IsTextFault (escaped kind raw) token fault
refused_string kind raw text token (Compile error) u e same c = record {
  fault = Escape c.fault;
  text_is = string_is kind raw text e same ∙ ap by_escapes (fault_complete text c.fault u c.refused);
  kind_is = escape_says error.kind c.fault c.kind_is;
  token_is = c.token_is;
}
refused_string kind raw text token Memory u e same c = tt
refused_string kind raw text token Numbers u e same c = elim c [ ]

-- what an expander answers is the text, or why there is none
pub answered : (answer : Result (List ℕ) (List ℕ)) (text : List ℕ) → answer ≡ Ok text → by_answer (Some answer) ≡ Ok text
answered answer text e = ap (λ a. by_answer (Some a)) e

pub answer_refused : (answer : Result (List ℕ) (List ℕ)) (fault : ExpandFault) (reason : String Global) → Refuses answer fault → fault ≡ expansion.Refused reason
    → by_answer (Some answer) ≡ Err (Refused (string_bytes reason))
answer_refused answer fault reason refuses is = ap (λ a. by_answer (Some a)) (subst (Refuses answer) is refuses)
