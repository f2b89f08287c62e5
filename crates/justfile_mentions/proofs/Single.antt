-- Whether a text is a single identifier.
use Rattle.std.proofs.Common.{◌≡◌, ◌∙◌, ◌↔◌, ℕ, Bool, false, List, map, IsTrue, sym, ap, subst}
use Rattle.justfile_token.specs.declared.compile_error.CompileError.{CompileError}
use Rattle.justfile_token.specs.declared.token.Token.{Token}
use Rattle.justfile_model.proofs.Lexing.LexedLaws.{never_both, one_list}
use Rattle.justfile_model.specs.Lexing.LexResult.{IsLexicalError}
use Rattle.justfile_model.specs.Lexing.Lexed.{Lexed}
use Rattle.justfile_model.specs.Lexing.Tok.{tok_of}
use Rattle.justfile_mentions.specs.Names.{IsName, is_single}

-- a text with these tokens
pub single_if : (text : List ℕ) (tokens lent : List Token) (b : Bool) → Lexed text (map tok_of tokens) → lent ≡ tokens → b ≡ is_single (map tok_of lent) → IsTrue b ↔ IsName text
single_if text tokens lent b lexed same e =
    let is : b ≡ is_single (map tok_of tokens) = e ∙ ap (λ (ts : List Token). is_single (map tok_of ts)) same in (
      λ (t : IsTrue b). record { tokens = map tok_of tokens; lexed = lexed; single = subst IsTrue is t },
      λ (n : IsName text). subst IsTrue (ap is_single (one_list text n.tokens (map tok_of tokens) n.lexed lexed) ∙ sym is) n.single,
    )

not_true : IsTrue false → ⊥
not_true h = cc

-- a text without tokens
pub never_if : (path text : List ℕ) (e : CompileError) → IsLexicalError path text e → IsTrue false ↔ IsName text
never_if path text e error =
    (λ (t : IsTrue false). absurd (not_true t), λ (n : IsName text). absurd (never_both text n.tokens error.fault (tok_of e.token) n.lexed error.is_fault))

pub never : (text : List ℕ) → ⊥ → IsTrue false ↔ IsName text
never text h = absurd h
