-- In any text, each later part of a format string has the same delimiter as its first part.
use Rattle.std.proofs.Common.{◌≡◌, ℕ, Bool, false, List, [], ◌∷◌, Option, Some, refl, sym, subst}
use Rattle.std.specs.Str.{IsUtf8}
use Rattle.justfile_token.specs.declared.string_kind.StringKind.{StringKind}
use Rattle.justfile_vocabulary.specs.declared.token_kind.TokenKind.TheVariants as kinds
use Rattle.justfile_token.specs.StringKind.{delimiter_len, kind_of}
use Rattle.justfile_model.specs.Lexing.Lexed.{Lexed}
use Rattle.justfile_model.specs.Lexing.SignificantTokens.{SignificantToken, significant_tokens}
use Rattle.justfile_model.specs.Lexing.Tok.{Tok}
use Rattle.justfile_model.specs.Trees.Tree.{Expr, lexeme, nothing}
use Rattle.justfile_model.specs.Grammars.Features.{Noted}
use Rattle.justfile_model.specs.Grammars.Expressions.{Tokens, front, IsKind, Expression}
use Rattle.justfile_model.proofs.Derivations.CarryExpressions as carry
use Rattle.justfile_model.proofs.Derivations.Leaves.{equal_pairs, equal_same, pairs_equal}
use Rattle.justfile_round_trip.proofs.Values.TokenFacts.{Around, around, is_comment, outside, Sound, lexed_sound}
use Rattle.justfile_round_trip.proofs.Values.WrittenValues.{fact_as, past, value_at, within}
use Rattle.justfile_round_trip.proofs.LiteralTexts.Quoted.{IsFramed, continue_framed, end_framed}

-- after an expression the same is open as before it
following : {A B : Type 0} (leaf : Tok → A) (position : Tok → B) (MayEnter : ℕ → Option SignificantToken → Type 0) {condition : Bool} {d : ℕ} {e : Expr A B}
    {fs : List (Noted B)} {ts rest : Tokens} → Expression leaf position MayEnter condition d e fs ts rest → (s : Around) (c : Bool) → Sound s c ts → Sound s false rest
following leaf position MayEnter {ts = ts} x s c h =
    let shape = carry.expression {C = Unit {0}} {D = Unit {0}} leaf position MayEnter (λ t u. t ≡ u) equal_same lexeme nothing MayEnter
    (λ a. tt) (λ b. tt) (λ a. tt) (λ b. tt) (λ t u e. refl) (λ t u e. refl)
    (λ d ts us same o. subst (λ x. MayEnter d (front x)) (pairs_equal same) o) x ts (equal_pairs ts) in
    subst (Sound s false) (sym (pairs_equal shape.same)) (value_at MayEnter (λ ts. Unit {0}) (λ k t ts e q w. tt) shape.derives s (record { facts = h; bodies = tt })).following.facts

-- ---- for a parser, which reads a format string part by part

-- the tokens inside a format string of this kind, which is the innermost open delimiter
pub record InFormat (k : StringKind) (ts : Tokens) : Type 0 where
  pub open_around : Around
  pub comment : Bool
  pub sound : Sound (within open_around (Some k)) comment ts

-- after each start of a format string
abbrev pub AreInFormat : List SignificantToken → Type 0
AreInFormat [] = Unit {0}
AreInFormat (t ∷ ts) = (IsKind kinds.FormatStringStart t → InFormat (kind_of t.tok.lexeme) ts) × AreInFormat ts

pub are_inside : (s : Around) (c : Bool) (ts : List SignificantToken) → Sound s c ts → AreInFormat ts
are_inside s c [] h = tt
are_inside s c (t ∷ ts) h = (
  λ kind. record { open_around = s; comment = false; sound = past s t ts kinds.FormatStringStart kind h.2 },
  are_inside (around t.tok.kind t.tok.lexeme s) (is_comment t.tok.kind) ts h.2,
)

pub lexed_inside : (text : List ℕ) (tokens : List Tok) → IsUtf8 text → Lexed text tokens → AreInFormat (significant_tokens tokens)
lexed_inside text tokens u l = are_inside outside false (significant_tokens tokens) (lexed_sound text tokens u l)

-- after an expression it is still the innermost
pub expression_inside : {A B : Type 0} (leaf : Tok → A) (position : Tok → B) (MayEnter : ℕ → Option SignificantToken → Type 0) {condition : Bool} {d : ℕ} {e : Expr A B} {fs : List (Noted B)} {k : StringKind} {ts rest : Tokens}
    → Expression leaf position MayEnter condition d e fs ts rest → InFormat k ts → InFormat k rest
expression_inside leaf position MayEnter {k = k} x h = record { open_around = h.open_around; comment = false; sound = following leaf position MayEnter x (within h.open_around (Some k)) h.comment h.sound }

-- and after a part between two expressions
pub continue_inside : {k : StringKind} (t : SignificantToken) (ts : Tokens) → IsKind kinds.FormatStringContinue t → InFormat k (t ∷ ts) → IsFramed 2 2 t.tok.lexeme × InFormat k ts
continue_inside {k} t ts kind h = (
  continue_framed k t.tok.lexeme (fact_as t kinds.FormatStringContinue kind h.sound.0),
  record { open_around = h.open_around; comment = false; sound = past (within h.open_around (Some k)) t ts kinds.FormatStringContinue kind h.sound.2 },
)

-- the last part has the delimiter of the start
pub end_inside : {k : StringKind} (t : SignificantToken) (ts : Tokens) → IsKind kinds.FormatStringEnd t → InFormat k (t ∷ ts) → IsFramed 2 (delimiter_len k) t.tok.lexeme
end_inside {k} t ts kind h = end_framed k t.tok.lexeme (fact_as t kinds.FormatStringEnd kind h.sound.0)
