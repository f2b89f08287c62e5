-- The open delimiters, levels and interpolation of the mode are those that the earlier tokens open and don't close.
use Rattle.std.proofs.Common.{◌≡◌, ◌≢◌, ℕ, Bool, true, false, List, [], ◌∷◌, Option, Some, None, refl, sym, ap}
use Rattle.std.specs.Prelude.{◌↔◌, is_some, option_to_list, reverse}
use Rattle.justfile_token.specs.declared.delimiter.Delimiter.{Delimiter}
use Rattle.justfile_token.specs.declared.delimiter.Delimiter.TheVariants.{Brace, Bracket, FormatString, Paren}
use Rattle.justfile_vocabulary.specs.declared.token_kind.TokenKind.{TokenKind}
use Rattle.justfile_vocabulary.specs.declared.token_kind.TokenKind.TheVariants as kinds
use Rattle.justfile_model.specs.declared.open_delimiter.OpenDelimiter.{OpenDelimiter}
use Rattle.justfile_model.specs.Lexing.Lexed.{Begins}
use Rattle.justfile_model.specs.Lexing.Modes.{Mode, mode_after, mode, tail_of}
use Rattle.justfile_model.specs.Lexing.Tok.{Tok}
use Rattle.justfile_model.specs.Lexing.Unclosed.{UnclosedDelimiters, UnclosedInterpolations, UnclosedLevels, delimiter_by, delimiter_closer, delimiter_of, interpolation_opened, level_by}
use Rattle.justfile_model.proofs.Lexing.NextLaws.{ClosesFirst, Fits, token_fits}
use Rattle.justfile_model.proofs.Lexing.UnclosedLaws.{Closes, Opens, Stays, Step, Steps, unclosed_law}

-- ---- delimiters

-- the kinds of tokens that close a delimiter
unfoldable is_closer : TokenKind → Bool
is_closer kinds.BraceR = true
is_closer kinds.BracketR = true
is_closer kinds.ParenR = true
is_closer kinds.FormatStringEnd = true
is_closer _ = false

closes : (d : Delimiter) → is_closer (delimiter_closer d) ≡ true
unfolding is_closer
closes Brace = refl
closes Bracket = refl
closes Paren = refl
closes (FormatString k) = refl

no_closer : (k : TokenKind) → is_closer k ≡ false → (o : OpenDelimiter) → delimiter_closer o.delimiter ≢ k
no_closer k h o e = cc (closes o.delimiter, ap is_closer e)

delimiter_apart : (t : Tok) (x y : OpenDelimiter) → delimiter_of t ≡ Some x → delimiter_closer y.delimiter ≡ t.kind → ⊥
unfolding is_closer
delimiter_apart t x y o c = by t.kind o c
  where
    by : (k : TokenKind) → delimiter_by k t ≡ Some x → delimiter_closer y.delimiter ≡ k → ⊥
    by kinds.BraceL o c = no_closer kinds.BraceL refl y c
    by kinds.BracketL o c = no_closer kinds.BracketL refl y c
    by kinds.ParenL o c = no_closer kinds.ParenL refl y c
    by kinds.FormatStringStart o c = no_closer kinds.FormatStringStart refl y c
    by _ o c = cc

closing : (k : TokenKind) (os : List OpenDelimiter) → ClosesFirst os k → Step (λ o. delimiter_closer o.delimiter) None k os (tail_of os)
closing k [] c = absurd c
closing k (o ∷ os) c = Closes o c refl

delimiter_step : (k : TokenKind) (t : Tok) (m : Mode) → Fits m k → Step (λ (o : OpenDelimiter). delimiter_closer o.delimiter) (delimiter_by k t) k m.openers (mode_after k t m).openers
unfolding is_closer
delimiter_step kinds.BraceL t m fits = Opens _ refl refl
delimiter_step kinds.BracketL t m fits = Opens _ refl refl
delimiter_step kinds.ParenL t m fits = Opens _ refl refl
delimiter_step kinds.FormatStringStart t m fits = Opens _ refl refl
delimiter_step kinds.BraceR t m fits = closing kinds.BraceR m.openers fits
delimiter_step kinds.BracketR t m fits = closing kinds.BracketR m.openers fits
delimiter_step kinds.ParenR t m fits = closing kinds.ParenR m.openers fits
delimiter_step kinds.FormatStringEnd t m fits = closing kinds.FormatStringEnd m.openers fits
delimiter_step k t m fits = Stays refl (no_closer k refl) refl

delimiter_steps : (text : List ℕ) (e : List Tok) → Begins text e → Steps delimiter_of (λ o. delimiter_closer o.delimiter) delimiter_apart (λ e. (mode e).openers) e
delimiter_steps text [] b = tt
delimiter_steps text (t ∷ e) b = (delimiter_step t.kind t (mode e) (token_fits (mode e) _ t.kind _ b.1.found), delimiter_steps text e b.0)

pub delimiters_law : (text : List ℕ) (e : List Tok) → Begins text e → (open' : List OpenDelimiter) → ((mode e).openers ≡ open') ↔ UnclosedDelimiters (reverse e) open'
delimiters_law text e b = unclosed_law delimiter_of (λ o. delimiter_closer o.delimiter) delimiter_apart (λ e. (mode e).openers) refl e (delimiter_steps text e b)

-- ---- levels

level_apart : (t : Tok) (x y : List ℕ) → level_by t.kind t ≡ Some x → kinds.Dedent ≡ t.kind → ⊥
level_apart t x y o c = by t.kind o c
  where
    by : (k : TokenKind) → level_by k t ≡ Some x → kinds.Dedent ≡ k → ⊥
    by kinds.Indent o c = cc
    by _ o c = cc

level_step : (k : TokenKind) (t : Tok) (m : Mode) → Fits m k → Step (λ (blanks : List ℕ). kinds.Dedent) (level_by k t) k m.levels (mode_after k t m).levels
level_step kinds.Indent t m fits = Opens _ refl refl
level_step kinds.Dedent t m fits = by m.levels fits
  where
    by : (ls : List (List ℕ)) → ls ≢ [] → Step (λ (blanks : List ℕ). kinds.Dedent) None kinds.Dedent ls (tail_of ls)
    by [] some = absurd (some refl)
    by (l ∷ ls) some = Closes l refl refl
level_step k t m fits = Stays refl (λ x e. cc) refl

level_steps : (text : List ℕ) (e : List Tok) → Begins text e → Steps (λ t. level_by t.kind t) (λ blanks. kinds.Dedent) level_apart (λ e. (mode e).levels) e
level_steps text [] b = tt
level_steps text (t ∷ e) b = (level_step t.kind t (mode e) (token_fits (mode e) _ t.kind _ b.1.found), level_steps text e b.0)

pub levels_law : (text : List ℕ) (e : List Tok) → Begins text e → (levels : List (List ℕ)) → ((mode e).levels ≡ levels) ↔ UnclosedLevels (reverse e) levels
levels_law text e b = unclosed_law (λ t. level_by t.kind t) (λ blanks. kinds.Dedent) level_apart (λ e. (mode e).levels) refl e (level_steps text e b)

-- ---- interpolations

interpolation_apart : (t x y : Tok) → interpolation_opened t.kind t ≡ Some x → kinds.InterpolationEnd ≡ t.kind → ⊥
interpolation_apart t x y o c = by t.kind o c
  where
    by : (k : TokenKind) → interpolation_opened k t ≡ Some x → kinds.InterpolationEnd ≡ k → ⊥
    by kinds.InterpolationStart o c = cc
    by _ o c = cc

interpolation_step : (k : TokenKind) (t : Tok) (m : Mode) → Fits m k → Step (λ (start : Tok). kinds.InterpolationEnd) (interpolation_opened k t) k (option_to_list m.interpolation) (option_to_list (mode_after k t m).interpolation)
interpolation_step kinds.InterpolationStart t m fits = Opens t refl (ap (λ o. t ∷ option_to_list o) (sym fits))
interpolation_step kinds.InterpolationEnd t m fits = by m.interpolation fits
  where
    by : (o : Option Tok) → is_some o ≡ true → Step (λ (start : Tok). kinds.InterpolationEnd) None kinds.InterpolationEnd (option_to_list o) []
    by None some = cc
    by (Some u) some = Closes u refl refl
interpolation_step k t m fits = Stays refl (λ x e. cc) refl

interpolation_steps : (text : List ℕ) (e : List Tok) → Begins text e → Steps (λ t. interpolation_opened t.kind t) (λ start. kinds.InterpolationEnd) interpolation_apart (λ e. option_to_list (mode e).interpolation) e
interpolation_steps text [] b = tt
interpolation_steps text (t ∷ e) b = (interpolation_step t.kind t (mode e) (token_fits (mode e) _ t.kind _ b.1.found), interpolation_steps text e b.0)

pub interpolations_law : (text : List ℕ) (e : List Tok) → Begins text e → (starts : List Tok) → (option_to_list (mode e).interpolation ≡ starts) ↔ UnclosedInterpolations (reverse e) starts
interpolations_law text e b = unclosed_law (λ t. interpolation_opened t.kind t) (λ start. kinds.InterpolationEnd) interpolation_apart (λ e. option_to_list (mode e).interpolation) refl e (interpolation_steps text e b)
