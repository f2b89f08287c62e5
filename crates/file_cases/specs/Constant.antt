-- A formatter and a linter for tests.
use Rattle.std.specs.Prelude.{◌≡◌, ◌≢◌, ℕ, List, [], ◌∷◌, codes}
use Rattle.std.specs.Str.{bytes_eq}
use Rattle.justfile_files.specs.Sources.{Source}
use Rattle.std.proofs.Common.{ap, sym, true≢false, ◌∙◌}

-- Each text but one has the same formatted text.
pub record FormatsConstantly (source text : List ℕ) : Type 0 where
  pub good : source ≢ codes "bad\n"
  pub is : text ≡ codes "formatted\n"

abbrev pub IsBad : (source : List ℕ) → Type 0
IsBad source = source ≡ codes "bad\n"

abbrev pub RejectsBad : (name source lines : List ℕ) → Type 0
RejectsBad name source lines = IsBad source

-- this holds of the text of the first file
abbrev pub OfFirst : (List ℕ → Type 0) → List Source → Type 0
OfFirst P [] = Unit {0}
OfFirst P (s ∷ others) = P s.text

abbrev pub BeginsBad : List Source → (lines : List ℕ) → Type 0
BeginsBad files lines = OfFirst IsBad files

-- Nothing is wrong with the formatted text.
abbrev pub Wrong : (source lines : List ℕ) → Type 0
Wrong source lines = source ≡ codes "formatted\n" → lines ≡ []

abbrev pub FindsOthers : List Source → (missing : List (List ℕ)) → (lines : List ℕ) → Type 0
FindsOthers files missing lines = OfFirst (λ source. Wrong source lines) files

pub one : (source text other : List ℕ) → FormatsConstantly source text → FormatsConstantly source other → text ≡ other
one source text other f g = f.is ∙ sym g.is

apart : codes "formatted\n" ≢ codes "bad\n"
apart e = true≢false (ap (λ (l : List ℕ). bytes_eq l (codes "formatted\n")) e)

pub settled : (source text : List ℕ) → FormatsConstantly source text → FormatsConstantly text text
settled source text f = record { good = λ e. apart (sym f.is ∙ e); is = f.is }

pub never_both : (name source lines text : List ℕ) → RejectsBad name source lines → FormatsConstantly source text → ⊥
never_both name source lines text r f = f.good r
