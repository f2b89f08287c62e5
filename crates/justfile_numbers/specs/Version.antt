-- Versions and their texts.
use Rattle.std.specs.Prelude.{◌≡◌, ℕ, List, ◌++◌, codes, Result, MatchResult}
use Rattle.std.specs.Borrow.{Bor}
use Rattle.std.specs.Fmt.{decimal}
use Rattle.justfile_numbers.specs.NumberText.{IsNumberText}
use Rattle.justfile_numbers.specs.declared.version.Version.{Version}

-- The three texts write the three numbers of the version.
pub record WritesVersion (major minor patch : List ℕ) (v : Version) : Type 0 where
  pub is_major : IsNumberText major v.major
  pub is_minor : IsNumberText minor v.minor
  pub is_patch : IsNumberText patch v.patch

-- The text is the three numbers, separated by dots.
pub record IsVersionText (text : List ℕ) (v : Version) : Type 0 where
  pub major : List ℕ
  pub minor : List ℕ
  pub patch : List ℕ
  pub whole : text ≡ major ++ codes "." ++ minor ++ codes "." ++ patch
  pub numbers : WritesVersion major minor patch v

-- the result of parsing a text: the version with this text, or the error message if there is none
abbrev pub ReadsVersion : List ℕ → Result Version (Bor (List ℕ)) → Type 0
ReadsVersion text r = MatchResult r
    (IsVersionText text)
    (λ message. ((v : Version) → ¬ IsVersionText text v) × (message.now ≡ codes "invalid version"))

-- the version in decimal, without leading zeros
abbrev pub version_text : Version → List ℕ
version_text v = decimal v.major ++ codes "." ++ decimal v.minor ++ codes "." ++ decimal v.patch
