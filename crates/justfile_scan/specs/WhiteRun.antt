-- Runs of white bytes, which are read only once.
use Rattle.std.specs.Prelude.{◌≡◌, ◌<◌, ℕ, List, length, drop, false}
use Rattle.justfile_model.specs.Lexing.Bytes.{closes_levels}
use Rattle.justfile_scan.specs.declared.white_run.WhiteRun.{WhiteRun}

-- At each position before the run's end, levels close before a blank line exactly if `closes` is true.
abbrev pub IsRunOf : List ℕ → WhiteRun → Type 0
IsRunOf text run = (i : ℕ) → run.rest_len < length (drop i text) → closes_levels false (drop i text) ≡ run.closes
