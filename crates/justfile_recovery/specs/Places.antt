-- Where spans lie.
use Rattle.std.specs.Prelude.{ℕ, ◌≤◌}
use Rattle.justfile_chunks.specs.declared.span.Span.{Span}

-- the span lies in a text of this length
pub record LiesIn (length : ℕ) (s : Span) : Type 0 where
  pub forward : s.start ≤ s.end
  pub within : s.end ≤ length
