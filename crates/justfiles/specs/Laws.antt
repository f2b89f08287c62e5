-- What is refused has no formatted text.
use Rattle.std.specs.Prelude.{ℕ, List}
use Rattle.justfile_canonical.specs.Formatting.{HasNone, IsFormatted}
use Rattle.justfile_canonical.proofs.Formatted as formatted
use Rattle.justfiles.specs.Justfile.{IsRejected, rejected, unprintable}

pub never_both : (name source lines text : List ℕ) → IsRejected name source lines → IsFormatted source text → ⊥
never_both name source lines text (rejected r) f = formatted.never_both source text f (HasNone.rejected r.rejection.rejected)
never_both name source lines text (unprintable u e) f = formatted.never_both source text f (HasNone.unprintable u)
