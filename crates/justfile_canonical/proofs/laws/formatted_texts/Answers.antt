use Rattle.justfile_canonical.proofs.Formatted.{again, same_text, same_shape, formatted, never_both, one}
use Rattle.justfile_canonical.proofs.laws.formatted_texts.Goals as goal

pub returns : goal.returns
returns c = record { formatted = formatted; one = one; never_both = never_both; settled = again; same_shape = same_shape; same_text = same_text }
