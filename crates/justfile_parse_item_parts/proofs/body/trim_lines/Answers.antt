use Rattle.std.proofs.Common.{subst, sym}
use Rattle.justfile_parse_item_parts.proofs.Trims.{EndsEmpty, trim_done, trim_step}
use Rattle.justfile_parse_item_parts.proofs.body.trim_lines.Goals as goal

pub loop-lines-preserved-in-loop-lines : goal.loop-lines-preserved-in-loop-lines
loop-lines-preserved-in-loop-lines c =
    trim_step _ _ _ _ c.loop-lines.invariant c.pop.ensures.items (subst EndsEmpty c.as_slice.ensures.value (c.loop-lines-test.ensures.0 (cc)))

pub returns : goal.returns
returns c = trim_done _ _ c.loop-lines.invariant (λ e. let no = c.loop-lines-test.ensures.1 (subst EndsEmpty (sym c.as_slice.ensures.value) e) in cc)
