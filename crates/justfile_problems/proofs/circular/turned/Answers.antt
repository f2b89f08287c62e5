use Rattle.std.proofs.Common.{◌∙◌, ◌+◌}
use Rattle.std.proofs.lemmas.List.{take_rest}
use Rattle.justfile_problems.proofs.Rings.{are_turned}
use Rattle.justfile_problems.proofs.circular.turned.Goals as goal

pub returns : goal.returns
returns c = record {
  begin = c.least-begin.result;
  inside = c.least-begin.ensures;
  are =
      are_turned c.args.uses.now c.extend_from_slice.new.self.items c.in_ok-others.others.items c.least-begin.result c.index-uses-begin.result c.least-begin.ensures c.index-uses-begin.is
      (c.in_ok-others.ensures.items ∙ take_rest c.args.uses.now (c.least-begin.result + 1)) c.in_ok-extend_from_slice.ensures.items;
}
