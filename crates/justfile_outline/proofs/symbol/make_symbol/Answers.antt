use Rattle.justfile_outline.proofs.symbol.make_symbol.Goals as goal

pub returns : goal.returns
returns c = λ i. record {
  kind = c.kind.ensures i;
  name = c.args.name;
  parameters = c.in_ok-parameters.ensures i;
  doc = c.in_ok-doc.ensures i;
  groups = c.in_ok-groups.ensures i;
  target = c.in_ok-target.ensures i;
  is_private = c.is_private.ensures i;
  is_enabled = c.is_enabled.ensures i;
}
