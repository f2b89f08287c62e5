use Rattle.std.proofs.Common.{◌∙◌, ap, sym, map, map-id, rules}
use Rattle.std.proofs.lemmas.Iterator.Adapters.{YieldsList-from_vec}
use Rattle.std.proofs.lemmas.Iterator.Consumers.{YieldsList-end}
use Rattle.justfile_parse_header.proofs.Stars.{kept_are, kept_of}
use Rattle.justfile_parse_header.proofs.dependency.tree_arguments.Goals as goal

pub returns : goal.returns
returns c =
    let at = c.loop-argument in
    let end = YieldsList-end (YieldsList-from_vec {s = c.into_iter-argument-iterator.result} c.args.arguments.items (search rules) (search rules))
    at.yielded at.argument-iterator at.yielded_by c.next.result c.next.new.self c.in-None.is c.next.ensures.steps in
    at.invariant ∙ ap (map kept_of) (sym (map-id at.yielded) ∙ end.0) ∙ sym (kept_are c.args.arguments.items)
