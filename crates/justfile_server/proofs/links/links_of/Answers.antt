use Rattle.std.proofs.Common.{arith, option_copied, option_map, string_bytes, ap, refl}
use Rattle.justfile_server.specs.Links.{IsPathOf}
use Rattle.justfile_server.proofs.Linked.{added, at_first, passed}
use Rattle.justfile_server.proofs.links.links_of.Goals as goal

pub loop-item-init : goal.loop-item-init
loop-item-init g c = at_first _ c.new-links.result.items c.new-links.ensures.items

pub loop-item-preserved-in_default : goal.loop-item-preserved-in_default
loop-item-preserved-in_default g c =
    passed (IsPathOf g.F.Folders.has (option_copied c.args.folder) c.args.text.now) c.args.items.now c.loop-item.item-index c.item-item.result _ _ (omega arith) c.item-item.is
    c.in_ok-path.ensures (ap (option_map string_bytes) c.in_default.is) c.loop-item.invariant

pub loop-item-preserved : goal.loop-item-preserved
loop-item-preserved g c =
    added (IsPathOf g.F.Folders.has (option_copied c.args.folder) c.args.text.now) c.args.items.now c.loop-item.item-index c.item-item.result _ _ _ _ (omega arith) c.item-item.is
    c.in_ok-path.ensures (ap (option_map string_bytes) c.in-Some.is) refl c.in_ok-push.ensures.items c.loop-item.invariant
