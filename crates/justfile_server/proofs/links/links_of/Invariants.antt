use Rattle.std.proofs.Common.{option_copied, take}
use Rattle.justfile_server.specs.Links.{IsPathOf, Links}
use Rattle.justfile_server.proofs.links.links_of.Given as goal

abbrev pub invariant-loop-item : goal.invariant-loop-item
invariant-loop-item g l = Links (IsPathOf g.F.Folders.has (option_copied l.folder) l.text) (take l.item-index l.items) l.links.items
