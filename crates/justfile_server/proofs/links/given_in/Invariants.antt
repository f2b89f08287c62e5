use Rattle.std.proofs.Common.{◌≡◌, drop}
use Rattle.justfile_server.specs.Links.{given_in}
use Rattle.justfile_server.proofs.links.given_in.Given as goal

abbrev pub invariant-loop-item : goal.invariant-loop-item
invariant-loop-item l = given_in l.items ≡ given_in (drop l.item-index l.items)
