use Rattle.std.proofs.Common.{filter, take}
use Rattle.std.specs.List.{AllZip}
use Rattle.justfile_server.specs.Choices.{Offers, is_offered}
use Rattle.justfile_server.proofs.choices.offers_of.Given as goal

abbrev pub invariant-loop-mention : goal.invariant-loop-mention
invariant-loop-mention l = AllZip (Offers l.text) (filter is_offered (take l.mention-index l.mentions)) l.offers.items
