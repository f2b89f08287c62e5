use Rattle.std.proofs.Common.{take}
use Rattle.std.specs.List.{AllZip}
use Rattle.justfiles.specs.Located.{IsPlaced}
use Rattle.justfiles.proofs.located.locate_all.Given as goal

abbrev pub invariant-loop-submodule : goal.invariant-loop-submodule
invariant-loop-submodule g l = AllZip (IsPlaced g.F.Folders.has l.path) (take l.submodule-index l.submodules) l.modules.items
