use Rattle.std.proofs.Common.{◌-◌, false, length, drop}
use Rattle.justfile_attribute.specs.Print.{slots, slots_text}
use Rattle.justfile_attribute.proofs.Walk.{Walked}
use Rattle.justfile_attribute.proofs.print.write_arguments.Given as goal

abbrev pub invariant-loop-part : goal.invariant-loop-part
invariant-loop-part g l =
    Walked g.S.Sink.took l.initial.sink l.sink (slots_text false (slots l.attribute)) (slots_text l.begun (drop l.index (slots l.attribute)))

abbrev pub decreases-loop-part : goal.decreases-loop-part
decreases-loop-part g l = length (slots l.attribute) - l.index
