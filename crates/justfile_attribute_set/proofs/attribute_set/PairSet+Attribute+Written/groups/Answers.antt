use Rattle.std.proofs.Common.{◌∙◌, ◌<◌, ap, get_or, length, subst, sym}
use Rattle.justfile_attribute_set.proofs.Groups.{AreCopied, none_group, none_more, one_more}
use Rattle.justfile_attribute_set.proofs.attribute_set.PairSet+Attribute+Written.groups.Goals.{in-Group+in_ok-clone+in_ok-push, in_default}
use Rattle.justfile_attribute_set.specs.Attributes.{group_of}
use Rattle.justfile_attribute_set.proofs.attribute_set.PairSet+Attribute+Written.groups.Goals as goal

pub loop-pair-preserved : goal.loop-pair-preserved
loop-pair-preserved c =
    let i : _ = c.loop-pair.pair-index in
    let all : _ = c.args.self.now.pairs.items in
    let item : _ = c.pair-item.result in
    let inside = subst (λ l. i < length l) c.deref-pair-items.ensures.value c.loop-pair-test.true in
    let at = c.pair-item.is ∙ ap (λ l. get_or l i item) c.deref-pair-items.ensures.value in
    elim c.match-pair.branch [
      | in-Group+in_ok-clone+in_ok-push w ↦
          one_more c.loop-pair.groups.items c.match-pair.groups.items all i item w.in_ok-clone.field-0 w.in-Group.name inside at (ap group_of w.in-Group.is)
          w.in_ok-clone.ensures (ap (λ v. v.items) w.groups-is ∙ w.in_ok-push.ensures.items) c.loop-pair.invariant
      | in_default w ↦
          none_more c.match-pair.groups.items all i item inside at (none_group item.0 w.in_default.not-Group)
          (subst (λ v. AreCopied v.items all i) (sym w.groups-is) c.loop-pair.invariant)
    ]
