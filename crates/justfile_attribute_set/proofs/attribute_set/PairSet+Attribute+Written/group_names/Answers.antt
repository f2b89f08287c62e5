use Rattle.std.proofs.Common.{◌∙◌, ◌<◌, ap, get_or, length, subst, sym}
use Rattle.justfile_attribute_set.proofs.Groups.{AreNames, none_group, no_name, one_name}
use Rattle.justfile_attribute_set.proofs.attribute_set.PairSet+Attribute+Written.group_names.Goals.{in-Group+in_ok-push, in_default}
use Rattle.justfile_attribute_set.specs.Attributes.{group_of}
use Rattle.justfile_attribute_set.proofs.attribute_set.PairSet+Attribute+Written.group_names.Goals as goal

pub loop-pair-preserved : goal.loop-pair-preserved
loop-pair-preserved c =
    let i : _ = c.loop-pair.pair-index in
    let all : _ = c.args.self.now.pairs.items in
    let item : _ = c.pair-item.result in
    let inside = subst (λ l. i < length l) c.deref-pair-items.ensures.value c.loop-pair-test.true in
    let at = c.pair-item.is ∙ ap (λ l. get_or l i item) c.deref-pair-items.ensures.value in
    elim c.match-pair.branch [
      | in-Group+in_ok-push w ↦
          one_name c.loop-pair.names.items c.match-pair.names.items all i item w.as_str.result w.in-Group.name inside at (ap group_of w.in-Group.is)
          w.as_str.ensures.value (ap (λ v. v.items) w.names-is ∙ w.in_ok-push.ensures.items) c.loop-pair.invariant
      | in_default w ↦
          no_name c.match-pair.names.items all i item inside at (none_group item.0 w.in_default.not-Group)
          (subst (λ v. AreNames v.items all i) (sym w.names-is) c.loop-pair.invariant)
    ]
