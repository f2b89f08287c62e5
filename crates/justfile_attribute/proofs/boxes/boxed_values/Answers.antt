use Rattle.std.proofs.Common.{subst, sym}
use Rattle.std.specs.BTreeMap.{keys}
use Rattle.std.specs.List.{All}
use Rattle.justfile_attribute.specs.Boxes.{IsBelowFirst}
use Rattle.justfile_attribute.proofs.Boxed.{entry_moved, last_below}
use Rattle.justfile_attribute.proofs.boxes.boxed_values.Goals as goal

pub put_first-requires : goal.put_first-requires
put_first-requires g c =
    last_below g.K.Ord.cmp c.loop-key.values.entries c.pop_last.new.self.entries (c.in-Some.key, c.in-Some.given) c.loop-key.boxed.entries c.loop-key.invariant.below
    c.in-Some.ensures.removal

pub loop-key-preserved : goal.loop-key-preserved
loop-key-preserved g c = record {
  entries =
      entry_moved c.args.values.entries c.loop-key.values.entries _ (c.in-Some.key, c.in-Some.given) c.loop-key.boxed.entries _ c.in_ok-value.value c.loop-key.invariant.entries
      c.in-Some.ensures.removal c.in_ok-value.ensures c.in_ok-put_first.ensures;
  below = subst (λ es. All (IsBelowFirst g.K.Ord.cmp es) (keys c.pop_last.new.self)) (sym c.in_ok-put_first.ensures) c.in-Some.ensures.all_below;
}
