use Rattle.std.proofs.Common.{refl}
use Rattle.std.specs.Cmp.{both_tied, on_total, then_total}
use Rattle.std.specs.Cmp.Lexicographic.{lists_ties, lists_total}
use Rattle.justfile_attribute.proofs.laws.interpreters_ordered.Goals as goal

pub returns : goal.returns
returns g c = record {
  equal = λ i j. refl;
  order = record {
    is = λ i j. refl;
    total = then_total (on_total (λ i. i.command) g.met.T.Ord.total) (on_total (λ i. i.arguments.items) (lists_total g.met.T.Ord.total));
    ties = λ i j.
        both_tied _ _ _ _ (g.met.T.Ord.matches_eq i.command j.command)
        (lists_ties _ g.met.T.Ord.matches_eq i.arguments.items j.arguments.items);
  };
}
