use Rattle.std.proofs.Common.{rules}
use Rattle.justfile_attribute_set.specs.Pairs.{pair_cmp}
use Rattle.justfile_attribute_set.proofs.Sorts.{few_in_order, on_ok, pair_total, sorted_in_order}
use Rattle.justfile_attribute_set.proofs.pairs.sort_pairs.Goals as goal

pub returns-clause-ordered : goal.returns-clause-ordered
returns-clause-ordered c = on_ok c.sort_stably.result (λ sorts. sorts pair_cmp (pair_total _) (λ x y r h. search rules)) c.sort_stably.ensures

pub returns-clause-sorted : goal.returns-clause-sorted
returns-clause-sorted c =
    on_ok c.sort_stably.result (λ e. sorted_in_order c.args.pairs.now.items c.sort_stably.new.items.items e) (returns-clause-ordered c)

pub returns-then-len-lt2-clause-ordered : goal.returns-then-len-lt2-clause-ordered
returns-then-len-lt2-clause-ordered c = few_in_order c.args.pairs.now.items (search rules)
