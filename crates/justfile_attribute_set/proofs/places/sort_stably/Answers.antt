use Rattle.std.proofs.Common.{rules}
use Rattle.justfile_model.proofs.Lists.OrderLaws.{sort_by_is}
use Rattle.justfile_attribute_set.proofs.Sorts.{on_ok}
use Rattle.justfile_attribute_set.proofs.places.sort_stably.Goals as goal

pub returns-then-len-le-FEW : goal.returns-then-len-le-FEW
returns-then-len-le-FEW g c =
    on_ok c.sort_by.result
    (λ sorted R total compares. sort_by_is total c.args.items.now.items c.sort_by.new.self.items sorted c.sort_by.ensures.stable (λ a r f' k. search (rules, compares)))
    c.sort_by.ensures.sorted
