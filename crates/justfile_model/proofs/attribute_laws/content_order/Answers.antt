use Rattle.justfile_model.proofs.Lists.OrderLaws.{in_order_sorts, sort_is, twice_is_once}
use Rattle.justfile_model.proofs.Printed.PrintedEntries.{entries_total}
use Rattle.justfile_model.proofs.attribute_laws.content_order.Goals as goal

pub returns : goal.returns
returns g c = record {
  total = λ view. entries_total view;
  sorted = λ view. in_order_sorts (entries_total view);
  one = λ view entries others h. sort_is (entries_total view) entries others h;
  twice = λ view. twice_is_once (entries_total view);
}
