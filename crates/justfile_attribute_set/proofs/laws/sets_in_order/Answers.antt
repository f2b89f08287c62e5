use Rattle.std.proofs.Common.{refl}
use Rattle.std.specs.Cmp.{on_total}
use Rattle.justfile_model.specs.Trees.ContentLeafLaws.{content_total}
use Rattle.justfile_model.specs.Trees.KeyLaws.{key_total}
use Rattle.justfile_model.proofs.Lists.OrderLaws.{in_order_sorts, sort_is, twice_is_once}
use Rattle.justfile_attribute.specs.Order.{content_key}
use Rattle.justfile_attribute_set.proofs.Sorts.{pair_total}
use Rattle.justfile_attribute_set.proofs.laws.sets_in_order.Goals as goal

pub returns : goal.returns
returns g c = record {
  order = λ p q. refl;
  total = on_total content_key (key_total content_total);
  sorted = in_order_sorts (pair_total _);
  one = sort_is (pair_total _);
  twice = twice_is_once (pair_total _);
}
