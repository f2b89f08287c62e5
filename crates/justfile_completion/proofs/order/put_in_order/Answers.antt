use Rattle.std.proofs.Common.{rules}
use Rattle.std.proofs.lemmas.Fn.{always_returns_same, dedup_same}
use Rattle.justfile_completion.specs.Order.{same_name}
use Rattle.justfile_completion.specs.declared.offer.Offer.{Offer}
use Rattle.justfile_completion.proofs.order.put_in_order.Goals as goal

pub returns : goal.returns
returns c =
    record {
      all = c.sort_by_key.new.self.items;
      are_all = c.in_ok-sort_by_key.ensures.permutation;
      by_name = c.in_ok-sort_by_key.ensures.sorted (λ (o : Offer). o.name) (always_returns_same _ _ _ (λ a r q k. search rules));
      kept = c.in_ok-sort_by_key.ensures.stable (λ (o : Offer). o.name) (always_returns_same _ _ _ (λ a r q k. search rules));
      once = dedup_same _ same_name _ (λ x y b q x' y' k. search rules) _ _ c.dedup_by_key.ensures.filtered;
    }
