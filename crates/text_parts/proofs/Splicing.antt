-- A vector some of whose elements were replaced by those of another one.
use Rattle.std.proofs.Common.{◌≡◌, ◌∙◌, ℕ, List, ◌++◌, length, take, drop, sym, ap, append_assoc, map-id}
use Rattle.std.specs.Iterator.{Drains}
use Rattle.std.specs.List.{splice}
use Rattle.std.specs.Vec.Iter.{into_iter_items, into_iter_len, into_iter_steps}
use Rattle.std.specs.declared.vec.IntoIter.{IntoIter}
use Rattle.std.proofs.lemmas.Iterator.{items_from_drains}
use Rattle.std.proofs.lemmas.Iterator.Adapters.{YieldsList-from_vec}

pub spliced_items : {X Z : Type 0} (old found new xs : List X) (start end : ℕ) (s : IntoIter X Z) → into_iter_items s ≡ found
    → into_iter_len s ≡ length found → Drains (into_iter_steps {X = X} {Z = Z}) s xs → new ≡ splice old start end xs
    → new ≡ (take start old ++ found) ++ drop end old
spliced_items {X} {Z} old found new xs start end s items size d e =
    let drained : xs ≡ found =
    sym (map-id xs) ∙ items_from_drains xs (d.1.0, d.1.1, λ _. (d.0, d.1.2)) (YieldsList-from_vec {s = s} found items size)
    in
    e ∙ ap (λ l. take start old ++ (l ++ drop end old)) drained ∙ sym (append_assoc (take start old) found (drop end old))
