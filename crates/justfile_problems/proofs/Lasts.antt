-- The last definition of a name, one definition later.
use Rattle.std.proofs.Common.{◌≡◌, ◌∙◌, ◌<◌, ◌+◌, ℕ, suc, Option, Some, None, List, [], ◌∷◌, ◌++◌, length, take, get_or, refl, sym, ap, arith}
use Rattle.std.specs.Option.{option_or}
use Rattle.std.proofs.lemmas.List.{length-take, take_more}
use Rattle.justfile_problems.specs.declared.facts.Definition.{Definition}
use Rattle.justfile_problems.specs.declared.key.Key.{Key}
use Rattle.justfile_problems.specs.declared.nodes.Node.{Node}
use Rattle.justfile_problems.specs.Circular.{last_with, node_at}

or_none : (o : Option Node) → o ≡ option_or o None
or_none None = refl
or_none (Some n) = refl

or_or : (a b c : Option Node) → option_or (option_or a b) c ≡ option_or a (option_or b c)
or_or None b c = refl
or_or (Some n) b c = refl

last_push : (index : ℕ) (ds : List Definition) (d : Definition) (k : Key) → last_with index (ds ++ d ∷ []) k ≡ option_or (node_at (index + length ds) d k) (last_with index ds k)
last_push index [] d k = or_none (node_at index d k) ∙ ap (λ i. option_or (node_at i d k) None) (omega arith)
last_push index (x ∷ xs) d k =
    ap (λ o. option_or o (node_at index x k)) (last_push (suc index) xs d k)
    ∙ or_or (node_at (suc index + length xs) d k) (last_with (suc index) xs k) (node_at index x k)
    ∙ ap (λ i. option_or (node_at i d k) (option_or (last_with (suc index) xs k) (node_at index x k))) (omega arith)

pub one_later : (ds : List Definition) (i : ℕ) (d : Definition) (k : Key) → i < length ds → d ≡ get_or ds i d → (old new : Option Node) → old ≡ last_with 0 (take i ds) k
    → new ≡ option_or (node_at i d k) old → new ≡ last_with 0 (take (i + 1) ds) k
one_later ds i d k inside at old new so_far e =
    let count : i ≡ 0 + length (take i ds) = omega (arith, inside, length-take i ds) in
    e ∙ ap (λ o. option_or (node_at i d k) o) so_far ∙ ap (λ n. option_or (node_at n d k) (last_with 0 (take i ds) k)) count
    ∙ sym (ap (λ l. last_with 0 l k) (take_more ds i d inside ∙ ap (λ y. take i ds ++ y ∷ []) (sym at)) ∙ last_push 0 (take i ds) d k)
