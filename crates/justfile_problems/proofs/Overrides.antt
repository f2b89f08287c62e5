-- What later definitions override, with one earlier definition.
use Rattle.std.proofs.Common.{◌≡◌, ◌∙◌, ◌<◌, ◌&&◌, ◌||◌, ℕ, suc, Bool, List, ◌∷◌, length, drop, get_or, nat_eq, sym, ap, drop-cons}
use Rattle.justfile_problems.specs.declared.facts.Definition.{Definition}
use Rattle.justfile_problems.specs.declared.key.Key.{Key}
use Rattle.justfile_problems.specs.Names.{key_of, same}
use Rattle.justfile_problems.specs.Overridden.{either_has, has_node, is_node, is_overridden, offset_of}

module _ (ds : List Definition) (i j : ℕ) (d : Definition) (inside : i < length ds) (at : d ≡ get_or ds i d) (next : j ≡ suc i) where
  earlier : drop i ds ≡ d ∷ drop j ds
  earlier = drop-cons ds i d inside ∙ ap (λ x. x ∷ drop (suc i) ds) (sym at) ∙ ap (λ n. d ∷ drop n ds) (sym next)

  pub keys_earlier : (k : Key) (old new : Bool) → old ≡ has_node (drop j ds) k → new ≡ ((is_node d && same (key_of d) k) || old) → new ≡ has_node (drop i ds) k
  keys_earlier k old new so_far e = e ∙ ap (λ b. (is_node d && same (key_of d) k) || b) so_far ∙ ap (λ l. has_node l k) (sym earlier)

  pub offsets_earlier : (others : List Definition) (offset : ℕ) (elsewhere later old new : Bool) → elsewhere ≡ has_node others (key_of d) → later ≡ has_node (drop j ds) (key_of d) → old ≡ is_overridden others (drop j ds) offset
      → new ≡ ((nat_eq (offset_of d.name) offset && (is_node d && (elsewhere || later))) || old) → new ≡ is_overridden others (drop i ds) offset
  offsets_earlier others offset elsewhere later old new has_others has so_far e =
      e ∙ ap (λ b. (nat_eq (offset_of d.name) offset && (is_node d && (b || later))) || old) has_others
      ∙ ap (λ b. (nat_eq (offset_of d.name) offset && (is_node d && (has_node others (key_of d) || b))) || old) has
      ∙ ap (λ b. (nat_eq (offset_of d.name) offset && (is_node d && either_has others (drop j ds) (key_of d))) || b) so_far ∙ ap (λ l. is_overridden others l offset) (sym earlier)
