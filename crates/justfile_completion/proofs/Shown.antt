-- What is shown beside a word.
use Rattle.std.proofs.Common.{◌≡◌, ◌∙◌, ℕ, Bool, true, false, List, [], ◌∷◌, Option, None, Some, ap, cond, map, refl, sym}
use Rattle.std.specs.Prelude.{option_map}
use Rattle.std.specs.List.{find}
use Rattle.std.specs.Str.{bytes_eq}
use Rattle.justfile_completion.specs.Offers.{Told}
use Rattle.justfile_completion.specs.Tables.{built_in, shown_in}
use Rattle.justfile_completion.specs.declared.tables.BuiltIns.{BuiltIns}

module _ {W : Type 0} (f : W → Told) (name : List ℕ) where
  by_case : (b : Bool) (w : W) (o : Option W) (p : Option Told) → option_map (λ w. (f w).detail) o ≡ option_map (λ (t : Told). t.detail) p
      → option_map (λ w. (f w).detail) (cond b (Some w) o) ≡ option_map (λ (t : Told). t.detail) (cond b (Some (f w)) p)
  by_case true w o p e = refl
  by_case false w o p e = e

  found : (ws : List W) → option_map (λ w. (f w).detail) (find (λ w. bytes_eq (f w).name name) ws) ≡ option_map (λ (t : Told). t.detail) (find (λ (t : Told). bytes_eq t.name name) (map f ws))
  found [] = refl
  found (w ∷ ws) = by_case (bytes_eq (f w).name name) w (find (λ w. bytes_eq (f w).name name) ws) (find (λ (t : Told). bytes_eq t.name name) (map f ws)) (found ws)

  at_part : (part : BuiltIns) (ws : List W) → map f ws ≡ built_in part → option_map (λ w. (f w).detail) (find (λ w. bytes_eq (f w).name name) ws) ≡ shown_in name part
  at_part part ws is = found ws ∙ ap (λ ts. option_map (λ (t : Told). t.detail) (find (λ (t : Told). bytes_eq t.name name) ts)) is

  pub shown_beside : (part : BuiltIns) (ws : List W) (w : W) → map f ws ≡ built_in part → find (λ w. bytes_eq (f w).name name) ws ≡ Some w → Some ((f w).detail) ≡ shown_in name part
  shown_beside part ws w is e = sym (ap (option_map (λ w. (f w).detail)) e) ∙ at_part part ws is

  pub not_shown : (part : BuiltIns) (ws : List W) → map f ws ≡ built_in part → find (λ w. bytes_eq (f w).name name) ws ≡ None → None ≡ shown_in name part
  not_shown part ws is e = sym (ap (option_map (λ w. (f w).detail)) e) ∙ at_part part ws is
