-- What a loop adds for each element.
use Rattle.std.proofs.Common.{◌≡◌, ◌∙◌, ◌<◌, ◌+◌, ℕ, List, [], ◌∷◌, ◌++◌, map, length, take, get_or, String, sym, ap, append_assoc}
use Rattle.std.specs.Global.{Global}
use Rattle.std.specs.List.{flat_map}
use Rattle.std.specs.Prelude.{string_bytes}
use Rattle.std.proofs.lemmas.List.{flat_map_more, map-append, take_more}
use Rattle.justfile_outline.specs.Shown.{Shown, shown}
use Rattle.justfile_outline.specs.declared.symbol.Symbol.{Symbol}

-- ---- one more element

pub joined : (t u v a b : List ℕ) → u ≡ t ++ a → v ≡ u ++ b → v ≡ t ++ (a ++ b)
joined t u v a b p q = q ∙ ap (λ x. x ++ b) p ∙ append_assoc t a b

pub pushed_text : (old new : List (String Global)) (text : String Global) (bytes : List ℕ) → new ≡ old ++ text ∷ [] → string_bytes text ≡ bytes
    → map string_bytes new ≡ map string_bytes old ++ bytes ∷ []
pushed_text old new text bytes e is = ap (map string_bytes) e ∙ map-append string_bytes old (text ∷ []) ∙ ap (λ b. map string_bytes old ++ b ∷ []) is

pub pushed_symbol : (old new : List Symbol) (symbol : Symbol) (want : Shown) → new ≡ old ++ symbol ∷ [] → shown symbol ≡ want → map shown new ≡ map shown old ++ want ∷ []
pushed_symbol old new symbol want e is = ap (map shown) e ∙ map-append shown old (symbol ∷ []) ∙ ap (λ s. map shown old ++ s ∷ []) is

-- ---- what a loop has gathered of each element

pub gathered : {X A : Type 0} (xs : List X) (i : ℕ) (x : X) → i < length xs → x ≡ get_or xs i x → (f : X → List A) (t u : List A) → t ≡ flat_map f (take i xs) → u ≡ t ++ f x
    → u ≡ flat_map f (take (i + 1) xs)
gathered xs i x inside at f t u so_far e =
    e ∙ ap (λ a. a ++ f x) so_far ∙ flat_map_more f [] (take i xs) x ∙ ap (flat_map f) (sym (take_more xs i x inside ∙ ap (λ y. take i xs ++ y ∷ []) (sym at)))
