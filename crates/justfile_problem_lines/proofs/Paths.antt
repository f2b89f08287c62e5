-- Paths, one more.
use Rattle.std.proofs.Common.{◌≡◌, ◌∙◌, Global, List, [], ◌∷◌, ◌++◌, String, ap, map, string_bytes}
use Rattle.std.proofs.lemmas.List.{map-append}

pub one_more : (old new : List (String Global)) (path : String Global) → new ≡ old ++ path ∷ [] → map string_bytes new ≡ map string_bytes old ++ string_bytes path ∷ []
one_more old new path is = ap (map (λ (s : String Global). string_bytes s)) is ∙ map-append (λ (s : String Global). string_bytes s) old (path ∷ [])
