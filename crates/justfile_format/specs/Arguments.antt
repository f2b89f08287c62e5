-- What the arguments ask the program to do.
use Rattle.std.specs.Prelude.{◌≡◌, List, [], ◌∷◌, String, codes, map, string_bytes}

-- There is no argument: the program writes the canonical text.
abbrev pub AsksFormat : {A : Type 0} → List (String A) → Type 0
AsksFormat arguments = map string_bytes arguments ≡ []

-- `--check` is the only argument: the exit status tells whether the text is canonical.
abbrev pub AsksCheck : {A : Type 0} → List (String A) → Type 0
AsksCheck arguments = map string_bytes arguments ≡ codes "--check" ∷ []
