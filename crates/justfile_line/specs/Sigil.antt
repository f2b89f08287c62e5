-- Sigils, and those at the front of a text.
use Rattle.std.specs.Prelude.{◌≡◌, ◌≢◌, ℕ, Bool, List, [], ◌∷◌, ◌++◌, Option, Some, None, ◌==◌, if◌then◌else◌, map, IsTrue, AllPairs, Contains}
use Rattle.justfile_line.specs.declared.sigil.Sigil.{Sigil}
use Rattle.justfile_line.specs.declared.sigil.Sigil.TheVariants.{Guard, Infallible, Quiet}
use Rattle.justfile_vocabulary.specs.ByteNames as byte

-- all sigils in declared order
abbrev pub sigils_in_order : List Sigil
sigils_in_order = Guard ∷ Infallible ∷ Quiet ∷ []

-- the bytes of sigils: `?`, `-` and `@`
abbrev pub byte_of : Sigil → ℕ
byte_of Guard = byte.question_mark
byte_of Infallible = byte.minus
byte_of Quiet = byte.at

-- the sigil for a byte; `?` is a sigil only with guards
abbrev pub sigil_of : Bool → ℕ → Option Sigil
sigil_of guards b =
    if b == byte_of Guard then (if guards then Some Guard else None)
    else if b == byte_of Infallible then Some Infallible
    else if b == byte_of Quiet then Some Quiet
    else None

-- a text begins with these sigils, which are all different; `?` is one of them only with guards
pub record BeginsWithSigils (guards : Bool) (text : List ℕ) (sigils : List Sigil) : Type 0 where
  pub different : AllPairs (λ s t. s ≢ t) sigils
  pub guarded : Contains sigils Guard → IsTrue guards
  pub rest : List ℕ
  pub begins : text ≡ map byte_of sigils ++ rest

-- one of the different sigils at the front of a text
abbrev pub IsSigilOf : Bool → List ℕ → Sigil → Type 0
IsSigilOf guards text s = (sigils : List Sigil) × BeginsWithSigils guards text sigils × Contains sigils s
