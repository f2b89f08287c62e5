-- Questions about a line of a body.
use Rattle.std.specs.Prelude.{◌≡◌, ℕ, ◌-◌, Bool, List, [], ◌++◌, length, Option, Some, None, IsSomeAnd, codes}
use Rattle.std.specs.List.{slice_get}
use Rattle.std.specs.Option.{option_and_then}
use Rattle.justfile_token.specs.Token.{lexeme_of}
use Rattle.justfile_line.specs.declared.fragment.Fragment.{Fragment}
use Rattle.justfile_line.specs.declared.fragment.Fragment.TheVariants.{Interpolation, Text}
use Rattle.justfile_line.specs.declared.line.Line.{Line}
use Rattle.justfile_line.specs.declared.sigil.Sigil.{Sigil}
use Rattle.justfile_line.specs.Sigil.{IsSigilOf}

-- the bytes of a fragment that is a text
abbrev pub text_of_fragment : Fragment → Option (List ℕ)
text_of_fragment (Interpolation expression) = None
text_of_fragment (Text token) = Some (lexeme_of token)

-- the text that a line begins with, if its first fragment is one
abbrev pub first_text : Line → Option (List ℕ)
first_text line = option_and_then text_of_fragment (slice_get line.fragments.items 0)

-- the text that a line ends with, if its last fragment is one
abbrev pub last_text : Line → Option (List ℕ)
last_text line = option_and_then text_of_fragment (slice_get line.fragments.items (length line.fragments.items - 1))

-- the first fragment is a text that begins with these bytes
abbrev pub BeginsWith : Line → List ℕ → Type 0
BeginsWith line front = (rest : List ℕ) × (first_text line ≡ Some (front ++ rest))

-- the last fragment is a text that ends in these bytes
abbrev pub EndsWith : Line → List ℕ → Type 0
EndsWith line back = (rest : List ℕ) × (last_text line ≡ Some (rest ++ back))

abbrev pub IsComment : Line → Type 0
IsComment line = BeginsWith line (codes "#")

abbrev pub IsShebang : Line → Type 0
IsShebang line = BeginsWith line (codes "#!")

abbrev pub IsContinuation : Line → Type 0
IsContinuation line = EndsWith line (codes "\\")

-- no fragment
abbrev pub IsEmpty : Line → Type 0
IsEmpty line = line.fragments.items ≡ []

-- its first fragment is a text, and it is a sigil of that text
abbrev pub HasSigil : Bool → Line → Sigil → Type 0
HasSigil guards line s = IsSomeAnd (first_text line) (λ text. IsSigilOf guards text s)
