-- What is printed of a text, part by part.
use Rattle.std.specs.Prelude.{◌≡◌, ◌⊎◌, ℕ, ◌+◌, ◌-◌, ◌<◌, Bool, true, false, List, [], ◌∷◌, ◌++◌, drop, nat_eq, Option, None, Some, Ok, codes, string_bytes}
use Rattle.justfile_vocabulary.specs.Indentation.{indentation_text}
use Rattle.justfile_vocabulary.specs.declared.indentation.Indentation.{Indentation}
use Rattle.justfile_token.specs.Slice.{slice_of}
use Rattle.justfile_model.specs.Grammars.Features.{Noted}
use Rattle.justfile_model.specs.Lexing.Tok.{Tok}
use Rattle.justfile_model.specs.LiteralTexts.Literals.{string_text}
use Rattle.justfile_model.specs.Meanings.Enabled.{indentation_of}
use Rattle.justfile_model.specs.Printed.Printing.{printable}
use Rattle.justfile_model.specs.Trees.Tree as tree
use Rattle.justfile_model.specs.Trees.Tree.{Shape, Tree, shape_of}
use Rattle.justfile_ast.specs.Separator.{front_text, last_separator}
use Rattle.justfile_ast.specs.declared.separator.Separator.{Separator}
use Rattle.justfile_ast.specs.declared.separator.Separator.TheVariants.{Start}
use Rattle.justfile_round_trip.specs.RoundTrip.{TextDerives}
use Rattle.justfile_chunks.specs.Parts.{BeginsAtOnce, IsRead, chunk}
use Rattle.justfile_chunks.specs.PartTables.{IsLineStart}
use Rattle.justfile_canonical.specs.Root.{conditions}
use Rattle.justfile_canonical.specs.declared.parts.Printer.{Printer}

-- ---- what is printed so far

-- the indentation of body lines, where items set this one or none
abbrev pub indentation_in_use : Option Indentation → List ℕ
indentation_in_use None = codes "    "
indentation_in_use (Some indentation) = indentation_text indentation

-- The indentation is the text of the literal, or there is neither.
abbrev pub IsSetBy : (literal : Option (List ℕ)) → Option Indentation → Type 0
IsSetBy None None = Unit {0}
IsSetBy (Some lexeme) (Some indentation) = string_text lexeme ≡ Ok (indentation_text indentation)
IsSetBy _ _ = ⊥

-- The items of this shape are printed.
pub record HasPrinted (shape : Shape) (printer : Printer) : Type 0 where
  pub text : string_bytes printer.printed ≡ front_text (indentation_in_use printer.indentation) Start shape
  pub separator : printer.separator ≡ last_separator Start shape
  pub can_be_printed : printable shape ≡ true
  pub indented : IsSetBy (indentation_of shape) printer.indentation

-- The indentation that is set first counts. A later part sets none after items are printed without it.
abbrev pub IsChosen : (old set : Option Indentation) → Separator → (new : Option Indentation) → Type 0
IsChosen (Some indentation) set separator new = new ≡ Some indentation
IsChosen None None separator new = new ≡ None
IsChosen None (Some indentation) separator new = (new ≡ Some indentation) × (separator ≡ Start)

-- ---- parts

-- the items of a part of a text: those of a later part are without the line end before it
abbrev pub own_items : {X : Type 0} → (is_first : Bool) → List X → List X
own_items true items = items
own_items false items = drop 1 items

abbrev pub HasLineEnd : (is_first : Bool) → Shape → Type 0
HasLineEnd true shape = Unit {0}
HasLineEnd false shape = (others : Shape) × (shape ≡ tree.Newline ∷ others)

-- The text of a later part begins with the line feed before it, and then at once.
abbrev pub IsPartText : (is_first : Bool) → List ℕ → Type 0
IsPartText true text = Unit {0}
IsPartText false text = BeginsAtOnce (chunk text 0 0)

-- What is before the last byte of this text was read up to that byte, and is printed after what was before it.
pub record IsPrintedBy (part : List ℕ) (is_first : Bool) (old new : Printer) : Type 0 where
  pub text : List ℕ
  pub next : ℕ
  pub part_is : part ≡ text ++ (next ∷ [])
  pub tree : Tree
  pub features : List (Noted Tok)
  pub read : IsRead conditions text next tree features
  pub printed : (before : Shape) → HasPrinted before old → HasPrinted (before ++ own_items is_first (shape_of tree)) new

-- The text derives a tree, which is printed after what was before it.
pub record IsRestPrinted (rest : List ℕ) (old new : Printer) : Type 0 where
  pub tree : Tree
  pub features : List (Noted Tok)
  pub derives : TextDerives conditions rest tree features
  pub printed : (before : Shape) → HasPrinted before old → HasPrinted (before ++ own_items false (shape_of tree)) new

-- The rest was printed, and with a line end this is all that is printed.
pub record IsFinished (rest : List ℕ) (old : Printer) (text : List ℕ) : Type 0 where
  pub new : Printer
  pub printed : IsRestPrinted rest old new
  pub begun : new.separator ≡ Start → ⊥
  pub is : text ≡ string_bytes new.printed ++ codes "\n"

-- ---- places

-- The text begins here, or a line does, at once.
abbrev pub IsPartStart : List ℕ → ℕ → Type 0
IsPartStart text at = (at ≡ 0) ⊎ IsLineStart text at

-- the text from the line feed before one place up to the first byte of another one
abbrev pub text_to : List ℕ → (at cut : ℕ) → List ℕ
text_to source at cut = slice_of source (at - 1) (cut + 1 - (at - 1))

-- What is between these places was read and printed.
pub record IsPrintedTo (source : List ℕ) (at cut : ℕ) (old new : Printer) : Type 0 where
  pub later : at < cut
  pub start : IsLineStart source cut
  pub printed : IsPrintedBy (text_to source at cut) (nat_eq at 0) old new
