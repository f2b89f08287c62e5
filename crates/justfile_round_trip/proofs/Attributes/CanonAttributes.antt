-- The printer's tokens of attributes, before other tokens, and their text.
use Rattle.std.proofs.Common.{◌≡◌, ℕ, List, [], ◌∷◌, ◌++◌, Option, Some, None, refl, ap, codes}
use Rattle.std.specs.List.{flat_map}
use Rattle.justfile_vocabulary.specs.declared.token_kind.TokenKind.TheVariants as kinds
use Rattle.justfile_model.specs.Trees.Tree as tree
use Rattle.justfile_model.specs.Trees.Tree.{WrittenAttribute, Positional, Bare, Keyed, Entry}
use Rattle.justfile_model.specs.Printed.Printing.{after_line_text, fixed_text, expr_text, argument_text, arguments_text, parenthesized_arguments, attribute_arguments, entry_text, entries_text}
use Rattle.justfile_model.specs.Printed.PrintedAttributes.{rewritten_entry, rewritten_entries}
use Rattle.justfile_round_trip.proofs.LiteralTexts.LexedModes.{Sign, sign, space, newline, text_of}
use Rattle.justfile_round_trip.proofs.Canon.{word, paren_left, paren_right, comma, expr_signs, expr_is, then, joined}

-- What attributes of a shape are made of: arguments, attributes as they are written, and what they mean.
abbrev pub Argument : Type 0
Argument = tree.Argument (List ℕ) (Unit {0})

abbrev pub Written : Type 0
Written = WrittenAttribute (List ℕ) (Unit {0})

abbrev pub ShapeEntry : Type 0
ShapeEntry = Entry (List ℕ) (Unit {0})

abbrev pub equals : Sign
equals = sign kinds.Equals (codes "=")

abbrev pub bracket_left : Sign
bracket_left = sign kinds.BracketL (codes "[")

abbrev pub bracket_right : Sign
bracket_right = sign kinds.BracketR (codes "]")

abbrev pub argument_signs : Argument → List Sign → List Sign
argument_signs (Positional first value) ts = expr_signs value ts
argument_signs (Bare key) ts = word key ∷ ts
argument_signs (Keyed key value) ts = word key ∷ equals ∷ expr_signs value ts

abbrev pub other_arguments_signs : List Argument → List Sign → List Sign
other_arguments_signs [] ts = ts
other_arguments_signs (a ∷ arguments) ts = comma ∷ space ∷ argument_signs a (other_arguments_signs arguments ts)

abbrev pub parenthesized_signs : List Argument → List Sign → List Sign
parenthesized_signs [] ts = ts
parenthesized_signs (a ∷ arguments) ts = paren_left ∷ argument_signs a (other_arguments_signs arguments (paren_right ∷ ts))

abbrev pub comment_signs : Option (List ℕ) → List Sign → List Sign
comment_signs None ts = ts
comment_signs (Some t) ts = space ∷ sign kinds.Comment t ∷ ts

abbrev pub written_signs : Written → List Sign → List Sign
written_signs w ts = bracket_left ∷ word w.name ∷ parenthesized_signs w.arguments (bracket_right ∷ comment_signs w.comment (newline ∷ ts))

abbrev pub attributes_signs : List Written → List Sign → List Sign
attributes_signs [] ts = ts
attributes_signs (w ∷ ws) ts = written_signs w (attributes_signs ws ts)

abbrev pub entries_signs : List ShapeEntry → List Sign → List Sign
entries_signs entries = attributes_signs (rewritten_entries entries)

-- ---- their text is the text of the definitions

argument_is : (a : Argument) (ts : List Sign) → argument_text a ++ text_of ts ≡ text_of (argument_signs a ts)
unfolding fixed_text
argument_is (Positional first value) ts = expr_is value ts
argument_is (Bare key) ts = refl
argument_is (Keyed key value) ts = joined key (codes "=") (expr_text value) _ (expr_is value ts) refl

arguments_are : (a : Argument) (arguments : List Argument) (ts : List Sign)
    → arguments_text (a ∷ arguments) ++ text_of ts ≡ text_of (argument_signs a (other_arguments_signs arguments ts))
unfolding fixed_text
arguments_are a [] ts = argument_is a ts
arguments_are a (b ∷ arguments) ts = joined (argument_text a) (codes ", ") (arguments_text (b ∷ arguments)) _ (arguments_are b arguments ts) (argument_is a _)

parenthesized_is : (arguments : List Argument) (ts : List Sign) → parenthesized_arguments arguments ++ text_of ts ≡ text_of (parenthesized_signs arguments ts)
unfolding fixed_text
parenthesized_is [] ts = refl
parenthesized_is (a ∷ arguments) ts = ap (λ t. 40 ∷ t) (then (arguments_text (a ∷ arguments)) (codes ")") (text_of ts) refl (arguments_are a arguments (paren_right ∷ ts)))

pub comment_is : (comment : Option (List ℕ)) (ts : List Sign) → after_line_text comment ++ text_of ts ≡ text_of (comment_signs comment ts)
unfolding fixed_text
comment_is None ts = refl
comment_is (Some t) ts = refl

entry_is : (e : ShapeEntry) (ts : List Sign) → entry_text e ++ text_of ts ≡ text_of (written_signs (rewritten_entry e) ts)
unfolding fixed_text
entry_is e ts =
    let name = (rewritten_entry e).name in
    let arguments = attribute_arguments e.attribute in
    let inside = name ++ parenthesized_arguments arguments in
    ap (λ t. 91 ∷ t) (then ((inside ++ codes "]") ++ after_line_text e.comment) (codes "\n") (text_of ts) refl
    (then (inside ++ codes "]") (after_line_text e.comment) _ (comment_is e.comment (newline ∷ ts))
    (then inside (codes "]") _ refl (then name (parenthesized_arguments arguments) _ (parenthesized_is arguments _) refl))))

pub entries_are : (entries : List ShapeEntry) (ts : List Sign) → entries_text entries ++ text_of ts ≡ text_of (entries_signs entries ts)
entries_are [] ts = refl
entries_are (e ∷ entries) ts = then (entry_text e) (flat_map entry_text entries) (text_of ts) (entries_are entries ts) (entry_is e _)
