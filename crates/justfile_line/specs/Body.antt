-- The trees of body lines and fragments, and their texts.
use Rattle.std.specs.Prelude.{ℕ, List, [], map}
use Rattle.std.specs.List.{flat_map}
use Rattle.justfile_model.specs.Lexing.Tok.{Tok, tok_of}
use Rattle.justfile_model.specs.Trees.Tree as tree
use Rattle.justfile_model.specs.Trees.Tree.{lexeme, nothing, over_fragment, over_line}
use Rattle.justfile_model.specs.Printed.Printing.{fragment_text}
use Rattle.justfile_expression.specs.Expression.{expr_of, expr_cooked}
use Rattle.justfile_line.specs.declared.fragment.Fragment.{Fragment}
use Rattle.justfile_line.specs.declared.fragment.Fragment.TheVariants.{Interpolation, Text}
use Rattle.justfile_line.specs.declared.line.Line.{Line}

-- the tree of a fragment
abbrev pub fragment_of : Fragment → tree.Fragment Tok Tok
fragment_of (Interpolation expression) = tree.Interpolation (expr_of expression)
fragment_of (Text token) = tree.Text (tok_of token)

-- the tree of a line
abbrev pub body_line_of : Line → tree.BodyLine Tok Tok ℕ
body_line_of line = tree.Line line.number (map fragment_of line.fragments.items)

-- the shape of a fragment: its tree with lexemes in place of tokens
abbrev pub fragment_shape : Fragment → tree.Fragment (List ℕ) (Unit {0})
fragment_shape f = over_fragment lexeme nothing (fragment_of f)

-- the shapes of fragments
abbrev pub fragment_shapes : List Fragment → List (tree.Fragment (List ℕ) (Unit {0}))
fragment_shapes fragments = map (over_fragment lexeme nothing) (map fragment_of fragments)

-- the texts of fragments
abbrev pub fragments_text : List Fragment → List ℕ
fragments_text fragments = flat_map fragment_text (fragment_shapes fragments)

-- the shape of a line
abbrev pub line_shape : Line → tree.BodyLine (List ℕ) (Unit {0}) (Unit {0})
line_shape line = over_line lexeme nothing nothing (body_line_of line)

-- the shapes of lines
abbrev pub line_shapes : List Line → List (tree.BodyLine (List ℕ) (Unit {0}) (Unit {0}))
line_shapes lines = map (over_line lexeme nothing nothing) (map body_line_of lines)

-- the texts of a fragment's literals, in order
abbrev pub fragment_cooked : Fragment → List (List ℕ)
fragment_cooked (Interpolation expression) = expr_cooked expression
fragment_cooked (Text token) = []

-- the texts of a line's literals, in order
abbrev pub line_cooked : Line → List (List ℕ)
line_cooked line = flat_map fragment_cooked line.fragments.items
