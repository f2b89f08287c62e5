-- The view of the leaves of the parser's trees: their bytes, the texts of literals, and the contents by which attributes are ordered.
use Rattle.std.specs.Prelude.{ℕ, false, List, [], Option, Some, None}
use Rattle.justfile_token.specs.StringKind.{kind_of}
use Rattle.justfile_token.specs.Token.{lexeme_of}
use Rattle.justfile_token.specs.declared.token.Token.{Token}
use Rattle.justfile_model.specs.Trees.ContentLeaf.{LiteralContent}
use Rattle.justfile_model.specs.LiteralTexts.Literals.{token_of}
use Rattle.justfile_model.specs.Trees.LeafView.{LeafView}
use Rattle.justfile_leaves.specs.LeafContent.{token_content}
use Rattle.justfile_expression.specs.LeafTree as leaves
use Rattle.justfile_expression.specs.LeafTree.{Leaf, LiteralText}

abbrev pub leaf_token : Leaf → Token
leaf_token (leaves.Named token number) = token
leaf_token (leaves.Literal literal) = literal.token
leaf_token (leaves.Command token cooked) = token
leaf_token (leaves.Text token) = token
leaf_token (leaves.Assigned name) = name.name
leaf_token (leaves.Headed name) = name.name

-- the text of a leaf, if it is a literal or a command
abbrev pub leaf_cooked : Leaf → Option (List ℕ)
leaf_cooked (leaves.Literal literal) = Some literal.cooked
leaf_cooked (leaves.Command token cooked) = Some cooked
leaf_cooked _ = None

abbrev pub literal_text_content : LiteralText → LiteralContent
literal_text_content l = record { cooked = l.cooked; expand = l.expand; kind = l.kind; part = l.part; token = token_content l.token }

-- the content of a leaf that isn't a literal, in the form of a literal's content
abbrev pub unquoted_content : Token → (cooked : List ℕ) → LiteralContent
unquoted_content token cooked = record { cooked = cooked; expand = false; kind = kind_of (lexeme_of token); part = None; token = token_content token }

abbrev pub leaf_literal : Leaf → LiteralContent
leaf_literal (leaves.Named token number) = unquoted_content token []
leaf_literal (leaves.Literal literal) = literal_text_content literal
leaf_literal (leaves.Command token cooked) = unquoted_content token cooked
leaf_literal (leaves.Text token) = unquoted_content token []
leaf_literal (leaves.Assigned name) = unquoted_content name.name []
leaf_literal (leaves.Headed name) = unquoted_content name.name []

abbrev pub views_leaves : LeafView Leaf Token
views_leaves = record {
  bytes = λ a. lexeme_of (leaf_token a);
  place = leaf_token;
  cooked = λ l. leaf_cooked (token_of l);
  leaf_content = λ kind a. token_content (leaf_token a);
  position_content = λ kind spelled t. token_content t;
  literal_content = λ l. leaf_literal (token_of l);
}
