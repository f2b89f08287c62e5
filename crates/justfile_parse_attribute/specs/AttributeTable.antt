-- The reader of the attributes in a table, whose trees hold all that the parser's trees hold.
use Rattle.std.specs.Prelude.{ℕ, Bool, true, false, List, [], ◌∷◌, ◌++◌, Option, Ok}
use Rattle.justfile_vocabulary.specs.declared.attribute_kind.AttributeKind.{AttributeKind}
use Rattle.justfile_token.specs.declared.token.Token.{Token}
use Rattle.justfile_vocabulary.specs.declared.token_kind.TokenKind.{TokenKind}
use Rattle.justfile_vocabulary.specs.declared.token_kind.TokenKind.TheVariants as kinds
use Rattle.justfile_model.specs.Readers.AttributeReader as attributes
use Rattle.justfile_model.specs.Meanings.Meaning.{by_key, by_position}
use Rattle.justfile_model.specs.Readers.NewAttribute.{new_entry}
use Rattle.justfile_model.specs.Readers.ReaderState as reading
use Rattle.justfile_model.specs.Readers.ReaderState.{◌>>=◌, choose}
use Rattle.justfile_model.specs.Trees.Tree.{Argument, Entry, Expr, WrittenAttribute, commented_entry}
pub use Rattle.justfile_parse_base.specs.SharedTable.{comment_in, view_of}
unfoldable pub use Rattle.justfile_parse_base.specs.SharedTable.{separator}
use Rattle.justfile_parse_expression.specs.TableReader.{Read, Run, State, accept, expect, leaves}
use Rattle.justfile_expression.specs.LeafViews.{views_leaves}
use Rattle.justfile_expression.specs.LeafTree.{Leaf}
use Rattle.justfile_parse_expression.specs.Significant.{TableToken}

-- what a tree holds of an attribute: its meaning
abbrev pub meaning_kept : WrittenAttribute Leaf Token → Entry Leaf Token → Entry Leaf Token
meaning_kept written entry = entry

abbrev pub meaning_in : Entry Leaf Token → Entry Leaf Token
meaning_in entry = entry

abbrev pub Entries : Type 0
Entries = List (Entry Leaf Token)

abbrev pub Arguments : Type 0
Arguments = List (Argument Leaf Token)

abbrev pub argument_of_key : Leaf → Option (Expr Leaf Token) → Argument Leaf Token
argument_of_key = attributes.argument_of_key leaves view_of meaning_kept meaning_in

-- whether there is a keyword argument
abbrev pub some_key : Arguments → Bool
some_key before = attributes.some_key leaves view_of meaning_kept meaning_in (by_key before)

-- an expression with its first token, as a positional argument
abbrev pub placed : State → Read (Argument Leaf Token)
placed = attributes.placed leaves view_of meaning_kept meaning_in

abbrev pub positional : (before : Arguments) → State → Read (Argument Leaf Token)
positional = attributes.positional leaves view_of meaning_kept meaning_in

abbrev pub key_value : State → Read (Option (Expr Leaf Token))
key_value = attributes.key_value leaves view_of meaning_kept meaning_in

abbrev pub keyed : (name : TableToken) (before : Arguments) → State → Read (Argument Leaf Token)
keyed = attributes.keyed leaves view_of meaning_kept meaning_in

abbrev pub begins_key : State → Bool
begins_key = attributes.begins_key leaves view_of meaning_kept meaning_in

abbrev pub argument : (name : TableToken) (keys : Bool) (before : Arguments) → State → Read (Argument Leaf Token)
argument = attributes.argument leaves view_of meaning_kept meaning_in

-- appends the element that was read to those before it
abbrev pub then_last : {X : Type 0} → List X → X × State → Read (List X)
then_last before x = Ok (before ++ x.0 ∷ [], x.1)

-- an argument, appended to those before it
unfoldable pub one_argument : (name : TableToken) (keys : Bool) (before : Arguments) → State → Read Arguments
one_argument name keys before s = argument name keys before s >>= then_last before

unfoldable pub one_positional : (before : Arguments) → State → Read Arguments
one_positional before s = positional before s >>= then_last before

unfoldable pub one_keyed : (name : TableToken) (before : Arguments) → State → Read Arguments
one_keyed name before s = keyed name before s >>= then_last before

-- the argument after a colon
unfoldable pub single_argument : State → Read Arguments
single_argument s = do
  a ← placed s
  Ok (a.0 ∷ [], a.1)

-- the closing parenthesis, or an argument and what follows it; whether the arguments are at their end
unfoldable pub list_step : (name : TableToken) (keys : Bool) (before : Arguments) → State → Read (Arguments × Bool)
list_step name keys before s =
    choose (accept kinds.ParenR s)
    (do
      all ← one_argument name keys before s
      is_last ← separator kinds.ParenR all.1
      Ok ((all.0, is_last.0), is_last.1))
    (λ closer. Ok ((before, true), closer.1))

abbrev pub arguments_from : (name : TableToken) (keys : Bool) → Arguments × State → Read Arguments
arguments_from = attributes.arguments_from leaves view_of meaning_kept meaning_in

abbrev pub arguments : (name : TableToken) (keys : Bool) → State → Read Arguments
arguments = attributes.arguments leaves view_of meaning_kept meaning_in

abbrev pub kind_at : TableToken → State → Read AttributeKind
kind_at = attributes.kind_at leaves view_of meaning_kept meaning_in

abbrev pub made : (before : Entries) → TableToken → AttributeKind → Arguments → State → Read (Entry Leaf Token)
made = attributes.made leaves view_of meaning_kept meaning_in

abbrev pub attribute : (before : Entries) → State → Read (Entry Leaf Token)
attribute = attributes.attribute leaves view_of meaning_kept meaning_in

-- the attribute that these arguments make, at the token of its name, appended to those before it
unfoldable pub one_made : (before : Entries) (name : Token) → AttributeKind → Arguments → State → Read Entries
one_made before name kind arguments s = do
  e ← attributes.read_made (new_entry views_leaves before name kind (by_position arguments) (by_key arguments)) s
  Ok (before ++ e.0 ∷ [], e.1)

-- an attribute, appended to those before it
unfoldable pub one_attribute : (before : Entries) → State → Read Entries
one_attribute before s = attribute before s >>= then_last before

-- an attribute and what follows it; whether the bracket is closed
unfoldable pub bracket_step : (before : Entries) → State → Read (Entries × Bool)
bracket_step before s = do
  all ← one_attribute before s
  is_last ← separator kinds.BracketR all.1
  Ok ((all.0, is_last.0), is_last.1)

abbrev pub bracketed : Entries × State → Read Entries
bracketed = attributes.bracketed leaves view_of meaning_kept meaning_in

-- the end of a line, after its comment if it has one
abbrev pub line_end_after : (comment : Option TableToken) → State → Read (Option TableToken)
line_end_after = attributes.line_end_after leaves view_of meaning_kept meaning_in

-- the end of a line of attributes, and the comment before it, if there is one
abbrev pub attributes_end : State → Read (Option TableToken)
attributes_end = attributes.attributes_end leaves view_of meaning_kept meaning_in

-- the entries, with this comment attached to the last one
abbrev pub commented_by : (comment : Option TableToken) → Entries → Entries
commented_by = attributes.commented_by leaves view_of meaning_kept meaning_in commented_entry

-- a line of attributes after its opening bracket, appended to those before it
unfoldable pub attribute_line : (before : Entries) → State → Read Entries
attribute_line before s = do
  ws ← bracketed (before, s)
  end ← attributes_end ws.1
  Ok (commented_by end.0 ws.0, end.1)

-- a line of attributes, if an opening bracket comes next; whether there are no more lines
unfoldable pub line_step : (before : Entries) → State → Read (Entries × Bool)
line_step before s =
    choose (accept kinds.BracketL s) (Ok ((before, true), s)) (λ opener. do
      ws ← attribute_line before opener.1
      Ok ((ws.0, false), ws.1))

abbrev pub attribute_lines_from : Entries × State → Read Entries
attribute_lines_from = attributes.attribute_lines_from leaves view_of meaning_kept meaning_in commented_entry

-- the lines of attributes before a construct
abbrev pub attribute_lines : State → Read Entries
attribute_lines = attributes.attribute_lines leaves view_of meaning_kept meaning_in commented_entry
