-- The rules of the parser of attribute lines over significant tokens, and their equations.
use Rattle.std.proofs.Common.{◌≡◌, Bool, List, Option}
use Rattle.justfile_vocabulary.specs.AttributeKind.{kind_named}
use Rattle.justfile_vocabulary.specs.declared.attribute_kind.AttributeKind.{AttributeKind}
use Rattle.justfile_model.specs.Readers.AttributeReader as r
use Rattle.justfile_model.specs.Grammars.Conditions.{Conditions}
use Rattle.justfile_model.specs.Meanings.ReadAttribute.{ReadAttribute, commented_both, entry_read, keep_both, token_view}
use Rattle.justfile_model.specs.Lexing.SignificantTokens.{SignificantToken}
use Rattle.justfile_model.specs.Lexing.Tok.{Tok}
use Rattle.justfile_model.specs.Trees.Tree.{Argument, Expr}
use Rattle.justfile_model.specs.Readers.TreeReader.{Read, State, token_leaves}
use Rattle.justfile_model.proofs.Readers.AttributeReading as reading

-- arguments that were read, and attributes, with what is left
abbrev pub ArgumentPlace : Type 0
ArgumentPlace = List (Argument Tok Tok) × State

abbrev pub AttributePlace : Type 0
AttributePlace = List ReadAttribute × State

abbrev pub ReadArguments : Type 0
ReadArguments = Read (List (Argument Tok Tok))

abbrev pub ReadAttributes : Type 0
ReadAttributes = Read (List ReadAttribute)

-- ---- the rules

abbrev pub placed_at : Option SignificantToken → Expr Tok Tok × State → Read (Argument Tok Tok)
placed_at = r.placed_at token_leaves token_view keep_both entry_read

abbrev pub placed : State → Read (Argument Tok Tok)
placed = r.placed token_leaves token_view keep_both entry_read

abbrev pub after_keys : Bool → Argument Tok Tok × State → Read (Argument Tok Tok)
after_keys = r.after_keys token_leaves token_view keep_both entry_read

abbrev pub some_key : {X : Type 0} → List X → Bool
some_key = r.some_key token_leaves token_view keep_both entry_read

abbrev pub positional : List (Argument Tok Tok) → State → Read (Argument Tok Tok)
positional = r.positional token_leaves token_view keep_both entry_read

abbrev pub argument_of_key : Tok → Option (Expr Tok Tok) → Argument Tok Tok
argument_of_key = r.argument_of_key token_leaves token_view keep_both entry_read

abbrev pub key_value : State → Read (Option (Expr Tok Tok))
key_value = r.key_value token_leaves token_view keep_both entry_read

abbrev pub is_repeated : Conditions → List (Argument Tok Tok) → SignificantToken → Bool
is_repeated = r.is_repeated token_leaves token_view keep_both entry_read

abbrev pub distinct : (name : SignificantToken) → List (Argument Tok Tok) → (key : SignificantToken) → Option (Expr Tok Tok) × State → Read (Argument Tok Tok)
distinct = r.distinct token_leaves token_view keep_both entry_read

abbrev pub keyed : (name : SignificantToken) → List (Argument Tok Tok) → State → Read (Argument Tok Tok)
keyed = r.keyed token_leaves token_view keep_both entry_read

abbrev pub begins_key : State → Bool
begins_key = r.begins_key token_leaves token_view keep_both entry_read

abbrev pub argument : (name : SignificantToken) (keys : Bool) → List (Argument Tok Tok) → State → Read (Argument Tok Tok)
argument = r.argument token_leaves token_view keep_both entry_read

abbrev pub arguments_end : List (Argument Tok Tok) → State → ReadArguments
arguments_end = r.arguments_end token_leaves token_view keep_both entry_read

abbrev pub arguments_rule : (name : SignificantToken) (keys : Bool) → (ArgumentPlace → ReadArguments) → ArgumentPlace → ReadArguments
arguments_rule = r.arguments_rule token_leaves token_view keep_both entry_read

abbrev pub arguments_from : (name : SignificantToken) (keys : Bool) → ArgumentPlace → ReadArguments
arguments_from = r.arguments_from token_leaves token_view keep_both entry_read

abbrev pub arguments : (name : SignificantToken) (keys : Bool) → State → ReadArguments
arguments = r.arguments token_leaves token_view keep_both entry_read

abbrev pub kind_at : SignificantToken → State → Read AttributeKind
kind_at = r.kind_at token_leaves token_view keep_both entry_read

abbrev pub made : List ReadAttribute → SignificantToken → AttributeKind → List (Argument Tok Tok) → State → Read ReadAttribute
made = r.made token_leaves token_view keep_both entry_read

abbrev pub attribute : List ReadAttribute → State → Read ReadAttribute
attribute = r.attribute token_leaves token_view keep_both entry_read

abbrev pub bracket_end : List ReadAttribute → State → ReadAttributes
bracket_end = r.bracket_end token_leaves token_view keep_both entry_read

abbrev pub bracketed_rule : (AttributePlace → ReadAttributes) → AttributePlace → ReadAttributes
bracketed_rule = r.bracketed_rule token_leaves token_view keep_both entry_read

abbrev pub bracketed : AttributePlace → ReadAttributes
bracketed = r.bracketed token_leaves token_view keep_both entry_read

abbrev pub attributes_end : State → Read (Option SignificantToken)
attributes_end = r.attributes_end token_leaves token_view keep_both entry_read

abbrev pub commented_by : Option SignificantToken → List ReadAttribute → List ReadAttribute
commented_by = r.commented_by token_leaves token_view keep_both entry_read commented_both

abbrev pub attribute_lines_rule : (AttributePlace → ReadAttributes) → AttributePlace → ReadAttributes
attribute_lines_rule = r.attribute_lines_rule token_leaves token_view keep_both entry_read commented_both

abbrev pub attribute_lines_from : AttributePlace → ReadAttributes
attribute_lines_from = r.attribute_lines_from token_leaves token_view keep_both entry_read commented_both

-- the kind of this name, if there is one
abbrev pub kind_or_refused : SignificantToken → State → Option AttributeKind → Read AttributeKind
kind_or_refused = reading.kind_or_refused token_leaves token_view keep_both entry_read

-- ---- one step

pub kind_at_is : (name : SignificantToken) (s : State) → kind_at name s ≡ kind_or_refused name s (kind_named name.tok.lexeme)
kind_at_is = reading.kind_at_is token_leaves token_view keep_both entry_read

pub arguments_from_is : (name : SignificantToken) (keys : Bool) (x : ArgumentPlace)
    → arguments_from name keys x ≡ arguments_rule name keys (arguments_from name keys) x
arguments_from_is = reading.arguments_from_is token_leaves token_view keep_both entry_read

pub bracketed_is : (x : AttributePlace) → bracketed x ≡ bracketed_rule bracketed x
bracketed_is = reading.bracketed_is token_leaves token_view keep_both entry_read

pub attribute_lines_from_is : (x : AttributePlace) → attribute_lines_from x ≡ attribute_lines_rule attribute_lines_from x
attribute_lines_from_is = reading.attribute_lines_from_is token_leaves token_view keep_both entry_read commented_both
