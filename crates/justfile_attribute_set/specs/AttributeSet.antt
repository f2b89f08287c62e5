-- The contents of a set of attributes.
use Rattle.std.specs.Prelude.{◌≡◌, List, map, Option, Some, None}
use Rattle.justfile_token.specs.Token.{lexeme_of}
use Rattle.justfile_vocabulary.specs.declared.attribute_kind.AttributeKind.{AttributeKind}
use Rattle.justfile_token.specs.declared.compile_error.CompileError.{CompileError}
use Rattle.justfile_token.specs.declared.compile_error_kind.CompileErrorKind.{CompileErrorKind}
use Rattle.justfile_token.specs.declared.compile_error_kind.CompileErrorKind.TheVariants.{InvalidAttribute}
use Rattle.justfile_vocabulary.specs.declared.item_kind.ItemKind.{ItemKind}
use Rattle.justfile_vocabulary.specs.declared.item_kind.ItemKind.TheVariants as items
use Rattle.justfile_token.specs.declared.name.Name.{Name}
use Rattle.justfile_token.specs.declared.token.Token.{Token}
use Rattle.justfile_model.specs.Trees.ContentKeys.{kind_of_attribute}
use Rattle.justfile_model.specs.Lexing.Tok.{Tok}
use Rattle.justfile_model.specs.Trees.Tree.{Entry}
use Rattle.justfile_expression.specs.LeafTree.{Leaf}
use Rattle.justfile_attribute.specs.declared.attribute.Attribute.{Attribute}
use Rattle.justfile_attribute_set.specs.Keys.{firsts}
use Rattle.justfile_attribute_set.specs.Pairs.{CommentedName, NamedPair, Pair, entry_of, leaf_entry_of, named, commented_name}
use Rattle.justfile_attribute_set.specs.contracts.pair_set.AttributeContentOrder.TheImpl.{ghosts as content_order}
use Rattle.justfile_attribute_set.specs.declared.pair_set.PairSet.{PairSet}
use Rattle.justfile_written.specs.declared.written.Written.{Written}

abbrev pub AttributeSet : Type 0
AttributeSet = PairSet Attribute Written content_order

-- the attributes in order, each with its name and its optional comment
abbrev pub written_of : AttributeSet → List Pair
written_of set = set.pairs.items

-- the attributes in order, each with its name
abbrev pub pairs_of : AttributeSet → List NamedPair
pairs_of set = map named (written_of set)

-- the same as a list of triples
abbrev pub entries_with_comments : AttributeSet → List CommentedName
entries_with_comments set = map commented_name (written_of set)

-- the attributes in order
abbrev pub attributes_of : AttributeSet → List Attribute
attributes_of set = firsts (written_of set)

-- the entries of the tree: the attributes in order, each with the token of its name and the text of its comment
abbrev pub entries_of : AttributeSet → List (Entry Tok Tok)
entries_of set = map entry_of (written_of set)

abbrev pub leaf_entries_of : AttributeSet → List (Entry Leaf Token)
leaf_entries_of set = map leaf_entry_of (written_of set)

-- an item of this kind can have attributes
abbrev pub IsConstruct : ItemKind → Type 0
IsConstruct items.Comment = ⊥
IsConstruct items.Newline = ⊥
IsConstruct _ = Unit {0}

-- the error says that an item of this kind, named by this token, may not have an attribute of that kind
abbrev pub NamesInvalid : ItemKind → (name : Token) → AttributeKind → CompileErrorKind → Type 0
NamesInvalid item name kind (InvalidAttribute item' name' kind') = (item' ≡ item) × (name'.now ≡ lexeme_of name) × (kind' ≡ kind)
NamesInvalid item name kind _ = ⊥

-- the error for the first attribute that such an item may not have
abbrev pub IsInvalidBy : Option (Entry Leaf Token) → ItemKind → (name : Token) → CompileError → Type 0
IsInvalidBy None item name e = ⊥
IsInvalidBy (Some first) item name e = (e.token ≡ name) × NamesInvalid item name (kind_of_attribute first.attribute) e.kind
