-- Attributes, each with the name that it was written with and an optional comment.
use Rattle.std.specs.Prelude.{ℕ, Bool, List, Option}
use Rattle.std.specs.Option.{option_copied}
use Rattle.std.specs.declared.cmp.Ordering.{Ordering}
use Rattle.justfile_token.specs.declared.name.Name.{Name}
use Rattle.justfile_token.specs.declared.token.Token.{Token}
use Rattle.justfile_model.specs.Lexing.Tok.{Tok, tok_of}
use Rattle.justfile_model.specs.Trees.Tree.{Entry}
use Rattle.justfile_expression.specs.LeafTree.{Leaf}
use Rattle.justfile_attribute.specs.Attribute.{attribute_of, leaf_attribute_of}
use Rattle.justfile_attribute.specs.Order.{attribute_content_cmp}
use Rattle.justfile_attribute.specs.contracts.attribute.AttributePartialEq.TheImpl as equality
use Rattle.justfile_attribute.specs.declared.attribute.Attribute.{Attribute}
use Rattle.justfile_written.specs.Written.{Comment}
use Rattle.justfile_written.specs.declared.written.Written.{Written}

-- an attribute with its name and its optional comment
abbrev pub Pair : Type 0
Pair = Attribute × Written

-- an attribute and its name
abbrev pub NamedPair : Type 0
NamedPair = Attribute × Name

-- a pair without its comment
abbrev pub named : {K : Type 0} → K × Written → K × Name
named p = (p.0, p.1.name)

-- an attribute, its name, and its optional comment
abbrev pub CommentedName : Type 0
CommentedName = Attribute × Name × Option Comment

abbrev pub commented_name : Pair → CommentedName
commented_name p = (p.0, p.1.name, p.1.comment)

-- the text of the comment, if there is one
abbrev pub copied_comment : Written → Option (List ℕ)
copied_comment written = option_copied written.comment

-- the entry of a pair, with all fields of the parser's leaves
abbrev pub leaf_entry_of : Pair → Entry Leaf Token
leaf_entry_of p = record { name = p.1.name.token; attribute = leaf_attribute_of p.0; comment = copied_comment p.1 }

abbrev pub entry_of : Pair → Entry Tok Tok
entry_of p = record { name = tok_of p.1.name.token; attribute = attribute_of p.0; comment = copied_comment p.1 }

-- the order of pairs by the content of their attributes
abbrev pub pair_cmp : {V : Type 0} → Attribute × V → Attribute × V → Ordering
pair_cmp p q = attribute_content_cmp p.0 q.0

abbrev pub commented_cmp : CommentedName → CommentedName → Ordering
commented_cmp d e = attribute_content_cmp d.0 e.0

-- `==` of attributes: they are equal, positions included
abbrev pub same : Attribute → Attribute → Bool
same = equality.eq-value.it

abbrev pub same_attributes : {V : Type 0} → Attribute × V → Attribute × V → Bool
same_attributes p q = same p.0 q.0

abbrev pub same_commented : CommentedName → CommentedName → Bool
same_commented d e = same d.0 e.0
