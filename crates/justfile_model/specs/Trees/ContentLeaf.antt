-- The leaves of content keys, which compare values regardless of their positions: a token counts by its kind and lexeme.
use Rattle.std.specs.Prelude.{ℕ, Bool, List, Option}
use Rattle.std.specs.Option.{option_cmp}
use Rattle.std.specs.Ordering.{ordering_then, bool_cmp, nat_cmp}
use Rattle.std.specs.Cmp.Lexicographic.{slice_cmp}
use Rattle.std.specs.declared.cmp.Ordering.{Ordering}
use Rattle.justfile_vocabulary.specs.declared.format_string_part.FormatStringPart.{FormatStringPart}
use Rattle.justfile_vocabulary.specs.declared.signal.Signal.{Signal}
use Rattle.justfile_token.specs.declared.string_kind.StringKind.{StringKind}
use Rattle.justfile_vocabulary.specs.declared.token_kind.TokenKind.{TokenKind}
use Rattle.justfile_vocabulary.specs.contracts.format_string_part.FormatStringPartOrd.TheImpl as places
use Rattle.justfile_vocabulary.specs.contracts.signal.SignalOrd.TheImpl as signals
use Rattle.justfile_token.specs.contracts.string_kind.StringDelimiterOrd.TheImpl as delimiters
use Rattle.justfile_vocabulary.specs.contracts.token_kind.TokenKindOrd.TheImpl as kinds
use Rattle.justfile_model.specs.declared.conditional_operator.ConditionalOperator.{ConditionalOperator}
use Rattle.justfile_model.specs.contracts.conditional_operator.ConditionalOperatorOrd.TheImpl as operators

pub record TokenContent : Type 0 where
  pub kind : TokenKind
  pub lexeme : List ℕ

pub record LiteralContent : Type 0 where
  pub cooked : List ℕ
  pub expand : Bool
  pub kind : StringKind
  pub part : Option FormatStringPart
  pub token : TokenContent

-- the fields of a literal other than its token
pub record LiteralValue : Type 0 where
  pub cooked : List ℕ
  pub expand : Bool
  pub kind : StringKind
  pub part : Option FormatStringPart

abbrev pub literal_value : LiteralContent → LiteralValue
literal_value l = record { cooked = l.cooked; expand = l.expand; kind = l.kind; part = l.part }

-- texts are ordered by their bytes
abbrev pub text_cmp : List ℕ → List ℕ → Ordering
text_cmp xs ys = slice_cmp nat_cmp xs ys

-- tokens are ordered by kind, in declaration order, and then by lexeme
abbrev pub token_content_cmp : TokenContent → TokenContent → Ordering
token_content_cmp s t = ordering_then (kinds.cmp-value.it s.kind t.kind) (text_cmp s.lexeme t.lexeme)

abbrev pub string_kind_cmp : StringKind → StringKind → Ordering
string_kind_cmp k l = ordering_then (delimiters.cmp-value.it k.delimiter l.delimiter) (bool_cmp k.indented l.indented)

-- literals are ordered by their fields, in declaration order
abbrev pub literal_content_cmp : LiteralContent → LiteralContent → Ordering
literal_content_cmp k l =
    ordering_then (text_cmp k.cooked l.cooked)
    (ordering_then (bool_cmp k.expand l.expand)
    (ordering_then (string_kind_cmp k.kind l.kind)
    (ordering_then (option_cmp places.cmp-value.it k.part l.part)
    (token_content_cmp k.token l.token))))

pub data ContentLeaf : Type 0 where
  token : TokenContent → ContentLeaf
  literal : LiteralContent → ContentLeaf
  operator : ConditionalOperator → ContentLeaf
  text : List ℕ → ContentLeaf
  count : ℕ → ContentLeaf
  signal : Signal → ContentLeaf
  -- a field that is ignored
  unseen : ContentLeaf

-- the number of the leaf's case
abbrev pub leaf_place : ContentLeaf → ℕ
leaf_place (token t) = 0
leaf_place (literal l) = 1
leaf_place (operator o) = 2
leaf_place (text bytes) = 3
leaf_place (count n) = 4
leaf_place (signal s) = 5
leaf_place unseen = 6

-- leaves of one case compare by what they hold, and others by their cases; a law states that only equal leaves tie
abbrev pub content_cmp : ContentLeaf → ContentLeaf → Ordering
content_cmp (token s) (token t) = token_content_cmp s t
content_cmp (literal k) (literal l) = literal_content_cmp k l
content_cmp (operator o) (operator p) = operators.cmp-value.it o p
content_cmp (text xs) (text ys) = text_cmp xs ys
content_cmp (count m) (count n) = nat_cmp m n
content_cmp (signal s) (signal t) = signals.cmp-value.it s t
content_cmp a b = nat_cmp (leaf_place a) (leaf_place b)
