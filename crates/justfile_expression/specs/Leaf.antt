-- The leaves of keys: values without parts in the keys, and their orders.
use Rattle.std.specs.Prelude.{ℕ, List, Option, string_bytes}
use Rattle.std.specs.Option.{option_cmp}
use Rattle.std.specs.Ordering.{ordering_then, bool_cmp, nat_cmp}
use Rattle.std.specs.declared.cmp.Ordering.{Ordering}
use Rattle.justfile_numbers.specs.declared.number.Number.{Number}
use Rattle.justfile_token.specs.declared.token.Token.{Token}
use Rattle.justfile_token.specs.declared.string_literal.StringLiteral.{StringLiteral}
use Rattle.justfile_vocabulary.specs.contracts.format_string_part.FormatStringPartOrd.TheImpl as places
use Rattle.justfile_token.specs.contracts.string_kind.StringDelimiterOrd.TheImpl as delimiters
use Rattle.justfile_vocabulary.specs.contracts.token_kind.TokenKindOrd.TheImpl as kinds
use Rattle.justfile_model.specs.declared.conditional_operator.ConditionalOperator.{ConditionalOperator}
use Rattle.justfile_model.specs.Trees.ContentLeaf.{text_cmp}
use Rattle.justfile_model.specs.Trees.Key.{Key, leaf}
use Rattle.justfile_model.specs.contracts.conditional_operator.ConditionalOperatorOrd.TheImpl as operators

-- the order of tokens, by all fields in declared order; kinds compare in declared order
abbrev pub token_cmp : Token → Token → Ordering
token_cmp s t =
    ordering_then (nat_cmp s.column t.column)
    (ordering_then (kinds.cmp-value.it s.kind t.kind)
    (ordering_then (nat_cmp s.length t.length)
    (ordering_then (nat_cmp s.line t.line)
    (ordering_then (nat_cmp s.offset t.offset)
    (ordering_then (text_cmp s.path.now t.path.now)
    (text_cmp s.src.now t.src.now))))))

-- the order of literals, by all fields in declared order
abbrev pub literal_cmp : StringLiteral → StringLiteral → Ordering
literal_cmp k l =
    ordering_then (text_cmp (string_bytes k.cooked) (string_bytes l.cooked))
    (ordering_then (bool_cmp k.expand l.expand)
    (ordering_then (ordering_then (delimiters.cmp-value.it k.kind.delimiter l.kind.delimiter) (bool_cmp k.kind.indented l.kind.indented))
    (ordering_then (option_cmp places.cmp-value.it k.part l.part)
    (token_cmp k.token l.token))))

-- the declared order of comparison operators
abbrev pub operator_cmp : ConditionalOperator → ConditionalOperator → Ordering
operator_cmp = operators.cmp-value.it

-- the order of optional numbers; `None` comes first
abbrev pub number_cmp : Option Number → Option Number → Ordering
number_cmp = option_cmp (λ m n. nat_cmp m.0 n.0)

pub data KeyLeaf : Type 0 where
  token : Token → KeyLeaf
  literal : StringLiteral → KeyLeaf
  operator : ConditionalOperator → KeyLeaf
  number : Option Number → KeyLeaf
  text : List ℕ → KeyLeaf

-- the index of a leaf's case in declared order
abbrev pub leaf_place : KeyLeaf → ℕ
leaf_place (token t) = 0
leaf_place (literal l) = 1
leaf_place (operator o) = 2
leaf_place (number n) = 3
leaf_place (text bytes) = 4

-- leaves of one case compare by what they hold, and others by their cases
abbrev pub leaf_cmp : KeyLeaf → KeyLeaf → Ordering
leaf_cmp (token s) (token t) = token_cmp s t
leaf_cmp (literal k) (literal l) = literal_cmp k l
leaf_cmp (operator o) (operator p) = operator_cmp o p
leaf_cmp (number m) (number n) = number_cmp m n
leaf_cmp (text xs) (text ys) = text_cmp xs ys
leaf_cmp a b = nat_cmp (leaf_place a) (leaf_place b)

abbrev pub token_key : Token → Key KeyLeaf
token_key t = leaf (token t)

abbrev pub literal_key : StringLiteral → Key KeyLeaf
literal_key l = leaf (literal l)

abbrev pub operator_key : ConditionalOperator → Key KeyLeaf
operator_key o = leaf (operator o)

abbrev pub number_key : Option Number → Key KeyLeaf
number_key n = leaf (number n)

abbrev pub text_key : List ℕ → Key KeyLeaf
text_key bytes = leaf (text bytes)
