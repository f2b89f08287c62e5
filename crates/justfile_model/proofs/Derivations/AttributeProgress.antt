-- Parts of attributes derive from at least one token. There can be no lines of attributes.
use Rattle.std.proofs.Common.{ℕ, ◌≤◌, Bool, List, Option, arith}
use Rattle.justfile_model.specs.Grammars.AttributeLines as g
use Rattle.justfile_model.specs.Grammars.AttributeLines.{ArgumentOf, Arguments, AttributeOf, AttributesEnd, AttributeLines, Bracketed}
use Rattle.justfile_model.specs.Grammars.Expressions.{Tokens}
use Rattle.justfile_model.specs.Grammars.Features.{Noted}
use Rattle.justfile_model.specs.Lexing.SignificantTokens.{SignificantToken, identifiers}
use Rattle.justfile_model.specs.Lexing.Tok.{Tok}
use Rattle.justfile_model.specs.Trees.Tree.{Argument, WrittenAttribute}
use Rattle.justfile_model.proofs.Derivations.ExpressionProgress.{LeftOf, expression_left, fewer, later, next, past, then}

module _ {A B : Type 0} (leaf : Tok → A) (position : Tok → B) (MayEnter : ℕ → Option SignificantToken → Type 0) where
  pub argument_left : {keys : Bool} {a : Argument A B} {fs : List (Noted B)} {ts rest : Tokens} → ArgumentOf leaf position MayEnter keys a fs ts rest → LeftOf rest ts
  argument_left (g.positional not e) = expression_left leaf position MayEnter e
  argument_left (g.bare is not) = next
  argument_left (g.keyed kind kind2 e) = later (later (expression_left leaf position MayEnter e))

  pub arguments_left : {keys : Bool} {all : List (Argument A B)} {fs : List (Noted B)} {ts rest : Tokens} → Arguments leaf position MayEnter keys all fs ts rest
      → LeftOf rest ts
  arguments_left (g.none kind) = next
  arguments_left (g.last a kind) = past (argument_left a)
  arguments_left (g.more a kind others) = then (past (argument_left a)) (arguments_left others)

  pub attribute_left : {w : WrittenAttribute A B} {fs : List (Noted B)} {ts rest : Tokens} → AttributeOf leaf position MayEnter w fs ts rest → LeftOf rest ts
  attribute_left (g.plain kind nc np) = next
  attribute_left (g.short kind kind2 e) = later (later (expression_left leaf position MayEnter e))
  attribute_left (g.long kind kind2 all) = later (later (arguments_left all))

  pub bracketed_left : {ws : List (WrittenAttribute A B)} {fs : List (Noted B)} {ts rest : Tokens} → Bracketed leaf position MayEnter ws fs ts rest → LeftOf rest ts
  bracketed_left (g.last w kind) = past (attribute_left w)
  bracketed_left (g.more w kind others) = then (past (attribute_left w)) (bracketed_left others)

  pub attributes_end_left : {comment : Option (List ℕ)} {ts rest : Tokens} → AttributesEnd leaf position MayEnter comment ts rest → LeftOf rest ts
  attributes_end_left (g.bare kind) = next
  attributes_end_left (g.commented kind kind2) = later next

  -- no identifier is added
  pub attribute_lines_count : {ws : List (WrittenAttribute A B)} {fs : List (Noted B)} {ts rest : Tokens} → AttributeLines leaf position MayEnter ws fs ts rest
      → identifiers rest ≤ identifiers ts
  attribute_lines_count (g.none not) = omega arith
  attribute_lines_count (g.line kind b e others) = omega (arith, fewer (bracketed_left b), fewer (attributes_end_left e), attribute_lines_count others)
