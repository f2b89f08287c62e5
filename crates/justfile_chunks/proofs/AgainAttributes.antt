-- Attributes are derived again before other tokens that look the same.
use Rattle.std.proofs.Common.{ℕ, Bool, List, [], ◌∷◌, Option, refl, ap}
use Rattle.justfile_vocabulary.specs.declared.token_kind.TokenKind.TheVariants as kinds
use Rattle.justfile_model.specs.Grammars.AttributeLines as g
use Rattle.justfile_model.specs.Grammars.AttributeLines.{IsKey, ArgumentOf, Arguments, AttributeOf, Bracketed, AttributesEnd, AttributeLines}
use Rattle.justfile_model.specs.Grammars.Expressions.{Tokens, IsKind}
use Rattle.justfile_model.specs.Grammars.Features.{Noted}
use Rattle.justfile_model.specs.Lexing.SignificantTokens.{SignificantToken}
use Rattle.justfile_model.specs.Lexing.Tok.{Tok}
use Rattle.justfile_model.specs.Trees.Tree.{Argument, WrittenAttribute}
use Rattle.justfile_chunks.proofs.AgainExpressions as expressions
use Rattle.justfile_chunks.proofs.Over.{Again, Local, again, closed, headed, is_inside, is_key, is_quiet, joined, key_before, more, next, not_name, one, past, quiet_inside, rule, same, step, token, widened}

key_kind : (t : SignificantToken) (ts : Tokens) → IsKey (t ∷ ts) → IsKind kinds.Identifier t
key_kind t [] k = k
key_kind t (u ∷ ts) k = k.0

module _ {A B : Type 0} (leaf : Tok → A) (position : Tok → B) (MayEnter : ℕ → Option SignificantToken → Type 0) where
  argument : {keys : Bool} {a : Argument A B} {fs : List (Noted B)} {ts x y : Tokens} → Local is_quiet (ArgumentOf leaf position MayEnter keys a fs) ts x y
  argument (g.positional n inside) h =
      headed (expressions.expression leaf position MayEnter inside h) (λ b away r. g.positional (λ e k. n e (key_before away k)) r)
  argument (g.bare {key = t} {rest = rest} k n) h = again (g.bare (is_key (more h) k) (next _ h n)) (step (ap is_quiet (key_kind t rest k)) same) h
  argument (g.keyed kind kind2 inside) h =
      token kind refl (token kind2 refl (rule (expressions.expression leaf position MayEnter inside h) (λ away r. g.keyed kind kind2 r)))

  arguments : {keys : Bool} {as' : List (Argument A B)} {fs : List (Noted B)} {ts x y : Tokens}
      → Local is_quiet (Arguments leaf position MayEnter keys as' fs) ts x y
  arguments (g.none kind) h = again (g.none kind) (step (ap is_quiet kind) same) h
  arguments (g.last a kind) h = closed kind refl (rule (argument a (more h)) (λ away r. g.last r kind))
  arguments (g.more a kind others) h =
      let s = arguments others h in
      rule (joined s kind refl (argument a (more s.ahead))) (λ away r. g.more r kind s.derives)

  attribute : {w : WrittenAttribute A B} {fs : List (Noted B)} {ts x y : Tokens} → Local is_quiet (AttributeOf leaf position MayEnter w fs) ts x y
  attribute (g.plain kind n n2) h = again (g.plain kind (next _ h n) (next _ h n2)) (step (ap is_quiet kind) same) h
  attribute (g.short kind kind2 inside) h =
      token kind refl (token kind2 refl (headed (expressions.expression leaf position MayEnter inside h) (λ b away r. g.short kind kind2 r)))
  attribute (g.long kind kind2 inside) h = token kind refl (token kind2 refl (rule (arguments inside h) (λ away r. g.long kind kind2 r)))

  pub bracketed : {ws : List (WrittenAttribute A B)} {fs : List (Noted B)} {ts x y : Tokens} → Local is_quiet (Bracketed leaf position MayEnter ws fs) ts x y
  bracketed (g.last w kind) h = closed kind refl (rule (attribute w (more h)) (λ away r. g.last r kind))
  bracketed (g.more w kind others) h =
      let s = bracketed others h in
      rule (joined s kind refl (attribute w (more s.ahead))) (λ away r. g.more r kind s.derives)

  pub attributes_end : {comment : Option (List ℕ)} {ts x : Tokens} → AttributesEnd leaf position MayEnter comment ts x → (y : Tokens)
      → Again is_inside x y (λ r. AttributesEnd leaf position MayEnter comment r y) ts
  attributes_end (g.bare {newline = t} kind) y =
      record { after = _; derives = g.bare kind; over = step (ap is_inside kind) same; ahead = one (not_name t (ap is_quiet kind)) }
  attributes_end (g.commented {comment = t} kind kind2) y =
      record {
        after = _;
        derives = g.commented kind kind2;
        over = step (ap is_inside kind) (step (ap is_inside kind2) same);
        ahead = one (not_name t (ap is_quiet kind));
      }

  pub attribute_lines : {ws : List (WrittenAttribute A B)} {fs : List (Noted B)} {ts x y : Tokens}
      → Local is_inside (AttributeLines leaf position MayEnter ws fs) ts x y
  attribute_lines (g.none n) h = again (g.none (next _ h n)) same h
  attribute_lines (g.line kind b e others) h =
      let o = attribute_lines others h in
      let end = attributes_end e o.after in
      let r = bracketed b end.ahead in
      again (g.line kind r.derives end.derives o.derives) (step (ap is_inside kind) (past (widened quiet_inside r.over) (past end.over o.over))) h
