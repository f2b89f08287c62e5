-- What derives under a depth limit derives under a greater one.
use Rattle.std.proofs.Common.{◌≡◌, ℕ, ◌≤◌, Bool, List, Option, sym, subst, ap, ◌∙◌, arith}
use Rattle.justfile_model.specs.Lexing.Tok.{Tok}
use Rattle.justfile_model.specs.Lexing.SignificantTokens.{SignificantToken}
use Rattle.justfile_model.specs.Trees.Tree.{Expr, WrittenItem}
use Rattle.justfile_model.specs.Grammars.Features.{ConstructFeatures, Noted}
use Rattle.justfile_model.specs.Grammars.Expressions.{Tokens, front, Expression, BelowLimit, AnyDepth}
use Rattle.justfile_model.specs.Grammars.Grammar.{File, TokenProjection}
use Rattle.justfile_model.proofs.Derivations.CarryExpressions as expressions
use Rattle.justfile_model.proofs.Derivations.CarryExpressions.{Pairs}
use Rattle.justfile_model.proofs.Derivations.Carry as c
use Rattle.justfile_model.proofs.Derivations.Carry.{Alike}
use Rattle.justfile_model.proofs.Derivations.Leaves.{unchanged, features_itself, items_itself, noted_itself, equal_pairs, pairs_equal, equal_same}
use Rattle.justfile_model.proofs.Lists.Unchanged.{expr_itself, same_leaf}

-- what is kept of a token is the same of the same token
kept_same : {X : Type 0} (keep : Tok → X) (t u : SignificantToken) → t ≡ u → keep u.tok ≡ keep t.tok
kept_same keep t u e = sym (ap (λ (x : SignificantToken). keep x.tok) e)

module _ (MayEnter MayEnter' : ℕ → Option SignificantToken → Type 0) (opens : (depth : ℕ) (at : Option SignificantToken) → MayEnter depth at → MayEnter' depth at) where
  moved : (depth : ℕ) (ts us : Tokens) → Pairs (λ t u. t ≡ u) ts us → MayEnter depth (front ts) → MayEnter' depth (front us)
  moved depth ts us s o = subst (λ x. MayEnter' depth (front x)) (pairs_equal s) (opens depth (front ts) o)

  module _ {A B : Type 0} (leaf : Tok → A) (position : Tok → B) where
    pub expression_loosened : {condition : Bool} {depth : ℕ} {e : Expr A B} {fs : List (Noted B)} {ts rest : Tokens}
        → Expression leaf position MayEnter condition depth e fs ts rest → Expression leaf position MayEnter' condition depth e fs ts rest
    expression_loosened {condition} {depth} {e} {fs} {ts} {rest} h =
        let x = expressions.expression leaf position MayEnter (λ t u. t ≡ u) equal_same leaf position MayEnter' same_leaf same_leaf same_leaf same_leaf (kept_same leaf) (kept_same position) moved h ts (equal_pairs ts) in
        subst (λ y. Expression leaf position MayEnter' condition depth y fs ts rest) (sym (expr_itself x.tree) ∙ x.alike ∙ expr_itself e)
        (subst (λ n. Expression leaf position MayEnter' condition depth x.tree n ts rest) (sym (noted_itself x.features) ∙ x.noted_alike ∙ noted_itself fs)
        (subst (λ r. Expression leaf position MayEnter' condition depth x.tree x.features ts r) (sym (pairs_equal x.same)) x.derives))

  pub file_loosened : {A B C S : Type 0} (projection : TokenProjection A B C S) {items : List (WrittenItem A B C S)} {fs : List (ConstructFeatures B)} {ts : Tokens}
      → File projection MayEnter items fs ts → File projection MayEnter' items fs ts
  file_loosened projection {items} {fs} {ts} h =
      let alike : Alike projection unchanged projection unchanged (λ t u. t ≡ u) = record { leaves = kept_same projection.leaf; positions = kept_same projection.position; numbers = kept_same projection.number; stars = kept_same projection.star } in
      let x = c.file projection MayEnter unchanged (λ t u. t ≡ u) equal_same projection MayEnter' unchanged alike moved h ts (equal_pairs ts) in
      subst (λ y. File projection MayEnter' y fs ts) (sym (items_itself x.tree) ∙ x.alike ∙ items_itself items)
      (subst (λ n. File projection MayEnter' x.tree n ts) (sym (features_itself x.features) ∙ x.noted_alike ∙ features_itself fs) x.derives)

-- under a greater limit
module _ (limit higher : ℕ) (below : limit ≤ higher) where
  raised : (depth : ℕ) (at : Option SignificantToken) → BelowLimit limit depth at → BelowLimit higher depth at
  raised depth at o = omega (arith, below, o)

  pub file_raised : {A B C S : Type 0} (projection : TokenProjection A B C S) {items : List (WrittenItem A B C S)} {fs : List (ConstructFeatures B)} {ts : Tokens}
      → File projection (BelowLimit limit) items fs ts → File projection (BelowLimit higher) items fs ts
  file_raised projection h = file_loosened (BelowLimit limit) (BelowLimit higher) raised projection h

-- without a limit
module _ (limit : ℕ) where
  pub expression_freed : {A B : Type 0} (leaf : Tok → A) (position : Tok → B) {condition : Bool} {depth : ℕ} {e : Expr A B} {fs : List (Noted B)} {ts rest : Tokens}
      → Expression leaf position (BelowLimit limit) condition depth e fs ts rest → Expression leaf position AnyDepth condition depth e fs ts rest
  expression_freed leaf position h = expression_loosened (BelowLimit limit) AnyDepth (λ depth at o. tt) leaf position h

  pub file_freed : {A B C S : Type 0} (projection : TokenProjection A B C S) {items : List (WrittenItem A B C S)} {fs : List (ConstructFeatures B)} {ts : Tokens}
      → File projection (BelowLimit limit) items fs ts → File projection AnyDepth items fs ts
  file_freed projection h = file_loosened (BelowLimit limit) AnyDepth (λ depth at o. tt) projection h
