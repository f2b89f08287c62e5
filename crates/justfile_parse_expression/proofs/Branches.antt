-- The loop that parses the branches of a conditional reads what the definitions read recursively.
use Rattle.std.proofs.Common.{◌≡◌, List, [], ◌∷◌, ◌++◌, Option, Some, None, Ok, Err, codes, refl, sym, ap, ◌∙◌}
use Rattle.justfile_model.specs.Readers.ExpressionReader as expressions
use Rattle.justfile_model.specs.Readers.ExpressionReader.{closed}
use Rattle.justfile_model.specs.Readers.ReaderState.{◌>>=◌, choose}
use Rattle.justfile_model.specs.Trees.Tree as t
use Rattle.justfile_model.specs.declared.level.Level.TheVariants.{Conjunct}
use Rattle.justfile_parse_expression.specs.Chains.{BranchTree, ElseIf, End, Tree, branch, branches, last_branch, link_of, chain_closed, chain_tree}
use Rattle.justfile_parse_expression.specs.TableReader as r
use Rattle.justfile_parse_expression.specs.TableReader.{Read, ReadExpr, ReadError, State, accept_keyword, braced, condition, leaves, read}
use Rattle.justfile_parse_expression.specs.MethodResults.{IsExpressionError, literal_read_error, read_error_at}
use Rattle.justfile_parse_expression.specs.declared.expression.Link.{Link}
use Rattle.justfile_parse_expression.specs.Significant.{TableToken}
use Rattle.justfile_parse_expression.specs.declared.expression_error.ExpressionError.{ExpressionError}
use Rattle.justfile_parse_expression.specs.declared.expression_error.ExpressionError.TheVariants.{Refused, Literal, Memory, Numbers}
use Rattle.justfile_parse_expression.proofs.Chains.{regroup, with_chain}
use Rattle.justfile_parse_expression.proofs.Rules as rules
use Rattle.justfile_parse_expression.proofs.Rules.{bind_alike, bound, then_made}

abbrev Taken : Type 0
Taken = Option (TableToken × State)

-- what goes on after a branch
abbrev pub after : BranchTree × State → ReadExpr
after (End e, s) = Ok (e, s)
after (ElseIf make word, s) = branches make word s

end_after : (c b : Tree) (found : ReadExpr) → (found >>= then_made (t.IfElse c b)) ≡ ((found >>= λ o. Ok (End (t.IfElse c b o.0), o.1)) >>= after)
end_after c b (Ok o) = refl
end_after c b (Err f) = refl

else_after : (c b : Tree) (o : Taken) (x : ReadExpr)
    → (choose {X = ReadExpr} o x (λ i. read (r.Conditional i.0 i.1)) >>= then_made (t.IfElse c b))
    ≡ (choose {X = Read BranchTree} o (x >>= λ o. Ok (End (t.IfElse c b o.0), o.1)) (λ i. Ok (ElseIf (t.IfElse c b) i.0, i.1)) >>= after)
unfolding branches
else_after c b None x = end_after c b x
else_after c b (Some i) x = refl

choose_after : (o : Taken) (x : ReadExpr) (y : Read BranchTree) (f : TableToken × State → ReadExpr) (g : TableToken × State → Read BranchTree)
    → x ≡ (y >>= after) → ((e : TableToken × State) → f e ≡ (g e >>= after)) → choose {X = ReadExpr} o x f ≡ (choose {X = Read BranchTree} o y g >>= after)
choose_after None x y f g none some = none
choose_after (Some e) x y f g none some = some e

-- a conditional is a branch, and what goes on after it
pub conditional_is : (w : TableToken) (s : State) → read (r.Conditional w s) ≡ (branch w s >>= after)
unfolding expressions.conditional_rule expressions.otherwise_rule branch last_branch leaves
conditional_is w s =
    rules.conditional_is w s
    ∙ bind_alike (condition s) _ _ (λ c.
    bind_alike (braced c.1) _ _ (λ b.
    choose_after (accept_keyword (codes "else") b.1) _ _ _ _ refl (λ e.
    else_after c.0 b.0 (accept_keyword (codes "if") e.1) (last_branch e.1)))
    ∙ bound (braced c.1) _ after)
    ∙ bound (condition s) _ after

-- ---- the loop

module _ (w : TableToken) (s : State) (ls : List Link) (l : Link) where
  pub goes_on : (next : Link) (word : TableToken) (rest : State) → branch w s ≡ Ok (ElseIf (link_of next) word, rest)
      → with_chain Conjunct (ls ++ l ∷ []) (branches (link_of next) word rest) ≡ with_chain Conjunct ls (branches (link_of l) w s)
  unfolding branches
  goes_on next word rest h =
      let one : read (r.Conditional w s) ≡ branches (link_of next) word rest = rw (conditional_is w s, h) refl in
      regroup Conjunct ls l (branches (link_of next) word rest) ∙ sym (ap (λ (found : ReadExpr). with_chain Conjunct ls (found >>= then_made (link_of l))) one)

  pub ends : (e : Tree) (rest : State) → branch w s ≡ Ok (End e, rest)
      → with_chain Conjunct ls (branches (link_of l) w s) ≡ Ok (chain_tree ls (link_of l e), chain_closed Conjunct ls (closed Conjunct (closed Conjunct rest)))
  unfolding branches
  ends e rest h = rw (conditional_is w s, h) refl

  fails : (f : ReadError) → branch w s ≡ Err f → with_chain Conjunct ls (branches (link_of l) w s) ≡ Err f
  unfolding branches
  fails f h = rw (conditional_is w s, h) refl

  -- where a branch stops, the conditional does
  pub stops : (stop : ExpressionError) (left : State) (found : ReadExpr) → with_chain Conjunct ls (branches (link_of l) w s) ≡ found → IsExpressionError stop left ⊥ (branch w s) → IsExpressionError stop left ⊥ found
  stops (Refused refusal) left found is h = sym is ∙ fails (read_error_at refusal left) h
  stops (Literal refused) left found is h = sym is ∙ fails (literal_read_error refused.value.error) h
  stops Memory left found is h = tt
  stops Numbers left found is h = absurd h
