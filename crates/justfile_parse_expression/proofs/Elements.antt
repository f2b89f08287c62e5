-- The loop that parses a sequence reads what the definitions read recursively.
use Rattle.std.proofs.Common.{◌≡◌, Bool, true, false, List, [], ◌∷◌, ◌++◌, Some, None, Ok, Err, refl, sym, ap, ◌∙◌}
use Rattle.justfile_token.specs.declared.token.Token.{Token}
use Rattle.justfile_vocabulary.specs.declared.token_kind.TokenKind.{TokenKind}
use Rattle.justfile_model.specs.Trees.Tree.{Expr, Exprs, none, more}
use Rattle.justfile_expression.specs.declared.expression.Expression.{Expression}
use Rattle.justfile_model.specs.Readers.ExpressionReader as expressions
use Rattle.justfile_model.specs.Readers.ReaderState.{◌>>=◌, choose}
use Rattle.justfile_parse_expression.specs.TableReader as r
use Rattle.justfile_parse_expression.specs.TableReader.{Read, ReadError, State, accept, element, leaves, read}
use Rattle.justfile_parse_expression.specs.MethodResults.{IsExpressionError, literal_read_error, read_error_at}
use Rattle.justfile_expression.specs.LeafTree.{Leaf, leaf_tree_of, trees_of}
use Rattle.justfile_parse_expression.specs.Significant.{TableToken}
use Rattle.justfile_parse_expression.specs.declared.expression_error.ExpressionError.{ExpressionError}
use Rattle.justfile_parse_expression.specs.declared.expression_error.ExpressionError.TheVariants.{Refused, Literal, Memory, Numbers}
use Rattle.justfile_model.proofs.Readers.ExpressionReading.{sequence_is}
use Rattle.justfile_parse_expression.proofs.Rules.{then_made}

abbrev joined : List Expression → Exprs Leaf Token → Exprs Leaf Token
joined [] t = t
joined (e ∷ es) t = more (leaf_tree_of e) (joined es t)

-- what was read before, and what is still read
abbrev pub with_front : List Expression → Read (Exprs Leaf Token) → Read (Exprs Leaf Token)
with_front es found = found >>= then_made (joined es)

joined_push : (es : List Expression) (e : Expression) (t : Exprs Leaf Token) → joined (es ++ e ∷ []) t ≡ joined es (more (leaf_tree_of e) t)
joined_push [] e t = refl
joined_push (x ∷ es) e t = ap (more (leaf_tree_of x)) (joined_push es e t)

joined_none : (es : List Expression) → joined es none ≡ trees_of es
joined_none [] = refl
joined_none (x ∷ es) = ap (more (leaf_tree_of x)) (joined_none es)

joined_last : (es : List Expression) (e : Expression) → joined es (more (leaf_tree_of e) none) ≡ trees_of (es ++ e ∷ [])
joined_last [] e = refl
joined_last (x ∷ es) e = ap (more (leaf_tree_of x)) (joined_last es e)

regroup : (es : List Expression) (e : Expression) (found : Read (Exprs Leaf Token)) → with_front (es ++ e ∷ []) found ≡ with_front es (found >>= then_made (more (leaf_tree_of e)))
regroup es e (Ok x) = ap (λ (t : Exprs Leaf Token). Ok (t, x.1)) (joined_push es e x.0)
regroup es e (Err f) = refl

-- nothing is read yet
pub begins : (found : Read (Exprs Leaf Token)) → with_front [] found ≡ found
begins (Ok x) = refl
begins (Err f) = refl

module _ (c : TokenKind) where
  abbrev by_element : (Expr Leaf Token × Bool) × State → Read (Exprs Leaf Token)
  by_element x = expressions.elements leaves read c x.0.0 x.0.1 x.1

  sequence_by : (s : State) → read (r.Sequence c s) ≡ choose {X = Read (Exprs Leaf Token)} (accept c s) (element c s >>= by_element) (λ x. Ok (none, x.1))
  unfolding expressions.sequence_rule
  sequence_by s = sequence_is leaves c s

  module _ (s : State) (es : List Expression) where
    pub goes_on : (e : Expression) (rest : State) → accept c s ≡ None → element c s ≡ Ok ((leaf_tree_of e, false), rest)
        → with_front (es ++ e ∷ []) (read (r.Sequence c rest)) ≡ with_front es (read (r.Sequence c s))
    goes_on e rest h1 h2 =
        let one : read (r.Sequence c s) ≡ (read (r.Sequence c rest) >>= then_made (more (leaf_tree_of e))) = rw (sequence_by s, h1, h2) refl in
        regroup es e (read (r.Sequence c rest)) ∙ sym (ap (with_front es) one)

    pub closes : (t : TableToken) (rest : State) → accept c s ≡ Some (t, rest) → with_front es (read (r.Sequence c s)) ≡ Ok (trees_of es, rest)
    closes t rest h = rw (sequence_by s, h) (ap (λ (t : Exprs Leaf Token). Ok (t, rest)) (joined_none es))

    pub closes_last : (e : Expression) (rest : State) → accept c s ≡ None → element c s ≡ Ok ((leaf_tree_of e, true), rest) → with_front es (read (r.Sequence c s)) ≡ Ok (trees_of (es ++ e ∷ []), rest)
    closes_last e rest h1 h2 = rw (sequence_by s, h1, h2) (ap (λ (t : Exprs Leaf Token). Ok (t, rest)) (joined_last es e))

    pub fails : (f : ReadError) → accept c s ≡ None → element c s ≡ Err f → with_front es (read (r.Sequence c s)) ≡ Err f
    fails f h1 h2 = rw (sequence_by s, h1, h2) refl

    -- where an element stops, the sequence does
    pub stops : (stop : ExpressionError) (left : State) (found : Read (Exprs Leaf Token)) → accept c s ≡ None → with_front es (read (r.Sequence c s)) ≡ found → IsExpressionError stop left ⊥ (element c s) → IsExpressionError stop left ⊥ found
    stops (Refused refusal) left found closed is h = sym is ∙ fails (read_error_at refusal left) closed h
    stops (Literal refused) left found closed is h = sym is ∙ fails (literal_read_error refused.value.error) closed h
    stops Memory left found closed is h = tt
    stops Numbers left found closed is h = absurd h
