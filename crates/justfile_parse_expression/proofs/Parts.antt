-- The loop that parses the parts of a format string reads what the definitions read recursively.
use Rattle.std.proofs.Common.{◌≡◌, ℕ, Bool, true, false, List, [], ◌∷◌, ◌++◌, Ok, Err, refl, sym, ap, ◌∙◌}
use Rattle.justfile_token.specs.declared.string_literal.StringLiteral.{StringLiteral}
use Rattle.justfile_token.specs.declared.token.Token.{Token}
use Rattle.justfile_model.specs.Trees.Tree as tree
use Rattle.justfile_model.specs.Trees.Tree.{Expr, Parts}
use Rattle.justfile_expression.specs.declared.expression.Expression.{Expression}
use Rattle.justfile_model.specs.Readers.ExpressionReader as expressions
use Rattle.justfile_model.specs.Readers.ReaderState.{◌>>=◌}
use Rattle.justfile_parse_expression.specs.TableReader.{At, Read, ReadExpr, ReadError, State, format_parts, leaves, pair, part, read}
use Rattle.justfile_parse_expression.specs.MethodResults.{IsExpressionError, literal_read_error, read_error_at}
use Rattle.justfile_expression.specs.LeafTree.{Leaf, Literal, format_string_tree, literal_of, parts_tree, leaf_tree_of}
use Rattle.justfile_model.specs.declared.level.Level.TheVariants as levels
use Rattle.justfile_parse_expression.specs.declared.expression_error.ExpressionError.{ExpressionError}
use Rattle.justfile_parse_expression.specs.declared.expression_error.ExpressionError.TheVariants as causes
use Rattle.justfile_model.proofs.Readers.ExpressionReading.{parts_is}
use Rattle.justfile_parse_expression.proofs.Rules.{then_made}

-- an expression, and the parts after it
abbrev Pair : Type 0
Pair = Expr Leaf Token × Parts Leaf Token

abbrev leaf_of : StringLiteral → Leaf
leaf_of l = Literal (literal_of l)

abbrev joined : List (Expression × StringLiteral) → Pair → Pair
joined [] x = x
joined (p ∷ ps) x = (leaf_tree_of p.0, tree.Continue (leaf_of p.1) (joined ps x).0 (joined ps x).1)

abbrev begun : Pair → Leaf → Expr Leaf Token
begun x leaf = tree.FormatString leaf x.0 x.1

abbrev paired : Expr Leaf Token → Parts Leaf Token → Pair
paired e ps = (e, ps)

abbrev joining : Expr Leaf Token → Leaf → Pair → Pair
joining e leaf x = (e, tree.Continue leaf x.0 x.1)

abbrev continued : Leaf → Pair → Parts Leaf Token
continued leaf x = tree.Continue leaf x.0 x.1

unfoldable pub pairs : (start : List ℕ) → State → Read Pair
pairs start s = read (At levels.Expression false s) >>= λ e. read (expressions.FormatParts start e.1) >>= then_made (paired e.0)

-- what was read before, and what is still read
abbrev pub with_front : List (Expression × StringLiteral) → Read Pair → Read (Leaf → Expr Leaf Token)
with_front ps found = found >>= then_made (λ x. begun (joined ps x))

module _ (start : List ℕ) where
  -- nothing is read yet
  pub begins : (s : State) → with_front [] (pairs start s) ≡ format_parts start s
  unfolding pairs format_parts
  begins s = by_first (read (At levels.Expression false s))
    where
      by_rest : (e : Expr Leaf Token) (found : Read (Parts Leaf Token)) → ((found >>= then_made (paired e)) >>= then_made begun) ≡ (found >>= then_made (λ ps leaf. tree.FormatString leaf e ps))
      by_rest e (Ok ps) = refl
      by_rest e (Err f) = refl

      by_first : (found : ReadExpr)
          → ((found >>= λ e. read (expressions.FormatParts start e.1) >>= then_made (paired e.0)) >>= then_made begun)
          ≡ (found >>= λ e. read (expressions.FormatParts start e.1) >>= then_made (λ ps leaf. tree.FormatString leaf e.0 ps))
      by_first (Ok e) = by_rest e.0 (read (expressions.FormatParts start e.1))
      by_first (Err f) = refl

  joined_push : (ps : List (Expression × StringLiteral)) (e : Expression) (l : StringLiteral) (x : Pair) → joined (ps ++ (e, l) ∷ []) x ≡ joined ps (leaf_tree_of e, tree.Continue (leaf_of l) x.0 x.1)
  joined_push [] e l x = refl
  joined_push (p ∷ ps) e l x = ap (joining (leaf_tree_of p.0) (leaf_of p.1)) (joined_push ps e l x)

  joined_parts : (ps : List (Expression × StringLiteral)) (e : Expression) (l : StringLiteral) (leaf : Leaf) → continued leaf (joined ps (leaf_tree_of e, tree.Last (leaf_of l))) ≡ parts_tree leaf (ps ++ (e, l) ∷ [])
  joined_parts [] e l leaf = refl
  joined_parts (p ∷ ps) e l leaf = ap (tree.Continue leaf (leaf_tree_of p.0)) (joined_parts ps e l (leaf_of p.1))

  joined_last : (ps : List (Expression × StringLiteral)) (e : Expression) (l : StringLiteral) → ◌≡◌ {A = Leaf → Expr Leaf Token} (begun (joined ps (leaf_tree_of e, tree.Last (leaf_of l)))) (format_string_tree (ps ++ (e, l) ∷ []))
  joined_last [] e l = refl
  joined_last (p ∷ ps) e l = ap {B = Leaf → Expr Leaf Token} (λ (x : Parts Leaf Token) (leaf : Leaf). tree.FormatString leaf (leaf_tree_of p.0) x) (joined_parts ps e l (leaf_of p.1))

  regroup : (ps : List (Expression × StringLiteral)) (e : Expression) (l : StringLiteral) (found : Read Pair) → with_front (ps ++ (e, l) ∷ []) found ≡ with_front ps (found >>= then_made (joining (leaf_tree_of e) (leaf_of l)))
  regroup ps e l (Ok x) = ap (λ (y : Pair). Ok (begun y, x.1)) (joined_push ps e l x.0)
  regroup ps e l (Err f) = refl

  -- after an expression and the part after it
  abbrev by_last : Expr Leaf Token → Leaf → Bool → State → Read Pair
  by_last e leaf true s = Ok ((e, tree.Last leaf), s)
  by_last e leaf false s = pairs start s >>= then_made (joining e leaf)

  abbrev by_pair : (Expr Leaf Token × Leaf × Bool) × State → Read Pair
  by_pair x = by_last x.0.0 x.0.1 x.0.2 x.1

  abbrev flagged : Expr Leaf Token → (Leaf × Bool) × State → Read (Expr Leaf Token × Leaf × Bool)
  flagged e p = Ok ((e, p.0.0, p.0.1), p.1)

  rest_by : (e : Expr Leaf Token) (leaf : Leaf) (is_last : Bool) (s : State) → (expressions.parts leaves read start leaf is_last s >>= then_made (paired e)) ≡ by_last e leaf is_last s
  unfolding pairs
  rest_by e leaf true s = refl
  rest_by e leaf false s = by_first (read (At levels.Expression false s))
    where
      by_rest : (x : Expr Leaf Token) (found : Read (Parts Leaf Token)) → ((found >>= then_made (tree.Continue leaf x)) >>= then_made (paired e)) ≡ ((found >>= then_made (paired x)) >>= then_made (joining e leaf))
      by_rest x (Ok ps) = refl
      by_rest x (Err f) = refl

      by_first : (found : ReadExpr)
          → ((found >>= λ x. read (expressions.FormatParts start x.1) >>= then_made (tree.Continue leaf x.0)) >>= then_made (paired e))
          ≡ ((found >>= λ x. read (expressions.FormatParts start x.1) >>= then_made (paired x.0)) >>= then_made (joining e leaf))
      by_first (Ok x) = by_rest x.0 (read (expressions.FormatParts start x.1))
      by_first (Err f) = refl

  pair_by : (s : State) → pairs start s ≡ (pair start s >>= by_pair)
  unfolding pairs pair expressions.parts_rule
  pair_by s = by_first (read (At levels.Expression false s))
    where
      by_part : (e : Expr Leaf Token) (found : Read (Leaf × Bool)) → ((found >>= λ p. expressions.parts leaves read start p.0.0 p.0.1 p.1) >>= then_made (paired e)) ≡ ((found >>= flagged e) >>= by_pair)
      by_part e (Err f) = refl
      by_part e (Ok p) = rest_by e p.0.0 p.0.1 p.1

      parts_by : (e : Expr Leaf Token) (t : State) → (read (expressions.FormatParts start t) >>= then_made (paired e)) ≡ ((part start t >>= λ p. expressions.parts leaves read start p.0.0 p.0.1 p.1) >>= then_made (paired e))
      parts_by e t = ap (λ (f : Read (Parts Leaf Token)). f >>= then_made (paired e)) (parts_is leaves start t)

      by_first : (found : ReadExpr)
          → (found >>= λ e. read (expressions.FormatParts start e.1) >>= then_made (paired e.0)) ≡ ((found >>= λ e. part start e.1 >>= flagged e.0) >>= by_pair)
      by_first (Ok e) = parts_by e.0 e.1 ∙ by_part e.0 (part start e.1)
      by_first (Err f) = refl

  module _ (s : State) (ps : List (Expression × StringLiteral)) where
    pub goes_on : (e : Expression) (l : StringLiteral) (rest : State) → pair start s ≡ Ok ((leaf_tree_of e, leaf_of l, false), rest)
        → with_front (ps ++ (e, l) ∷ []) (pairs start rest) ≡ with_front ps (pairs start s)
    goes_on e l rest h =
        let one : pairs start s ≡ (pairs start rest >>= then_made (joining (leaf_tree_of e) (leaf_of l))) = rw (pair_by s, h) refl in
        regroup ps e l (pairs start rest) ∙ sym (ap (with_front ps) one)

    pub ends : (e : Expression) (l : StringLiteral) (rest : State) → pair start s ≡ Ok ((leaf_tree_of e, leaf_of l, true), rest) → with_front ps (pairs start s) ≡ Ok (format_string_tree (ps ++ (e, l) ∷ []), rest)
    ends e l rest h = rw (pair_by s, h) (ap (λ (t : Leaf → Expr Leaf Token). Ok (t, rest)) (joined_last ps e l))

    pub fails : (f : ReadError) → pair start s ≡ Err f → with_front ps (pairs start s) ≡ Err f
    fails f h = rw (pair_by s, h) refl

    -- where a pair stops, the format string does
    pub stops_at : (stop : ExpressionError) (left : State) (found : Read (Leaf → Expr Leaf Token)) → with_front ps (pairs start s) ≡ found → IsExpressionError stop left ⊥ (pair start s) → IsExpressionError stop left ⊥ found
    stops_at (causes.Refused refusal) left found is h = sym is ∙ fails (read_error_at refusal left) h
    stops_at (causes.Literal refused) left found is h = sym is ∙ fails (literal_read_error refused.value.error) h
    stops_at causes.Memory left found is h = tt
    stops_at causes.Numbers left found is h = absurd h
