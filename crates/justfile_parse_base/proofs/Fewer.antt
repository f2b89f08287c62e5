-- Reading doesn't increase the number of identifiers that are left.
use Rattle.std.proofs.Common.{◌≡◌, ◌+◌, ◌≤◌, false, List, ◌∷◌, map, Some, None, Ok, Err, IfOk, refl, sym, ap, subst, ◌∙◌, arith}
use Rattle.justfile_token.specs.declared.token.Token.{Token}
use Rattle.justfile_vocabulary.specs.declared.token_kind.TokenKind.{TokenKind}
use Rattle.justfile_vocabulary.specs.declared.token_kind.TokenKind.TheVariants as kinds
use Rattle.justfile_model.specs.Readers.ExpressionReader as expressions
use Rattle.justfile_model.specs.Readers.ReaderState.{◌>>=◌, choose, prepend, with}
use Rattle.justfile_model.specs.Lexing.SignificantTokens.{identifiers}
use Rattle.justfile_model.specs.Grammars.Expressions.{Tokens, BelowLimit}
use Rattle.justfile_model.specs.Lexing.Tok.{Tok}
use Rattle.justfile_model.specs.Trees.Tree.{Expr, itself}
use Rattle.justfile_model.specs.Readers.TreeReader as model
use Rattle.justfile_model.specs.Readers.TreeReader.{token_leaves}
use Rattle.justfile_model.specs.declared.level.Level.TheVariants as levels
use Rattle.justfile_vocabulary.specs.declared.list_feature.ListFeature.{ListFeature}
use Rattle.justfile_model.proofs.Derivations.ExpressionProgress.{expression_counts, value_counts}
use Rattle.justfile_model.proofs.Sound.ExpressionSound.{expression_derives, level_at, sound}
use Rattle.justfile_model.proofs.Derivations.HeaderProgress.{counts_one}
use Rattle.justfile_model.proofs.Readers.HeaderReading.{value_is}
use Rattle.justfile_model.proofs.Relations.NaturalExpressions.{expression_natural, value_natural}
use Rattle.justfile_model.proofs.Readers.ReadingSteps.{known}
use Rattle.justfile_model.proofs.Relations.Related as a
use Rattle.justfile_model.proofs.Relations.Related.{Never, Related}
use Rattle.justfile_parse_expression.specs.Significant.{significant_of}
use Rattle.justfile_parse_expression.specs.TableReader.{At, Read, ReadExpr, State, accept, expect, leaves, read, value}
use Rattle.justfile_parse_expression.specs.Significant.{TableToken}
use Rattle.justfile_parse_expression.proofs.Anywhere.{agree, table_tokens_are, rel, state_alike, state_seen}
use Rattle.justfile_parse_expression.proofs.FormatStrings.{IsExpected, IsNext, Taken, accepted, expected}
use Rattle.justfile_parse_expression.proofs.Seen.{Meanings}
use Rattle.justfile_parse_base.specs.Counting.{identifiers_left}
use Rattle.justfile_expression.specs.LeafTree.{Leaf}

abbrev pub Fewer : {A : Type 0} → State → Read A → Type 0
Fewer s found = IfOk found (λ x. identifiers_left x.1 ≤ identifiers_left s)

-- what is known where something is read
pub fewer_at : {A : Type 0} (s : State) (found : Read A) (x : A × State) → Fewer s found → found ≡ Ok x → identifiers_left x.1 ≤ identifiers_left s
fewer_at s found x h is = known x (λ x. identifiers_left x.1 ≤ identifiers_left s) is h

-- ---- tokens that are taken

pub fewer : (e : TableToken) (s rest : State) → s.left ≡ e ∷ rest.left → identifiers_left rest ≤ identifiers_left s
fewer e s rest split = omega (arith, ap (λ (es : List TableToken). identifiers (map significant_of es)) split)

pub expect_fewer : (kind : TokenKind) (s : State) → Fewer {A = TableToken} s (expect kind s)
expect_fewer kind s = go (expect kind s) (expected kind s)
  where
    go : (o : Read TableToken) → IsExpected kind s.left o → Fewer {A = TableToken} s o
    go (Ok x) h = fewer x.0 s x.1 h.0
    go (Err f) h = tt

-- a name that is taken is one less
pub name_fewer : (s : State) (x : TableToken × State) → expect kinds.Identifier s ≡ Ok x → identifiers_left x.1 + 1 ≤ identifiers_left s
name_fewer s x is =
    let h = subst (IsExpected kinds.Identifier s.left) is (expected kinds.Identifier s) in
    omega (arith, ap (λ (es : List TableToken). identifiers (map significant_of es)) h.0, counts_one x.0.0.kind h.1)

pub accept_fewer : (kind : TokenKind) (s : State) (x : TableToken × State) → accept kind s ≡ Some x → identifiers_left x.1 ≤ identifiers_left s
accept_fewer kind s x is =
    let h = subst (IsNext kind s s.left) is (accepted kind s) in
    fewer x.0 s x.1 h.0

-- what is noted takes none
pub noted_names : (features : List (ListFeature × Token)) (s noted : State) → noted ≡ with features s → identifiers_left noted ≡ identifiers_left s
noted_names features s noted is = ap (λ (t : State). identifiers_left t) is

-- ---- one step after another

pub then_fewer : {A B : Type 0} (s : State) (found : Read A) (f : A × State → Read B) → Fewer s found → ((x : A × State) → Fewer x.1 (f x)) → Fewer s (found >>= f)
then_fewer {A} {B} s (Ok x) f h k = go (f x) (k x)
  where
    go : (o : Read B) → Fewer {A = B} x.1 o → Fewer {A = B} s o
    go (Ok y) j = omega (arith, h, j)
    go (Err e) j = tt
then_fewer s (Err e) f h k = tt

pub either_fewer : {A : Type 0} (kind : TokenKind) (s : State) (x : Read A) (f : TableToken × State → Read A) → Fewer s x → ((p : TableToken × State) → Fewer p.1 (f p)) → Fewer s (choose (accept kind s) x f)
either_fewer {A} kind s x f h k = go (accept kind s) (accepted kind s)
  where
    last : (p : TableToken × State) (o : Read A) → s.left ≡ p.0 ∷ p.1.left → Fewer p.1 o → Fewer s o
    last p (Ok y) split j = omega (arith, fewer p.0 s p.1 split, j)
    last p (Err e) split j = tt

    go : (o : Taken) → IsNext kind s s.left o → Fewer s (choose o x f)
    go None i = h
    go (Some p) i = last p (f p) i.0 (k p)

pub after_fewer : {A : Type 0} (done : List A) (s : State) (found : Read (List A)) → Fewer s found → Fewer s (prepend done found)
unfolding prepend
after_fewer done s (Ok x) h = h
after_fewer done s (Err e) h = tt

-- ---- expressions

-- no matter what attributes are
abbrev Meant : Meanings
Meant entries written = Unit {0}

module _ (s : State) where
  abbrev Alike : Expr Leaf Token → Expr Tok Tok → Type 0
  Alike = a.Alike (rel Meant s.run)

  -- what the definitions read beside it leaves no more
  by_law : (o : ReadExpr) (o' : model.Read (Expr Tok Tok)) → Related (rel Meant s.run) Alike (Never (rel Meant s.run)) o o'
      → ((y : Expr Tok Tok × model.State) → o' ≡ Ok y → identifiers y.1.left ≤ identifiers (map significant_of s.left)) → Fewer {A = Expr Leaf Token} s o
  by_law o o' (a.both {x = x} {y = y} q k) counts = omega (arith, counts y refl, ap (λ (ts : Tokens). identifiers ts) (table_tokens_are s.run k.left))
  by_law o o' (a.neither h) counts = tt
  by_law o o' (a.short h) counts = absurd h
  by_law o o' (a.deep loose) counts = tt

  pub value_fewer : Fewer {A = Expr Leaf Token} s (value s)
  value_fewer =
      by_law (value s) (expressions.value token_leaves (state_seen s)) (value_natural (rel Meant s.run) leaves token_leaves (agree Meant s.run) (state_alike Meant s))
      (λ y is. value_counts itself itself (BelowLimit s.run.conditions.limit)
      (level_at s.run.conditions (expressions.read token_leaves) (sound s.run.conditions) levels.Value false s.depth (state_seen s) y (sym (value_is token_leaves (state_seen s)) ∙ is) (refl, refl)).derives)

  pub expression_fewer : Fewer {A = Expr Leaf Token} s (read (At levels.Expression false s))
  expression_fewer =
      by_law (read (At levels.Expression false s)) (expressions.read token_leaves (expressions.At levels.Expression false (state_seen s)))
      (expression_natural (rel Meant s.run) leaves token_leaves (agree Meant s.run) false (state_alike Meant s))
      (λ y is. expression_counts itself itself (BelowLimit s.run.conditions.limit) (expression_derives s.run.conditions false s.depth (state_seen s) y is (refl, refl)).derives)
