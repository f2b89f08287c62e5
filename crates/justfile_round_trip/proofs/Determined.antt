-- The features of an expression are determined by the expression.
use Rattle.std.proofs.Common.{◌≡◌, ℕ, Bool, true, false, [], ◌++◌, Option, refl, sym, ap, ◌∙◌}
use Rattle.std.proofs.lemmas.List.{append-nil}
use Rattle.justfile_vocabulary.specs.declared.token_kind.TokenKind.{TokenKind}
use Rattle.justfile_vocabulary.specs.declared.list_feature.ListFeature.TheVariants as features
use Rattle.justfile_model.specs.Lexing.SignificantTokens.{SignificantToken}
use Rattle.justfile_model.specs.Trees.Tree as tree
use Rattle.justfile_model.specs.Trees.Tree.{lexeme, nothing}
use Rattle.justfile_model.specs.Grammars.Features.{noted, compared, uncompared, called}
use Rattle.justfile_model.specs.Grammars.Expressions as e
use Rattle.justfile_model.specs.Grammars.Expressions.{Tokens, Expression, Disjunct, Compared, Conjunct, Condition, Braced, Conditional, Value, Sequence, FormatParts}
use Rattle.justfile_round_trip.proofs.Canon as canon
use Rattle.justfile_round_trip.proofs.Canon.{Shown, Values, ShapeParts}

abbrev mutual
  -- of a condition the first comparison is not noted
  pub value_features : (condition : Bool) → canon.Value → Shown
  value_features condition (tree.Or l r) = value_features condition l ++ noted features.LogicalOperator tt ++ value_features false r
  value_features condition (tree.And l r) = value_features condition l ++ noted features.LogicalOperator tt ++ value_features false r
  value_features condition (tree.Comparison l operator token r) = value_features false l ++ compared condition tt ++ value_features false r
  value_features condition (tree.Concatenation l operator r) = value_features false l ++ value_features false r
  value_features condition (tree.ListConcatenation l operator r) = value_features false l ++ noted features.ListConcatenationOperator tt ++ value_features false r
  value_features condition (tree.Join l operator r) = value_features false l ++ value_features false r
  value_features condition (tree.Root operator r) = value_features false r
  value_features condition (tree.If c b) = (value_features true c ++ uncompared c tt) ++ value_features false b ++ noted features.IfWithoutElse tt
  value_features condition (tree.IfElse c b o) = (value_features true c ++ uncompared c tt) ++ value_features false b ++ value_features false o
  value_features condition (tree.Not v) = noted features.NegationOperator tt ++ value_features false v
  value_features condition (tree.FormatString start v ps) = value_features false v ++ parts_features ps
  value_features condition (tree.Assert name c) = value_features true c ++ uncompared c tt
  value_features condition (tree.AssertMessage name c m) = (value_features true c ++ uncompared c tt) ++ value_features false m
  value_features condition (tree.Call n es) = values_features es ++ called n tt
  value_features condition (tree.Group v) = value_features false v
  value_features condition (tree.ListOf opener es) = noted features.ListLiteral tt ++ values_features es
  value_features condition _ = []

  pub values_features : Values → Shown
  values_features tree.none = []
  values_features (tree.more v es) = value_features false v ++ values_features es

  parts_features : ShapeParts → Shown
  parts_features (tree.Last l) = []
  parts_features (tree.Continue l v ps) = value_features false v ++ parts_features ps

module _ (MayEnter : ℕ → Option SignificantToken → Type 0) where
  -- the condition matters to operators alone
  one_condition : {d : ℕ} {v : canon.Value} {fs : Shown} {ts rest : Tokens} → Value lexeme nothing MayEnter d v fs ts rest → (condition : Bool) → value_features condition v ≡ value_features false v
  one_condition (e.not kind v) c = refl
  one_condition _ c = refl

  conjunct_condition : {d : ℕ} {v : canon.Value} {fs : Shown} {ts rest : Tokens} → Conjunct lexeme nothing MayEnter d v fs ts rest → (condition : Bool) → value_features condition v ≡ value_features false v
  conjunct_condition (e.conditional i (e.if_only x b next)) c = refl
  conjunct_condition (e.value next v unjoined) c = one_condition v c
  conjunct_condition _ c = refl

  mutual
    pub of_expression : {condition : Bool} {d : ℕ} {v : canon.Value} {fs : Shown} {ts rest : Tokens} → Expression lexeme nothing MayEnter condition d v fs ts rest → fs ≡ value_features condition v
    of_expression (e.or o l kind r) = λ i. of_disjunct l i ++ noted features.LogicalOperator tt ++ of_expression r i
    of_expression (e.disjunct o l next) = of_disjunct l

    of_disjunct : {condition : Bool} {d : ℕ} {v : canon.Value} {fs : Shown} {ts rest : Tokens} → Disjunct lexeme nothing MayEnter condition d v fs ts rest → fs ≡ value_features condition v
    of_disjunct (e.and l kind r) = λ i. of_compared l i ++ noted features.LogicalOperator tt ++ of_disjunct r i
    of_disjunct (e.comparison l next) = of_compared l

    of_compared : {condition : Bool} {d : ℕ} {v : canon.Value} {fs : Shown} {ts rest : Tokens} → Compared lexeme nothing MayEnter condition d v fs ts rest → fs ≡ value_features condition v
    of_compared {condition} (e.compare by l kind r) = λ i. of_conjunct l i ++ compared condition tt ++ of_conjunct r i
    of_compared {condition} (e.conjunct l next) = of_conjunct l ∙ sym (conjunct_condition l condition)

    of_conjunct : {d : ℕ} {v : canon.Value} {fs : Shown} {ts rest : Tokens} → Conjunct lexeme nothing MayEnter d v fs ts rest → fs ≡ value_features false v
    of_conjunct (e.conditional i x) = of_conditional x
    of_conjunct (e.root kind r) = of_conjunct r
    of_conjunct (e.join next l kind r) = λ i. of_value l i ++ of_conjunct r i
    of_conjunct (e.list_concatenation next l kind r) = λ i. of_value l i ++ noted features.ListConcatenationOperator tt ++ of_conjunct r i
    of_conjunct (e.concatenation next l kind r) = λ i. of_value l i ++ of_conjunct r i
    of_conjunct (e.value next v unjoined) = of_value v

    of_condition : {d : ℕ} {v : canon.Value} {fs : Shown} {ts rest : Tokens} → Condition lexeme nothing MayEnter d v fs ts rest → fs ≡ value_features true v ++ uncompared v tt
    of_condition (e.condition {e = v} x) = ap (λ fs. fs ++ uncompared v tt) (of_expression x)

    of_braced : {d : ℕ} {v : canon.Value} {fs : Shown} {ts rest : Tokens} → Braced lexeme nothing MayEnter d v fs ts rest → fs ≡ value_features false v
    of_braced (e.braces kind x kind2) = of_expression x

    of_conditional : {d : ℕ} {word : SignificantToken} {v : canon.Value} {fs : Shown} {ts rest : Tokens} → Conditional lexeme nothing MayEnter d word v fs ts rest → fs ≡ value_features false v
    of_conditional (e.if_only c b next) = λ i. of_condition c i ++ of_braced b i ++ noted features.IfWithoutElse tt
    of_conditional (e.if_else c b is o next) = λ i. of_condition c i ++ of_braced b i ++ of_braced o i
    of_conditional (e.else_if c b is again o) = λ i. of_condition c i ++ of_braced b i ++ of_conditional o i

    pub of_value : {d : ℕ} {v : canon.Value} {fs : Shown} {ts rest : Tokens} → Value lexeme nothing MayEnter d v fs ts rest → fs ≡ value_features false v
    of_value (e.not kind v) = λ i. noted features.NegationOperator tt ++ of_value v i
    of_value (e.literal kind) = refl
    of_value (e.format_string m x ps) = λ i. of_expression x i ++ of_parts ps i
    of_value (e.assert is kind x kind2) = of_condition x
    of_value (e.assert_message is kind x kind2 m kind3) = λ i. of_condition x i ++ of_expression m i
    of_value (e.call {name = n} kind no_assert kind2 xs) = ap (λ fs. fs ++ called n.tok.lexeme tt) (of_sequence xs)
    of_value (e.group kind x kind2) = of_expression x
    of_value (e.list kind xs) = λ i. noted features.ListLiteral tt ++ of_sequence xs i
    of_value _ = refl

    pub of_sequence : {closing : TokenKind} {d : ℕ} {es : Values} {fs : Shown} {ts rest : Tokens} → Sequence lexeme nothing MayEnter closing d es fs ts rest → fs ≡ values_features es
    of_sequence (e.none kind) = refl
    of_sequence (e.last {fs = fs} next x kind) = sym (append-nil fs) ∙ ap (λ fs. fs ++ []) (of_expression x)
    of_sequence (e.more next x kind xs) = λ i. of_expression x i ++ of_sequence xs i

    of_parts : {d : ℕ} {ps : ShapeParts} {fs : Shown} {ts rest : Tokens} → FormatParts lexeme nothing MayEnter d ps fs ts rest → fs ≡ parts_features ps
    of_parts (e.end kind) = refl
    of_parts (e.next kind x ps) = λ i. of_expression x i ++ of_parts ps i
