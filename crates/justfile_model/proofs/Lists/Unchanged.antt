-- Mapping with the identity changes nothing.
use Rattle.std.proofs.Common.{◌≡◌, List, map, refl, ap}
use Rattle.std.specs.Option.{option_map}
use Rattle.justfile_model.specs.LiteralTexts.Literals as literals
use Rattle.justfile_model.specs.LiteralTexts.Literals.{Literal, over_literal}
use Rattle.justfile_model.specs.Trees.Tree as tree
use Rattle.justfile_model.specs.Trees.Tree.{DependencyArgument, Expr, Exprs, Parts, over_dependency_argument, over_expr, over_exprs, over_parts}

abbrev pub same_leaf : {A : Type 0} → A → A
same_leaf x = x

pub literal_itself : {A : Type 0} (l : Literal A) → over_literal same_leaf l ≡ l
literal_itself (literals.Plain token) = refl
literal_itself _ = refl

mutual
  pub expr_itself : {A B : Type 0} (e : Expr A B) → over_expr same_leaf same_leaf e ≡ e
  expr_itself (tree.Or l r) = λ i. tree.Or (expr_itself l i) (expr_itself r i)
  expr_itself (tree.And l r) = λ i. tree.And (expr_itself l i) (expr_itself r i)
  expr_itself (tree.Comparison l operator token r) = λ i. tree.Comparison (expr_itself l i) operator token (expr_itself r i)
  expr_itself (tree.Concatenation l operator r) = λ i. tree.Concatenation (expr_itself l i) operator (expr_itself r i)
  expr_itself (tree.ListConcatenation l operator r) = λ i. tree.ListConcatenation (expr_itself l i) operator (expr_itself r i)
  expr_itself (tree.Join l operator r) = λ i. tree.Join (expr_itself l i) operator (expr_itself r i)
  expr_itself (tree.Root operator r) = λ i. tree.Root operator (expr_itself r i)
  expr_itself (tree.If c b) = λ i. tree.If (expr_itself c i) (expr_itself b i)
  expr_itself (tree.IfElse c b o) = λ i. tree.IfElse (expr_itself c i) (expr_itself b i) (expr_itself o i)
  expr_itself (tree.Not e) = λ i. tree.Not (expr_itself e i)
  expr_itself (tree.FormatString start e parts) = λ i. tree.FormatString start (expr_itself e i) (parts_itself parts i)
  expr_itself (tree.Assert name c) = λ i. tree.Assert name (expr_itself c i)
  expr_itself (tree.AssertMessage name c m) = λ i. tree.AssertMessage name (expr_itself c i) (expr_itself m i)
  expr_itself (tree.Call name arguments) = λ i. tree.Call name (exprs_itself arguments i)
  expr_itself (tree.Group e) = λ i. tree.Group (expr_itself e i)
  expr_itself (tree.ListOf opener elements) = λ i. tree.ListOf opener (exprs_itself elements i)
  expr_itself _ = refl

  pub exprs_itself : {A B : Type 0} (es : Exprs A B) → over_exprs same_leaf same_leaf es ≡ es
  exprs_itself tree.none = refl
  exprs_itself (tree.more e es) = λ i. tree.more (expr_itself e i) (exprs_itself es i)

  parts_itself : {A B : Type 0} (ps : Parts A B) → over_parts same_leaf same_leaf ps ≡ ps
  parts_itself (tree.Last token) = refl
  parts_itself (tree.Continue token e ps) = λ i. tree.Continue token (expr_itself e i) (parts_itself ps i)

-- an argument of a dependency with what is kept of its star
abbrev pub argument_kept : {A B T S : Type 0} → (T → S) → DependencyArgument A B T → DependencyArgument A B S
argument_kept k a = record { star = option_map k a.star; value = a.value }

argument_is : {A B T S : Type 0} (k : T → S) (a : DependencyArgument A B T)
    → over_dependency_argument same_leaf same_leaf k a ≡ argument_kept k a
argument_is k a = λ i. record { star = option_map k a.star; value = expr_itself a.value i }

pub arguments_are : {A B T S : Type 0} (k : T → S) (arguments : List (DependencyArgument A B T))
    → map (over_dependency_argument same_leaf same_leaf k) arguments ≡ map (argument_kept k) arguments
arguments_are k arguments = ap (λ f. map f arguments) (λ i a. argument_is k a i)
