-- Reading the parts of a header doesn't increase the number of identifiers that are left.
use Rattle.std.proofs.Common.{◌≡◌, ◌≤◌, false, List, [], ◌∷◌, ◌++◌, length, Option, Some, None, Ok, arith}
use Rattle.justfile_token.specs.declared.token.Token.{Token}
use Rattle.justfile_vocabulary.specs.declared.token_kind.TokenKind.TheVariants as kinds
use Rattle.justfile_model.specs.Readers.HeaderReader as headers
use Rattle.justfile_model.specs.Readers.HeaderReader.{obeying}
use Rattle.justfile_model.specs.Readers.ReaderState.{prepend}
use Rattle.justfile_model.specs.Meanings.Rules.{Broken}
use Rattle.justfile_model.specs.Trees.Tree.{Expr}
use Rattle.justfile_model.specs.declared.level.Level.TheVariants as levels
use Rattle.justfile_model.proofs.Readers.ReadingSteps.{after_test}
use Rattle.justfile_model.proofs.Lists.Turns.{recursive_keeps}
use Rattle.justfile_parse_expression.specs.TableReader.{At, Read, State, expect, leaves, next_are, read, value}
use Rattle.justfile_parse_expression.specs.Significant.{TableToken}
use Rattle.justfile_parse_base.specs.Counting.{identifiers_left}
use Rattle.justfile_parse_header.specs.HeaderTable as reader
use Rattle.justfile_parse_header.specs.HeaderTable.{LeafDependency, StarredArgument}
use Rattle.justfile_parse_base.proofs.Fewer.{Fewer, after_fewer, either_fewer, expect_fewer, expression_fewer, fewer_at, then_fewer, value_fewer}
use Rattle.justfile_expression.specs.LeafTree.{Leaf}

abbrev Names : Type 0
Names = List Leaf

abbrev Arguments : Type 0
Arguments = List StarredArgument

abbrev Dependencies : Type 0
Dependencies = List LeafDependency

obeying_fewer : (rules : List (Broken Token)) (s : State) → Fewer {A = Unit {0}} s (obeying rules s)
obeying_fewer [] s = omega arith
obeying_fewer (b ∷ bs) s = tt

-- ---- parameters

pub default_fewer : (s : State) → Fewer {A = Option (Expr Leaf Token)} s (reader.default_value s)
unfolding headers.default_value
default_fewer s =
    either_fewer {A = Option (Expr Leaf Token)} kinds.Equals s _ _ (omega arith)
    (λ equals. then_fewer {A = Expr Leaf Token} {B = Option (Expr Leaf Token)} equals.1 (value equals.1) _ (value_fewer equals.1) (λ e. omega arith))

-- ---- paths

path_rest_rule_fewer : (f : State → Read Names) → ((s : State) → Fewer s (f s)) → (s : State) → Fewer s (headers.path_rest_rule leaves f s)
unfolding headers.path_rest_rule
path_rest_rule_fewer f h s =
    either_fewer {A = Names} kinds.ColonColon s _ _ (omega arith)
    (λ colons. then_fewer {A = TableToken} {B = Names} colons.1 (expect kinds.Identifier colons.1) _ (expect_fewer kinds.Identifier colons.1)
    (λ name. after_fewer (leaves.name name.0 ∷ []) name.1 (f name.1) (h name.1)))

path_rest_fewer : (s : State) → Fewer {A = Names} s (reader.path_rest s)
unfolding headers.path_rest
path_rest_fewer =
    recursive_keeps (λ (s : State). length s.left) (headers.no_names leaves) (headers.path_rest_rule leaves) (λ s found. Fewer s found) (λ s. tt) path_rest_rule_fewer

path_fewer : (s : State) → Fewer {A = Names} s (reader.path s)
unfolding headers.path
path_fewer s =
    then_fewer {A = TableToken} {B = Names} s (expect kinds.Identifier s) _ (expect_fewer kinds.Identifier s)
    (λ first. after_fewer (leaves.name first.0 ∷ []) first.1 (reader.path_rest first.1) (path_rest_fewer first.1))

-- ---- dependencies

plain_fewer : (s : State) → Fewer {A = StarredArgument} s (reader.plain_argument s)
unfolding headers.plain_argument
plain_fewer s =
    then_fewer {A = Expr Leaf Token} {B = StarredArgument} s (read (At levels.Expression false s)) _ (expression_fewer s) (λ e. omega arith)

starred_fewer : (before : Arguments) (star : TableToken) (s : State) → Fewer {A = StarredArgument} s (reader.starred_argument before star s)
unfolding headers.starred_argument
starred_fewer before star s =
    then_fewer {A = Unit {0}} {B = StarredArgument} s (obeying (reader.second_star before star) s) _ (obeying_fewer (reader.second_star before star) s)
    (λ checked. then_fewer {A = Expr Leaf Token} {B = StarredArgument} checked.1 (value checked.1) _ (value_fewer checked.1) (λ e. omega arith))

argument_fewer : (before : Arguments) (s : State) → Fewer {A = StarredArgument} s (reader.dependency_argument before s)
unfolding headers.dependency_argument
argument_fewer before s = either_fewer {A = StarredArgument} kinds.Asterisk s _ _ (plain_fewer s) (λ star. starred_fewer before star.0 star.1)

abbrev Place : Type 0
Place = Arguments × State

arguments_rule_fewer : (f : Place → Read Arguments) → ((x : Place) → Fewer x.1 (f x)) → (x : Place) → Fewer x.1 (headers.dependency_arguments_rule leaves f x)
unfolding headers.dependency_arguments_rule
arguments_rule_fewer f h x =
    either_fewer {A = Arguments} kinds.ParenR x.1 _ _
    (then_fewer {A = StarredArgument} {B = Arguments} x.1 (reader.dependency_argument x.0 x.1) _ (argument_fewer x.0 x.1) (λ a. h (x.0 ++ a.0 ∷ [], a.1)))
    (λ closer. omega arith)

arguments_fewer : (x : Place) → Fewer {A = Arguments} x.1 (reader.dependency_arguments x)
unfolding headers.dependency_arguments
arguments_fewer =
    recursive_keeps (λ (x : Place). length x.1.left) (headers.no_dependency_arguments leaves) (headers.dependency_arguments_rule leaves) (λ x found. Fewer x.1 found)
    (λ x. tt) arguments_rule_fewer

parenthesized_fewer : (star : Option TableToken) (s : State) → Fewer {A = LeafDependency} s (reader.parenthesized star s)
unfolding headers.parenthesized
parenthesized_fewer star s =
    then_fewer {A = TableToken} {B = LeafDependency} s (expect kinds.ParenL s) _ (expect_fewer kinds.ParenL s) (λ opener.
    then_fewer {A = Names} {B = LeafDependency} opener.1 (reader.path opener.1) _ (path_fewer opener.1) (λ path.
    then_fewer {A = Arguments} {B = LeafDependency} path.1 (reader.dependency_arguments ([], path.1)) _ (arguments_fewer ([], path.1)) (λ arguments.
    then_fewer {A = Unit {0}} {B = LeafDependency} arguments.1 (obeying (reader.misplaced_star star arguments.0) arguments.1) _
    (obeying_fewer (reader.misplaced_star star arguments.0) arguments.1) (λ checked. omega arith))))

bare_fewer : (s : State) → Fewer {A = LeafDependency} s (reader.bare_dependency s)
unfolding headers.bare_dependency
bare_fewer s = then_fewer {A = Names} {B = LeafDependency} s (reader.path s) _ (path_fewer s) (λ path. omega arith)

dependency_fewer : (s : State) → Fewer {A = LeafDependency} s (reader.dependency s)
unfolding headers.dependency
dependency_fewer s =
    after_test (next_are (kinds.Identifier ∷ []) s) _ _ (Fewer {A = LeafDependency} s) (λ _. bare_fewer s)
    (λ _. either_fewer {A = LeafDependency} kinds.Asterisk s _ _ (parenthesized_fewer None s) (λ star. parenthesized_fewer (Some star.0) star.1))

dependencies_rule_fewer : (f : State → Read Dependencies) → ((s : State) → Fewer s (f s)) → (s : State) → Fewer s (headers.dependencies_rule leaves f s)
unfolding headers.dependencies_rule
dependencies_rule_fewer f h s =
    after_test (reader.begins_dependency s) _ _ (Fewer {A = Dependencies} s)
    (λ _. then_fewer {A = LeafDependency} {B = Dependencies} s (reader.dependency s) _ (dependency_fewer s) (λ d. after_fewer (d.0 ∷ []) d.1 (f d.1) (h d.1)))
    (λ _. omega arith)

dependencies_fewer : (s : State) → Fewer {A = Dependencies} s (reader.dependencies s)
unfolding headers.dependencies
dependencies_fewer =
    recursive_keeps (λ (s : State). length s.left) (headers.no_dependencies leaves) (headers.dependencies_rule leaves) (λ s found. Fewer s found) (λ s. tt)
    dependencies_rule_fewer

some_fewer : (ds : Dependencies) (s : State) → Fewer {A = Dependencies} s (headers.some_dependency leaves (ds, s))
some_fewer [] s = tt
some_fewer (d ∷ ds) s = omega arith

subsequents_fewer : (s : State) → Fewer {A = Dependencies} s (reader.subsequents s)
unfolding headers.subsequents
subsequents_fewer s =
    either_fewer {A = Dependencies} kinds.AmpersandAmpersand s _ _ (omega arith)
    (λ operator. then_fewer {A = Dependencies} {B = Dependencies} operator.1 (reader.dependencies operator.1) _ (dependencies_fewer operator.1) (λ x. some_fewer x.0 x.1))

-- ---- after those that were read before

pub priors_fewer : (done all : Dependencies) (s rest : State) → prepend done (reader.dependencies s) ≡ Ok (all, rest) → identifiers_left rest ≤ identifiers_left s
priors_fewer done all s rest is = fewer_at s (prepend done (reader.dependencies s)) (all, rest) (after_fewer done s (reader.dependencies s) (dependencies_fewer s)) is

pub others_fewer : (done all : Dependencies) (s rest : State) → prepend done (reader.subsequents s) ≡ Ok (all, rest) → identifiers_left rest ≤ identifiers_left s
others_fewer done all s rest is = fewer_at s (prepend done (reader.subsequents s)) (all, rest) (after_fewer done s (reader.subsequents s) (subsequents_fewer s)) is
