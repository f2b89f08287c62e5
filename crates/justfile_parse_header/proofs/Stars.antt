-- The stars of a dependency's arguments.
use Rattle.std.proofs.Common.{◌≡◌, ◌∙◌, ℕ, ◌+◌, ◌<◌, ◌≤◌, Bool, true, false, ◌||◌, List, [], ◌∷◌, ◌++◌, drop, get_or, length, map, Option, Some, None, Ok, Err, refl, sym, ap, subst}
use Rattle.std.specs.List.{cons_option, list_any}
use Rattle.std.specs.Option.{is_some, option_map}
use Rattle.std.proofs.lemmas.List.{at_drop_more, drop_all}
use Rattle.justfile_attribute_rules.specs.Made.{IsFaultOfRule}
use Rattle.justfile_token.specs.declared.compile_error.CompileError.{CompileError}
use Rattle.justfile_token.specs.declared.compile_error_kind.CompileErrorKind.TheVariants as errors
use Rattle.justfile_token.specs.declared.fault.Fault.{Fault}
use Rattle.justfile_token.specs.declared.fault.Fault.TheVariants as faults
use Rattle.justfile_token.specs.declared.token.Token.{Token}
use Rattle.justfile_recipe_header.specs.Header.{star_of}
use Rattle.justfile_recipe_header.specs.declared.unresolved_dependency.DependencyArgument.{DependencyArgument}
use Rattle.justfile_model.specs.Readers.HeaderReader.{obeying}
use Rattle.justfile_model.specs.Meanings.Meaning.{first_of}
use Rattle.justfile_model.specs.Readers.ReaderState.{BreaksRule}
use Rattle.justfile_model.specs.Meanings.RecipeRules.{misplaced_broken, second_broken, stars}
use Rattle.justfile_model.specs.Meanings.Rules.{Rule, MappedDependencyMultipleStarredArguments, MappedDependencyWithoutStarredArgument, StarredArgumentOutsideMappedDependency}
use Rattle.justfile_model.specs.Trees.Tree as tree
use Rattle.justfile_model.specs.Trees.Tree.{over_dependency_argument}
use Rattle.justfile_model.proofs.Lists.Unchanged.{argument_kept, arguments_are}
use Rattle.justfile_parse_base.specs.ParseErrors.{IsParseError, IsErrorOfFault}
use Rattle.justfile_parse_base.specs.declared.parse_error.ParseError.{ParseError}
use Rattle.justfile_parse_base.proofs.RuleSteps.{fails_for}
use Rattle.justfile_parse_expression.specs.TableReader.{Read, State, leaves}
use Rattle.justfile_parse_expression.specs.Significant.{TableToken}
use Rattle.justfile_parse_header.specs.HeaderTable.{second_from}
use Rattle.justfile_parse_header.specs.Tree.{argument_tree, read_argument}
use Rattle.justfile_parse_header.specs.declared.dependency.ReadArgument.{ReadArgument}
use Rattle.justfile_expression.specs.LeafTree.{Leaf}

-- ---- one argument after another

abbrev pub first_star : List ReadArgument → Option TableToken
first_star l = first_of (stars (map read_argument l))

module _ (arguments : List ReadArgument) where
  module _ (i : ℕ) (a : ReadArgument) (so_far : first_star (drop i arguments) ≡ first_star arguments) (within : i < length arguments) (item : a ≡ get_or arguments i a) where
    here : first_star arguments ≡ first_star (a ∷ drop (i + 1) arguments)
    here = sym so_far ∙ at_drop_more first_star arguments i a within ∙ ap (λ (b : ReadArgument). first_star (b ∷ drop (i + 1) arguments)) (sym item)

    pub first_later : a.star ≡ None → first_star (drop (i + 1) arguments) ≡ first_star arguments
    first_later h = sym (here ∙ rw h refl)

    pub first_here : (star : TableToken) → a.star ≡ Some star → first_star arguments ≡ Some star
    first_here star h = here ∙ rw h refl

  pub first_end : (i : ℕ) → first_star (drop i arguments) ≡ first_star arguments → length arguments ≤ i → first_star arguments ≡ None
  first_end i so_far h = sym so_far ∙ ap first_star (drop_all i arguments h)

module _ (before : List ReadArgument) (star : TableToken) where
  -- the second star of arguments before this one, where the first was found already or not
  abbrev pub second_after : (found : Bool) → List ReadArgument → Option TableToken
  second_after found l = second_from found (stars (map read_argument l) ++ star ∷ [])

  module _ (found : Bool) (i : ℕ) (a : ReadArgument) (so_far : second_after found (drop i before) ≡ second_after false before) (within : i < length before) (item : a ≡ get_or before i a) where
    at_second : second_after false before ≡ second_after found (a ∷ drop (i + 1) before)
    at_second = sym so_far ∙ at_drop_more (second_after found) before i a within ∙ ap (λ (b : ReadArgument). second_after found (b ∷ drop (i + 1) before)) (sym item)

    pub second_later : a.star ≡ None → second_after found (drop (i + 1) before) ≡ second_after false before
    second_later h = sym (at_second ∙ rw h refl)

    pub second_begins : (first : TableToken) → found ≡ false → a.star ≡ Some first → second_after true (drop (i + 1) before) ≡ second_after false before
    second_begins first unfound h = sym (at_second ∙ rw (unfound, h) refl)

    pub second_here : (second : TableToken) → found ≡ true → a.star ≡ Some second → second_after false before ≡ Some second
    second_here second seen h = at_second ∙ rw (seen, h) refl

  pub second_end : (found : Bool) (i : ℕ) → second_after found (drop i before) ≡ second_after false before → length before ≤ i → second_after false before ≡ second_from found (star ∷ [])
  second_end found i so_far h = sym so_far ∙ ap (second_after found) (drop_all i before h)

-- ---- a star that is refused

abbrev RefusesStar : Rule Token → TableToken → Fault → Type 0
RefusesStar rule star fault = IsFaultOfRule rule star.0 fault

module _ (star : TableToken) (e : CompileError) (at_star : e.token ≡ star.0) where
  pub refuses_second : e.kind ≡ errors.MappedDependencyMultipleStarredArguments → RefusesStar MappedDependencyMultipleStarredArguments star (faults.Compile e)
  refuses_second h = record { token = at_star; says = rw h tt }

  pub refuses_missing : e.kind ≡ errors.MappedDependencyWithoutStarredArgument → RefusesStar MappedDependencyWithoutStarredArgument star (faults.Compile e)
  refuses_missing h = record { token = at_star; says = rw h tt }

  pub refuses_outside : e.kind ≡ errors.StarredArgumentOutsideMappedDependency → RefusesStar StarredArgumentOutsideMappedDependency star (faults.Compile e)
  refuses_outside h = record { token = at_star; says = rw h tt }

module _ (s : State) where
  abbrev second_checked : List TableToken → Read (Unit {0})
  second_checked xs = obeying (second_broken (map leaves.position xs)) s

  abbrev pub place_checked : Option TableToken → List TableToken → Read (Unit {0})
  place_checked star xs = obeying (misplaced_broken (option_map leaves.position star) (map leaves.position xs)) s

  -- no star after another one
  pub one_star : (xs : List TableToken) → second_from false xs ≡ None → second_checked xs ≡ Ok (tt, s)
  one_star [] h = refl
  one_star (x ∷ []) h = refl
  one_star (x ∷ y ∷ xs) h = absurd cc

  module _ (fault : Fault) (error : ParseError) (for : IsErrorOfFault error fault) where
    refused_at : (rule : Rule Token) (star first : TableToken) → Some first ≡ Some star → RefusesStar rule star fault
        → IsParseError {Y = Unit {0} × State} error s ⊥ (Err (BreaksRule (record { rule = rule; token = first.0 })))
    refused_at rule star first is h =
        let same : star ≡ first = cc in
        fails_for (Unit {0} × State) rule first.0 fault error s for (subst (λ (t : TableToken). RefusesStar rule t fault) same h)

    pub second_fails : (xs : List TableToken) (second : TableToken) → second_from false xs ≡ Some second → RefusesStar MappedDependencyMultipleStarredArguments second fault
        → IsParseError error s ⊥ (second_checked xs)
    unfolding leaves
    second_fails [] second is h = absurd cc
    second_fails (x ∷ []) second is h = absurd cc
    second_fails (x ∷ y ∷ xs) second is h = refused_at MappedDependencyMultipleStarredArguments second y is h

    pub missing_fails : (star : TableToken) (xs : List TableToken) → first_of xs ≡ None → RefusesStar MappedDependencyWithoutStarredArgument star fault
        → IsParseError error s ⊥ (place_checked (Some star) xs)
    unfolding leaves
    missing_fails star [] is h = refused_at MappedDependencyWithoutStarredArgument star star refl h
    missing_fails star (x ∷ xs) is h = absurd cc

    pub outside_fails : (xs : List TableToken) (first : TableToken) → first_of xs ≡ Some first → RefusesStar StarredArgumentOutsideMappedDependency first fault
        → IsParseError error s ⊥ (place_checked None xs)
    unfolding leaves
    outside_fails [] first is h = absurd cc
    outside_fails (x ∷ xs) first is h = refused_at StarredArgumentOutsideMappedDependency first x is h

-- ---- what is kept of arguments

abbrev KeptArguments : Type 0
KeptArguments = tree.DependencyArgument Leaf Token (Unit {0})

abbrev pub kept_of : ReadArgument → KeptArguments
kept_of a = argument_kept leaves.star (read_argument a)

pub kept_are : (arguments : List ReadArgument) → map (over_dependency_argument (λ x. x) (λ x. x) leaves.star) (map read_argument arguments) ≡ map kept_of arguments
kept_are arguments = arguments_are leaves.star (map read_argument arguments) ∙ twice arguments
  where
    twice : (l : List ReadArgument) → map (argument_kept leaves.star) (map read_argument l) ≡ map kept_of l
    twice [] = refl
    twice (a ∷ others) = ap (λ (l : List KeptArguments). kept_of a ∷ l) (twice others)

-- ---- a dependency is starred where its arguments have a star

any_starred : List KeptArguments → Bool
any_starred kept = list_any (λ (a : KeptArguments). is_some a.star) kept

some_star : (b : Bool) → is_some (star_of b) ≡ b
some_star true = refl
some_star false = refl

any_tree : (kept : List DependencyArgument) → list_any (λ (a : DependencyArgument). a.starred) kept ≡ any_starred (map argument_tree kept)
unfolding any_starred
any_tree [] = refl
any_tree (k ∷ ks) = λ i. sym (some_star k.starred) i || any_tree ks i

any_more : (o : Option TableToken) (kept : List KeptArguments) (others : List TableToken) → any_starred kept ≡ is_some (first_of others)
    → (is_some (option_map leaves.star o) || any_starred kept) ≡ is_some (first_of (cons_option o others))
any_more None kept others h = h
any_more (Some star) kept others h = refl

any_read : (arguments : List ReadArgument) → any_starred (map kept_of arguments) ≡ is_some (first_star arguments)
unfolding any_starred
any_read [] = refl
any_read (a ∷ others) = any_more a.star (map kept_of others) (stars (map read_argument others)) (any_read others)

pub star_is : (star : Option TableToken) (arguments : List ReadArgument) (kept : List DependencyArgument) (s rest : State) → map argument_tree kept ≡ map kept_of arguments
    → place_checked s star (stars (map read_argument arguments)) ≡ Ok (tt, rest) → star_of (list_any (λ (a : DependencyArgument). a.starred) kept) ≡ option_map leaves.star star
star_is star arguments kept s rest is checked =
    ap star_of (any_tree kept ∙ ap any_starred is ∙ any_read arguments) ∙ go star (stars (map read_argument arguments)) checked
  where
    go : (star : Option TableToken) (xs : List TableToken) → place_checked s star xs ≡ Ok (tt, rest) → star_of (is_some (first_of xs)) ≡ option_map leaves.star star
    go None [] h = refl
    go None (x ∷ xs) h = absurd cc
    go (Some star) [] h = absurd cc
    go (Some star) (x ∷ xs) h = refl
