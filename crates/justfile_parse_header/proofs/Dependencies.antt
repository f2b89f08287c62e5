-- The loops that parse the dependencies of a recipe and their arguments.
use Rattle.std.proofs.Common.{◌≡◌, ◌∙◌, true, false, List, [], ◌∷◌, ◌++◌, ◌+◌, length, map, Option, Some, None, Ok, Err, refl, sym, ap, arith}
use Rattle.std.proofs.lemmas.List.{length-append, length-map, map-append}
use Rattle.justfile_vocabulary.specs.declared.token_kind.TokenKind.TheVariants as kinds
use Rattle.justfile_recipe_header.specs.declared.unresolved_dependency.UnresolvedDependency.{UnresolvedDependency}
use Rattle.justfile_model.specs.Readers.HeaderReader as headers
use Rattle.justfile_model.specs.Readers.HeaderReader.{obeying}
use Rattle.justfile_model.specs.Readers.ReaderState.{◌>>=◌, Unexpected, prepend, refused}
use Rattle.justfile_model.specs.Trees.Tree.{over_dependency_argument}
use Rattle.justfile_model.proofs.Readers.HeaderReading as laws
use Rattle.justfile_model.proofs.Lists.Prepended.{after_nothing}
use Rattle.justfile_parse_base.specs.ParseErrors.{IsParseError}
use Rattle.justfile_parse_base.specs.declared.parse_error.ParseError.{ParseError}
use Rattle.justfile_parse_expression.specs.TableReader.{Read, ReadError, State, accept, expect, leaves}
use Rattle.justfile_parse_expression.specs.Significant.{TableToken}
use Rattle.justfile_parse_header.specs.HeaderTable.{LeafDependency, StarredArgument, begins_dependency, dependencies, dependency, dependency_argument, dependency_arguments, misplaced_star, parenthesized, subsequents}
use Rattle.justfile_parse_base.specs.SharedTable.{path}
use Rattle.justfile_parse_header.specs.Tree.{argument_tree, dependency_tree, read_argument}
use Rattle.justfile_parse_base.specs.Trees.{path_tree}
use Rattle.justfile_parse_header.specs.declared.dependency.ReadArgument.{ReadArgument}
use Rattle.justfile_parse_base.proofs.HeaderErrors.{failed}
use Rattle.justfile_expression.specs.LeafTree.{Leaf}
use Rattle.justfile_parse_header.proofs.Stars.{kept_are, star_is}

-- ---- dependencies: `done` stand where reading began with `old`, and `q` is what is left

module _ (old done : List UnresolvedDependency) (s q : State) (so_far : prepend (map dependency_tree done) (dependencies q) ≡ prepend (map dependency_tree old) (dependencies s)) where
  -- no dependency follows
  pub dependencies_end : begins_dependency q ≡ false → prepend (map dependency_tree old) (dependencies s) ≡ Ok (map dependency_tree done, q)
  dependencies_end h = sym so_far ∙ laws.dependencies_end leaves (map dependency_tree done) q h

  module _ (begins : begins_dependency q ≡ true) where
    -- a dependency is read
    pub dependencies_go_on : (d : UnresolvedDependency) (new : List UnresolvedDependency) (rest : State) → dependency q ≡ Ok (dependency_tree d, rest) → new ≡ done ++ d ∷ []
        → prepend (map dependency_tree new) (dependencies rest) ≡ prepend (map dependency_tree old) (dependencies s)
    dependencies_go_on d new rest value is =
        ap (λ (l : List UnresolvedDependency). prepend (map dependency_tree l) (dependencies rest)) is
        ∙ ap (λ (l : List LeafDependency). prepend l (dependencies rest)) (map-append dependency_tree done (d ∷ []))
        ∙ sym (laws.dependencies_go_on leaves (map dependency_tree done) q (dependency_tree d) rest begins value)
        ∙ so_far

    -- a dependency is not read
    pub dependencies_err : (error : ParseError) (left : State) → IsParseError error left ⊥ (dependency q) → IsParseError error left ⊥ (prepend (map dependency_tree old) (dependencies s))
    dependencies_err error left h =
        failed (dependency q) (prepend (map dependency_tree old) (dependencies s))
        (λ e k. sym so_far ∙ laws.dependencies_fail leaves (map dependency_tree done) q e begins k) error left ⊥ ⊥ (λ k. k) h

-- ---- arguments: `done` were read from `s` on, and `q` is what is left

module _ (done : List ReadArgument) (s q : State) (so_far : dependency_arguments (map read_argument done, q) ≡ dependency_arguments ([], s)) where
  -- the closing parenthesis is taken
  pub arguments_end : (closer : TableToken) (rest : State) → accept kinds.ParenR q ≡ Some (closer, rest) → dependency_arguments ([], s) ≡ Ok (map read_argument done, rest)
  arguments_end closer rest h = sym so_far ∙ laws.dependency_arguments_end leaves (map read_argument done, q) closer rest h

  module _ (none : accept kinds.ParenR q ≡ None) where
    -- an argument is read
    pub arguments_go_on : (a : ReadArgument) (new : List ReadArgument) (rest : State) → dependency_argument (map read_argument done) q ≡ Ok (read_argument a, rest) → new ≡ done ++ a ∷ []
        → dependency_arguments (map read_argument new, rest) ≡ dependency_arguments ([], s)
    arguments_go_on a new rest value is =
        ap (λ (l : List ReadArgument). dependency_arguments (map read_argument l, rest)) is
        ∙ ap (λ (l : List StarredArgument). dependency_arguments (l, rest)) (map-append read_argument done (a ∷ []))
        ∙ sym (laws.dependency_arguments_go_on leaves (map read_argument done, q) (read_argument a) rest none value)
        ∙ so_far

    -- an argument is not read
    pub arguments_fail : (error : ParseError) (left : State) → IsParseError error left ⊥ (dependency_argument (map read_argument done) q) → IsParseError error left ⊥ (dependency_arguments ([], s))
    arguments_fail error left h =
        failed (dependency_argument (map read_argument done) q) (dependency_arguments ([], s))
        (λ e k. sym so_far ∙ laws.dependency_arguments_fail leaves (map read_argument done, q) e none k) error left ⊥ ⊥ (λ k. k) h

-- ---- dependencies after `&&`

module _ (old : List UnresolvedDependency) (s : State) where
  -- they don't come next
  pub subsequents_none : accept kinds.AmpersandAmpersand s ≡ None → prepend (map dependency_tree old) (subsequents s) ≡ Ok (map dependency_tree old, s)
  unfolding headers.subsequents
  subsequents_none h = rw h (after_nothing (map dependency_tree old) s)

  module _ (operator : TableToken) (next : State) (taken : accept kinds.AmpersandAmpersand s ≡ Some (operator, next)) where
    abbrev some_of : Read (List LeafDependency) → Read (List LeafDependency)
    some_of found = prepend (map dependency_tree old) (found >>= headers.some_dependency leaves)

    subsequents_are : prepend (map dependency_tree old) (subsequents s) ≡ some_of (dependencies next)
    unfolding headers.subsequents
    subsequents_are = rw taken refl

    module _ (new : List UnresolvedDependency) (rest : State) where
      abbrev IsRead : Read (List LeafDependency) → Type 0
      IsRead found = prepend (map dependency_tree old) found ≡ Ok (map dependency_tree new, rest)

      more_than : (more : List LeafDependency) → map dependency_tree old ++ more ≡ map dependency_tree new → length new ≡ length old + length more
      more_than more is =
          omega (arith, length-append (map dependency_tree old) more, length-map old dependency_tree, length-map new dependency_tree, ap (λ (l : List LeafDependency). length l) is)

      both : (more : List LeafDependency) (t : State) → IsRead (Ok (more, t)) → (map dependency_tree old ++ more ≡ map dependency_tree new) × (t ≡ rest)
      unfolding prepend
      both more t k =
          let same : ◌≡◌ {A = List LeafDependency × State} (map dependency_tree old ++ more, t) (map dependency_tree new, rest) = cc in
          (ap (λ (x : List LeafDependency × State). x.0) same, ap (λ (x : List LeafDependency × State). x.1) same)

      some_read : (found : Read (List LeafDependency)) → IsRead found → (length new ≡ length old → ⊥) → some_of found ≡ Ok (map dependency_tree new, rest)
      some_read (Ok ([], t)) k h = absurd (h (omega (arith, more_than [] (both [] t k).0)))
      some_read (Ok (d ∷ ds, t)) k h = k
      some_read (Err e) k h = k

      some_missing : (found : Read (List LeafDependency)) → IsRead found → length new ≡ length old → some_of found ≡ Err (refused Unexpected rest)
      unfolding prepend
      some_missing (Ok ([], t)) k h = ap (λ (r : State). Err (refused Unexpected r)) (both [] t k).1
      some_missing (Ok (d ∷ ds, t)) k h = absurd (omega (arith, more_than (d ∷ ds) (both (d ∷ ds) t k).0, h))
      some_missing (Err e) k h = absurd cc

      module _ (read : IsRead (dependencies next)) where
        -- some were added to those before them
        pub subsequents_read : (length new ≡ length old → ⊥) → prepend (map dependency_tree old) (subsequents s) ≡ Ok (map dependency_tree new, rest)
        subsequents_read h = subsequents_are ∙ some_read (dependencies next) read h

        -- none was
        pub subsequents_missing : length new ≡ length old → prepend (map dependency_tree old) (subsequents s) ≡ Err (refused Unexpected rest)
        subsequents_missing h = subsequents_are ∙ some_missing (dependencies next) read h

    fails : (found : Read (List LeafDependency)) (e : ReadError) → prepend (map dependency_tree old) found ≡ Err e → some_of found ≡ Err e
    unfolding prepend
    fails (Ok x) e k = absurd cc
    fails (Err f) e k = k

    -- they are not read
    pub subsequents_fail : (error : ParseError) (left : State) → IsParseError error left ⊥ (prepend (map dependency_tree old) (dependencies next))
        → IsParseError error left ⊥ (prepend (map dependency_tree old) (subsequents s))
    subsequents_fail error left h =
        failed (prepend (map dependency_tree old) (dependencies next)) (prepend (map dependency_tree old) (subsequents s))
        (λ e k. subsequents_are ∙ fails (dependencies next) e k) error left ⊥ ⊥ (λ k. k) h

-- ---- a dependency in parentheses

pub parenthesized_read : (star : Option TableToken) (s : State) (opener : TableToken) (inside : State) (d : UnresolvedDependency) (after : State)
    (arguments : List ReadArgument) (rest : State)
    → expect kinds.ParenL s ≡ Ok (opener, inside) → path inside ≡ Ok (path_tree d.recipe, after) → dependency_arguments ([], after) ≡ Ok (map read_argument arguments, rest)
    → obeying (misplaced_star star (map read_argument arguments)) rest ≡ Ok (tt, rest)
    → map argument_tree d.arguments.items ≡ map (over_dependency_argument (λ x. x) (λ x. x) leaves.star) (map read_argument arguments)
    → parenthesized star s ≡ Ok (dependency_tree d, rest)
unfolding headers.parenthesized
parenthesized_read star s opener inside d after arguments rest opened named read checked kept =
    let starred = star_is star arguments d.arguments.items rest rest (kept ∙ kept_are arguments) checked in
    rw (opened, named, read, checked) (λ i. Ok (record { star = sym starred i; path = path_tree d.recipe; arguments = sym kept i }, rest))

-- its stars are not where they may be
pub stars_fail : (star : Option TableToken) (s : State) (opener : TableToken) (inside : State) (names : List Leaf) (after : State)
    (arguments : List ReadArgument) (rest : State) (error : ParseError)
    → expect kinds.ParenL s ≡ Ok (opener, inside) → path inside ≡ Ok (names, after) → dependency_arguments ([], after) ≡ Ok (map read_argument arguments, rest)
    → IsParseError error rest ⊥ (obeying (misplaced_star star (map read_argument arguments)) rest) → IsParseError error rest ⊥ (parenthesized star s)
unfolding headers.parenthesized
stars_fail star s opener inside names after arguments rest error opened named read h =
    failed (obeying (misplaced_star star (map read_argument arguments)) rest) (parenthesized star s) (λ e k. rw (opened, named, read, k) refl) error rest ⊥ ⊥ (λ k. k) h
