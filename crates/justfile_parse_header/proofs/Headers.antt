-- A header, in the steps in which it is read.
use Rattle.std.proofs.Common.{◌≡◌, ◌∙◌, ◌≤◌, ℕ, List, [], ◌++◌, length, map, take, drop, Ok, Err, refl, sym, ap, arith}
use Rattle.std.proofs.lemmas.List.{drop-map, length-append, length-map, take-map}
use Rattle.std.proofs.Math.Seq.{drop-append_seam, take-append_seam}
use Rattle.std.specs.List.{flat_map}
use Rattle.justfile_vocabulary.specs.declared.token_kind.TokenKind.TheVariants as kinds
use Rattle.justfile_recipe_header.specs.declared.unresolved_dependency.UnresolvedDependency.{UnresolvedDependency}
use Rattle.justfile_model.proofs.Lists.Prepended.{after_begin}
use Rattle.justfile_model.specs.Grammars.Features.{rules_features}
use Rattle.justfile_model.specs.Readers.HeaderReader as headers
use Rattle.justfile_model.specs.Readers.HeaderReader.{obeying}
use Rattle.justfile_model.specs.Readers.ReaderState.{Counters, prepend, with}
use Rattle.justfile_parse_expression.specs.TableReader.{Read, ReadError, State, expect, leaves}
use Rattle.justfile_parse_expression.specs.Significant.{TableToken}
use Rattle.justfile_parse_header.specs.HeaderTable as reader
use Rattle.justfile_parse_header.specs.HeaderTable.{LeafDependency, LeafParameter, LeafHeader, Rules}
use Rattle.justfile_parse_header.specs.Tree.{dependency_tree}

abbrev pub Dependencies : Type 0
Dependencies = List LeafDependency

-- where the rules of attributes are noted
abbrev pub ruled : List Rules → State → State
ruled rules s = with (flat_map rules_features rules) s

abbrev pub parts : TableToken → List LeafParameter → (priors subsequents : Dependencies) → LeafHeader
parts name ps priors others = record { name = name; parameters = ps; priors = priors; subsequents = others }

-- what is refused after others is refused
refused_after : (done : Dependencies) (found : Read Dependencies) (e : ReadError) → prepend done found ≡ Err e → found ≡ Err e
unfolding prepend
refused_after done (Ok x) e h = cc
refused_after done (Err f) e h = h

-- what is read after others
pub read_after : (done all : Dependencies) (found : Read Dependencies) (rest : State) → prepend done found ≡ Ok (all, rest)
    → (more : Dependencies) × (found ≡ Ok (more, rest)) × (done ++ more ≡ all)
unfolding prepend
read_after done all (Ok x) rest h =
    let same : ◌≡◌ {A = Dependencies × State} (done ++ x.0, x.1) (all, rest) = inside _ _ h in (
      x.0,
      ap (λ (y : Dependencies × State). Ok (x.0, y.1)) same,
      ap (λ (y : Dependencies × State). y.0) same,
    )
  where
    inside : (a b : Dependencies × State) → ◌≡◌ {A = Read Dependencies} (Ok a) (Ok b) → a ≡ b
    inside a b h = cc
read_after done all (Err e) rest h = cc

-- ---- the dependencies before `&&` and after it

module _ (before all : List UnresolvedDependency) (more : Dependencies) (is : map dependency_tree before ++ more ≡ map dependency_tree all) where
  seam : length (map dependency_tree before) ≡ length before
  seam = length-map before dependency_tree

  pub priors_are : map dependency_tree before ≡ map dependency_tree (take (length before) all)
  priors_are =
      sym (take-append_seam (map dependency_tree before) more)
      ∙ ap (λ (k : ℕ). take k (map dependency_tree before ++ more)) seam
      ∙ ap (take (length before)) is
      ∙ take-map dependency_tree (length before) all

  -- those before are no more than all
  pub priors_within : length before ≤ length all
  priors_within = omega (arith, seam, length-append (map dependency_tree before) more, ap length is, length-map all dependency_tree)

  pub subsequents_are : more ≡ map dependency_tree (drop (length before) all)
  subsequents_are =
      sym (drop-append_seam (map dependency_tree before) more)
      ∙ ap (λ (k : ℕ). drop k (map dependency_tree before ++ more)) seam
      ∙ ap (drop (length before)) is
      ∙ drop-map dependency_tree (length before) all

-- ---- one step after another

module _ (rules : List Rules) (n : Counters) (s : State) where
  pub name_fails : (e : ReadError) → expect kinds.Identifier s ≡ Err e → reader.header rules n s ≡ Err e
  unfolding headers.header
  name_fails e h = rw h refl

  module _ {name : TableToken} {s1 : State} (named : expect kinds.Identifier s ≡ Ok (name, s1)) where
    pub options_fail : (e : ReadError) → obeying (reader.same_options name.0 rules) (ruled rules s1) ≡ Err e → reader.header rules n s ≡ Err e
    unfolding headers.header headers.distinct_options leaves
    options_fail e h = rw (named, h) refl

    module _ (distinct : obeying (reader.same_options name.0 rules) (ruled rules s1) ≡ Ok (tt, ruled rules s1)) where
      pub parameters_fail : (e : ReadError) → reader.parameters rules n (ruled rules s1) ≡ Err e → reader.header rules n s ≡ Err e
      unfolding headers.header headers.distinct_options leaves
      parameters_fail e h = rw (named, distinct, h) refl

      module _ {ps : List LeafParameter} {m : Counters} {s2 : State} (taken : reader.parameters rules n (ruled rules s1) ≡ Ok ((ps, m), s2)) where
        pub undefined_fail : (e : ReadError) → obeying (reader.undefined ps rules) s2 ≡ Err e → reader.header rules n s ≡ Err e
        unfolding headers.header headers.distinct_options leaves
        undefined_fail e h = rw (named, distinct, taken, h) refl

        module _ (defined : obeying (reader.undefined ps rules) s2 ≡ Ok (tt, s2)) where
          pub priors_fail : (e : ReadError) → prepend [] (reader.dependencies s2) ≡ Err e → reader.header rules n s ≡ Err e
          unfolding headers.header headers.distinct_options leaves
          priors_fail e h = let k = sym (after_begin (reader.dependencies s2)) ∙ h in rw (named, distinct, taken, defined, k) refl

          module _ (priors : List UnresolvedDependency) {s3 : State} (before : prepend [] (reader.dependencies s2) ≡ Ok (map dependency_tree priors, s3)) where
            pub others_fail : (done : Dependencies) (e : ReadError) → prepend done (reader.subsequents s3) ≡ Err e → reader.header rules n s ≡ Err e
            unfolding headers.header headers.distinct_options leaves
            others_fail done e h =
                let k = sym (after_begin (reader.dependencies s2)) ∙ before in
                let j = refused_after done (reader.subsequents s3) e h in
                rw (named, distinct, taken, defined, k, j) refl

            -- the first `count` dependencies come before `&&`, and the others after it
            pub header_read : (all : List UnresolvedDependency) (s4 : State) → prepend (map dependency_tree priors) (reader.subsequents s3) ≡ Ok (map dependency_tree all, s4) → (count : ℕ)
                → count ≡ length priors → reader.header rules n s ≡ Ok ((parts name ps (map dependency_tree (take count all)) (map dependency_tree (drop count all)), m), s4)
            unfolding headers.header headers.distinct_options leaves
            header_read all s4 h count is =
                let k = sym (after_begin (reader.dependencies s2)) ∙ before in
                let others = read_after (map dependency_tree priors) (map dependency_tree all) (reader.subsequents s3) s4 h in
                rw (named, distinct, taken, defined, k, others.1, is)
                (ap (λ (d : Dependencies). Ok ((parts name ps d others.0, m), s4)) (priors_are priors all others.0 others.2)
                ∙ ap (λ (d : Dependencies). Ok ((parts name ps (map dependency_tree (take (length priors) all)) d, m), s4)) (subsequents_are priors all others.0 others.2))
