-- The parser of headers is natural in its tokens and leaves: for related tokens and related attributes it parses related headers and takes
-- the same numbers. If one parser has no number left, the other can continue; then the counter is exceeded in what it parses.
use Rattle.std.proofs.Common.{◌≡◌, ℕ, ◌+◌, ◌<◌, Bool, true, false, ◌||◌, List, [], ◌∷◌, ◌++◌, length, map, Option, Some, Ok, Err, IfOk, IsOk, refl, sym, ap, subst, ◌∙◌, arith}
use Rattle.justfile_vocabulary.specs.declared.token_kind.TokenKind.TheVariants as kinds
use Rattle.justfile_model.specs.declared.parameter_kind.ParameterKind.{ParameterKind}
use Rattle.justfile_model.specs.declared.parameter_kind.ParameterKind.TheVariants.{Plus, Singular, Star}
use Rattle.justfile_model.specs.Readers.HeaderReader as r
use Rattle.justfile_model.specs.Readers.HeaderReader.{ReadHeader, next_binding_number, expression, obeying, with_bindings}
use Rattle.justfile_model.specs.Readers.ReaderState as taking
use Rattle.justfile_model.specs.Readers.ReaderState.{◌>>=◌, Counters, Leaves, NoNumber, Read, State, Taken, accept, choose, expect, prepend, taken_or}
use Rattle.justfile_model.specs.Meanings.RecipeRules.{parameter_broken, rules_for, undefined_broken}
use Rattle.justfile_model.specs.Meanings.Rules.{Broken}
use Rattle.justfile_model.specs.Trees.LeafView.{LeafView}
use Rattle.justfile_model.specs.Trees.Tree.{ArgumentRules, Dependency, DependencyArgument, Expr, Parameter, over_dependency_argument}
use Rattle.justfile_model.proofs.Relations.AlikeAttributes.{AlikeArgumentRules, SeesAlike}
use Rattle.justfile_model.proofs.Relations.AlikeRecipes.{all_features_alike, misplaced_alike, option_mapped, options_alike, parameter_alike, rules_for_alike, same_names, second_alike, stars_alike, undefined_alike}
use Rattle.justfile_model.proofs.Relations.AlikeRules.{AlikeBroken}
use Rattle.justfile_model.proofs.Readers.Counters.{Draws, after_more, after_parameters, draws_still, parameters_bindings, rest_draws, singulars_draw}
use Rattle.justfile_model.proofs.Lists.EachLaws.{AlikeOption, absent, each_mapped, present, same_some}
use Rattle.justfile_model.proofs.Relations.NaturalExpressions.{Reads, expression_natural, loop_natural, value_natural}
use Rattle.justfile_model.proofs.Readers.HeaderReading.{parameter_goes, singulars_is}
use Rattle.justfile_model.proofs.Readers.ReadingSteps.{after_all, by_size, known, past}
use Rattle.justfile_model.proofs.Relations.Related as a
use Rattle.justfile_model.proofs.Relations.Related.{Alike, AlikeDependency, AlikeDependencyArgument, AlikeParameter, AlikeParameters, Each, Related, Relations, Respects, States, Takes, accepted, bind, bind_short, both, by_tests, draw, each_both, each_length, expected, neither, no_next, none_taken, pick, refused_alike, same_next, short, taken, unexpected, weaken, with_alike}
use Rattle.justfile_model.proofs.Lists.Unchanged.{expr_itself}

module _ {R T A B S D R' T' A' B' S' D' : Type 0} (rel : Relations R T A B S D R' T' A' B' S' D') where
  -- what is read after a part
  pub after_alike : {X Y : Type 0} {Q : X → Y → Type 0} {xs : List X} {ys : List Y} {found : Read R T B (List X)} {found' : Read R' T' B' (List Y)} → Each Q xs ys
      → Reads rel (Each Q) found found' → Reads rel (Each Q) (prepend xs found) (prepend ys found')
  unfolding prepend
  after_alike q h = bind rel _ _ h (λ x y k j. both (each_both q k) j)

  -- related rules are obeyed, or reported as related errors
  pub obeying_natural : {rules : List (Broken B)} {rules' : List (Broken B')} {s : State R T B} {s' : State R' T' B'} → Each (AlikeBroken rel.position) rules rules'
      → States rel s s' → Reads rel (λ x y. Unit {0}) (obeying rules s) (obeying rules' s')
  obeying_natural a.nil h = both tt h
  obeying_natural (a.cons b bs) h = neither (a.breaks b)

  -- an optional token was taken in both, or in neither
  pub mark_alike : {s : State R T B} {s' : State R' T' B'} {o : Taken R T B} {o' : Taken R' T' B'} → Takes rel o o' → States rel s s'
      → ((taken_or s o).0 ≡ (taken_or s' o').0) × States rel (taken_or s o).1 (taken_or s' o').1
  mark_alike a.none_taken h = (refl, h)
  mark_alike (a.taken t k) h = (refl, k)

  -- a choice, where what was taken is known
  pub pick_known : {X Y : Type 0} {Q : X → Y → Type 0} {Wanting : Counters → Read R' T' B' Y → Type 0} {o : Taken R T B} {o' : Taken R' T' B'} {x : Read R T B X}
      {x' : Read R' T' B' Y} (f : T × State R T B → Read R T B X) (f' : T' × State R' T' B' → Read R' T' B' Y) → Takes rel o o' → Related rel Q Wanting x x'
      → ((p : T × State R T B) (q : T' × State R' T' B') → o' ≡ Some q → States rel p.1 q.1 → Related rel Q Wanting (f p) (f' q))
      → Related rel Q Wanting (choose o x f) (choose o' x' f')
  pick_known f f' a.none_taken h k = h
  pick_known f f' (a.taken {t = t} {t' = t'} {s = s} {s' = s'} e j) h k = k (t, s) (t', s') refl j

module _ {R T A B S D R' T' A' B' S' D' : Type 0} (rel : Relations R T A B S D R' T' A' B' S' D') (one : Leaves R T A B S) (other : Leaves R' T' A' B' S') (agree : Respects rel one other) where
  pub value_alike : {s : State R T B} {s' : State R' T' B'} → States rel s s' → Reads rel (Alike rel) (expression one s) (expression other s')
  value_alike h = expression_natural rel one other agree false h

  -- ---- paths

  path_rest_natural : (s : State R T B) (s' : State R' T' B') → States rel s s' → Reads rel (Each rel.name) (r.path_rest one s) (r.path_rest other s')
  unfolding r.path_rest r.path_rest_rule
  path_rest_natural =
      loop_natural rel (λ s. s) (λ s. s) (States rel) (λ s s' h. h) (Each rel.name) (r.path_rest_rule one) (r.path_rest_rule other) (λ f g alike s s' h.
      pick rel _ _ (accepted rel one other agree kinds.ColonColon h) (both a.nil h)
      (λ c c' t k. bind rel _ _ (expected rel one other agree kinds.Identifier k) (λ n n' u j.
      after_alike rel (a.cons (agree.name n.0 n'.0 u) a.nil) (alike n.1 n'.1 j))))

  pub path_natural : {s : State R T B} {s' : State R' T' B'} → States rel s s' → Reads rel (Each rel.name) (r.path one s) (r.path other s')
  unfolding r.path
  path_natural h =
      bind rel _ _ (expected rel one other agree kinds.Identifier h) (λ n n' t k.
      after_alike rel (a.cons (agree.name n.0 n'.0 t) a.nil) (path_rest_natural n.1 n'.1 k))

  -- ---- dependencies

  -- an argument whose star is a token
  abbrev Argued : DependencyArgument A B T → DependencyArgument A' B' T' → Type 0
  Argued = AlikeDependencyArgument rel rel.token

  plain_argument_natural : {s : State R T B} {s' : State R' T' B'} → States rel s s' → Reads rel Argued (r.plain_argument one s) (r.plain_argument other s')
  unfolding r.plain_argument
  plain_argument_natural h = bind rel _ _ (value_alike h) (λ e e' v k. both (record { star = absent; value = v }) k)

  positions_alike : {ts : List T} {ts' : List T'} → Each rel.token ts ts' → Each rel.position (map one.position ts) (map other.position ts')
  positions_alike h = each_mapped one.position other.position agree.position h

  starred_argument_natural : {before : List (DependencyArgument A B T)} {before' : List (DependencyArgument A' B' T')} (t : T) (t' : T') {s : State R T B}
      {s' : State R' T' B'} → Each Argued before before' → rel.token t t' → States rel s s'
      → Reads rel Argued (r.starred_argument one before t s) (r.starred_argument other before' t' s')
  unfolding r.starred_argument
  starred_argument_natural t t' d k h =
      bind rel _ _ (obeying_natural rel (second_alike rel.position (positions_alike (each_both (stars_alike rel d) (a.cons k a.nil)))) h) (λ u u' c j.
      bind rel _ _ (value_natural rel one other agree j) (λ e e' v i. both (record { star = present k; value = v }) i))

  dependency_argument_natural : {before : List (DependencyArgument A B T)} {before' : List (DependencyArgument A' B' T')} {s : State R T B}
      {s' : State R' T' B'} → Each Argued before before' → States rel s s'
      → Reads rel Argued (r.dependency_argument one before s) (r.dependency_argument other before' s')
  unfolding r.dependency_argument
  dependency_argument_natural d h =
      pick rel _ _ (accepted rel one other agree kinds.Asterisk h) (plain_argument_natural h) (λ t t' k j. starred_argument_natural t.0 t'.0 d k j)

  -- alike arguments have been read, and the states are alike
  pub record Stand (x : r.DependencyPlace one) (x' : r.DependencyPlace other) : Type 0 where
    pub read : Each Argued x.0 x'.0
    pub state : States rel x.1 x'.1

  dependency_arguments_natural : (x : r.DependencyPlace one) (x' : r.DependencyPlace other) → Stand x x'
      → Reads rel (Each Argued) (r.dependency_arguments one x) (r.dependency_arguments other x')
  unfolding r.dependency_arguments r.dependency_arguments_rule
  dependency_arguments_natural =
      loop_natural rel (λ x. x.1) (λ x. x.1) Stand (λ x x' h. h.state) (Each Argued) (r.dependency_arguments_rule one) (r.dependency_arguments_rule other) (λ f g alike x x' h.
      pick rel _ _ (accepted rel one other agree kinds.ParenR h.state)
      (bind rel _ _ (dependency_argument_natural h.read h.state) (λ y y' q j.
      alike (x.0 ++ y.0 ∷ [], y.1) (x'.0 ++ y'.0 ∷ [], y'.1) (record { read = each_both h.read (a.cons q a.nil); state = j })))
      (λ c c' t k. both h.read k))

  kept_argument : (d : DependencyArgument A B T) (d' : DependencyArgument A' B' T') → Argued d d'
      → AlikeDependencyArgument rel rel.star (over_dependency_argument (λ x. x) (λ x. x) one.star d) (over_dependency_argument (λ x. x) (λ x. x) other.star d')
  kept_argument d d' h =
      record {
        star = option_mapped one.star other.star agree.star h.star;
        value = rw (expr_itself d.value, expr_itself d'.value) h.value;
      }

  dependency_alike : {o : Option T} {o' : Option T'} {names : List A} {names' : List A'} {ds : List (DependencyArgument A B T)}
      {ds' : List (DependencyArgument A' B' T')} → AlikeOption rel.token o o' → Each rel.name names names' → Each Argued ds ds'
      → AlikeDependency rel (r.dependency_of one o names ds) (r.dependency_of other o' names' ds')
  dependency_alike o names ds =
      record { star = option_mapped one.star other.star agree.star o; path = names; arguments = each_mapped _ _ kept_argument ds }

  parenthesized_natural : {o : Option T} {o' : Option T'} {s : State R T B} {s' : State R' T' B'} → AlikeOption rel.token o o' → States rel s s'
      → Reads rel (AlikeDependency rel) (r.parenthesized one o s) (r.parenthesized other o' s')
  unfolding r.parenthesized
  parenthesized_natural o h =
      bind rel _ _ (expected rel one other agree kinds.ParenL h) (λ c c' t k. bind rel _ _ (path_natural k) (λ p p' q j.
      bind rel _ _ (dependency_arguments_natural ([], p.1) ([], p'.1) (record { read = a.nil; state = j })) (λ ds ds' d i.
      bind rel _ _ (obeying_natural rel (misplaced_alike rel.position (option_mapped one.position other.position agree.position o) (positions_alike (stars_alike rel d))) i)
      (λ u u' _ l. both (dependency_alike o q d) l))))

  bare_dependency_natural : {s : State R T B} {s' : State R' T' B'} → States rel s s'
      → Reads rel (AlikeDependency rel) (r.bare_dependency one s) (r.bare_dependency other s')
  unfolding r.bare_dependency
  bare_dependency_natural h = bind rel _ _ (path_natural h) (λ p p' q k. both (dependency_alike absent q a.nil) k)

  dependency_natural : {s : State R T B} {s' : State R' T' B'} → States rel s s'
      → Reads rel (AlikeDependency rel) (r.dependency one s) (r.dependency other s')
  unfolding r.dependency
  dependency_natural h =
      by_tests rel _ _ (same_next rel one other agree (kinds.Identifier ∷ []) h) (bare_dependency_natural h)
      (pick rel _ _ (accepted rel one other agree kinds.Asterisk h) (parenthesized_natural absent h) (λ t t' k j. parenthesized_natural (present k) j))

  same_begins_dependency : {s : State R T B} {s' : State R' T' B'} → States rel s s' → r.begins_dependency one s ≡ r.begins_dependency other s'
  same_begins_dependency h =
      λ i. same_next rel one other agree (kinds.Identifier ∷ []) h i || same_next rel one other agree (kinds.Asterisk ∷ []) h i
      || same_next rel one other agree (kinds.ParenL ∷ []) h i

  dependencies_natural : (s : State R T B) (s' : State R' T' B') → States rel s s'
      → Reads rel (Each (AlikeDependency rel)) (r.dependencies one s) (r.dependencies other s')
  unfolding r.dependencies r.dependencies_rule
  dependencies_natural =
      loop_natural rel (λ s. s) (λ s. s) (States rel) (λ s s' h. h) (Each (AlikeDependency rel)) (r.dependencies_rule one) (r.dependencies_rule other) (λ f g alike s s' h.
      by_tests rel _ _ (same_begins_dependency h)
      (bind rel _ _ (dependency_natural h) (λ d d' q k. after_alike rel (a.cons q a.nil) (alike d.1 d'.1 k)))
      (both a.nil h))

  some_dependency_alike : {ds : List (Dependency A B S)} {ds' : List (Dependency A' B' S')} {s : State R T B} {s' : State R' T' B'}
      → Each (AlikeDependency rel) ds ds' → States rel s s'
      → Reads rel (Each (AlikeDependency rel)) (r.some_dependency one (ds, s)) (r.some_dependency other (ds', s'))
  some_dependency_alike a.nil h = refused_alike rel one other agree h
  some_dependency_alike (a.cons d ds) h = both (a.cons d ds) h

  subsequents_natural : {s : State R T B} {s' : State R' T' B'} → States rel s s'
      → Reads rel (Each (AlikeDependency rel)) (r.subsequents one s) (r.subsequents other s')
  unfolding r.subsequents
  subsequents_natural h =
      pick rel _ _ (accepted rel one other agree kinds.AmpersandAmpersand h) (both a.nil h) (λ o o' t k.
      bind rel _ _ (dependencies_natural o.1 o'.1 k) (λ x x' d j. some_dependency_alike d j))

  -- ---- parameters

  default_natural : {s : State R T B} {s' : State R' T' B'} → States rel s s'
      → Reads rel (AlikeOption (Alike rel)) (r.default_value one s) (r.default_value other s')
  unfolding r.default_value
  default_natural h =
      pick rel _ _ (accepted rel one other agree kinds.Equals h) (both absent h) (λ o o' t k.
      bind rel _ _ (value_natural rel one other agree k) (λ e e' v j. both (present v) j))

  same_begins_parameter : {s : State R T B} {s' : State R' T' B'} → States rel s s' → r.begins_parameter one s ≡ r.begins_parameter other s'
  same_begins_parameter h = λ i. same_next rel one other agree (kinds.Identifier ∷ []) h i || same_next rel one other agree (kinds.Dollar ∷ []) h i

  nothing_after_natural : {s : State R T B} {s' : State R' T' B'} → States rel s s'
      → Reads rel (λ x y. Unit {0}) (r.expect_no_name one s) (r.expect_no_name other s')
  unfolding r.expect_no_name
  nothing_after_natural h =
      pick rel _ _ (accepted rel one other agree kinds.Identifier h) (both tt h) (λ n n' t k. neither (a.after_variadic (agree.position n.0 n'.0 t)))

-- ---- numbers of parameters

module _ {R T A B S D R' T' A' B' S' D' : Type 0} (rel : Relations R T A B S D R' T' A' B' S' D') where
  more_parameters : (n : Counters) {ps : List (Parameter A B)} {ps' : List (Parameter A' B')} {p : Parameter A B} {p' : Parameter A' B'}
      → AlikeParameters rel n.bindings ps ps' → AlikeParameter rel (after_parameters n ps).bindings p p'
      → AlikeParameters rel n.bindings (ps ++ p ∷ []) (ps' ++ p' ∷ [])
  more_parameters n a.no_parameter k = a.a_parameter k a.no_parameter
  more_parameters n (a.a_parameter h hs) k = a.a_parameter h (more_parameters (with_bindings (n.bindings + 1) n) hs k)

  -- headers that are alike, where their names are tokens still, and the counters after them
  pub record AlikeRead (n : Counters) (x : ReadHeader T A B S × Counters) (x' : ReadHeader T' A' B' S' × Counters) : Type 0 where
    pub name : rel.token x.0.name x'.0.name
    pub parameters : AlikeParameters rel n.bindings x.0.parameters x'.0.parameters
    pub priors : Each (AlikeDependency rel) x.0.priors x'.0.priors
    pub subsequents : Each (AlikeDependency rel) x.0.subsequents x'.0.subsequents
    pub same : x.1 ≡ x'.1
    pub counts : x.1 ≡ after_parameters n x.0.parameters

-- where a number is wanting in a header
module _ {R' T' A' B' S' : Type 0} (other : Leaves R' T' A' B' S') (view' : R' → LeafView A' B') (rules' : List (ArgumentRules A' B')) where
  -- what is read has a higher counter
  abbrev Exceeded : Counters → Read R' T' B' (r.Parameters other view' rules') → Type 0
  Exceeded m found = IfOk found (λ y. m.bindings < y.0.1.bindings)

  -- also after others that draw their numbers
  exceeds_after : (c : Counters) (found : Read R' T' B' (r.Parameters other view' rules'))
      (f : r.ParameterPlace other view' rules' → Read R' T' B' (r.Parameters other view' rules')) → Exceeded c found
      → ((y : r.ParameterPlace other view' rules') → Draws other view' rules' y.0 (f y)) → Exceeded c (found >>= f)
  exceeds_after c (Err e) f h k = tt
  exceeds_after c (Ok y) f h k = go (f y) (k y)
    where
      go : (found : Read R' T' B' (r.Parameters other view' rules')) → Draws other view' rules' y.0 found → Exceeded c found
      go (Ok z) j = omega (arith, h, ap (λ (n : Counters). n.bindings) j.counts, parameters_bindings y.0.1 j.others)
      go (Err e) j = tt

  -- what is read has a higher counter
  abbrev HeaderExceeds : Counters → Read R' T' B' (ReadHeader T' A' B' S' × Counters) → Type 0
  HeaderExceeds m found = IfOk found (λ y. m.bindings < y.0.1.bindings)

  -- among the next parameters that take one argument, one lacks its number at these counters
  pub data LacksSingular : r.ParameterPlace other view' rules' → Counters → Type 0 where
    singular_lacks : {x : r.ParameterPlace other view' rules'} → (other.has_number x.0.1.bindings ≡ true → IsOk (r.parameter other view' rules' Singular x))
        → LacksSingular x x.0.1
    later_lacks : {x y : r.ParameterPlace other view' rules'} {m : Counters} → r.parameter other view' rules' Singular x ≡ Ok y → LacksSingular y m
        → LacksSingular x m

  -- the last parameter takes several arguments, and lacks its number
  pub data LacksLast (x : r.ParameterPlace other view' rules') : Type 0 where
    plus_lacks : {p : T' × State R' T' B'} → accept other kinds.Plus x.1 ≡ Some p
        → (other.has_number x.0.1.bindings ≡ true → IsOk (r.parameter other view' rules' Plus (x.0, p.1))) → LacksLast x
    star_lacks : {p : T' × State R' T' B'} → accept other kinds.Asterisk x.1 ≡ Some p
        → (other.has_number x.0.1.bindings ≡ true → IsOk (r.parameter other view' rules' Star (x.0, p.1))) → LacksLast x

  -- one of the parameters lacks its number
  pub data LacksParameter (n : Counters) (s : State R' T' B') : Counters → Type 0 where
    lacks_singular : {m : Counters} → LacksSingular (([], n), s) m → LacksParameter n s m
    lacks_last : {x : r.ParameterPlace other view' rules'} → r.singulars other view' rules' (([], n), s) ≡ Ok x → LacksLast x → LacksParameter n s x.0.1

  -- the number of a parameter of a header is wanting
  pub record LacksHeader (n : Counters) (s : State R' T' B') (m : Counters) : Type 0 where
    pub name : T' × State R' T' B'
    pub named : expect other kinds.Identifier s ≡ Ok name
    pub options : Unit {0} × State R' T' B'
    pub distinct : r.distinct_options other view' rules' name.0 name.1 ≡ Ok options
    pub lacks : LacksParameter n options.1 m

module _ {R T A B S D R' T' A' B' S' D' : Type 0} (rel : Relations R T A B S D R' T' A' B' S' D') (one : Leaves R T A B S) (other : Leaves R' T' A' B' S') (agree : Respects rel one other)
    (view : R → LeafView A B) (view' : R' → LeafView A' B') (sees : (run : R) (run' : R') → rel.run run run' → SeesAlike rel (view run) (view' run'))
    (rules : List (ArgumentRules A B)) (rules' : List (ArgumentRules A' B')) (ruled : Each (AlikeArgumentRules rel) rules rules') where
  -- parameters that are alike, and the counters after them
  pub record Numbered (n : Counters) (x : r.Parameters one view rules) (x' : r.Parameters other view' rules') : Type 0 where
    pub parameters : AlikeParameters rel n.bindings x.0 x'.0
    pub same : x.1 ≡ x'.1
    pub counts : x.1 ≡ after_parameters n x.0

  -- the parameters and the states after them
  pub record Places (n : Counters) (x : r.ParameterPlace one view rules) (x' : r.ParameterPlace other view' rules') : Type 0 where
    pub numbered : Numbered n x.0 x'.0
    pub state : States rel x.1 x'.1

  -- there is no number for a parameter; the other parser parses the parameter if it has one
  pub record NoParameter (c m : Counters) (found : Read R' T' B' (r.Parameters other view' rules')) : Type 0 where
    pub same : m ≡ c
    pub ends : one.has_number c.bindings ≡ false
    pub reads : other.has_number c.bindings ≡ true → IsOk found
    pub exceeds : Exceeded other view' rules' c found

  -- what lacks it, the counter that is at its end, and that all that the other reads exceeds it
  pub record Short (Lacking : Counters → Type 0) (m : Counters) (found : Read R' T' B' (r.Parameters other view' rules')) : Type 0 where
    pub lacks : Lacking m
    pub ends : one.has_number m.bindings ≡ false
    pub exceeds : Exceeded other view' rules' m found

  -- a parameter with its number
  abbrev In : (kind : ParameterKind) (export : Bool) → List (Parameter A B) → T → Option (Expr A B) → R → Counters → Parameter A B
  In kind export ps name e run c = r.parameter_of one kind export (one.parameter run name (rules_for (view run) rules ps (one.name name)) c.bindings) e

  abbrev Other : (kind : ParameterKind) (export : Bool) → List (Parameter A' B') → T' → Option (Expr A' B') → R' → Counters → Parameter A' B'
  Other kind export ps name e run c = r.parameter_of other kind export (other.parameter run name (rules_for (view' run) rules' ps (other.name name)) c.bindings) e

  with_number : (kind : ParameterKind) (export : Bool) (n c : Counters) {ps : List (Parameter A B)} {ps' : List (Parameter A' B')} (name : T) (name' : T')
      {e : Option (Expr A B)} {e' : Option (Expr A' B')} (run : R) (run' : R') → AlikeParameters rel n.bindings ps ps' → rel.token name name'
      → AlikeOption (Alike rel) e e' → rel.run run run' → AlikeParameter rel c.bindings (In kind export ps name e run c) (Other kind export ps' name' e' run' c)
  with_number kind export n c {ps} {ps'} name name' {e} {e'} run run' q t v h =
      let same_view = sees run run' h in
      let ruled_alike : AlikeOption (AlikeArgumentRules rel) (rules_for (view run) rules ps (one.name name)) (rules_for (view' run') rules' ps' (other.name name')) =
      rules_for_alike rel (view run) (view' run') same_view ruled (same_names rel (view run) (view' run') same_view q)
      (same_view.bytes (one.name name) (other.name name') (agree.name name name' t)) in
      record {
        kind = refl;
        export = refl;
        rules = rules_for (view run) rules ps (one.name name);
        others = rules_for (view' run') rules' ps' (other.name name');
        ruled = ruled_alike;
        name = agree.parameter run run' name name' h t ruled_alike c.bindings;
        default = v;
      }

  one_more : (kind : ParameterKind) (export : Bool) (n c : Counters) {ps : List (Parameter A B)} {ps' : List (Parameter A' B')} (name : T) (name' : T')
      {e : Option (Expr A B)} {e' : Option (Expr A' B')} (run : R) (run' : R') → AlikeParameters rel n.bindings ps ps'
      → c ≡ after_parameters n ps → rel.token name name' → AlikeOption (Alike rel) e e' → rel.run run run'
      → Numbered n (ps ++ In kind export ps name e run c ∷ [], with_bindings (c.bindings + 1) c)
      (ps' ++ Other kind export ps' name' e' run' c ∷ [], with_bindings (c.bindings + 1) c)
  one_more kind export n c {ps} {ps'} name name' {e} {e'} run run' q counts t v h =
      record {
        parameters = more_parameters rel n q (subst (λ (m : Counters). AlikeParameter rel m.bindings (In kind export ps name e run c)
            (Other kind export ps' name' e' run' c)) counts (with_number kind export n c name name' run run' q t v h));
        same = refl;
        counts = ap (λ (m : Counters). with_bindings (m.bindings + 1) m) counts ∙ sym (after_more n ps (In kind export ps name e run c ∷ []));
      }

  number_alike : (kind : ParameterKind) (export : Bool) (n c : Counters) {ps : List (Parameter A B)} {ps' : List (Parameter A' B')} (name : T) (name' : T')
      {e : Option (Expr A B)} {e' : Option (Expr A' B')} {s : State R T B} {s' : State R' T' B'} → AlikeParameters rel n.bindings ps ps'
      → c ≡ after_parameters n ps → rel.token name name' → AlikeOption (Alike rel) e e' → States rel s s'
      → Related rel (Numbered n) (NoParameter c) (next_binding_number one c s >>= r.numbered one view rules kind export ps name e)
      (next_binding_number other c s' >>= r.numbered other view' rules' kind export ps' name' e')
  unfolding next_binding_number
  number_alike kind export n c name name' {s = s} {s' = s'} q counts t v h =
      draw rel (one.has_number c.bindings) (other.has_number c.bindings) c _ _ _ _ (agree.has_number c.bindings)
      (both (one_more kind export n c name name' s.run s'.run q counts t v h.run) h)
      (λ is _. record { same = refl; ends = is; reads = λ _. refl; exceeds = omega arith })
      (λ is is'. record { same = refl; ends = is; reads = λ has. cc; exceeds = tt })

  number_natural : (kind : ParameterKind) (export : Bool) (n : Counters) (x : r.Parameters one view rules) (x' : r.Parameters other view' rules') (name : T) (name' : T')
      {e : Option (Expr A B)} {e' : Option (Expr A' B')} {s : State R T B} {s' : State R' T' B'} → Numbered n x x'
      → rel.token name name' → AlikeOption (Alike rel) e e' → States rel s s'
      → Related rel (Numbered n) (NoParameter x'.1) (next_binding_number one x.1 s >>= r.numbered one view rules kind export x.0 name e)
      (next_binding_number other x'.1 s' >>= r.numbered other view' rules' kind export x'.0 name' e')
  number_natural kind export n x x' name name' {e} {e'} {s} {s'} q t v h =
      subst (λ (c : Counters). Related rel (Numbered n) (NoParameter c) (next_binding_number one x.1 s >>= r.numbered one view rules kind export x.0 name e)
      (next_binding_number other c s' >>= r.numbered other view' rules' kind export x'.0 name' e')) q.same
      (number_alike kind export n x.1 name name' q.parameters q.counts t v h)

  obeyed : (kind : ParameterKind) (export : Bool) {number : ℕ} {ps : List (Parameter A B)} {ps' : List (Parameter A' B')} (name : T) (name' : T')
      {e : Option (Expr A B)} {e' : Option (Expr A' B')} (run : R) (run' : R') → AlikeParameters rel number ps ps' → rel.token name name'
      → AlikeOption (Alike rel) e e' → rel.run run run'
      → Each (AlikeBroken rel.position) (parameter_broken (view run) rules ps (r.parameter_of one kind export (one.name name) e))
      (parameter_broken (view' run') rules' ps' (r.parameter_of other kind export (other.name name') e'))
  obeyed kind export name name' {e} {e'} run run' q t v h =
      let same_view = sees run run' h in
      let named = agree.name name name' t in
      parameter_alike rel (view run) (view' run') same_view {p = r.parameter_of one kind export (one.name name) e}
      {p' = r.parameter_of other kind export (other.name name') e'} ruled (same_names rel (view run) (view' run') same_view q)
      (record {
        kind = refl;
        bytes = same_view.bytes (one.name name) (other.name name') named;
        place = same_view.name_place (one.name name) (other.name name') named;
        default = same_some v;
      })

  named_parameter_natural : (kind : ParameterKind) (export : Bool) (n : Counters) (x : r.Parameters one view rules) (x' : r.Parameters other view' rules')
      {s : State R T B} {s' : State R' T' B'} → Numbered n x x' → States rel s s'
      → Related rel (Numbered n) (NoParameter x'.1) (r.named_parameter one view rules kind export x s) (r.named_parameter other view' rules' kind export x' s')
  unfolding r.named_parameter
  named_parameter_natural kind export n x x' q h =
      bind rel _ _ (expected rel one other agree kinds.Identifier h) (λ name name' t k. bind rel _ _ (default_natural rel one other agree k) (λ e e' v j.
      bind rel _ _ (obeying_natural rel (obeyed kind export name.0 name'.0 e.1.run e'.1.run q.parameters t v j.run) j) (λ u u' c i.
      number_natural kind export n x x' name.0 name'.0 q t v i)))

  parameter_natural : (kind : ParameterKind) (n : Counters) (x : r.ParameterPlace one view rules) (x' : r.ParameterPlace other view' rules') → Places n x x'
      → Related rel (Numbered n) (NoParameter x'.0.1) (r.parameter one view rules kind x) (r.parameter other view' rules' kind x')
  unfolding r.parameter taking.accepted
  parameter_natural kind n x x' h =
      let dollar = mark_alike rel (accepted rel one other agree kinds.Dollar h.state) h.state in
      let first = taken_or x.1 (accept one kinds.Dollar x.1) in
      let second = taken_or x'.1 (accept other kinds.Dollar x'.1) in
      subst (λ (b : Bool). Related rel (Numbered n) (NoParameter x'.0.1) (r.named_parameter one view rules kind first.0 x.0 first.1)
      (r.named_parameter other view' rules' kind b x'.0 second.1)) dollar.0 (named_parameter_natural kind first.0 n x.0 x'.0 h.numbered dollar.1)

  -- ---- parameters that take one argument

  singular_short : (x' : r.ParameterPlace other view' rules') (m : Counters) → NoParameter x'.0.1 m (r.parameter other view' rules' Singular x')
      → Short (LacksSingular other view' rules' x') m (r.parameter other view' rules' Singular x' >>= r.singulars other view' rules')
  singular_short x' m w =
      subst (λ (c : Counters). Short (LacksSingular other view' rules' x') c (r.parameter other view' rules' Singular x' >>= r.singulars other view' rules')) (sym w.same)
      (record {
        lacks = singular_lacks w.reads;
        ends = w.ends;
        exceeds = exceeds_after other view' rules' x'.0.1 (r.parameter other view' rules' Singular x') (r.singulars other view' rules') w.exceeds (singulars_draw other view' rules');
      })

  singulars_natural : (n : Counters) (x : r.ParameterPlace one view rules) (x' : r.ParameterPlace other view' rules') → Places n x x'
      → Related rel (Numbered n) (Short (LacksSingular other view' rules' x')) (r.singulars one view rules x) (r.singulars other view' rules' x')
  unfolding r.singulars_rule
  singulars_natural n =
      by_size (λ (x : r.ParameterPlace one view rules). length x.1.left) (λ x. (x' : r.ParameterPlace other view' rules') → Places n x x'
      → Related rel (Numbered n) (Short (LacksSingular other view' rules' x')) (r.singulars one view rules x) (r.singulars other view' rules' x')) (λ x all x' h.
      rw (singulars_is one view rules x, singulars_is other view' rules' x')
      (by_tests rel _ _ (same_begins_parameter rel one other agree h.state)
      (bind_short rel _ _ (parameter_natural Singular n x x' h) (singular_short x') (λ p p' is is' q k.
      weaken rel (λ y y' j. j) (λ m w. record { lacks = later_lacks is' w.lacks; ends = w.ends; exceeds = w.exceeds })
      (all p (past x.1 _ p (parameter_goes one view rules Singular x) is).0 p' (record { numbered = q; state = k }))))
      (both h.numbered h.state)))

  -- ---- the last parameter

  variadic_natural : (kind : ParameterKind) (n : Counters) (x : r.ParameterPlace one view rules) (x' : r.ParameterPlace other view' rules') → Places n x x'
      → Related rel (Numbered n) (Short (λ m. (m ≡ x'.0.1) × (other.has_number x'.0.1.bindings ≡ true → IsOk (r.parameter other view' rules' kind x'))))
      (r.variadic one view rules kind x) (r.variadic other view' rules' kind x')
  unfolding r.variadic
  variadic_natural kind n x x' h =
      bind_short rel _ _ (parameter_natural kind n x x' h)
      (λ m w. record {
        lacks = (w.same, w.reads);
        ends = subst (λ (c : Counters). one.has_number c.bindings ≡ false) (sym w.same) w.ends;
        exceeds = exceeds_after other view' rules' m (r.parameter other view' rules' kind x') _ (subst (λ (c : Counters). Exceeded other view' rules' c (r.parameter other view' rules' kind x')) (sym w.same) w.exceeds)
            (λ p. draws_still other view' rules' p (r.expect_no_name other p.1));
      })
      (λ p p' is is' q k. bind rel _ _ (nothing_after_natural rel one other agree k) (λ u u' c j. both q j))

  last_natural : (n : Counters) (x : r.ParameterPlace one view rules) (x' : r.ParameterPlace other view' rules') → Places n x x'
      → Related rel (Numbered n) (Short (λ m. (m ≡ x'.0.1) × LacksLast other view' rules' x')) (r.last_parameter one view rules x) (r.last_parameter other view' rules' x')
  unfolding r.last_parameter
  last_natural n x x' h =
      pick_known rel _ _ (accepted rel one other agree kinds.Plus h.state)
      (pick_known rel _ _ (accepted rel one other agree kinds.Asterisk h.state) (both h.numbered h.state) (λ p p' is k.
      weaken rel (λ y y' j. j) (λ m w. record { lacks = (w.lacks.0, star_lacks is w.lacks.1); ends = w.ends; exceeds = w.exceeds })
      (variadic_natural Star n (x.0, p.1) (x'.0, p'.1) (record { numbered = h.numbered; state = k }))))
      (λ p p' is k.
      weaken rel (λ y y' j. j) (λ m w. record { lacks = (w.lacks.0, plus_lacks is w.lacks.1); ends = w.ends; exceeds = w.exceeds })
      (variadic_natural Plus n (x.0, p.1) (x'.0, p'.1) (record { numbered = h.numbered; state = k })))

  -- ---- all parameters

  parameters_natural : (n : Counters) {s : State R T B} {s' : State R' T' B'} → States rel s s'
      → Related rel (Numbered n) (Short (LacksParameter other view' rules' n s')) (r.parameters one view rules n s) (r.parameters other view' rules' n s')
  unfolding r.parameters
  parameters_natural n {s} {s'} h =
      bind_short rel _ _ (singulars_natural n (([], n), s) (([], n), s') (record { numbered = record { parameters = a.no_parameter; same = refl; counts = refl }; state = h }))
      (λ m w. record {
        lacks = lacks_singular w.lacks;
        ends = w.ends;
        exceeds = exceeds_after other view' rules' m (r.singulars other view' rules' (([], n), s')) _ w.exceeds (rest_draws other view' rules');
      })
      (λ ps ps' is is' q k. bind_short rel _ _ (last_natural n ps ps' (record { numbered = q; state = k }))
      (λ m w. record {
        lacks = subst (λ (c : Counters). LacksParameter other view' rules' n s' c) (sym w.lacks.0) (lacks_last is' w.lacks.1);
        ends = w.ends;
        exceeds = exceeds_after other view' rules' m (r.last_parameter other view' rules' ps') _ w.exceeds (λ all. draws_still other view' rules' all (expect other kinds.Colon all.1));
      })
      (λ all all' is2 is3 q2 j. bind rel _ _ (expected rel one other agree kinds.Colon j) (λ c c' t i. both q2 i)))

  -- ---- headers

  -- the number of a parameter is wanting, and what the other reads exceeds the counter
  pub record NoHeader (n : Counters) (s : State R' T' B') (m : Counters) (found : Read R' T' B' (ReadHeader T' A' B' S' × Counters)) : Type 0 where
    pub lacks : LacksHeader other view' rules' n s m
    pub ends : one.has_number m.bindings ≡ false
    pub exceeds : HeaderExceeds other view' rules' m found

  distinct_natural : (name : T) (name' : T') → rel.token name name' → {s : State R T B} {s' : State R' T' B'} → States rel s s'
      → Reads rel (λ x y. Unit {0}) (r.distinct_options one view rules name s) (r.distinct_options other view' rules' name' s')
  unfolding r.distinct_options
  distinct_natural name name' t {s} {s'} h =
      obeying_natural rel (options_alike rel (view s.run) (view' s'.run) (sees s.run s'.run h.run) (agree.position name name' t) ruled)
      (with_alike rel (all_features_alike rel ruled) h)

  abbrev Rest : (name : T') → r.ParameterPlace other view' rules' → Read R' T' B' (ReadHeader T' A' B' S' × Counters)
  Rest name ps =
      obeying (undefined_broken (view' ps.1.run) ps.0.0 rules') ps.1 >>= λ checked. r.dependencies other checked.1 >>= λ priors.
      r.subsequents other priors.1 >>= λ others. Ok ((r.header_of other view' rules' name ps.0.0 priors.0 others.0, ps.0.1), others.1)

  -- what follows the parameters draws no number
  rest_exceeds : (m : Counters) (name : T') (found : Read R' T' B' (r.Parameters other view' rules')) → Exceeded other view' rules' m found
      → HeaderExceeds other view' rules' m (found >>= Rest name)
  rest_exceeds m name found h =
      let Q : ReadHeader T' A' B' S' × Counters → Type 0 = λ y. m.bindings < y.1.bindings in
      after_all found _ Q (λ ps is. after_all (obeying (undefined_broken (view' ps.1.run) ps.0.0 rules') ps.1) _ Q (λ checked _.
      after_all (r.dependencies other checked.1) _ Q (λ priors _. after_all (r.subsequents other priors.1) _ Q (λ others _.
      known ps (λ y. m.bindings < y.0.1.bindings) is h))))

  -- the law
  pub header_natural : (n : Counters) {s : State R T B} {s' : State R' T' B'} → States rel s s'
      → Related rel (AlikeRead rel n) (NoHeader n s') (r.header one view rules n s) (r.header other view' rules' n s')
  unfolding r.header
  header_natural n {s} {s'} h =
      bind_short rel _ _ (expected rel one other agree kinds.Identifier h) (λ m never. absurd never) (λ name name' named named' t k.
      bind_short rel _ _ (distinct_natural name.0 name'.0 t k) (λ m never. absurd never) (λ options options' chosen chosen' u j.
      bind_short rel _ _ (parameters_natural n j)
      (λ m w. record {
        lacks = record { name = name'; named = named'; options = options'; distinct = chosen'; lacks = w.lacks };
        ends = w.ends;
        exceeds = rest_exceeds m name'.0 (r.parameters other view' rules' n options'.1) w.exceeds;
      })
      (λ ps ps' is is' q i. let same_view = sees ps.1.run ps'.1.run i.run in
      bind rel _ _ (obeying_natural rel (undefined_alike rel (view ps.1.run) (view' ps'.1.run) same_view (same_names rel (view ps.1.run) (view' ps'.1.run) same_view q.parameters) ruled) i)
      (λ c c' v l. bind rel _ _ (dependencies_natural rel one other agree c.1 c'.1 l) (λ ds ds' d o.
      bind rel _ _ (subsequents_natural rel one other agree o) (λ ss ss' e g.
      both (record { name = t; parameters = q.parameters; priors = d; subsequents = e; same = q.same; counts = q.counts }) g))))))
