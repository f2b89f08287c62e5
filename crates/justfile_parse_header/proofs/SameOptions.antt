-- The options of a recipe, checked from the first attribute to the last.
use Rattle.std.proofs.Common.{◌≡◌, ◌∙◌, ℕ, Bool, true, false, List, [], ◌∷◌, ◌++◌, map, nat_eq, Option, Some, None, Ok, refl, sym, ap, subst}
use Rattle.std.specs.List.{cons_option, list_any}
use Rattle.std.specs.Str.{bytes_eq}
use Rattle.justfile_attribute.specs.Attribute.{leaf_attribute_of}
use Rattle.justfile_attribute.specs.declared.attribute.Attribute.{Attribute}
use Rattle.justfile_attribute_set.specs.Keys.{firsts}
use Rattle.justfile_attribute_set.specs.Pairs.{Pair, leaf_entry_of}
use Rattle.justfile_attribute_rules.specs.Made.{IsFaultOfRule}
use Rattle.justfile_token.specs.declared.fault.Fault.{Fault}
use Rattle.justfile_token.specs.declared.token.Token.{Token}
use Rattle.justfile_model.specs.Meanings.AttributeRules.{arg_rules, rules_in}
use Rattle.justfile_model.specs.Readers.HeaderReader.{obeying}
use Rattle.justfile_model.specs.Readers.ReaderState.{◌>>=◌}
use Rattle.justfile_model.specs.Meanings.RecipeRules.{and_named, long_option, options_after, options_broken, repeated_broken, short_option}
use Rattle.justfile_model.specs.Meanings.Rules.{Broken, DuplicateLongOption, DuplicateShortOption, Rule, broken_if}
use Rattle.justfile_parse_base.specs.ParseErrors.{IsParseError, IsErrorOfFault}
use Rattle.justfile_parse_base.specs.TextSets.{HaveSame}
use Rattle.justfile_parse_base.specs.declared.parse_error.ParseError.{ParseError}
use Rattle.justfile_parse_base.proofs.RuleSteps.{fails_for}
use Rattle.justfile_parse_base.proofs.TextSetLemmas.{same_more, same_texts}
use Rattle.justfile_parse_expression.specs.TableReader.{Read, State}
use Rattle.justfile_parse_expression.proofs.Rules.{bind_alike}
use Rattle.justfile_parse_header.specs.HeaderTable.{Rules}
use Rattle.justfile_parse_header.specs.OptionRules.{long_step, option_step, short_step}
use Rattle.justfile_parse_header.specs.Options.{LeafAttribute, long_in, of_rules, short_in}
use Rattle.justfile_parse_base.proofs.HeaderErrors.{first_errs}
use Rattle.justfile_parse_header.proofs.ArgAttributes.{rules_left, rules_kept}
use Rattle.justfile_expression.specs.LeafViews.{views_leaves}

-- ---- an option after others

module _ {X : Type 0} (same : X → X → Bool) (rule : X → Rule Token) where
  -- an option that is among those before it, or not
  abbrev step_by : (among : Bool) (before : List X) → X × Token → State → Read (List X)
  step_by among before option s = obeying (broken_if among (rule option.0) option.1) s >>= λ new. Ok (before ++ option.0 ∷ [], new.1)

  -- an option, and what is checked after it
  option_first : (before : List X) (option : Option (X × Token)) (later : List X → List (Broken Token)) (s : State)
      → obeying (repeated_broken same rule before option ++ later (and_named before option)) s ≡ (option_step same rule before option s >>= λ x. obeying (later x.0) x.1)
  option_first before None later s = refl
  option_first before (Some option) later s = go (list_any (same option.0) before)
    where
      go : (b : Bool) → obeying (broken_if b (rule option.0) option.1 ++ later (before ++ option.0 ∷ [])) s ≡ (step_by b before option s >>= λ x. obeying (later x.0) x.1)
      go true = refl
      go false = refl

  module _ (before : List X) (found : Option (X × Token)) (s : State) where
    step_none : None ≡ found → option_step same rule before found s ≡ Ok (before, s)
    step_none is = ap (λ (o : Option (X × Token)). option_step same rule before o s) (sym is)

    module _ (option : X) (place : Token) (is : Some (option, place) ≡ found) where
      step_is : (b : Bool) → list_any (same option) before ≡ b → option_step same rule before found s ≡ step_by b before (option, place) s
      step_is b among = ap (λ (o : Option (X × Token)). option_step same rule before o s) (sym is) ∙ ap (λ (b : Bool). step_by b before (option, place) s) among

      step_apart : list_any (same option) before ≡ false → option_step same rule before found s ≡ Ok (before ++ option ∷ [], s)
      step_apart = step_is false

      step_same : list_any (same option) before ≡ true → (fault : Fault) (error : ParseError) → IsErrorOfFault error fault → IsFaultOfRule (rule option) place fault
          → IsParseError error s ⊥ (option_step same rule before found s)
      step_same among fault error h refused =
          subst (λ (f : Read (List X)). IsParseError error s ⊥ f) (sym (step_is true among)) (fails_for (List X × State) (rule option) place fault error s h refused)

-- ---- the options of attributes

module _ (recipe : Token) where
  abbrev long_rule : List ℕ → Rule Token
  long_rule option = DuplicateLongOption option recipe

  abbrev short_rule : ℕ → Rule Token
  short_rule option = DuplicateShortOption option recipe

  -- checks the options of attributes with these rules after those with these names
  abbrev check_from : (longs : List (List ℕ)) (shorts : List ℕ) → List Rules → State → Read (Unit {0})
  check_from longs shorts rules s = obeying (options_after views_leaves recipe longs shorts rules) s

  -- the options of an attribute, and those after them
  abbrev both_steps : (longs : List (List ℕ)) (shorts : List ℕ) → (long : Option (List ℕ × Token)) (short : Option (ℕ × Token)) → List Rules → State → Read (Unit {0})
  both_steps longs shorts long short others s =
      option_step bytes_eq long_rule longs long s >>= λ x. (option_step nat_eq short_rule shorts short x.1 >>= λ y. check_from x.0 y.0 others y.1)

  -- what the short option of an attribute breaks, and then the attributes after it
  abbrev later : (shorts : List ℕ) → Rules → List Rules → (longs : List (List ℕ)) → List (Broken Token)
  later shorts r others longs =
      repeated_broken nat_eq short_rule shorts (short_option views_leaves r) ++ options_after views_leaves recipe longs (and_named shorts (short_option views_leaves r)) others

  attribute_first : (longs : List (List ℕ)) (shorts : List ℕ) (o : Option Rules) (others : List Rules) (s : State)
      → check_from longs shorts (cons_option o others) s
      ≡ both_steps longs shorts (of_rules None (λ r. long_option views_leaves r) o) (of_rules None (λ r. short_option views_leaves r) o) others s
  attribute_first longs shorts None others s = refl
  attribute_first longs shorts (Some r) others s =
      option_first bytes_eq long_rule longs (long_option views_leaves r) (later shorts r others) s
      ∙ bind_alike (option_step bytes_eq long_rule longs (long_option views_leaves r) s) _ _
      (λ x. option_first nat_eq short_rule shorts (short_option views_leaves r) (λ names. options_after views_leaves recipe x.0 names others) x.1)

  -- Only which long options are before counts.
  abbrev CountSame : List Rules → Type 0
  CountSame rules = (xs ys : List (List ℕ)) (shorts : List ℕ) → HaveSame xs ys → options_after views_leaves recipe xs shorts rules ≡ options_after views_leaves recipe ys shorts rules

  module _ (r : Rules) (rules : List Rules) (others_same : CountSame rules) (shorts : List ℕ) where
    later_same : (xs ys : List (List ℕ)) → HaveSame xs ys → later shorts r rules xs ≡ later shorts r rules ys
    later_same xs ys h =
        ap (λ (l : List (Broken Token)). repeated_broken nat_eq short_rule shorts (short_option views_leaves r) ++ l) (others_same xs ys (and_named shorts (short_option views_leaves r)) h)

    first_same : (xs ys : List (List ℕ)) → HaveSame xs ys → (long : Option (List ℕ × Token))
        → (repeated_broken bytes_eq long_rule xs long ++ later shorts r rules (and_named xs long)) ≡ (repeated_broken bytes_eq long_rule ys long ++ later shorts r rules (and_named ys long))
    first_same xs ys h None = later_same xs ys h
    first_same xs ys h (Some o) =
        ap (λ (b : Bool). broken_if b (long_rule o.0) o.1 ++ later shorts r rules (xs ++ o.0 ∷ [])) (h o.0)
        ∙ ap (λ (l : List (Broken Token)). broken_if (list_any (bytes_eq o.0) ys) (long_rule o.0) o.1 ++ l) (later_same (xs ++ o.0 ∷ []) (ys ++ o.0 ∷ []) (same_more xs ys o.0 h))

  after_same : (rules : List Rules) → CountSame rules
  after_same [] xs ys shorts h = refl
  after_same (r ∷ rules) xs ys shorts h = first_same r rules (after_same rules) shorts xs ys h (long_option views_leaves r)

-- ---- the loop

module _ (recipe : Token) (all : List Rules) where
  -- the options of these attributes break, after those before them, what all break
  abbrev pub Ahead : (longs : List (List ℕ)) (shorts : List ℕ) → List Attribute → Type 0
  Ahead longs shorts left = (s : State) → check_from recipe longs shorts (rules_left left) s ≡ obeying (options_broken views_leaves recipe all) s

  pub begin : (ps : List Pair) (left : List Attribute) → all ≡ arg_rules (map leaf_entry_of ps) → left ≡ firsts ps → Ahead [] [] left
  begin ps left are e s = ap (λ (l : List Rules). check_from recipe [] [] l s) (rules_kept ps left e ∙ sym are)

  module _ (longs : List (List ℕ)) (shorts : List ℕ) (left : List Attribute) (so_far : Ahead longs shorts left) where
    module _ (a : Attribute) (rest : List Attribute) (is : left ≡ a ∷ rest) where
      abbrev after_long : List (List ℕ) × State → Read (Unit {0})
      after_long x = short_step recipe shorts (leaf_attribute_of a) x.1 >>= λ y. check_from recipe x.0 y.0 (rules_left rest) y.1

      goes_first : (s : State) → (long_step recipe longs (leaf_attribute_of a) s >>= after_long) ≡ obeying (options_broken views_leaves recipe all) s
      unfolding long_step short_step
      goes_first s =
          sym (attribute_first recipe longs shorts (rules_in (leaf_attribute_of a)) (rules_left rest) s)
          ∙ sym (ap (λ (l : List Attribute). check_from recipe longs shorts (rules_left l) s) is)
          ∙ so_far s

      pub long_fails : (error : ParseError) (s : State) → IsParseError error s ⊥ (long_step recipe longs (leaf_attribute_of a) s)
          → IsParseError error s ⊥ (obeying (options_broken views_leaves recipe all) s)
      long_fails error s h =
          subst (λ (f : Read (Unit {0})). IsParseError error s ⊥ f) (goes_first s) (first_errs (long_step recipe longs (leaf_attribute_of a) s) after_long error s ⊥ h)

      module _ (more_longs : List (List ℕ)) (long : (s : State) → long_step recipe longs (leaf_attribute_of a) s ≡ Ok (more_longs, s)) where
        short_first : (s : State) → after_long (more_longs, s) ≡ obeying (options_broken views_leaves recipe all) s
        short_first s = sym (ap (λ (f : Read (List (List ℕ))). f >>= after_long) (long s)) ∙ goes_first s

        pub short_fails : (error : ParseError) (s : State) → IsParseError error s ⊥ (short_step recipe shorts (leaf_attribute_of a) s)
            → IsParseError error s ⊥ (obeying (options_broken views_leaves recipe all) s)
        short_fails error s h =
            subst (λ (f : Read (Unit {0})). IsParseError error s ⊥ f) (short_first s)
            (first_errs (short_step recipe shorts (leaf_attribute_of a) s) (λ y. check_from recipe more_longs y.0 (rules_left rest) y.1) error s ⊥ h)

        pub goes_on : (same_longs : List (List ℕ)) → HaveSame more_longs same_longs → (more_shorts : List ℕ)
            → ((s : State) → short_step recipe shorts (leaf_attribute_of a) s ≡ Ok (more_shorts, s)) → Ahead same_longs more_shorts rest
        goes_on same_longs h more_shorts short s =
            sym (ap (λ (l : List (Broken Token)). obeying l s) (after_same recipe (rules_left rest) more_longs same_longs more_shorts h))
            ∙ sym (ap (λ (f : Read (List ℕ)). f >>= λ y. check_from recipe more_longs y.0 (rules_left rest) y.1) (short s))
            ∙ short_first s

-- ---- the steps

module _ (recipe : Token) (before : List (List ℕ)) (a : LeafAttribute) (s : State) where
  pub long_none : None ≡ long_in a → long_step recipe before a s ≡ Ok (before, s)
  unfolding long_step
  long_none = step_none bytes_eq (λ option. DuplicateLongOption option recipe) before (long_in a) s

  module _ (option : List ℕ) (place : Token) (is : Some (option, place) ≡ long_in a) where
    pub long_apart : list_any (bytes_eq option) before ≡ false → long_step recipe before a s ≡ Ok (before ++ option ∷ [], s)
    unfolding long_step
    long_apart = step_apart bytes_eq (λ option. DuplicateLongOption option recipe) before (long_in a) s option place is

    pub long_same : list_any (bytes_eq option) before ≡ true → (fault : Fault) (error : ParseError) → IsErrorOfFault error fault
        → IsFaultOfRule (DuplicateLongOption option recipe) place fault → IsParseError error s ⊥ (long_step recipe before a s)
    unfolding long_step
    long_same = step_same bytes_eq (λ option. DuplicateLongOption option recipe) before (long_in a) s option place is

    pub long_added : list_any (bytes_eq option) before ≡ false → long_step recipe before a s ≡ Ok (and_named before (long_in a), s)
    long_added among = long_apart among ∙ ap (λ (o : Option (List ℕ × Token)). Ok (and_named before o, s)) is

  pub long_kept : None ≡ long_in a → long_step recipe before a s ≡ Ok (and_named before (long_in a), s)
  long_kept is = long_none is ∙ ap (λ (o : Option (List ℕ × Token)). Ok (and_named before o, s)) is

module _ (before : List (List ℕ)) (found : Option (List ℕ × Token)) where
  pub then_none : None ≡ found → HaveSame (and_named before found) before
  then_none is = subst (λ (o : Option (List ℕ × Token)). HaveSame (and_named before o) before) is (same_texts before)

  pub then_some : (option : List ℕ) (place : Token) (new : List (List ℕ)) → Some (option, place) ≡ found → HaveSame (before ++ option ∷ []) new → HaveSame (and_named before found) new
  then_some option place new is h = subst (λ (o : Option (List ℕ × Token)). HaveSame (and_named before o) new) is h

module _ (recipe : Token) (before : List ℕ) (a : LeafAttribute) (s : State) where
  pub short_none : None ≡ short_in a → short_step recipe before a s ≡ Ok (before, s)
  unfolding short_step
  short_none = step_none nat_eq (λ option. DuplicateShortOption option recipe) before (short_in a) s

  module _ (option : ℕ) (place : Token) (is : Some (option, place) ≡ short_in a) where
    pub short_apart : list_any (nat_eq option) before ≡ false → short_step recipe before a s ≡ Ok (before ++ option ∷ [], s)
    unfolding short_step
    short_apart = step_apart nat_eq (λ option. DuplicateShortOption option recipe) before (short_in a) s option place is

    pub short_same : list_any (nat_eq option) before ≡ true → (fault : Fault) (error : ParseError) → IsErrorOfFault error fault
        → IsFaultOfRule (DuplicateShortOption option recipe) place fault → IsParseError error s ⊥ (short_step recipe before a s)
    unfolding short_step
    short_same = step_same nat_eq (λ option. DuplicateShortOption option recipe) before (short_in a) s option place is
