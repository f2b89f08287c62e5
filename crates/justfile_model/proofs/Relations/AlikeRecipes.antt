-- Related recipes break related rules: what related attributes set for related parameters breaks the same rules and notes the same
-- features.
use Rattle.std.proofs.Common.{◌≡◌, ℕ, Bool, true, false, ◌&&◌, ◌||◌, not, cond, List, [], ◌∷◌, ◌++◌, Option, Some, None, is_some, refl, ap, subst}
use Rattle.std.specs.List.{flat_map, list_any}
use Rattle.std.specs.Option.{option_map}
use Rattle.std.specs.Prelude.{nat_eq}
use Rattle.std.specs.Str.{bytes_eq, chars}
use Rattle.justfile_vocabulary.specs.declared.attribute_kind.AttributeKind.{AttributeKind}
use Rattle.justfile_vocabulary.specs.declared.attribute_kind.AttributeKind.TheVariants as kinds
use Rattle.justfile_vocabulary.specs.declared.list_feature.ListFeature.{ListFeature}
use Rattle.justfile_vocabulary.specs.declared.list_feature.ListFeature.TheVariants as features
use Rattle.justfile_model.specs.Meanings.AttributeKinds.{same_attribute}
use Rattle.justfile_model.specs.Trees.ContentKeys.{has_attribute}
use Rattle.justfile_model.specs.Grammars.Features.{bound_place, noted_at, rules_features}
use Rattle.justfile_model.specs.Meanings.Meaning.{first_of}
use Rattle.justfile_model.specs.Meanings.RecipeRules.{Placed, and_named, bound_key, exclusions_broken, first_character, if_named, is_parameter, is_variadic, long_option, misplaced_broken, option_of, options_after, options_broken, or_else, parameter_broken, repeated_broken, ruled_broken, rules_for, second_broken, short_option, stars, undefined_broken, with_text}
use Rattle.justfile_model.specs.Meanings.Rules.{Rule, broken_if}
use Rattle.justfile_model.specs.Trees.LeafView.{LeafView}
use Rattle.justfile_model.specs.Trees.Tree.{ArgumentRules, Bound, DependencyArgument, Entry, OptionName, Parameter, Quoted}
use Rattle.justfile_model.proofs.Relations.AlikeAttributes.{AlikeArgumentRules, AlikeBound, AlikeEntry, AlikeOptionName, AlikeQuoted, SeesAlike, no_option, option_named, own_name, same_kind}
use Rattle.justfile_model.proofs.Relations.AlikeRules as broken
use Rattle.justfile_model.proofs.Relations.AlikeRules.{AlikeBroken, AlikeRule}
use Rattle.justfile_model.proofs.Lists.EachLaws.{AlikeOption, absent, each_given, found_alike, kept_alike, least_alike, listed_alike, present, same_some}
use Rattle.justfile_model.proofs.Relations.NewAttributesAlike.{quoted_place, same_text_of}
use Rattle.justfile_model.proofs.Relations.Related as a
use Rattle.justfile_model.proofs.Relations.Related.{AlikeDependencyArgument, AlikeNoted, AlikeParameters, Each, Relations, each_both}

-- ---- lists and options

same_any : {X Y : Type 0} {Rel : X → Y → Type 0} (p : X → Bool) (q : Y → Bool) → ((x : X) (y : Y) → Rel x y → p x ≡ q y) → {xs : List X} {ys : List Y} → Each Rel xs ys
    → list_any p xs ≡ list_any q ys
same_any p q same a.nil = refl
same_any p q same (a.cons {x = x} {y = y} h hs) = λ i. same x y h i || same_any p q same hs i

pub each_flat : {X Y Z W : Type 0} {Rel : X → Y → Type 0} {Rel' : Z → W → Type 0} (f : X → List Z) (g : Y → List W)
    → ((x : X) (y : Y) → Rel x y → Each Rel' (f x) (g y)) → {xs : List X} {ys : List Y} → Each Rel xs ys → Each Rel' (flat_map f xs) (flat_map g ys)
each_flat f g k a.nil = a.nil
each_flat f g k (a.cons {x = x} {y = y} h hs) = each_both (k x y h) (each_flat f g k hs)

pub option_mapped : {X Y Z W : Type 0} {Rel : X → Y → Type 0} {Rel' : Z → W → Type 0} (f : X → Z) (g : Y → W) → ((x : X) (y : Y) → Rel x y → Rel' (f x) (g y))
    → {o : Option X} {o' : Option Y} → AlikeOption Rel o o' → AlikeOption Rel' (option_map f o) (option_map g o')
option_mapped f g k absent = absent
option_mapped f g k (present {x = x} {y = y} h) = present (k x y h)

else_alike : {X Y : Type 0} {Rel : X → Y → Type 0} {o p : Option X} {o' p' : Option Y} → AlikeOption Rel o o' → AlikeOption Rel p p'
    → AlikeOption Rel (or_else o p) (or_else o' p')
else_alike absent k = k
else_alike (present h) k = present h

pub unless_alike : {X Y : Type 0} {Rel : X → Y → Type 0} (b b' : Bool) {o : Option X} {o' : Option Y} → b ≡ b' → AlikeOption Rel o o'
    → AlikeOption Rel (cond b None o) (cond b' None o')
unless_alike true true e h = absent
unless_alike false false e h = h
unless_alike _ _ e h = cc

-- ---- rules of places

module _ {B B' : Type 0} (Position : B → B' → Type 0) where
  pub broken_if_alike : (b b' : Bool) {r : Rule B} {r' : Rule B'} {t : B} {t' : B'} → b ≡ b' → AlikeRule Position r r' → Position t t'
      → Each (AlikeBroken Position) (broken_if b r t) (broken_if b' r' t')
  broken_if_alike true true e h k = a.cons (record { rule = h; token = k }) a.nil
  broken_if_alike false false e h k = a.nil
  broken_if_alike _ _ e h k = cc

  pub second_alike : {bs : List B} {bs' : List B'} → Each Position bs bs' → Each (AlikeBroken Position) (second_broken bs) (second_broken bs')
  second_alike a.nil = a.nil
  second_alike (a.cons h a.nil) = a.nil
  second_alike (a.cons h (a.cons k ks)) = a.cons (record { rule = broken.several_stars; token = k }) a.nil

  pub misplaced_alike : {o : Option B} {o' : Option B'} {bs : List B} {bs' : List B'} → AlikeOption Position o o' → Each Position bs bs'
      → Each (AlikeBroken Position) (misplaced_broken o bs) (misplaced_broken o' bs')
  misplaced_alike absent a.nil = a.nil
  misplaced_alike absent (a.cons h hs) = a.cons (record { rule = broken.star_outside; token = h }) a.nil
  misplaced_alike (present h) a.nil = a.cons (record { rule = broken.no_star; token = h }) a.nil
  misplaced_alike (present h) (a.cons k ks) = a.nil

  -- the same thing in related places
  abbrev SamePlaced : {X : Type 0} → Placed X B → Placed X B' → Type 0
  SamePlaced p p' = (p.0 ≡ p'.0) × Position p.1 p'.1

  module _ {X : Type 0} {before before' : List X} (e : before ≡ before') where
    repeated_alike : (same : X → X → Bool) (rule : X → Rule B) (rule' : X → Rule B') → ((x y : X) → x ≡ y → AlikeRule Position (rule x) (rule' y))
        → {o : Option (Placed X B)} {o' : Option (Placed X B')} → AlikeOption SamePlaced o o'
        → Each (AlikeBroken Position) (repeated_broken same rule before o) (repeated_broken same rule' before' o')
    repeated_alike same rule rule' alike absent = a.nil
    repeated_alike same rule rule' alike (present {x = x} {y = y} h) = broken_if_alike _ _ (λ i. list_any (same (h.0 i)) (e i)) (alike x.0 y.0 h.0) h.1

    named_alike : {o : Option (Placed X B)} {o' : Option (Placed X B')} → AlikeOption SamePlaced o o' → and_named before o ≡ and_named before' o'
    named_alike absent = e
    named_alike (present h) = λ i. e i ++ h.0 i ∷ []

module _ {R T A B S D R' T' A' B' S' D' : Type 0} (rel : Relations R T A B S D R' T' A' B' S' D') where
  pub stars_alike : {X X' : Type 0} {Star : X → X' → Type 0} {ds : List (DependencyArgument A B X)} {ds' : List (DependencyArgument A' B' X')}
      → Each (AlikeDependencyArgument rel Star) ds ds' → Each Star (stars ds) (stars ds')
  stars_alike h = each_given _ _ (λ d d' k. k.star) h

  -- ---- features

  noted_at_alike : (feature : ListFeature) {o : Option B} {o' : Option B'} → AlikeOption rel.position o o'
      → Each (AlikeNoted rel) (noted_at feature o) (noted_at feature o')
  noted_at_alike feature absent = a.nil
  noted_at_alike feature (present h) = a.one_noted rel feature h

  place_alike : {o : Option (Bound B)} {o' : Option (Bound B')} → AlikeOption (AlikeBound rel) o o' → AlikeOption rel.position (bound_place o) (bound_place o')
  place_alike h = option_mapped _ _ (λ b b' k. k.key) h

  rules_features_alike : {r : ArgumentRules A B} {r' : ArgumentRules A' B'} → AlikeArgumentRules rel r r'
      → Each (AlikeNoted rel) (rules_features r) (rules_features r')
  rules_features_alike h =
      each_both (each_both (each_both (noted_at_alike features.Flag h.flag) (noted_at_alike features.Multiple h.multiple))
      (noted_at_alike features.ArgMax (place_alike h.max))) (noted_at_alike features.ArgMin (place_alike h.min))

  pub all_features_alike : {rs : List (ArgumentRules A B)} {rs' : List (ArgumentRules A' B')} → Each (AlikeArgumentRules rel) rs rs'
      → Each (AlikeNoted rel) (flat_map rules_features rs) (flat_map rules_features rs')
  all_features_alike h = each_flat _ _ (λ r r' k. rules_features_alike k) h

  -- ---- what rules look at

  module _ (view : LeafView A B) (view' : LeafView A' B') where
    -- names of parameters with the same bytes
    abbrev SameName : Parameter A B → Parameter A' B' → Type 0
    SameName p p' = view.bytes p.name ≡ view'.bytes p'.name

    -- parameters, as far as rules look at them
    pub record SameParameter (p : Parameter A B) (p' : Parameter A' B') : Type 0 where
      pub kind : p.kind ≡ p'.kind
      pub bytes : view.bytes p.name ≡ view'.bytes p'.name
      pub place : rel.position (view.place p.name) (view'.place p'.name)
      pub default : is_some p.default ≡ is_some p'.default

    module _ (sees : SeesAlike rel view view') where
      pub same_names : {number : ℕ} {ps : List (Parameter A B)} {ps' : List (Parameter A' B')} → AlikeParameters rel number ps ps' → Each SameName ps ps'
      same_names a.no_parameter = a.nil
      same_names (a.a_parameter {number = number} {p = p} {p' = p'} h hs) =
          a.cons (sees.parameter_bytes number p.name h.rules p'.name h.others h.name) (same_names hs)

      -- ---- options

      abbrev PlacedQuoted : Placed (Quoted A) B → Placed (Quoted A') B' → Type 0
      PlacedQuoted p p' = AlikeQuoted rel p.0 p'.0 × rel.position p.1 p'.1

      option_alike : {q : Quoted A} {q' : Quoted A'} {n : OptionName A B} {n' : OptionName A' B'} → AlikeQuoted rel q q' → AlikeOptionName rel n n'
          → AlikeOption PlacedQuoted (option_of view q n) (option_of view' q' n')
      option_alike h no_option = absent
      option_alike h (own_name k) = present (h, k)
      option_alike h (option_named k) = present (k, quoted_place rel view view' sees k)

      text_alike : (o : Placed (Quoted A) B) (o' : Placed (Quoted A') B') → PlacedQuoted o o' → SamePlaced rel.position (with_text view o) (with_text view' o')
      text_alike o o' h = (same_text_of rel view view' sees h.0, h.1)

      character_alike : (o : Placed (List ℕ) B) (o' : Placed (List ℕ) B') → SamePlaced rel.position o o'
          → AlikeOption (SamePlaced rel.position) (first_character view o) (first_character view' o')
      character_alike o o' h =
          subst (λ text. AlikeOption (SamePlaced rel.position) (first_character view o) (first_character view' (text, o'.1))) h.0 (within (first_of (chars o.0)))
        where
          within : (c : Option ℕ) → AlikeOption (SamePlaced rel.position) (option_map (λ (c : ℕ). (c, o.1)) c) (option_map (λ (c : ℕ). (c, o'.1)) c)
          within None = absent
          within (Some c) = present (refl, h.1)

      long_alike : {r : ArgumentRules A B} {r' : ArgumentRules A' B'} → AlikeArgumentRules rel r r'
          → AlikeOption (SamePlaced rel.position) (long_option view r) (long_option view' r')
      long_alike h = option_mapped _ _ text_alike (option_alike h.name h.long)

      short_alike : {r : ArgumentRules A B} {r' : ArgumentRules A' B'} → AlikeArgumentRules rel r r'
          → AlikeOption (SamePlaced rel.position) (short_option view r) (short_option view' r')
      short_alike h = within (option_mapped _ _ text_alike (option_alike h.name h.short))
        where
          within : {o : Option (Placed (List ℕ) B)} {o' : Option (Placed (List ℕ) B')} → AlikeOption (SamePlaced rel.position) o o'
              → AlikeOption (SamePlaced rel.position) (if_named (first_character view) o) (if_named (first_character view') o')
          within absent = absent
          within (present {x = x} {y = y} k) = character_alike x y k

      options_alike_after : {n : B} {n' : B'} {longs longs' : List (List ℕ)} {shorts shorts' : List ℕ} {rs : List (ArgumentRules A B)} {rs' : List (ArgumentRules A' B')}
          → rel.position n n' → longs ≡ longs' → shorts ≡ shorts' → Each (AlikeArgumentRules rel) rs rs'
          → Each (AlikeBroken rel.position) (options_after view n longs shorts rs) (options_after view' n' longs' shorts' rs')
      options_alike_after n e e2 a.nil = a.nil
      options_alike_after {longs = longs} {longs' = longs'} {shorts = shorts} {shorts' = shorts'} n e e2 (a.cons {x = x} {y = y} h hs) =
          each_both (repeated_alike rel.position e bytes_eq _ _ (λ x y e. broken.duplicate_long e n) (long_alike h))
          (each_both (repeated_alike rel.position e2 nat_eq _ _ (λ x y e. broken.duplicate_short e n) (short_alike h))
          (options_alike_after {longs = and_named longs (long_option view x)} {longs' = and_named longs' (long_option view' y)} {shorts = and_named shorts (short_option view x)} {shorts' = and_named shorts' (short_option view' y)}
          n (named_alike rel.position e (long_alike h)) (named_alike rel.position e2 (short_alike h)) hs))

      pub options_alike : {n : B} {n' : B'} {rs : List (ArgumentRules A B)} {rs' : List (ArgumentRules A' B')} → rel.position n n'
          → Each (AlikeArgumentRules rel) rs rs' → Each (AlikeBroken rel.position) (options_broken view n rs) (options_broken view' n' rs')
      options_alike n h = options_alike_after n refl refl h

      -- ---- parameters

      same_parameter : {ps : List (Parameter A B)} {ps' : List (Parameter A' B')} → Each SameName ps ps'
          → (r : ArgumentRules A B) (r' : ArgumentRules A' B') → AlikeArgumentRules rel r r' → not (is_parameter view ps r) ≡ not (is_parameter view' ps' r')
      same_parameter h r r' k =
          ap not (same_any _ _ (λ (p : Parameter A B) (p' : Parameter A' B') (j : SameName p p') i. bytes_eq (j i) (same_text_of rel view view' sees k.name i)) h)

      pub undefined_alike : {ps : List (Parameter A B)} {ps' : List (Parameter A' B')} {rs : List (ArgumentRules A B)} {rs' : List (ArgumentRules A' B')}
          → Each SameName ps ps' → Each (AlikeArgumentRules rel) rs rs'
          → Each (AlikeBroken rel.position) (undefined_broken view ps rs) (undefined_broken view' ps' rs')
      undefined_alike p h =
          listed_alike _ _ (λ r r' k. a.cons (record { rule = broken.undefined_arg (same_text_of rel view view' sees k.name); token = quoted_place rel view view' sees k.name }) a.nil)
          (least_alike _ _ (λ r r' k. same_text_of rel view view' sees k.name) (kept_alike _ _ (same_parameter p) h))

      -- what an `arg` attribute sets for a parameter of this name
      pub rules_for_alike : {rs : List (ArgumentRules A B)} {rs' : List (ArgumentRules A' B')} {before : List (Parameter A B)} {before' : List (Parameter A' B')}
          {n : A} {n' : A'} → Each (AlikeArgumentRules rel) rs rs' → Each SameName before before' → view.bytes n ≡ view'.bytes n'
          → AlikeOption (AlikeArgumentRules rel) (rules_for view rs before n) (rules_for view' rs' before' n')
      rules_for_alike h b e =
          unless_alike _ _ (same_any _ _ (λ (p : Parameter A B) (p' : Parameter A' B') (j : SameName p p') i. bytes_eq (j i) (e i)) b)
          (found_alike _ _ (λ r r' k i. bytes_eq (same_text_of rel view view' sees k.name i) (e i)) h)

      key_alike : {r : ArgumentRules A B} {r' : ArgumentRules A' B'} → AlikeArgumentRules rel r r'
          → AlikeOption rel.position (bound_key view r) (bound_key view' r')
      key_alike h = else_alike (place_alike h.max) (place_alike h.min)

      ruled_alike : {p : Parameter A B} {p' : Parameter A' B'} → SameParameter p p' → (r : ArgumentRules A B) (r' : ArgumentRules A' B')
          → AlikeArgumentRules rel r r' → Each (AlikeBroken rel.position) (ruled_broken view p r) (ruled_broken view' p' r')
      ruled_alike p r r' h =
          each_both (broken_if_alike rel.position _ _ (λ i. same_some h.flag i && p.default i) (broken.flag_default p.place) p.place)
          (listed_alike _ _ (λ k k' j. broken_if_alike rel.position _ _ (λ i. not (same_some h.multiple i) && not (is_variadic (p.kind i))) (broken.requires_several j) j) (key_alike h))

      pub parameter_alike : {rs : List (ArgumentRules A B)} {rs' : List (ArgumentRules A' B')} {before : List (Parameter A B)} {before' : List (Parameter A' B')}
          {p : Parameter A B} {p' : Parameter A' B'} → Each (AlikeArgumentRules rel) rs rs' → Each SameName before before' → SameParameter p p'
          → Each (AlikeBroken rel.position) (parameter_broken view rs before p) (parameter_broken view' rs' before' p')
      parameter_alike h b p = listed_alike _ _ (ruled_alike p) (rules_for_alike h b p.bytes)

      -- ---- kinds that exclude each other

      same_has : (kind : AttributeKind) {es : List (Entry A B)} {es' : List (Entry A' B')} → Each (AlikeEntry rel) es es'
          → has_attribute kind es ≡ has_attribute kind es'
      same_has kind h = same_any _ _ (λ (e : Entry A B) (e' : Entry A' B') (k : AlikeEntry rel e e') i. same_attribute (same_kind rel k.attribute i) kind) h

      pub exclusions_alike : {n : B} {n' : B'} {es : List (Entry A B)} {es' : List (Entry A' B')} → rel.position n n' → Each (AlikeEntry rel) es es'
          → Each (AlikeBroken rel.position) (exclusions_broken view n es) (exclusions_broken view' n' es')
      exclusions_alike n h =
          each_both
          (each_both (broken_if_alike rel.position _ _ (λ i. same_has kinds.NoCd h i && same_has kinds.WorkingDirectory h i) (broken.no_cd_and_directory n) n)
          (broken_if_alike rel.position _ _ (λ i. same_has kinds.ExitMessage h i && same_has kinds.NoExitMessage h i) (broken.message_and_none n) n))
          (broken_if_alike rel.position _ _ (λ i. same_has kinds.Script h i && same_has kinds.Shell h i) (broken.script_and_shell n) n)
