-- Keys that a map has by their own texts make the same attribute as the keys alone.
use Rattle.std.proofs.Common.{◌≡◌, ◌∙◌, ℕ, List, [], ◌∷◌, map, Bool, true, false, not, ◌&&◌, cond, codes, length, Option, Some, None, Ok, refl, ap}
use Rattle.std.specs.List.{filter}
use Rattle.std.specs.Option.{is_some, option_map}
use Rattle.std.specs.Ordering.{is_gt}
use Rattle.justfile_vocabulary.specs.declared.attribute_kind.AttributeKind.{AttributeKind}
use Rattle.justfile_vocabulary.specs.declared.attribute_kind.AttributeKind.TheVariants as kinds
use Rattle.justfile_token.specs.Token.{lexeme_of}
use Rattle.justfile_token.specs.declared.token.Token.{Token}
use Rattle.justfile_model.specs.Meanings.AttributeKinds.{takes_expressions}
use Rattle.justfile_model.specs.Meanings.AttributeRules.{is_known, least, lesser}
use Rattle.justfile_model.specs.Meanings.Meaning.{PositionalArgument, at_key, is_key, text_of}
use Rattle.justfile_model.specs.Meanings.Rules.{ArgAttributeRequiresOption, AttributeKeyTakesNoValue, FlagAndPatternArgAttribute, FlagAndValueArgAttribute, FlagAttributeTakesNoValue}
use Rattle.justfile_model.specs.Readers.NewAttribute as new
use Rattle.justfile_model.specs.Readers.NewAttribute.{◌>>=◌, Made, if_given, make_all, new_attribute}
use Rattle.justfile_model.specs.Trees.ContentLeaf.{text_cmp}
use Rattle.justfile_model.specs.Trees.Tree as tree
use Rattle.justfile_model.specs.Trees.Tree.{Bound, Expr, OptionName, Quoted}
use Rattle.justfile_expression.specs.LeafViews.{leaf_token, views_leaves}
use Rattle.justfile_expression.specs.LeafTree.{Command, Leaf}
use Rattle.justfile_attribute_rules.specs.Keys.{views_keys}
use Rattle.justfile_attribute_rules.specs.Steps.{Key}

-- a key as a map has it by its own text
abbrev pub by_text : Key → Key
by_text k = record { key = Command (leaf_token k.key) (lexeme_of (leaf_token k.key)); value = k.value }

at_text : (word : List ℕ) (keys : List Key) → at_key views_keys word (map by_text keys) ≡ option_map by_text (at_key views_leaves word keys)
at_text word [] = refl
at_text word (k ∷ keys) = go (is_key views_leaves word k) (at_text word keys)
  where
    go : (b : Bool) → at_key views_keys word (map by_text keys) ≡ option_map by_text (at_key views_leaves word keys)
        → cond b (Some (by_text k)) (at_key views_keys word (map by_text keys)) ≡ option_map by_text (cond b (Some k) (at_key views_leaves word keys))
    go true same = refl
    go false same = same

-- ---- unknown keys

abbrev under_text : Key → List ℕ
under_text k = views_keys.bytes k.key

abbrev under_lexeme : Key → List ℕ
under_lexeme k = views_leaves.bytes k.key

least_text : (keys : List Key) → least under_text (map by_text keys) ≡ option_map by_text (least under_lexeme keys)
least_text [] = refl
least_text (k ∷ keys) = ap (λ o. Some (lesser under_text (by_text k) o)) (least_text keys) ∙ ap Some (go (least under_lexeme keys))
  where
    above : (m : Key) (b : Bool) → cond b (by_text m) (by_text k) ≡ by_text (cond b m k)
    above m true = refl
    above m false = refl

    go : (o : Option Key) → lesser under_text (by_text k) (option_map by_text o) ≡ by_text (lesser under_lexeme k o)
    go None = refl
    go (Some m) = above m (is_gt (text_cmp (under_lexeme k) (under_lexeme m)))

module _ (at : Token) where
  -- the keys that the kind doesn't accept
  abbrev unknown : AttributeKind → List Key → List Key
  unknown kind = filter (λ k. not (is_known views_leaves at kind k))

  abbrev unknown_by_text : AttributeKind → List Key → List Key
  unknown_by_text kind = filter (λ k. not (is_known views_keys at kind k))

  unknown_text : (kind : AttributeKind) (keys : List Key) → unknown_by_text kind (map by_text keys) ≡ map by_text (unknown kind keys)
  unknown_text kind [] = refl
  unknown_text kind (k ∷ keys) = go (not (is_known views_leaves at kind k)) (unknown_text kind keys)
    where
      go : (b : Bool) → unknown_by_text kind (map by_text keys) ≡ map by_text (unknown kind keys)
          → cond b (by_text k ∷ unknown_by_text kind (map by_text keys)) (unknown_by_text kind (map by_text keys)) ≡ map by_text (cond b (k ∷ unknown kind keys) (unknown kind keys))
      go true same = ap (λ ks. by_text k ∷ ks) same
      go false same = same

  known_text : (kind : AttributeKind) (keys : List Key) → new.check_keys views_keys at kind (map by_text keys) ≡ new.check_keys views_leaves at kind keys
  known_text kind keys =
      ap (λ ks. new.refuse_key views_keys at (least under_text ks)) (unknown_text kind keys)
      ∙ ap (new.refuse_key views_keys at) (least_text (unknown kind keys))
      ∙ go (least under_lexeme (unknown kind keys))
    where
      go : (o : Option Key) → new.refuse_key views_keys at (option_map by_text o) ≡ new.refuse_key views_leaves at o
      go None = refl
      go (Some k) = refl

  -- ---- known keys

  given_text : {Y : Type 0} (f g : Key → Made Token Y) → ((k : Key) → f (by_text k) ≡ g k) → (word : List ℕ) (keys : List Key)
      → if_given f (at_key views_keys word (map by_text keys)) ≡ if_given g (at_key views_leaves word keys)
  given_text f g same word keys = ap (if_given f) (at_text word keys) ∙ go (at_key views_leaves word keys)
    where
      go : (o : Option Key) → if_given f (option_map by_text o) ≡ if_given g o
      go None = refl
      go (Some k) = ap (λ m. m >>= (λ y. Ok (Some y))) (same k)

  option_text : (argument : List ℕ) (is_short : Bool) (word : List ℕ) (keys : List Key)
      → new.option views_keys at argument is_short (at_key views_keys word (map by_text keys)) ≡ new.option views_leaves at argument is_short (at_key views_leaves word keys)
  option_text argument is_short word keys = ap (new.option views_keys at argument is_short) (at_text word keys) ∙ go (at_key views_leaves word keys)
    where
      valued : (key : Leaf) (v : Option (Expr Leaf Token))
          → new.option_by views_keys at argument is_short (Command (leaf_token key) (lexeme_of (leaf_token key))) v ≡ new.option_by views_leaves at argument is_short key v
      valued key None = refl
      valued key (Some value) = refl

      go : (o : Option Key) → new.option views_keys at argument is_short (option_map by_text o) ≡ new.option views_leaves at argument is_short o
      go None = refl
      go (Some k) = valued k.key k.value

  module _ (argument : List ℕ) where
    is_option : (o : OptionName Leaf Token) → new.is_option views_keys at argument o ≡ new.is_option views_leaves at argument o
    is_option tree.NoOption = refl
    is_option (tree.OwnName key) = refl
    is_option (tree.Named name) = refl

    bounds_text : (min max : Option (Bound Token)) → new.check_bounds views_keys at argument min max ≡ new.check_bounds views_leaves at argument min max
    bounds_text None max = refl
    bounds_text (Some min) None = refl
    bounds_text (Some min) (Some max) = refl

    module _ (long short : OptionName Leaf Token) where
      has_option : (k : Key) → new.check_has_option views_keys at argument long short (by_text k) ≡ new.check_has_option views_leaves at argument long short k
      has_option k i =
          new.check (not (is_option long i) && not (is_option short i)) (ArgAttributeRequiresOption (leaf_token k.key)) (leaf_token k.key)

      valued_text : (k : Key) → new.option_value views_keys at argument long short (by_text k) ≡ new.option_value views_leaves at argument long short k
      valued_text k i = new.required views_leaves at k >>= (λ value. has_option k i >>= (λ wanted. Ok value))

      flag_text : (has_value has_pattern : Bool) (k : Key)
          → new.flag views_keys at argument long short has_value has_pattern (by_text k) ≡ new.flag views_leaves at argument long short has_value has_pattern k
      flag_text has_value has_pattern k i =
          new.check (is_some k.value) (FlagAttributeTakesNoValue argument) (leaf_token k.key)
          >>= (λ bare. has_option k i
          >>= (λ wanted. new.check has_value (FlagAndValueArgAttribute argument) (leaf_token k.key)
          >>= (λ no_value. new.check has_pattern (FlagAndPatternArgAttribute argument) (leaf_token k.key)
          >>= (λ no_pattern. Ok (leaf_token k.key)))))

      multiple_text : (k : Key) → new.multiple views_keys at argument long short (by_text k) ≡ new.multiple views_leaves at argument long short k
      multiple_text k i =
          new.check (is_some k.value) (AttributeKeyTakesNoValue (leaf_token k.key)) (leaf_token k.key)
          >>= (λ bare. has_option k i >>= (λ wanted. Ok (leaf_token k.key)))

    rules_text : (name : Quoted Leaf) (keys : List Key) → new.new_rules views_keys at argument name (map by_text keys) ≡ new.new_rules views_leaves at argument name keys
    rules_text name keys i =
        option_text argument false (codes "long") keys i
        >>= (λ long. option_text argument true (codes "short") keys i
        >>= (λ short. given_text (new.property views_keys at) (new.property views_leaves at) (λ k. refl) (codes "pattern") keys i
        >>= (λ pattern. given_text (new.option_value views_keys at argument long short) (new.option_value views_leaves at argument long short) (valued_text long short) (codes "value") keys i
        >>= (λ value. given_text (new.flag views_keys at argument long short (is_some value) (is_some pattern))
        (new.flag views_leaves at argument long short (is_some value) (is_some pattern)) (flag_text long short (is_some value) (is_some pattern)) (codes "flag") keys i
        >>= (λ flag. given_text (new.multiple views_keys at argument long short) (new.multiple views_leaves at argument long short) (multiple_text long short) (codes "multiple") keys i
        >>= (λ multiple. given_text (new.bound views_keys at argument) (new.bound views_leaves at argument) (λ k. refl) (codes "max") keys i
        >>= (λ max. given_text (new.bound views_keys at argument) (new.bound views_leaves at argument) (λ k. refl) (codes "min") keys i
        >>= (λ min. bounds_text min max i
        >>= (λ bounds. given_text (new.property views_keys at) (new.property views_leaves at) (λ k. refl) (codes "help") keys i
        >>= (λ help. Ok (record { flag = flag; help = help; long = long; max = max; min = min; multiple = multiple; name = name; pattern = pattern; short = short; value = value })))))))))))

  value_text : (word : List ℕ) (keys : List Key) → new.required_at views_keys at word (map by_text keys) ≡ new.required_at views_leaves at word keys
  value_text = given_text (new.required views_keys at) (new.required views_leaves at) (λ k. refl)

  own_text : (kind : AttributeKind) (texts : List (Quoted Leaf)) (keys : List Key)
      → new.new_of_literals views_keys at kind texts (map by_text keys) ≡ new.new_of_literals views_leaves at kind texts keys
  own_text kinds.Arg [] keys = refl
  own_text kinds.Arg (name ∷ texts) keys = ap (λ m. m >>= (λ rules. Ok (tree.Arg rules))) (rules_text (text_of views_leaves name) name keys)
  own_text kinds.Cache texts keys =
      λ i. value_text (codes "extra") keys i
      >>= (λ extra. value_text (codes "inputs") keys i
      >>= (λ inputs. value_text (codes "outputs") keys i
      >>= (λ outputs. Ok (tree.Cache extra inputs outputs))))
  own_text kind [] keys = refl
  own_text kind (text ∷ texts) keys = refl

  expressions_text : (kind : AttributeKind) (values : List (Expr Leaf Token)) → new.new_of_expressions views_keys at kind values ≡ new.new_of_expressions views_leaves at kind values
  expressions_text kinds.Env [] = refl
  expressions_text kinds.Env (key ∷ []) = refl
  expressions_text kinds.Env (key ∷ value ∷ values) = refl
  expressions_text kind [] = refl
  expressions_text kind (value ∷ values) = refl

  pub attribute_text : (kind : AttributeKind) (placed : List (PositionalArgument Leaf Token)) (keys : List Key)
      → new_attribute views_keys at kind placed (map by_text keys) ≡ new_attribute views_leaves at kind placed keys
  unfolding new_attribute
  attribute_text kind placed keys i =
      new.check_count views_leaves at kind (length placed)
      >>= (λ counted. cond (takes_expressions kind) (any i) (literals i))
    where
      any : new.from_expressions views_keys at kind placed (map by_text keys) ≡ new.from_expressions views_leaves at kind placed keys
      any = λ i. known_text kind keys i >>= (λ known. Ok (expressions_text kind (map (λ (p : PositionalArgument Leaf Token). p.value) placed) i))

      literals : new.from_literals views_keys at kind placed (map by_text keys) ≡ new.from_literals views_leaves at kind placed keys
      literals = λ i. make_all (new.placed_literal views_leaves at) placed
          >>= (λ texts. own_text kind texts keys i >>= (λ attribute. known_text kind keys i >>= (λ known. Ok attribute)))
