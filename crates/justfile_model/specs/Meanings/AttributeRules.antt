-- The rules that the attributes of an item break, each at a token. All broken rules are listed; their order has no meaning.
use Rattle.std.specs.Prelude.{ℕ, Bool, true, false, ◌&&◌, ◌||◌, not, ◌==◌, nat_lt, List, [], ◌∷◌, ◌++◌, length, slice_index, Option, Some, None, codes, if◌then◌else◌}
use Rattle.std.specs.List.{filter, find, filter_map, flat_map, list_any}
use Rattle.std.specs.Option.{is_some}
use Rattle.std.specs.Ordering.{is_gt}
use Rattle.std.specs.Str.{bytes_eq, chars}
use Rattle.justfile_vocabulary.specs.AttributeKind.{kind_named}
use Rattle.justfile_vocabulary.specs.Signal.{signal_named}
use Rattle.justfile_vocabulary.specs.declared.attribute_kind.AttributeKind.{AttributeKind}
use Rattle.justfile_vocabulary.specs.declared.attribute_kind.AttributeKind.TheVariants as kinds
use Rattle.justfile_vocabulary.specs.declared.item_kind.ItemKind.{ItemKind}
use Rattle.justfile_model.specs.Meanings.AttributeKinds.{same_attribute, known_keys, takes_expressions, least_count, most_count, is_repeatable, is_allowed}
use Rattle.justfile_model.specs.Trees.ContentKeys.{kind_of_attribute}
use Rattle.justfile_model.specs.Trees.ContentLeaf.{LiteralValue, literal_value, text_cmp}
use Rattle.justfile_model.specs.LiteralTexts.Literals.{string_of}
use Rattle.justfile_model.specs.Meanings.Meaning.{quoted, PositionalArgument, KeyArgument, by_position, by_key, first_of, quoted_text, text_of, at_key, is_count, count_of, entry_of}
use Rattle.justfile_model.specs.Meanings.Rules.{Rule, UnknownAttribute, AttributeArgumentCountMismatch, AttributeArgumentExpression, AttributePositionalFollowsKeyword, DuplicateAttributeKey, UnknownAttributeKey, AttributeKeyMissingValue, AttributeKeyTakesNoValue, InvalidSignal, OptionNameContainsEqualSign, OptionNameStartsWithDash, OptionNameEmpty, ShortOptionWithMultipleCharacters, ArgAttributeRequiresOption, FlagAttributeTakesNoValue, FlagAndValueArgAttribute, FlagAndPatternArgAttribute, ArgumentCountValue, ArgumentCountParse, ArgAttributeMinExceedsMax, DuplicateAttribute, DuplicateArgAttribute, DuplicateGroupAttribute, InvalidAttribute, Broken, broken_if}
use Rattle.justfile_model.specs.Trees.LeafView.{LeafView}
use Rattle.justfile_model.specs.Trees.Tree as tree
use Rattle.justfile_model.specs.Trees.Tree.{Expr, Quoted, Argument, WrittenAttribute, ArgumentRules, Attribute, Entry}
use Rattle.justfile_vocabulary.specs.ByteNames as byte

-- more than the limit
abbrev pub has_more : ℕ → Option ℕ → Bool
has_more found None = false
has_more found (Some most) = nat_lt most found

abbrev pub is_literal : {A B : Type 0} → Expr A B → Bool
is_literal e = is_some (quoted e)

-- the broken rules of an optional value
abbrev pub of_some : {X Y : Type 0} → (X → List Y) → Option X → List Y
of_some f None = []
of_some f (Some x) = f x

-- the element with the least text; the first one, if several have this text
module _ {X : Type 0} (text_of : X → List ℕ) where
  abbrev pub lesser : X → Option X → X
  lesser x None = x
  lesser x (Some y) = if is_gt (text_cmp (text_of x) (text_of y)) then y else x

  abbrev pub least : List X → Option X
  least [] = None
  least (x ∷ xs) = Some (lesser x (least xs))

module _ {A B : Type 0} (view : LeafView A B) where
  -- the rules of one attribute, whose name is at `at`
  module _ (at : B) where
    abbrev pub count_broken : AttributeKind → (found : ℕ) → List (Broken B)
    count_broken kind found =
        broken_if (nat_lt found (least_count kind) || has_more found (most_count kind)) (AttributeArgumentCountMismatch at found (least_count kind) (most_count kind)) at

    -- A positional argument isn't a literal.
    abbrev pub expression_broken : PositionalArgument A B → List (Broken B)
    expression_broken p = broken_if (not (is_literal p.value)) (AttributeArgumentExpression at) p.first

    abbrev pub expressions_broken : AttributeKind → List (PositionalArgument A B) → List (Broken B)
    expressions_broken kind placed = if takes_expressions kind then [] else flat_map expression_broken placed

    -- A positional argument follows one by key.
    abbrev pub order_broken : (after_key : Bool) → List (Argument A B) → List (Broken B)
    order_broken after_key [] = []
    order_broken after_key (tree.Positional first value ∷ arguments) = broken_if after_key AttributePositionalFollowsKeyword first ++ order_broken after_key arguments
    order_broken after_key (tree.Bare key ∷ arguments) = order_broken true arguments
    order_broken after_key (tree.Keyed key value ∷ arguments) = order_broken true arguments

    -- An earlier argument has the same key.
    abbrev pub repeats_broken : (before keys : List (KeyArgument A B)) → List (Broken B)
    repeats_broken before [] = []
    repeats_broken before (k ∷ keys) =
        broken_if (is_some (at_key view (view.bytes k.key) before)) (DuplicateAttributeKey at (view.place k.key)) (view.place k.key) ++ repeats_broken (before ++ k ∷ []) keys

    abbrev pub is_known : AttributeKind → KeyArgument A B → Bool
    is_known kind k = list_any (bytes_eq (view.bytes k.key)) (known_keys kind)

    -- An unknown key; if there are several, the least one.
    abbrev pub unknown_broken : AttributeKind → List (KeyArgument A B) → List (Broken B)
    unknown_broken kind keys =
        of_some (λ (k : KeyArgument A B). record { rule = UnknownAttributeKey at (view.place k.key); token = view.place k.key } ∷ [])
        (least (λ (k : KeyArgument A B). view.bytes k.key) (filter (λ k. not (is_known kind k)) keys))

    -- A key that needs a value has none.
    abbrev pub missing_broken : KeyArgument A B → List (Broken B)
    missing_broken k = broken_if (not (is_some k.value)) (AttributeKeyMissingValue (view.place k.key)) (view.place k.key)

    -- the rules of a value that has to be a literal, and those of its text if it has one
    abbrev pub literal_broken : (Quoted A → List ℕ → List (Broken B)) → (key : A) → Expr A B → List (Broken B)
    literal_broken rules key value =
        broken_if (not (is_literal value)) (AttributeArgumentExpression at) (view.place key)
        ++ of_some (λ q. of_some (rules q) (quoted_text view q)) (quoted value)

    abbrev pub signal_broken : Quoted A → List ℕ → List (Broken B)
    signal_broken q name = broken_if (not (is_some (signal_named name))) (InvalidSignal name) (view.place q.token)

    abbrev pub signals_broken : PositionalArgument A B → List (Broken B)
    signals_broken p = of_some (λ q. of_some (signal_broken q) (quoted_text view q)) (quoted p.value)

    -- the rules of `arg` for the parameter with this name
    module _ (argument : List ℕ) (keys : List (KeyArgument A B)) where
      abbrev pub has : (word : List ℕ) → Bool
      has word = is_some (at_key view word keys)

      -- the broken rules of the key with this name, if it is set
      abbrev pub key_broken : (word : List ℕ) → (KeyArgument A B → List (Broken B)) → List (Broken B)
      key_broken word rules = of_some rules (at_key view word keys)

      -- the broken rules of an option's name, at its literal
      abbrev pub option_broken : (is_short : Bool) → Quoted A → List ℕ → List (Broken B)
      option_broken is_short q option =
          broken_if (list_any (λ b. b == byte.equals) option) (OptionNameContainsEqualSign argument) (view.place q.token)
          ++ broken_if (slice_index option 0 == byte.minus) (OptionNameStartsWithDash argument) (view.place q.token)
          ++ broken_if (length option == 0) (OptionNameEmpty argument) (view.place q.token)
          ++ broken_if (is_short && not (length (chars option) == 1)) (ShortOptionWithMultipleCharacters argument) (view.place q.token)

      abbrev pub option_key_broken : (is_short : Bool) → KeyArgument A B → List (Broken B)
      option_key_broken is_short k = of_some (literal_broken (option_broken is_short) k.key) k.value

      abbrev pub count_text_broken : (key : A) → Quoted A → List ℕ → List (Broken B)
      count_text_broken key q value =
          if is_count value then broken_if (not (is_some (count_of value))) (ArgumentCountParse (view.place key) value) (view.place q.token)
          else broken_if true (ArgumentCountValue (view.place key) value) (view.place q.token)

      abbrev pub bound_broken : KeyArgument A B → List (Broken B)
      bound_broken k = missing_broken k ++ of_some (literal_broken (count_text_broken k.key) k.key) k.value

      -- The key requires `long` or `short`, but neither is set.
      abbrev pub wants_option : KeyArgument A B → List (Broken B)
      wants_option k = broken_if (not (has (codes "long")) && not (has (codes "short"))) (ArgAttributeRequiresOption (view.place k.key)) (view.place k.key)

      abbrev pub value_broken : KeyArgument A B → List (Broken B)
      value_broken k = missing_broken k ++ wants_option k

      abbrev pub flag_broken : KeyArgument A B → List (Broken B)
      flag_broken k =
          broken_if (is_some k.value) (FlagAttributeTakesNoValue argument) (view.place k.key)
          ++ wants_option k
          ++ broken_if (has (codes "value")) (FlagAndValueArgAttribute argument) (view.place k.key)
          ++ broken_if (has (codes "pattern")) (FlagAndPatternArgAttribute argument) (view.place k.key)

      abbrev pub multiple_broken : KeyArgument A B → List (Broken B)
      multiple_broken k = broken_if (is_some k.value) (AttributeKeyTakesNoValue (view.place k.key)) (view.place k.key) ++ wants_option k

      -- the number that is the value of a key, if there is one
      abbrev pub number_of : KeyArgument A B → List ℕ
      number_of k = of_some (λ value. of_some (λ q. of_some (λ text. of_some (λ n. n ∷ []) (count_of text)) (quoted_text view q)) (quoted value)) k.value

      -- Both numbers are set, and `min` is greater than `max`.
      abbrev pub exceeds_broken : (min max : KeyArgument A B) → List (Broken B)
      exceeds_broken min max = flat_map (λ n. flat_map (λ m. broken_if (nat_lt m n) (ArgAttributeMinExceedsMax n m) (view.place min.key)) (number_of max)) (number_of min)

      abbrev pub arg_broken : List (Broken B)
      arg_broken =
          key_broken (codes "long") (option_key_broken false)
          ++ key_broken (codes "short") (option_key_broken true)
          ++ key_broken (codes "pattern") missing_broken
          ++ key_broken (codes "value") value_broken
          ++ key_broken (codes "flag") flag_broken
          ++ key_broken (codes "multiple") multiple_broken
          ++ key_broken (codes "max") bound_broken
          ++ key_broken (codes "min") bound_broken
          ++ key_broken (codes "min") (λ min. key_broken (codes "max") (exceeds_broken min))
          ++ key_broken (codes "help") missing_broken

    -- the rules of this kind alone; kinds other than these three have none
    abbrev pub kind_broken : AttributeKind → List (PositionalArgument A B) → List (KeyArgument A B) → List (Broken B)
    kind_broken kinds.Arg placed keys = flat_map (λ (p : PositionalArgument A B). of_some (λ q. of_some (λ argument. arg_broken argument keys) (quoted_text view q)) (quoted p.value)) placed
    kind_broken kinds.Cache placed keys =
        of_some missing_broken (at_key view (codes "extra") keys)
        ++ of_some missing_broken (at_key view (codes "inputs") keys)
        ++ of_some missing_broken (at_key view (codes "outputs") keys)
    kind_broken kinds.Continue placed keys = flat_map signals_broken placed
    kind_broken kind placed keys = []

    -- the broken rules of the arguments of an attribute of this kind, regardless of the order of the arguments
    abbrev pub arguments_broken : AttributeKind → List (PositionalArgument A B) → List (KeyArgument A B) → List (Broken B)
    arguments_broken kind placed keys =
        count_broken kind (length placed)
        ++ expressions_broken kind placed
        ++ kind_broken kind placed keys
        ++ unknown_broken kind keys

  abbrev pub known_broken : WrittenAttribute A B → AttributeKind → List (Broken B)
  known_broken w kind =
      order_broken (view.place w.name) false w.arguments
      ++ repeats_broken (view.place w.name) [] (by_key w.arguments)
      ++ arguments_broken (view.place w.name) kind (by_position w.arguments) (by_key w.arguments)

  abbrev pub named_broken : WrittenAttribute A B → Option AttributeKind → List (Broken B)
  named_broken w None = record { rule = UnknownAttribute (view.place w.name); token = view.place w.name } ∷ []
  named_broken w (Some kind) = known_broken w kind

  -- the broken rules of one attribute
  abbrev pub attribute_broken : WrittenAttribute A B → List (Broken B)
  attribute_broken w = named_broken w (kind_named (view.bytes w.name))

  -- ---- the attributes of one item, by their meaning

  -- for `arg` and `group`, the literal whose text only one attribute of an item can have; no other kind has one
  abbrev pub label_of : Attribute A B → Option (Quoted A)
  label_of (tree.Arg rules) = Some rules.name
  label_of (tree.Texts kinds.Group texts) = first_of texts
  label_of _ = None

  -- both literals have texts, and the texts are equal
  abbrev pub same_text : Option (List ℕ) → Option (List ℕ) → Bool
  same_text (Some s) (Some t) = bytes_eq s t
  same_text _ _ = false

  abbrev pub same_label : Option (Quoted A) → Option (Quoted A) → Bool
  same_label (Some p) (Some q) = same_text (quoted_text view p) (quoted_text view q)
  same_label _ _ = false

  -- an item can't have both attributes
  abbrev pub excludes : Attribute A B → Attribute A B → Bool
  excludes a b = same_attribute (kind_of_attribute a) (kind_of_attribute b) && (not (is_repeatable (kind_of_attribute a)) || same_label (label_of a) (label_of b))

  -- the value of a literal
  abbrev pub quoted_value : Quoted A → LiteralValue
  quoted_value q = literal_value (view.literal_content (string_of q.expanded q.token))

  -- the rule that an attribute breaks because of an earlier one
  abbrev pub duplicate_rule : (name : B) → Attribute A B → (first : B) → Rule B
  duplicate_rule name (tree.Arg rules) first = DuplicateArgAttribute (text_of view rules.name) first
  duplicate_rule name (tree.Texts kinds.Group (q ∷ qs)) first = DuplicateGroupAttribute (quoted_value q) (view.place q.token) first
  duplicate_rule name a first = DuplicateAttribute name first

  -- the rule that is broken because of the first earlier attribute that excludes this one
  abbrev pub duplicate_broken : (before : List (Entry A B)) → Entry A B → List (Broken B)
  duplicate_broken before e =
      of_some (λ (first : Entry A B). record { rule = duplicate_rule e.name e.attribute first.name; token = e.name } ∷ []) (find (λ (d : Entry A B). excludes d.attribute e.attribute) before)

  -- the same for all attributes that have a meaning
  abbrev pub duplicates_broken : (before : List (Entry A B)) → List (WrittenAttribute A B) → List (Broken B)
  duplicates_broken before [] = []
  duplicates_broken before (w ∷ ws) = of_some (duplicate_broken before) (entry_of view w) ++ duplicates_broken (before ++ of_some (λ e. e ∷ []) (entry_of view w)) ws

  -- the rules that the attributes of an item break, regardless of the item
  abbrev pub attributes_broken : List (WrittenAttribute A B) → List (Broken B)
  attributes_broken ws = flat_map attribute_broken ws ++ duplicates_broken [] ws

  -- ---- by kind of item

  -- the first attribute, in content order, that an item of this kind can't have
  abbrev pub first_invalid : ItemKind → List (Entry A B) → Option (Entry A B)
  first_invalid item entries = find (λ (e : Entry A B). not (is_allowed item (kind_of_attribute e.attribute))) entries

  abbrev pub allowed_broken : ItemKind → (name : B) → List (Entry A B) → List (Broken B)
  allowed_broken item name entries =
      of_some (λ (e : Entry A B). record { rule = InvalidAttribute item (kind_of_attribute e.attribute); token = name } ∷ []) (first_invalid item entries)

-- ---- `arg`

abbrev pub rules_in : {A B : Type 0} → Attribute A B → Option (ArgumentRules A B)
rules_in (tree.Arg rules) = Some rules
rules_in _ = None

-- what the `arg` attributes set for parameters, in order
abbrev pub arg_rules : {A B : Type 0} → List (Entry A B) → List (ArgumentRules A B)
arg_rules entries = filter_map (λ (e : Entry _ _). rules_in e.attribute) entries
