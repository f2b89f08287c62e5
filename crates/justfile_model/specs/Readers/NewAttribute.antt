-- Makes an attribute from its arguments, with one check after another. Laws state that the result is the meaning of the arguments, and that
-- an error names a rule that is broken.
use Rattle.std.specs.Prelude.{ℕ, Bool, true, false, ◌&&◌, ◌||◌, not, ◌==◌, nat_lt, List, [], ◌∷◌, map, length, slice_index, Option, Some, None, Result, Ok, Err, codes, if◌then◌else◌}
use Rattle.std.specs.List.{filter, list_any}
use Rattle.std.specs.Option.{is_some}
use Rattle.std.specs.Str.{chars}
use Rattle.justfile_vocabulary.specs.Signal.{signal_named}
use Rattle.justfile_vocabulary.specs.declared.attribute_kind.AttributeKind.{AttributeKind}
use Rattle.justfile_vocabulary.specs.declared.attribute_kind.AttributeKind.TheVariants as kinds
use Rattle.justfile_vocabulary.specs.declared.signal.Signal.{Signal}
use Rattle.justfile_model.specs.Meanings.AttributeKinds.{takes_expressions, least_count, most_count}
use Rattle.justfile_model.specs.Meanings.AttributeRules.{has_more, is_known, least, excludes, duplicate_rule}
use Rattle.justfile_model.specs.Meanings.Meaning.{quoted, PositionalArgument, KeyArgument, text_of, at_key, is_count, count_of, signal_set, single_of, texts_of}
use Rattle.justfile_model.specs.Meanings.Rules.{Rule, AttributeArgumentCountMismatch, AttributeArgumentExpression, UnknownAttributeKey, AttributeKeyMissingValue, AttributeKeyTakesNoValue, InvalidSignal, OptionNameContainsEqualSign, OptionNameStartsWithDash, OptionNameEmpty, ShortOptionWithMultipleCharacters, ArgAttributeRequiresOption, FlagAttributeTakesNoValue, FlagAndValueArgAttribute, FlagAndPatternArgAttribute, ArgumentCountValue, ArgumentCountParse, ArgAttributeMinExceedsMax, Broken}
use Rattle.justfile_model.specs.Trees.LeafView.{LeafView}
use Rattle.justfile_model.specs.Trees.Tree as tree
use Rattle.justfile_model.specs.Trees.Tree.{Expr, Quoted, WrittenAttribute, OptionName, Property, Bound, ArgumentRules, Attribute, Entry, bare_entry}
use Rattle.justfile_vocabulary.specs.ByteNames as byte

-- the value made, or the rule that is broken
abbrev pub Made : (B X : Type 0) → Type 0
Made B X = Result X (Broken B)

infixl 10 ◌>>=◌
abbrev pub ◌>>=◌ : {B X Y : Type 0} → Made B X → (X → Made B Y) → Made B Y
(Ok x) >>= f = f x
(Err e) >>= f = Err e

abbrev pub refuse : {B X : Type 0} → Rule B → B → Made B X
refuse rule token = Err (record { rule = rule; token = token })

-- an error if the rule is broken
abbrev pub check : {B : Type 0} → (is_broken : Bool) → Rule B → B → Made B (Unit {0})
check is_broken rule token = if is_broken then refuse rule token else Ok tt

-- makes an optional value
abbrev pub if_given : {B X Y : Type 0} → (X → Made B Y) → Option X → Made B (Option Y)
if_given f None = Ok None
if_given f (Some x) = do
  y ← f x
  Ok (Some y)

-- makes one value after another
abbrev pub make_all : {B X Y : Type 0} → (X → Made B Y) → List X → Made B (List Y)
make_all f [] = Ok []
make_all f (x ∷ xs) = do
  y ← f x
  ys ← make_all f xs
  Ok (y ∷ ys)

-- an error if the value is absent
abbrev pub or_refuse : {B X : Type 0} → Option X → Rule B → B → Made B X
or_refuse None rule token = refuse rule token
or_refuse (Some x) rule token = Ok x

module _ {A B : Type 0} (view : LeafView A B) (at : B) where
  -- the value of a key that needs one
  abbrev pub required : KeyArgument A B → Made B (Expr A B)
  required k = or_refuse k.value (AttributeKeyMissingValue (view.place k.key)) (view.place k.key)

  abbrev pub required_at : (word : List ℕ) → List (KeyArgument A B) → Made B (Option (Expr A B))
  required_at word keys = if_given required (at_key view word keys)

  abbrev pub property : KeyArgument A B → Made B (Property A B)
  property k = do
    value ← required k
    Ok (record { key = view.place k.key; value = value })

  -- a value that has to be a literal
  abbrev pub literal : (key : A) → Expr A B → Made B (Quoted A)
  literal key value = or_refuse (quoted value) (AttributeArgumentExpression at) (view.place key)

  -- a positional argument that has to be a literal
  abbrev pub placed_literal : PositionalArgument A B → Made B (Quoted A)
  placed_literal p = or_refuse (quoted p.value) (AttributeArgumentExpression at) p.first

  abbrev pub check_count : AttributeKind → (found : ℕ) → Made B (Unit {0})
  check_count kind found =
      check (nat_lt found (least_count kind) || has_more found (most_count kind)) (AttributeArgumentCountMismatch at found (least_count kind) (most_count kind)) at

  abbrev pub refuse_key : Option (KeyArgument A B) → Made B (Unit {0})
  refuse_key None = Ok tt
  refuse_key (Some k) = refuse (UnknownAttributeKey at (view.place k.key)) (view.place k.key)

  -- an error for the least unknown key, if there is one
  abbrev pub check_keys : AttributeKind → List (KeyArgument A B) → Made B (Unit {0})
  check_keys kind keys = refuse_key (least (λ (k : KeyArgument A B). view.bytes k.key) (filter (λ k. not (is_known view at kind k)) keys))

  abbrev pub signal : Quoted A → Made B Signal
  signal q = or_refuse (signal_named (text_of view q)) (InvalidSignal (text_of view q)) (view.place q.token)

  -- ---- the rules of `arg`, for the parameter with this name

  module _ (argument : List ℕ) where
    abbrev pub check_option_name : Quoted A → (option : List ℕ) → Made B (Unit {0})
    check_option_name q option = do
      equal ← check (list_any (λ b. b == byte.equals) option) (OptionNameContainsEqualSign argument) (view.place q.token)
      dash ← check (slice_index option 0 == byte.minus) (OptionNameStartsWithDash argument) (view.place q.token)
      check (length option == 0) (OptionNameEmpty argument) (view.place q.token)

    abbrev pub check_short : (is_short : Bool) → Quoted A → (option : List ℕ) → Made B (Unit {0})
    check_short is_short q option = check (is_short && not (length (chars option) == 1)) (ShortOptionWithMultipleCharacters argument) (view.place q.token)

    abbrev pub option_by : (is_short : Bool) → (key : A) → Option (Expr A B) → Made B (OptionName A B)
    option_by is_short key None = Ok (tree.OwnName (view.place key))
    option_by is_short key (Some value) = do
      q ← literal key value
      name ← check_option_name q (text_of view q)
      short ← check_short is_short q (text_of view q)
      Ok (tree.Named q)

    -- the option of the key `long` or `short`
    abbrev pub option : (is_short : Bool) → Option (KeyArgument A B) → Made B (OptionName A B)
    option is_short None = Ok tree.NoOption
    option is_short (Some k) = option_by is_short k.key k.value

    abbrev pub is_option : OptionName A B → Bool
    is_option tree.NoOption = false
    is_option (tree.OwnName key) = true
    is_option (tree.Named name) = true

    -- an error for a key that requires `long` or `short`, if neither is set
    abbrev pub check_has_option : (long short : OptionName A B) → KeyArgument A B → Made B (Unit {0})
    check_has_option long short k = check (not (is_option long) && not (is_option short)) (ArgAttributeRequiresOption (view.place k.key)) (view.place k.key)

    abbrev pub option_value : (long short : OptionName A B) → KeyArgument A B → Made B (Expr A B)
    option_value long short k = do
      value ← required k
      wanted ← check_has_option long short k
      Ok value

    abbrev pub flag : (long short : OptionName A B) (has_value has_pattern : Bool) → KeyArgument A B → Made B B
    flag long short has_value has_pattern k = do
      bare ← check (is_some k.value) (FlagAttributeTakesNoValue argument) (view.place k.key)
      wanted ← check_has_option long short k
      no_value ← check has_value (FlagAndValueArgAttribute argument) (view.place k.key)
      no_pattern ← check has_pattern (FlagAndPatternArgAttribute argument) (view.place k.key)
      Ok (view.place k.key)

    abbrev pub multiple : (long short : OptionName A B) → KeyArgument A B → Made B B
    multiple long short k = do
      bare ← check (is_some k.value) (AttributeKeyTakesNoValue (view.place k.key)) (view.place k.key)
      wanted ← check_has_option long short k
      Ok (view.place k.key)

    -- the bound of the key `max` or `min`
    abbrev pub bound : KeyArgument A B → Made B (Bound B)
    bound k = do
      value ← required k
      q ← literal k.key value
      digits ← check (not (is_count (text_of view q))) (ArgumentCountValue (view.place k.key) (text_of view q)) (view.place q.token)
      number ← or_refuse (count_of (text_of view q)) (ArgumentCountParse (view.place k.key) (text_of view q)) (view.place q.token)
      Ok (record { key = view.place k.key; number = number })

    abbrev pub check_bounds : (min max : Option (Bound B)) → Made B (Unit {0})
    check_bounds (Some min) (Some max) = check (nat_lt max.number min.number) (ArgAttributeMinExceedsMax min.number max.number) min.key
    check_bounds _ _ = Ok tt

    abbrev pub new_rules : (name : Quoted A) → List (KeyArgument A B) → Made B (ArgumentRules A B)
    new_rules name keys = do
      long ← option false (at_key view (codes "long") keys)
      short ← option true (at_key view (codes "short") keys)
      pattern ← if_given property (at_key view (codes "pattern") keys)
      value ← if_given (option_value long short) (at_key view (codes "value") keys)
      flag ← if_given (flag long short (is_some value) (is_some pattern)) (at_key view (codes "flag") keys)
      multiple ← if_given (multiple long short) (at_key view (codes "multiple") keys)
      max ← if_given bound (at_key view (codes "max") keys)
      min ← if_given bound (at_key view (codes "min") keys)
      bounds ← check_bounds min max
      help ← if_given property (at_key view (codes "help") keys)
      Ok (record { flag = flag; help = help; long = long; max = max; min = min; multiple = multiple; name = name; pattern = pattern; short = short; value = value })

  -- The count was checked before, so there is a literal here.
  abbrev pub new_arg : List (Quoted A) → List (KeyArgument A B) → Made B (Attribute A B)
  new_arg [] keys = Ok (tree.Plain kinds.Arg)
  new_arg (name ∷ texts) keys = do
    rules ← new_rules (text_of view name) name keys
    Ok (tree.Arg rules)

  abbrev pub new_cache : List (KeyArgument A B) → Made B (Attribute A B)
  new_cache keys = do
    extra ← required_at (codes "extra") keys
    inputs ← required_at (codes "inputs") keys
    outputs ← required_at (codes "outputs") keys
    Ok (tree.Cache extra inputs outputs)

  abbrev pub new_continue : List (Quoted A) → Made B (Attribute A B)
  new_continue texts = do
    given ← make_all signal texts
    Ok (tree.Signals (signal_set given))

  -- the attribute, after the checks of its kind; kinds other than these three have none
  abbrev pub new_of_literals : AttributeKind → List (Quoted A) → List (KeyArgument A B) → Made B (Attribute A B)
  new_of_literals kinds.Arg texts keys = new_arg texts keys
  new_of_literals kinds.Cache texts keys = new_cache keys
  new_of_literals kinds.Continue texts keys = new_continue texts
  new_of_literals kind texts keys = Ok (texts_of view kind texts)

  -- The count was checked before: `env` has two arguments here, and the other kinds have at most one.
  abbrev pub new_of_expressions : AttributeKind → List (Expr A B) → Attribute A B
  new_of_expressions kinds.Env (key ∷ value ∷ es) = tree.Env key value
  new_of_expressions kind values = single_of view kind values

  -- an attribute that takes literals: checks that the arguments are literals, then the rules of the kind, then the keys
  abbrev pub from_literals : AttributeKind → List (PositionalArgument A B) → List (KeyArgument A B) → Made B (Attribute A B)
  from_literals kind placed keys = do
    texts ← make_all placed_literal placed
    attribute ← new_of_literals kind texts keys
    known ← check_keys kind keys
    Ok attribute

  -- an attribute that takes expressions
  abbrev pub from_expressions : AttributeKind → List (PositionalArgument A B) → List (KeyArgument A B) → Made B (Attribute A B)
  from_expressions kind placed keys = do
    known ← check_keys kind keys
    Ok (new_of_expressions kind (map (λ (p : PositionalArgument A B). p.value) placed))

  unfoldable pub new_attribute : AttributeKind → List (PositionalArgument A B) → List (KeyArgument A B) → Made B (Attribute A B)
  new_attribute kind placed keys = do
    counted ← check_count kind (length placed)
    if takes_expressions kind then from_expressions kind placed keys else from_literals kind placed keys

module _ {A B : Type 0} (view : LeafView A B) where
  -- an error for the first earlier attribute that excludes this one
  abbrev pub check_repeated : (before : List (Entry A B)) → Entry A B → Made B (Unit {0})
  check_repeated [] e = Ok tt
  check_repeated (d ∷ before) e = if excludes view d.attribute e.attribute then refuse (duplicate_rule view e.name e.attribute d.name) e.name else check_repeated before e

  -- an attribute of an item, after the earlier ones
  abbrev pub new_entry : (before : List (Entry A B)) → (name : B) → AttributeKind → List (PositionalArgument A B) → List (KeyArgument A B) → Made B (Entry A B)
  new_entry before name kind placed keys = do
    attribute ← new_attribute view name kind placed keys
    distinct ← check_repeated before (bare_entry name attribute)
    Ok (bare_entry name attribute)
