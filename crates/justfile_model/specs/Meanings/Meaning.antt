-- The meaning of written attributes. `AttributeRules` has the rules that they can break.
use Rattle.std.specs.Prelude.{ℕ, ◌^◌, Bool, true, false, ◌&&◌, not, nat_lt, List, [], ◌∷◌, map, Option, Some, None, codes, if◌then◌else◌}
use Rattle.std.specs.List.{find, filter, list_all, list_any}
use Rattle.std.specs.Str.{bytes_eq}
use Rattle.std.specs.Str.Parse.{digits_value}
use denote.Enum.Bare.{sameb}
use Rattle.justfile_vocabulary.specs.AttributeKind.{kind_named}
use Rattle.justfile_vocabulary.specs.Signal.{signals, signal_named}
use Rattle.justfile_vocabulary.specs.contracts.signal.Signal as signal_type
use Rattle.justfile_vocabulary.specs.declared.attribute_kind.AttributeKind.{AttributeKind}
use Rattle.justfile_vocabulary.specs.declared.attribute_kind.AttributeKind.TheVariants as kinds
use Rattle.justfile_vocabulary.specs.declared.signal.Signal.{Signal}
use Rattle.justfile_model.specs.Meanings.AttributeKinds.{takes_expressions}
use Rattle.justfile_model.specs.Trees.ContentKeys.{entry_cmp}
use Rattle.justfile_model.specs.LiteralTexts.Literals.{string_of}
use Rattle.justfile_model.specs.Lists.Order.{in_order}
use Rattle.justfile_model.specs.Trees.LeafView.{LeafView, or_empty}
use Rattle.justfile_model.specs.Trees.Tree as tree
use Rattle.justfile_model.specs.Trees.Tree.{Expr, Quoted, Argument, WrittenAttribute, OptionName, Property, Bound, ArgumentRules, Attribute, Entry}
use Rattle.justfile_vocabulary.specs.ByteNames as byte

infixl 10 ◌>>=◌
abbrev pub ◌>>=◌ : {X Y : Type 0} → Option X → (X → Option Y) → Option Y
None >>= f = None
(Some x) >>= f = f x

-- the results for all elements, if each has one
abbrev pub all_of : {X Y : Type 0} → (X → Option Y) → List X → Option (List Y)
all_of f [] = Some []
all_of f (x ∷ xs) = do
  y ← f x
  ys ← all_of f xs
  Some (y ∷ ys)

-- the result for an optional value, if the value is absent or has one
abbrev pub of_given : {X Y : Type 0} → (X → Option Y) → Option X → Option (Option Y)
of_given f None = Some None
of_given f (Some x) = do
  y ← f x
  Some (Some y)

-- the first element
abbrev pub first_of : {X : Type 0} → List X → Option X
first_of [] = None
first_of (x ∷ xs) = Some x

-- the expression as a string literal, if it is one
abbrev pub quoted : {A B : Type 0} → Expr A B → Option (Quoted A)
quoted (tree.StringLiteral expanded token) = Some (record { expanded = expanded; token = token })
quoted _ = None

-- a positional argument and the position of its first token
pub record PositionalArgument (A B : Type 0) : Type 0 where
  pub first : B
  pub value : Expr A B

-- an argument by key
pub record KeyArgument (A B : Type 0) : Type 0 where
  pub key : A
  pub value : Option (Expr A B)

-- the positional arguments
abbrev pub by_position : {A B : Type 0} → List (Argument A B) → List (PositionalArgument A B)
by_position [] = []
by_position (tree.Positional first value ∷ arguments) = record { first = first; value = value } ∷ by_position arguments
by_position (tree.Bare key ∷ arguments) = by_position arguments
by_position (tree.Keyed key value ∷ arguments) = by_position arguments

-- the arguments by key
abbrev pub by_key : {A B : Type 0} → List (Argument A B) → List (KeyArgument A B)
by_key [] = []
by_key (tree.Positional first value ∷ arguments) = by_key arguments
by_key (tree.Bare key ∷ arguments) = record { key = key; value = None } ∷ by_key arguments
by_key (tree.Keyed key value ∷ arguments) = record { key = key; value = Some value } ∷ by_key arguments

-- the text is decimal digits without a leading zero
abbrev pub is_count : List ℕ → Bool
is_count [] = false
is_count (b ∷ []) = not (nat_lt b byte.digit_zero) && nat_lt b byte.after_nine
is_count (b ∷ bs) = not (nat_lt b byte.digit_one) && nat_lt b byte.after_nine && list_all (λ c. not (nat_lt c byte.digit_zero) && nat_lt c byte.after_nine) bs

-- the number that the text writes, if it is below 2^64
abbrev pub count_of : List ℕ → Option ℕ
count_of text = if is_count text && nat_lt (digits_value 10 text) (2 ^ 64) then Some (digits_value 10 text) else None

-- the given signals in declaration order, without duplicates
abbrev pub signal_set : List Signal → List Signal
signal_set given = filter (λ s. list_any (sameb signal_type.the_type s) given) signals

module _ {A B : Type 0} (view : LeafView A B) where
  -- the text of a string literal, if it has one
  abbrev pub quoted_text : Quoted A → Option (List ℕ)
  quoted_text q = view.cooked (string_of q.expanded q.token)

  abbrev pub text_of : Quoted A → List ℕ
  text_of q = or_empty (quoted_text q)

  abbrev pub is_key : (word : List ℕ) → KeyArgument A B → Bool
  is_key word k = bytes_eq (view.bytes k.key) word

  -- the argument with this key
  abbrev pub at_key : (word : List ℕ) → List (KeyArgument A B) → Option (KeyArgument A B)
  at_key word keys = find (is_key word) keys

  -- a key with its value, if it has one
  abbrev pub property_of : KeyArgument A B → Option (Property A B)
  property_of k = do
    value ← k.value
    Some (record { key = view.place k.key; value = value })

  abbrev pub value_of : KeyArgument A B → Option (Expr A B)
  value_of k = k.value

  -- the position of a key, if it has no value
  abbrev pub bare_key : A → Option (Expr A B) → Option B
  bare_key key None = Some (view.place key)
  bare_key key (Some value) = None

  abbrev pub bare_of : KeyArgument A B → Option B
  bare_of k = bare_key k.key k.value

  abbrev pub option_named : A → Option (Expr A B) → Option (OptionName A B)
  option_named key None = Some (tree.OwnName (view.place key))
  option_named key (Some value) = do
    name ← quoted value
    Some (tree.Named name)

  -- the name of an option, from the key `long` or `short`
  abbrev pub option_at : Option (KeyArgument A B) → Option (OptionName A B)
  option_at None = Some tree.NoOption
  option_at (Some k) = option_named k.key k.value

  -- the number of the key `max` or `min`
  abbrev pub bound_of : KeyArgument A B → Option (Bound B)
  bound_of k = do
    value ← k.value
    literal ← quoted value
    number ← count_of (text_of literal)
    Some (record { key = view.place k.key; number = number })

  abbrev pub rules_of : List (Quoted A) → List (KeyArgument A B) → Option (ArgumentRules A B)
  rules_of texts keys = do
    name ← first_of texts
    flag ← of_given bare_of (at_key (codes "flag") keys)
    help ← of_given property_of (at_key (codes "help") keys)
    long ← option_at (at_key (codes "long") keys)
    max ← of_given bound_of (at_key (codes "max") keys)
    min ← of_given bound_of (at_key (codes "min") keys)
    multiple ← of_given bare_of (at_key (codes "multiple") keys)
    pattern ← of_given property_of (at_key (codes "pattern") keys)
    short ← option_at (at_key (codes "short") keys)
    value ← of_given value_of (at_key (codes "value") keys)
    Some (record { flag = flag; help = help; long = long; max = max; min = min; multiple = multiple; name = name; pattern = pattern; short = short; value = value })

  -- an attribute that takes at most one expression; without one it is plain
  abbrev pub single_of : AttributeKind → List (Expr A B) → Attribute A B
  single_of kind [] = tree.Plain kind
  single_of kind (e ∷ es) = tree.Single kind e

  -- an attribute of literals; without any it is plain
  abbrev pub texts_of : AttributeKind → List (Quoted A) → Attribute A B
  texts_of kind [] = tree.Plain kind
  texts_of kind texts = tree.Texts kind texts

  abbrev pub env_of : List (Expr A B) → Option (Attribute A B)
  env_of (key ∷ value ∷ es) = Some (tree.Env key value)
  env_of _ = None

  abbrev pub signal_of : Quoted A → Option Signal
  signal_of q = signal_named (text_of q)

  -- the attribute, for a kind that takes expressions; kinds other than `env` take at most one
  abbrev pub of_expressions : AttributeKind → List (Expr A B) → Option (Attribute A B)
  of_expressions kinds.Env values = env_of values
  of_expressions kind values = Some (single_of kind values)

  -- the attribute, for a kind that takes literals; of kinds other than these three it is their texts
  abbrev pub of_literals : AttributeKind → List (Quoted A) → List (KeyArgument A B) → Option (Attribute A B)
  of_literals kinds.Arg texts keys = do
    rules ← rules_of texts keys
    Some (tree.Arg rules)
  of_literals kinds.Cache texts keys = do
    extra ← of_given value_of (at_key (codes "extra") keys)
    inputs ← of_given value_of (at_key (codes "inputs") keys)
    outputs ← of_given value_of (at_key (codes "outputs") keys)
    Some (tree.Cache extra inputs outputs)
  of_literals kinds.Continue texts keys = do
    given ← all_of signal_of texts
    Some (tree.Signals (signal_set given))
  of_literals kind texts keys = Some (texts_of kind texts)

  abbrev pub by_takes : (expressions : Bool) → AttributeKind → List (Expr A B) → List (KeyArgument A B) → Option (Attribute A B)
  by_takes true kind values keys = of_expressions kind values
  by_takes false kind values keys = do
    texts ← all_of quoted values
    of_literals kind texts keys

  -- the meaning of an attribute of this kind with these arguments
  abbrev pub attribute_of : AttributeKind → List (PositionalArgument A B) → List (KeyArgument A B) → Option (Attribute A B)
  attribute_of kind placed keys = by_takes (takes_expressions kind) kind (map (λ (p : PositionalArgument A B). p.value) placed) keys

  abbrev pub entry_of : WrittenAttribute A B → Option (Entry A B)
  entry_of w = do
    kind ← kind_named (view.bytes w.name)
    attribute ← attribute_of kind (by_position w.arguments) (by_key w.arguments)
    Some (record { name = view.place w.name; attribute = attribute; comment = w.comment })

  -- the meaning of an item's attributes, in content order; attributes with the same content stay in source order
  abbrev pub entries_of : List (WrittenAttribute A B) → Option (List (Entry A B))
  entries_of ws = do
    entries ← all_of entry_of ws
    Some (in_order (entry_cmp view) entries)
