-- The rules of an `arg` attribute, key by key. Each step takes its own keys and sets its part of the rules.
use Rattle.std.specs.Prelude.{ℕ, Bool, true, false, ◌&&◌, not, List, codes, Option, None, Ok}
use Rattle.std.specs.Option.{is_some}
use Rattle.justfile_token.specs.declared.token.Token.{Token}
use Rattle.justfile_model.specs.Meanings.Meaning.{KeyArgument, at_key, text_of}
use Rattle.justfile_model.specs.Readers.NewAttribute as new
use Rattle.justfile_model.specs.Readers.NewAttribute.{◌>>=◌, Made, if_given}
use Rattle.justfile_model.specs.Trees.Tree as tree
use Rattle.justfile_model.specs.Trees.Tree.{Bound, Expr, OptionName, Quoted}
use Rattle.justfile_expression.specs.LeafTree.{Leaf}
use Rattle.justfile_attribute_rules.specs.Keys.{views_keys, without}
use Rattle.justfile_attribute_rules.specs.Made.{bounds_checked}

abbrev pub Rules : Type 0
Rules = tree.ArgumentRules Leaf Token

abbrev pub Key : Type 0
Key = KeyArgument Leaf Token

abbrev pub Keys : Type 0
Keys = List Key

-- the defaults: only the parameter's name is set
abbrev pub named_only : Quoted Leaf → Rules
named_only name = record {
  flag = None;
  help = None;
  long = tree.NoOption;
  max = None;
  min = None;
  multiple = None;
  name = name;
  pattern = None;
  short = tree.NoOption;
  value = None;
}

-- the text of the parameter's name, and its token
abbrev pub argument_of : Rules → List ℕ
argument_of r = text_of views_keys r.name

abbrev pub place_of : Rules → Token
place_of r = views_keys.place r.name.token

-- the parameter has neither name of an option, so it isn't one
abbrev pub lacks_option : Rules → Bool
lacks_option r = not (new.is_option views_keys (place_of r) (argument_of r) r.long) && not (new.is_option views_keys (place_of r) (argument_of r) r.short)

abbrev pub value_made : Rules → Key → Made Token (Expr Leaf Token)
value_made r = new.option_value views_keys (place_of r) (argument_of r) r.long r.short

abbrev pub flag_made : Rules → Key → Made Token Token
flag_made r = new.flag views_keys (place_of r) (argument_of r) r.long r.short (is_some r.value) (is_some r.pattern)

abbrev pub multiple_made : Rules → Key → Made Token Token
multiple_made r = new.multiple views_keys (place_of r) (argument_of r) r.long r.short

abbrev pub with_bounds : (min max : Option (Bound Token)) → Rules → Rules
with_bounds min max r = record r { min = min; max = max }

abbrev pub with_long : OptionName Leaf Token → Rules → Rules
with_long long r = record r { long = long }

abbrev pub with_short : OptionName Leaf Token → Rules → Rules
with_short short r = record r { short = short }

-- the keys that are left after each step
abbrev pub after_names : Keys → Keys
after_names keys = without (codes "short") (without (codes "long") keys)

abbrev pub after_values : Keys → Keys
after_values keys = without (codes "value") (without (codes "pattern") keys)

abbrev pub after_switches : Keys → Keys
after_switches keys = without (codes "multiple") (without (codes "flag") keys)

abbrev pub after_bounds : Keys → Keys
after_bounds keys = without (codes "min") (without (codes "max") keys)

abbrev pub at : (word : List ℕ) → Keys → Option Key
at = at_key views_keys

-- what each step makes of its own keys, if they are present
module _ (name : Token) where
  abbrev pub long_of : Option Key → Rules → Made Token Rules
  long_of l r = do
    long ← new.option views_keys name (argument_of r) false l
    Ok (with_long long r)

  abbrev pub short_of : Option Key → Rules → Made Token Rules
  short_of s r = do
    short ← new.option views_keys name (argument_of r) true s
    Ok (with_short short r)

  abbrev pub names_of : (long short : Option Key) → Rules → Made Token Rules
  names_of l s r = do
    named ← long_of l r
    short_of s named

  abbrev pub value_of : Option Key → Rules → Made Token Rules
  value_of v r = do
    value ← if_given (value_made r) v
    Ok (record r { value = value })

  abbrev pub values_of : (pattern value : Option Key) → Rules → Made Token Rules
  values_of p v r = do
    pattern ← if_given (new.property views_keys name) p
    value_of v (record r { pattern = pattern })

  abbrev pub multiple_of : Option Key → Rules → Made Token Rules
  multiple_of m r = do
    multiple ← if_given (multiple_made r) m
    Ok (record r { multiple = multiple })

  abbrev pub switches_of : (flag multiple : Option Key) → Rules → Made Token Rules
  switches_of f m r = do
    flag ← if_given (flag_made r) f
    multiple_of m (record r { flag = flag })

  abbrev pub bounds_of : (max min : Option Key) → Rules → Made Token Rules
  bounds_of x n r = do
    max ← if_given (new.bound views_keys name (argument_of r)) x
    min ← if_given (new.bound views_keys name (argument_of r)) n
    checked ← bounds_checked min max
    Ok (with_bounds min max r)

  abbrev pub help_of : Option Key → Rules → Made Token Rules
  help_of h r = do
    help ← if_given (new.property views_keys name) h
    Ok (record r { help = help })

  -- the steps on a list of keys; each takes its keys from those that are left
  abbrev pub names_read : Keys → Rules → Made Token Rules
  names_read keys = names_of (at (codes "long") keys) (at (codes "short") (without (codes "long") keys))

  abbrev pub values_read : Keys → Rules → Made Token Rules
  values_read keys = values_of (at (codes "pattern") keys) (at (codes "value") (without (codes "pattern") keys))

  abbrev pub switches_read : Keys → Rules → Made Token Rules
  switches_read keys = switches_of (at (codes "flag") keys) (at (codes "multiple") (without (codes "flag") keys))

  abbrev pub bounds_read : Keys → Rules → Made Token Rules
  bounds_read keys = bounds_of (at (codes "max") keys) (at (codes "min") (without (codes "max") keys))

  abbrev pub help_read : Keys → Rules → Made Token Rules
  help_read keys = help_of (at (codes "help") keys)

  -- all steps, in order
  abbrev pub rules_read : Keys → Rules → Made Token Rules
  rules_read keys r = do
    r1 ← names_read keys r
    r2 ← values_read (after_names keys) r1
    r3 ← switches_read (after_values (after_names keys)) r2
    r4 ← bounds_read (after_switches (after_values (after_names keys))) r3
    help_read (after_bounds (after_switches (after_values (after_names keys)))) r4
