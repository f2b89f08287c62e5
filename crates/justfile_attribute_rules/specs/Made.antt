-- What it means that the code's result agrees with the definitions: the same value, or an error for the same broken rule.
use Rattle.std.specs.Prelude.{◌≡◌, ℕ, Bool, not, nat_lt, List, map, codes, Option, Some, None, Result, Ok, Err, if◌then◌else◌}
use Rattle.std.specs.Global.{Box}
use Rattle.justfile_vocabulary.specs.Signal.{signal_named}
use Rattle.justfile_token.specs.declared.fault.Fault.{Fault}
use Rattle.justfile_token.specs.declared.fault.Fault.TheVariants as faults
use Rattle.justfile_token.specs.declared.name.Name.{Name}
use Rattle.justfile_vocabulary.specs.declared.signal.Signal.{Signal}
use Rattle.justfile_token.specs.declared.string_literal.StringLiteral.{StringLiteral}
use Rattle.justfile_token.specs.declared.token.Token.{Token}
use Rattle.justfile_model.specs.Meanings.Meaning.{PositionalArgument, count_of, is_count, signal_set, text_of}
use Rattle.justfile_model.specs.Readers.NewAttribute.{◌>>=◌, Made, check, literal, make_all, or_refuse, refuse}
use Rattle.justfile_model.specs.Meanings.Rules.{ArgAttributeMinExceedsMax, ArgumentCountParse, ArgumentCountValue, InvalidSignal, Rule}
use Rattle.justfile_model.specs.Trees.Tree.{Bound, Expr, Quoted}
use Rattle.justfile_attribute_rules.specs.Keys.{views_keys}
use Rattle.justfile_expression.specs.LeafTree.{Leaf, Literal, Named, leaf_tree_of, literal_of}
use Rattle.justfile_expression.specs.declared.expression.Expression.{Expression}
use Rattle.justfile_attribute_rules.specs.RuleErrors.{IsErrorOfRule}

-- The fault is the error for the rule that the definitions find broken. Nothing is claimed if out of memory.
abbrev pub IsRefusedBy : {Y : Type 0} → Made Token Y → Fault → Type 0
IsRefusedBy made faults.Memory = Unit {0}
IsRefusedBy made faults.Numbers = ⊥
IsRefusedBy (Ok y) (faults.Compile e) = ⊥
IsRefusedBy (Err broken) (faults.Compile e) = IsErrorOfRule broken e

-- the fault is the error for this rule, broken at this token
abbrev pub IsFaultOfRule : Rule Token → Token → Fault → Type 0
IsFaultOfRule rule token fault = IsRefusedBy (refuse {X = Unit {0}} rule token) fault

-- The result is the definitions' value, viewed by `see`, or an error for the rule that they find broken.
abbrev pub Makes : {X Y : Type 0} → (see : X → Y) → Result X Fault → Made Token Y → Type 0
Makes see (Ok x) made = made ≡ Ok (see x)
Makes see (Err fault) made = IsRefusedBy made fault

-- a literal as the parser's trees have it
abbrev pub quoted_leaf : StringLiteral → Quoted Leaf
quoted_leaf l = record { expanded = l.expand; token = Literal (literal_of l) }

abbrev pub quoted_leaves : List StringLiteral → List (Quoted Leaf)
quoted_leaves = map quoted_leaf

-- a positional argument with its first token
abbrev pub positional_leaf : Token × Box Expression → PositionalArgument Leaf Token
positional_leaf p = record { first = p.0; value = leaf_tree_of p.1.value }

abbrev pub positional_leaves : List (Token × Box Expression) → List (PositionalArgument Leaf Token)
positional_leaves = map positional_leaf

-- the signal that a literal names, or the broken rule
abbrev pub signal_made : Quoted Leaf → Made Token Signal
signal_made q = or_refuse (signal_named (text_of views_keys q)) (InvalidSignal (text_of views_keys q)) (views_keys.place q.token)

-- the signals that literals name, as a set
abbrev pub signals_made : List (Quoted Leaf) → Made Token (List Signal)
signals_made texts = do
  given ← make_all signal_made texts
  Ok (signal_set given)

-- the rule that `min` isn't above `max`
abbrev pub bounds_checked : (min max : Option (Bound Token)) → Made Token (Unit {0})
bounds_checked (Some min) (Some max) = check (nat_lt max.number min.number) (ArgAttributeMinExceedsMax min.number max.number) min.key
bounds_checked _ _ = Ok tt

-- the number that a literal holds, or the broken rule, for an error that names `key`
abbrev pub count_made : (key : Token) → Quoted Leaf → Made Token ℕ
count_made key q = do
  digits ← check (not (is_count (text_of views_keys q))) (ArgumentCountValue key (text_of views_keys q)) (views_keys.place q.token)
  or_refuse (count_of (text_of views_keys q)) (ArgumentCountParse key (text_of views_keys q)) (views_keys.place q.token)

abbrev pub bound_at : Name × ℕ → Bound Token
bound_at p = record { key = p.0.token; number = p.1 }

-- the key and its number, or the broken rule
abbrev pub bound_made : (at key : Token) → Expr Leaf Token → Made Token (Option (Bound Token))
bound_made at key value = do
  q ← literal views_keys at (Named key None) value
  number ← count_made key q
  Ok (Some (record { key = key; number = number }))

-- the text of an option's key
abbrev pub option_word : (is_short : Bool) → List ℕ
option_word is_short = if is_short then codes "short" else codes "long"
