-- The parameters that `arg` attributes belong to.
use Rattle.std.specs.Prelude.{◌≡◌, ℕ, Bool, true, false, List, Option, Some, None, not, if◌then◌else◌}
use Rattle.std.specs.BTreeSet.{BTreeSet}
use Rattle.std.specs.Coded.{Coded-set, coded_bool}
use Rattle.std.specs.List.{filter, find, list_any}
use Rattle.std.specs.Option.{option_map}
use Rattle.std.specs.Str.{bytes_eq}
use denote.Ref.{Bor}
use Rattle.justfile_attribute.specs.Attribute.{leaf_attribute_of}
use Rattle.justfile_attribute.specs.declared.attribute.Attribute as attributes
use Rattle.justfile_token.specs.declared.token.Token.{Token}
use Rattle.justfile_model.specs.Meanings.AttributeRules.{least, lesser, rules_in}
use Rattle.justfile_model.specs.Meanings.Meaning.{text_of}
use Rattle.justfile_model.specs.Meanings.RecipeRules.{is_parameter}
use Rattle.justfile_model.specs.Trees.Tree.{Attribute, Quoted}
pub use Rattle.justfile_attribute.specs.KeyedBounds.{HasBoundKeys}
unfoldable pub use Rattle.justfile_attribute.specs.KeyedBounds.{HaveBoundKeys}
use Rattle.justfile_parse_base.specs.TextSets.{texts_in}
use Rattle.justfile_parse_header.specs.HeaderTable.{LeafParameter, Rules}
use Rattle.justfile_parse_header.specs.Options.{of_rules}
use Rattle.justfile_expression.specs.LeafViews.{views_leaves}
use Rattle.justfile_expression.specs.LeafTree.{Leaf}

-- what an attribute sets for a parameter, if it is an `arg`
abbrev pub rules_by : Option (Bor attributes.Attribute) → Option Rules
rules_by None = None
rules_by (Some a) = rules_in (leaf_attribute_of a.now)

abbrev pub is_rule_of : (name : List ℕ) → Rules → Bool
is_rule_of name rules = bytes_eq (text_of views_leaves rules.name) name

-- whether the attribute is an `arg` with this name
abbrev pub is_of : (name : List ℕ) → Attribute Leaf Token → Bool
is_of name a = of_rules false (is_rule_of name) (rules_in a)

-- the first of the rules with this name
abbrev pub rules_named : List Rules → (name : List ℕ) → Option Rules
rules_named rules name = find (is_rule_of name) rules

-- the literal with the lesser text, or the first if the texts are equal
abbrev pub lesser_of : (first second : Option (Quoted Leaf)) → Option (Quoted Leaf)
lesser_of None second = second
lesser_of (Some q) None = Some q
lesser_of (Some q) (Some r) = Some (lesser (text_of views_leaves) q (Some r))

-- whether one of the parameters has the name
abbrev pub is_named : List LeafParameter → (name : List ℕ) → Bool
is_named parameters name = list_any (λ (p : LeafParameter). bytes_eq (views_leaves.bytes p.name) name) parameters

-- The set has all names of these parameters, and no others.
unfoldable pub AreNames : List LeafParameter → BTreeSet (Bor (List ℕ)) → Type 0
AreNames parameters set = (name : List ℕ) → is_named parameters name ≡ list_any (bytes_eq name) (texts_in set)

pub prop_names : (parameters : List LeafParameter) (set : BTreeSet (Bor (List ℕ))) → IsProp (AreNames parameters set)
unfolding AreNames
prop_names parameters set = hlevel (Coded-set coded_bool)

-- The set has names of these parameters, and no others.
unfoldable pub AreAmongNames : List LeafParameter → BTreeSet (Bor (List ℕ)) → Type 0
AreAmongNames parameters set = (name : List ℕ) → list_any (bytes_eq name) (texts_in set) ≡ true → is_named parameters name ≡ true

pub prop_among : (parameters : List LeafParameter) (set : BTreeSet (Bor (List ℕ))) → IsProp (AreAmongNames parameters set)
unfolding AreAmongNames
prop_among parameters set = hlevel (Coded-set coded_bool)

-- The set has all names of these parameters, or some.
abbrev pub AreKeptNames : List LeafParameter → BTreeSet (Bor (List ℕ)) → (has_all : Bool) → Type 0
AreKeptNames parameters set true = AreNames parameters set
AreKeptNames parameters set false = AreAmongNames parameters set

pub prop_kept : (parameters : List LeafParameter) (set : BTreeSet (Bor (List ℕ))) (has_all : Bool) → IsProp (AreKeptNames parameters set has_all)
prop_kept parameters set true = prop_names parameters set
prop_kept parameters set false = prop_among parameters set

-- the name in an `arg` attribute, if it isn't the name of a parameter
abbrev pub undefined_in : List LeafParameter → Attribute Leaf Token → Option (Quoted Leaf)
undefined_in parameters a = of_rules None (λ r. if is_parameter views_leaves parameters r then None else Some r.name) (rules_in a)

-- the name in the rules that isn't the name of a parameter; the least as text, and the first of equal ones
abbrev pub least_undefined : List LeafParameter → List Rules → Option (Quoted Leaf)
least_undefined parameters rules = option_map (λ (r : Rules). r.name) (least (λ (r : Rules). text_of views_leaves r.name) (filter (λ r. not (is_parameter views_leaves parameters r)) rules))

abbrev pub OptionHasBoundKeys : Option (Bor attributes.Attribute) → Type 0
OptionHasBoundKeys None = Unit {0}
OptionHasBoundKeys (Some a) = HasBoundKeys a.now
