-- `arg` attributes by the names of their parameters.
use Rattle.std.specs.Prelude.{◌≡◌, ℕ, List, Option, Some, None, cond}
use Rattle.std.specs.BTreeMap.{BTreeMap, get_by}
use Rattle.std.specs.Cmp.Lexicographic.{slice_cmp}
use Rattle.std.specs.Option.{option_map, option_or}
use Rattle.std.specs.Ordering.{nat_cmp}
use Rattle.std.specs.Str.{bytes_eq}
use denote.Ref.{Bor}
use Rattle.justfile_attribute.specs.Attribute.{leaf_attribute_of}
use Rattle.justfile_attribute.specs.declared.attribute.Attribute as attributes
use Rattle.justfile_parse_header.specs.Arguments.{OptionHasBoundKeys, is_of, rules_by, rules_named}
use Rattle.justfile_parse_header.specs.HeaderTable.{Rules}

abbrev pub Firsts : Type 0
Firsts = BTreeMap (Bor (List ℕ)) (Bor attributes.Attribute)

-- the attribute stored for a name
abbrev pub first_at : Firsts → (name : List ℕ) → Option (Bor attributes.Attribute)
first_at firsts name = get_by (λ (k : Bor (List ℕ)). slice_cmp nat_cmp name k.now) firsts

-- the attribute stored for a name, without the borrow
abbrev pub attribute_at : Firsts → (name : List ℕ) → Option attributes.Attribute
attribute_at firsts name = option_map (λ (a : Bor attributes.Attribute). a.now) (first_at firsts name)

-- For each name, the first `arg` attribute with this name is stored, and its bounds have their keys.
unfoldable pub AreFirsts : Firsts → List Rules → Type 0
AreFirsts firsts rules = (name : List ℕ)
    → (rules_by (first_at firsts name) ≡ rules_named rules name) × OptionHasBoundKeys (first_at firsts name)

-- An attribute is stored for one name, unless the name already has one.
unfoldable pub IsPutAt : (text : List ℕ) → attributes.Attribute → (old new : Firsts) → Type 0
IsPutAt text a old new = (name : List ℕ)
    → attribute_at new name ≡ option_or (attribute_at old name) (cond (bytes_eq text name) (Some a) None)

-- An attribute is stored for its name if it is an `arg`, unless the name already has one.
unfoldable pub IsPut : attributes.Attribute → (old new : Firsts) → Type 0
IsPut a old new = (name : List ℕ)
    → attribute_at new name ≡ option_or (attribute_at old name) (cond (is_of name (leaf_attribute_of a)) (Some a) None)
