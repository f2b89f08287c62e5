-- How an attribute is added to those before it.
use Rattle.std.specs.Prelude.{◌≡◌, List, [], ◌∷◌, ◌++◌, map, Result, Ok, Err}
use Rattle.justfile_attribute.specs.Attribute.{leaf_attribute_of}
use Rattle.justfile_attribute.specs.declared.attribute.Attribute.{Attribute}
use Rattle.justfile_attribute_rules.specs.Made.{IsRefusedBy, Makes}
use Rattle.justfile_token.specs.declared.fault.Fault.{Fault}
use Rattle.justfile_token.specs.declared.name.Name.{Name}
use Rattle.justfile_token.specs.declared.token.Token.{Token}
use Rattle.justfile_model.specs.Readers.NewAttribute.{Made, check_repeated}
use Rattle.justfile_model.specs.Trees.Tree.{Entry, bare_entry}
use Rattle.justfile_parse_attribute.specs.Attributes.{entry_of_pair}
use Rattle.justfile_expression.specs.LeafViews.{views_leaves}
use Rattle.justfile_expression.specs.LeafTree.{Leaf}
use Rattle.justfile_written.specs.Written.{uncommented}
use Rattle.justfile_written.specs.declared.written.Written.{Written}

-- An attribute is appended, with its name and without a comment. What was made is the view of it.
pub record IsAdded {X : Type 0} (view : Attribute → X) (made : Made Token X) (name : Name) (old new : List (Attribute × Written)) : Type 0 where
  pub attribute : Attribute
  pub is_made : made ≡ Ok (view attribute)
  pub added : new ≡ old ++ uncommented (attribute, name) ∷ []

-- An attribute is added, or refused by the same rule.
abbrev pub Adds : {X : Type 0} → (Attribute → X) → Result (Unit {0}) Fault → Made Token X → Name → (old new : List (Attribute × Written)) → Type 0
Adds view (Ok added) made name old new = IsAdded view made name old new
Adds view (Err fault) made name old new = IsRefusedBy made fault

-- the entry of an attribute with this name and without a comment
abbrev pub bare_at : Name → Attribute → Entry Leaf Token
bare_at name attribute = bare_entry name.token (leaf_attribute_of attribute)

-- The last attribute is allowed after those before it, or is refused by the same rule.
unfoldable pub ChecksLast : Result (Unit {0}) Fault → List (Attribute × Written) → Type 0
ChecksLast result pairs = (before : List (Attribute × Written)) (last : Attribute × Written) → pairs ≡ before ++ last ∷ []
    → Makes (λ (u : Unit {0}). u) result (check_repeated views_leaves (map entry_of_pair before) (entry_of_pair last))
