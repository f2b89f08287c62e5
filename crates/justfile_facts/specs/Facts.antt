-- What the items of a file say of names.
use Rattle.std.specs.Prelude.{◌≡◌, ◌++◌, Bool, List}
use Rattle.std.specs.List.{flat_map}
use Rattle.justfile_vocabulary.specs.declared.list_feature.ListFeature.{ListFeature}
use Rattle.justfile_token.specs.declared.token.Token.{Token}
use Rattle.justfile_item.specs.declared.item.Item.{Item}
use Rattle.justfile_facts.specs.Definitions.{item_definitions}
use Rattle.justfile_facts.specs.Members.{item_members}
use Rattle.justfile_facts.specs.Rules.{rules_of}
use Rattle.justfile_facts.specs.Suspects.{item_suspects, noted}
use Rattle.justfile_facts.specs.Uses.{item_uses}
use Rattle.justfile_problems.specs.declared.facts.Facts.{Facts}

-- what each item says by itself, in the order of the items, and what needs the setting `lists`; `imported` is whether another file may import the file
pub record AreFactsOf (imported : Bool) (all : List Item) (features : List (ListFeature × Token)) (found : Facts) : Type 0 where
  pub rules : found.rules ≡ rules_of imported all
  pub definitions : found.definitions.items ≡ flat_map item_definitions all
  pub uses : found.uses.items ≡ flat_map item_uses all
  pub members : found.members.items ≡ flat_map item_members all
  pub suspects : found.suspects.items ≡ flat_map item_suspects all ++ flat_map noted features
