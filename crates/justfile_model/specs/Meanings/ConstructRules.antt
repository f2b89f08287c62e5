-- The rules that a construct with its attributes breaks, each at a token.
use Rattle.std.specs.Prelude.{List, [], ◌++◌}
use Rattle.justfile_vocabulary.specs.declared.item_kind.ItemKind.TheVariants as items
use Rattle.justfile_model.specs.Meanings.AttributeRules.{allowed_broken, attributes_broken, of_some}
use Rattle.justfile_model.specs.Grammars.Conditions.{VersionNumbers}
use Rattle.justfile_model.specs.Meanings.Meaning.{entries_of}
use Rattle.justfile_model.specs.Meanings.RecipeRules.{header_broken, recipe_broken}
use Rattle.justfile_model.specs.Meanings.Rules.{Broken}
use Rattle.justfile_model.specs.Meanings.SettingRules.{setting_broken}
use Rattle.justfile_model.specs.Trees.LeafView.{LeafView}
use Rattle.justfile_model.specs.Trees.Tree.{Alias, Assignment, Content, Entry, Function, Import, Module, Recipe, Setting, Unexport, WrittenAttribute}

module _ {A B : Type 0} (view : LeafView A B) where
  -- the rules that the meaning of the attributes breaks; for an import, they are reported at its path, since it has no name
  abbrev pub meaning_broken : {C S : Type 0} → Content A B C S → List (Entry A B) → List (Broken B)
  meaning_broken (Alias parts) entries = allowed_broken view items.Alias (view.place parts.name) entries
  meaning_broken (Assignment parts) entries = allowed_broken view items.Assignment (view.place parts.name) entries
  meaning_broken (Function parts) entries = allowed_broken view items.Function (view.place parts.name) entries
  meaning_broken (Import parts) entries = allowed_broken view items.Import (view.place parts.path.token) entries
  meaning_broken (Module parts) entries = allowed_broken view items.Module (view.place parts.name) entries
  meaning_broken (Recipe parts) entries = recipe_broken view parts.header entries
  meaning_broken (Setting parts) entries = allowed_broken view items.Setting (view.place parts.name) entries
  meaning_broken (Unexport name) entries = allowed_broken view items.Unexport (view.place name) entries

-- `current` is the current version
module _ {A B : Type 0} (current : VersionNumbers) (view : LeafView A B) where
  -- the rules that the construct breaks regardless of its attributes
  abbrev pub form_broken : {C : Type 0} → Content A B C B → List (Broken B)
  form_broken (Alias parts) = []
  form_broken (Assignment parts) = []
  form_broken (Function parts) = []
  form_broken (Import parts) = []
  form_broken (Module parts) = []
  form_broken (Recipe parts) = header_broken parts.header
  form_broken (Setting parts) = setting_broken current view parts
  form_broken (Unexport name) = []

  abbrev pub construct_broken : {C : Type 0} → List (WrittenAttribute A B) → Content A B C B → List (Broken B)
  construct_broken ws content = attributes_broken view ws ++ of_some (meaning_broken view content) (entries_of view ws) ++ form_broken content
