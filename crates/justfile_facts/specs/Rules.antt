-- What a file allows.
use Rattle.std.specs.Prelude.{◌&&◌, ◌||◌, Bool, true, false, List}
use Rattle.std.specs.List.{list_any}
use Rattle.justfile_problems.specs.declared.facts.Rules.{Rules}
use Rattle.justfile_setting.specs.declared.setting.Setting.{Setting}
use Rattle.justfile_setting.specs.declared.setting.Setting.TheVariants as settings
use Rattle.justfile_item.specs.Item.{is_item_enabled}
use Rattle.justfile_item.specs.declared.item.Item.{Item}
use Rattle.justfile_item.specs.declared.item.Item.TheVariants as items

abbrev pub recipes_allowed : Setting → Bool
recipes_allowed (settings.AllowDuplicateRecipes allowed) = allowed
recipes_allowed other = false

abbrev pub variables_allowed : Setting → Bool
variables_allowed (settings.AllowDuplicateVariables allowed) = allowed
variables_allowed other = false

abbrev pub comments_ignored : Setting → Bool
comments_ignored (settings.IgnoreComments ignored) = ignored
comments_ignored other = false

abbrev pub scripts_by_default : Setting → Bool
scripts_by_default (settings.DefaultScript set) = set
scripts_by_default other = false

abbrev pub guards_set : Setting → Bool
guards_set (settings.Guards set) = set
guards_set other = false

abbrev pub has_lists : Setting → Bool
has_lists (settings.Lists set) = set
has_lists other = false

-- whether an item is a setting of which this holds
abbrev pub sets : (Setting → Bool) → Item → Bool
sets test (items.Setting s) = test s.value
sets test other = false

-- Whether an item makes `?` a sigil. One for another system doesn't, since more is wrong under this setting. Each other one allows more, so it counts wherever it is.
abbrev pub has_guards : Item → Bool
has_guards i = is_item_enabled i && sets guards_set i

abbrev pub is_import : Item → Bool
is_import (items.Import attributes optional relative) = true
is_import other = false

-- what a file with these items allows; `imported` is whether another file may import it
abbrev pub rules_of : (imported : Bool) → List Item → Rules
rules_of imported all =
    record {
      default_script = list_any (sets scripts_by_default) all;
      duplicate_recipes = list_any (sets recipes_allowed) all;
      duplicate_variables = list_any (sets variables_allowed) all;
      guards = list_any has_guards all;
      ignore_comments = list_any (sets comments_ignored) all;
      lists = list_any (sets has_lists) all;
      «open» = imported || list_any is_import all;
    }

-- what a file allows that has one more item
abbrev pub with_item : Rules → Item → Rules
with_item rules i =
    record {
      default_script = rules.default_script || sets scripts_by_default i;
      duplicate_recipes = rules.duplicate_recipes || sets recipes_allowed i;
      duplicate_variables = rules.duplicate_variables || sets variables_allowed i;
      guards = rules.guards || has_guards i;
      ignore_comments = rules.ignore_comments || sets comments_ignored i;
      lists = rules.lists || sets has_lists i;
      «open» = rules.«open» || is_import i;
    }
