-- What a file allows, item by item.
use Rattle.std.proofs.Common.{◌≡◌, ◌∙◌, ◌<◌, ◌+◌, ◌||◌, ℕ, Bool, true, false, List, length, take, get_or, refl, sym, ap}
use Rattle.std.specs.List.{list_any}
use Rattle.std.proofs.lemmas.List.Folds.{list_any_more}
use Rattle.justfile_item.specs.declared.item.Item.{Item}
use Rattle.justfile_facts.specs.Rules.{comments_ignored, has_guards, has_lists, is_import, recipes_allowed, rules_of, scripts_by_default, sets, variables_allowed, with_item}

or_assoc : (a b c : Bool) → (a || (b || c)) ≡ ((a || b) || c)
or_assoc true b c = refl
or_assoc false b c = refl

module _ (all : List Item) (i : ℕ) (item : Item) (inside : i < length all) (at : item ≡ get_or all i item) where
  more : (test : Item → Bool) → list_any test (take (i + 1) all) ≡ (list_any test (take i all) || test item)
  more test = list_any_more test all i item inside ∙ ap (λ x. list_any test (take i all) || test x) (sym at)

  -- one item more
  pub one_allowed : (imported : Bool) → rules_of imported (take (i + 1) all) ≡ with_item (rules_of imported (take i all)) item
  one_allowed imported = λ k. record {
    default_script = more (sets scripts_by_default) k;
    duplicate_recipes = more (sets recipes_allowed) k;
    duplicate_variables = more (sets variables_allowed) k;
    guards = more has_guards k;
    ignore_comments = more (sets comments_ignored) k;
    lists = more (sets has_lists) k;
    «open» = (ap (λ b. imported || b) (more is_import) ∙ or_assoc imported (list_any is_import (take i all)) (is_import item)) k;
  }
