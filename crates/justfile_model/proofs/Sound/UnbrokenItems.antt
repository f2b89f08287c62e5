-- Written items whose attributes have a meaning, and which break no rule.
use Rattle.std.proofs.Common.{◌≡◌, ℕ, List, [], ◌∷◌, ◌++◌, Some, refl, ap}
use Rattle.std.specs.Option.{option_map}
use Rattle.justfile_model.specs.Meanings.AttributeRules.{attributes_broken}
use Rattle.justfile_model.specs.Grammars.Conditions.{VersionNumbers}
use Rattle.justfile_model.specs.Meanings.ConstructRules.{form_broken, meaning_broken}
use Rattle.justfile_model.specs.Trees.ContentKeys.{entry_cmp}
use Rattle.justfile_model.specs.Grammars.Docs.{Nothing, documented}
use Rattle.justfile_model.specs.Grammars.Files.{broken, if_both, item_broken, ordered, ordered_item, sets_doc, undocumented}
use Rattle.justfile_model.specs.Meanings.Meaning.{all_of, entry_of}
use Rattle.justfile_model.specs.Lists.Order.{in_order}
use Rattle.justfile_model.specs.Trees.LeafView.{LeafView}
use Rattle.justfile_model.specs.Trees.Tree as tree
use Rattle.justfile_model.specs.Trees.Tree.{Construct, Content, Entry, OrderedItem, WrittenAttribute, WrittenItem, starless}

-- where this is the running version
module _ {A B C : Type 0} (current : VersionNumbers) (view : LeafView A B) where
  pub record UnbrokenItems (i : WrittenItem A B C B) : Type 0 where
    pub unbroken : item_broken current view i ≡ []
    pub meaning : OrderedItem A B C
    pub means : ordered_item view i ≡ Some meaning

  abbrev pub AllObeyed : List (WrittenItem A B C B) → Type 0
  AllObeyed [] = Unit {0}
  AllObeyed (i ∷ items) = UnbrokenItems i × AllObeyed items

  pub newline_obeyed : UnbrokenItems tree.Newline
  newline_obeyed = record { unbroken = refl; meaning = tree.Newline; means = refl }

  pub comment_obeyed : (text : List ℕ) → UnbrokenItems (tree.Comment text)
  comment_obeyed text = record { unbroken = refl; meaning = tree.Comment text; means = refl }

  -- a construct whose attributes mean these entries
  pub construct_obeyed : (ws : List (WrittenAttribute A B)) (content : Content A B C B) (entries : List (Entry A B))
      → all_of (entry_of view) ws ≡ Some entries → attributes_broken view ws ≡ []
      → meaning_broken view content (in_order (entry_cmp view) entries) ≡ [] → form_broken current view content ≡ [] → UnbrokenItems (Construct ws content)
  construct_obeyed ws content entries means unbroken allowed formed = record {
    unbroken = rw (unbroken, means, allowed) formed;
    meaning = Construct (in_order (entry_cmp view) entries) (starless content);
    means = rw means refl;
  }

  pub both_obeyed : (is js : List (WrittenItem A B C B)) → AllObeyed is → AllObeyed js → AllObeyed (is ++ js)
  both_obeyed [] js h k = k
  both_obeyed (i ∷ is) js h k = (h.0, both_obeyed is js h.1 k)

  pub all_unbroken : (items : List (WrittenItem A B C B)) → AllObeyed items → broken current view items ≡ []
  all_unbroken [] h = refl
  all_unbroken (i ∷ items) h = rw (h.0.unbroken, all_unbroken items h.1) refl

  -- all that is meant
  abbrev pub meanings : (items : List (WrittenItem A B C B)) → AllObeyed items → List (OrderedItem A B C)
  meanings [] h = []
  meanings (i ∷ items) h = h.0.meaning ∷ meanings items h.1

  pub all_undocumented : (items : List (WrittenItem A B C B)) (h : AllObeyed items) → undocumented view items ≡ Some (meanings items h)
  all_undocumented [] h = refl
  all_undocumented (i ∷ items) h = λ j. if_both (h.0.means j) (all_undocumented items h.1 j)

  pub all_ordered : (items : List (WrittenItem A B C B)) (h : AllObeyed items) → ordered view items ≡ Some (documented sets_doc Nothing (meanings items h))
  all_ordered items h = ap (option_map (documented sets_doc Nothing)) (all_undocumented items h)
