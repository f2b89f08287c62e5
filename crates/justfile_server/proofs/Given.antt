-- The path that a module is given.
use Rattle.std.proofs.Common.{◌≡◌, ◌∙◌, ℕ, ◌+◌, ◌<◌, List, drop, length, get_or, codes, Option, None, Some, refl, sym, ap}
use Rattle.std.proofs.lemmas.List.{drop_more}
use Rattle.std.specs.Option.{option_or}
use Rattle.justfile_item.specs.declared.item.Item.{Item}
use Rattle.justfile_ast.specs.declared.ast.Ast.{Ast}
use Rattle.justfile_canonical.specs.Root.{HasNoRoot, IsRoot}
use Rattle.justfile_token.specs.declared.fault.Fault.{Fault}
use Rattle.justfile_server.specs.Links.{given, given_in, parsed, rejected, HasGiven}

-- among items from one on: by that item and the others
from_item : (items : List Item) (i : ℕ) (item : Item) → i < length items → item ≡ get_or items i item
    → given_in (drop i items) ≡ option_or (given item) (given_in (drop (i + 1) items))
from_item items i item lt is = ap given_in (drop_more items i item lt) ∙ ap (λ (x : Item). option_or (given x) (given_in (drop (i + 1) items))) (sym is)

pub not_here : (items : List Item) (i : ℕ) (item : Item) → i < length items → item ≡ get_or items i item → given item ≡ None → given_in (drop i items) ≡ given_in (drop (i + 1) items)
not_here items i item lt is none = from_item items i item lt is ∙ ap (λ (o : Option (List ℕ)). option_or o (given_in (drop (i + 1) items))) none

pub here : (items : List Item) (i : ℕ) (item : Item) (path : List ℕ) → i < length items → item ≡ get_or items i item → given item ≡ Some path → given_in (drop i items) ≡ Some path
here items i item path lt is some = from_item items i item lt is ∙ ap (λ (o : Option (List ℕ)). option_or o (given_in (drop (i + 1) items))) some

-- in a text with a tree, and in one without
pub with_tree : (text : List ℕ) (path : Option (List ℕ)) → (ast : Ast) × IsRoot (codes "justfile") text ast × (path ≡ given_in ast.items.items) → HasGiven text path
with_tree text path h = parsed h.0 h.1 h.2

pub without_tree : (text : List ℕ) (fault : Fault) → HasNoRoot (codes "justfile") text fault → HasGiven text None
without_tree text fault h = rejected fault h refl
