-- What the functions that move docs know about items.
use Rattle.std.proofs.Common.{◌≡◌, ◌∙◌, ℕ, ◌+◌, ◌<◌, Bool, true, false, not, ◌&&◌, ◌||◌, IsTrue, List, [], ◌∷◌, ◌++◌, length, map, get_or, take, reverse, Option, Some, None, is_some, codes, if◌then◌else◌, refl, sym, ap, subst, arith, string_bytes}
use Rattle.std.specs.Prelude.{String, nat_eq}
use Rattle.std.specs.List.{starts_with}
use Rattle.std.specs.Option.{option_map}
use Rattle.std.proofs.lemmas.List.{map-append, reverse-append, take_all, take_more}
use Rattle.std.proofs.lemmas.List.Elements.{All-get_or}
use Rattle.std.proofs.lemmas.Option.{same_Some}
use Rattle.std.specs.Global.{Global}
use Rattle.justfile_attribute.proofs.Ordered.{kind_seen}
use Rattle.justfile_attribute.specs.Attribute.{leaf_attribute_of}
use Rattle.justfile_attribute.specs.declared.attribute.Attribute.{Attribute}
use Rattle.justfile_attribute_set.specs.AttributeSet.{AttributeSet, attributes_of, leaf_entries_of, written_of}
use Rattle.justfile_attribute_set.specs.Attributes.{has_kind, is_of_kind, kind_of}
use Rattle.justfile_attribute_set.specs.Keys.{firsts}
use Rattle.justfile_attribute_set.specs.Pairs.{Pair, leaf_entry_of}
use Rattle.justfile_vocabulary.specs.declared.attribute_kind.AttributeKind.{AttributeKind}
use Rattle.justfile_vocabulary.specs.declared.attribute_kind.AttributeKind.TheVariants as kinds
use Rattle.justfile_item.specs.declared.item.Item.{Item}
use Rattle.justfile_item.specs.declared.item.Item.TheVariants as items
use Rattle.justfile_model.specs.Meanings.AttributeKinds.{same_attribute}
use Rattle.justfile_model.specs.Trees.ContentKeys.{kind_of_attribute}
use Rattle.justfile_model.specs.Grammars.Docs.{LineEnd, Other, doc_in}
use Rattle.justfile_model.specs.Grammars.Files.{sets_doc}
use Rattle.justfile_model.specs.Trees.Tree as tree
use Rattle.justfile_parse_docs.specs.Docs.{LeafItem, comment_of, doc_before, doc_first, is_line_end}
use Rattle.justfile_parse_item.specs.Tree.{item_tree}
use Rattle.justfile_parse_item.specs.DerivedFields.{HaveDerivedFields, HasDerivedItemFields}

-- ---- an item among others

-- the items up to one, from the last on, are that one and those before it
last_first : (xs : List Item) (n : ℕ) (x : Item) → n < length xs → x ≡ get_or xs n x → reverse (map item_tree (take (n + 1) xs)) ≡ item_tree x ∷ reverse (map item_tree (take n xs))
last_first xs n x h e =
    ap (λ (l : List Item). reverse (map item_tree l)) (take_more xs n x h ∙ ap (λ (y : Item). take n xs ++ y ∷ []) (sym e))
    ∙ ap (λ (l : List LeafItem). reverse l) (map-append item_tree (take n xs) (x ∷ [])) ∙ reverse-append (map item_tree (take n xs)) (item_tree x ∷ [])

pub item_fields : (xs : List Item) (n : ℕ) (x : Item) → n < length xs → x ≡ get_or xs n x → HaveDerivedFields xs → HasDerivedItemFields x
unfolding HaveDerivedFields
item_fields xs n x h e fields = subst HasDerivedItemFields (sym e) (All-get_or HasDerivedItemFields xs n x h fields)

-- the comment that an item is begins with its sign
pub comment_begins : (xs : List Item) (n : ℕ) (x : Item) → n < length xs → x ≡ get_or xs n x → HaveDerivedFields xs → (text : List ℕ) → comment_of (item_tree x) ≡ Some text
    → IsTrue (starts_with nat_eq text (codes "#"))
comment_begins xs n x h e fields text is = go x (item_fields xs n x h e fields) is
  where
    go : (y : Item) → HasDerivedItemFields y → comment_of (item_tree y) ≡ Some text → IsTrue (starts_with nat_eq text (codes "#"))
    go (items.Comment other) w k = subst (λ (t : List ℕ). IsTrue (starts_with nat_eq t (codes "#"))) (same_Some other.now text k) w
    go _ w k = cc

-- ---- the doc that ends them

pub line_end : (i : LeafItem) → is_line_end i ≡ true → i ≡ tree.Newline
line_end tree.Newline h = refl
line_end _ h = cc

comment_is : (i : LeafItem) (text : List ℕ) → comment_of i ≡ Some text → i ≡ tree.Comment text
comment_is (tree.Comment other) text h = ap (λ (t : List ℕ). tree.Comment t) (same_Some other text h)
comment_is _ text h = cc

no_start : (i : LeafItem) (others : List LeafItem) (text : List ℕ) → is_line_end i ≡ false → doc_first (tree.Newline ∷ tree.Comment text ∷ i ∷ others) ≡ None
no_start tree.Newline others text h = cc
no_start _ others text h = refl

-- the last item ends a line, and the one before it is a comment
module _ (xs : List Item) (k m n : ℕ) (last : k + 1 ≡ length xs) (second : m + 1 ≡ k) (third : n + 1 ≡ m) (x y z : Item) (x_is : x ≡ get_or xs k x) (y_is : y ≡ get_or xs m y)
    (z_is : z ≡ get_or xs n z) (text : List ℕ) (ends : is_line_end (item_tree x) ≡ true) (comment : comment_of (item_tree y) ≡ Some text) where
  abbrev others : List LeafItem
  others = reverse (map item_tree (take n xs))

  doc_of_three : doc_before (map item_tree xs) ≡ doc_first (tree.Newline ∷ tree.Comment text ∷ item_tree z ∷ others)
  doc_of_three =
      ap (λ (l : List Item). doc_before (map item_tree l)) (sym (take_all (k + 1) xs (omega (arith, last))))
      ∙ ap doc_first (last_first xs k x (omega (arith, last)) x_is)
      ∙ ap (λ (j : ℕ). doc_first (item_tree x ∷ reverse (map item_tree (take j xs)))) (sym second)
      ∙ ap (λ (l : List LeafItem). doc_first (item_tree x ∷ l)) (last_first xs m y (omega (arith, last, second)) y_is)
      ∙ ap (λ (j : ℕ). doc_first (item_tree x ∷ item_tree y ∷ reverse (map item_tree (take j xs)))) (sym third)
      ∙ ap (λ (l : List LeafItem). doc_first (item_tree x ∷ item_tree y ∷ l)) (last_first xs n z (omega (arith, last, second, third)) z_is)
      ∙ ap (λ (i : LeafItem). doc_first (i ∷ item_tree y ∷ item_tree z ∷ others)) (line_end (item_tree x) ends)
      ∙ ap (λ (i : LeafItem). doc_first (tree.Newline ∷ i ∷ item_tree z ∷ others)) (comment_is (item_tree y) text comment)

  -- whether a line ends before the comment
  pub after_item : (b : Bool) → is_line_end (item_tree z) ≡ b → doc_before (map item_tree xs) ≡ doc_in (if b then LineEnd else Other) text
  after_item true h = doc_of_three ∙ ap (λ (i : LeafItem). doc_first (tree.Newline ∷ tree.Comment text ∷ i ∷ others)) (line_end (item_tree z) h)
  after_item false h = doc_of_three ∙ no_start (item_tree z) others text h

-- ---- an item that can take a doc

kind_is : (a : Attribute) → same_attribute (kind_of_attribute (leaf_attribute_of a)) kinds.Doc ≡ is_of_kind kinds.Doc a
unfolding kind_of
kind_is a = ap (λ (k : AttributeKind). same_attribute k kinds.Doc) (sym (kind_seen a))

pairs_set : (pairs : List Pair) → sets_doc (map leaf_entry_of pairs) ≡ has_kind kinds.Doc (firsts pairs)
pairs_set [] = refl
pairs_set (p ∷ ps) = λ i. kind_is p.0 i || pairs_set ps i

-- no attribute sets a doc, and the item has none yet
pub lacks_is : (set : AttributeSet) (doc : Option (String Global))
    → (not (has_kind kinds.Doc (attributes_of set)) && not (is_some doc)) ≡ (true && not (sets_doc (leaf_entries_of set)) && not (is_some (option_map string_bytes doc)))
lacks_is set doc = ap (λ (c : Bool). not c && not (is_some doc)) (sym (pairs_set (written_of set))) ∙ by_doc doc
  where
    by_doc : (o : Option (String Global)) → (not (sets_doc (leaf_entries_of set)) && not (is_some o)) ≡ (true && not (sets_doc (leaf_entries_of set)) && not (is_some (option_map string_bytes o)))
    by_doc None = refl
    by_doc (Some s) = refl
