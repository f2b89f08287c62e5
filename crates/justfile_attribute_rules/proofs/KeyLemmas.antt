-- The keys of a map as the definitions have them.
use Rattle.std.proofs.Common.{◌≡◌, ◌∙◌, ℕ, List, [], ◌∷◌, map, Bool, true, false, not, cond, Some, refl, sym, ap}
use Rattle.std.specs.BTreeMap.{IsOrdered, is_at}
use Rattle.std.specs.Cmp.{on_total}
use Rattle.std.specs.Cmp.Lexicographic.{nat_list_cmp_total, slice_cmp}
use Rattle.std.specs.List.{AllByRecursion, filter}
use Rattle.std.specs.List.Sorted.{IsStrictlySortedBy}
use Rattle.std.specs.Map.{keys_of, lookup, remove_entry}
use Rattle.std.specs.Option.{option_map}
use Rattle.std.specs.Ordering.{is_lt, nat_cmp, ordering_reverse}
use Rattle.std.specs.Str.{bytes_eq}
use Rattle.std.specs.declared.cmp.Ordering.{Ordering}
use Rattle.std.specs.declared.cmp.Ordering.TheVariants.{Less, Equal, Greater}
use Rattle.std.proofs.lemmas.Map.Text.{is_eq-slice_cmp}
use Rattle.std.proofs.lemmas.Slice.Eq.{bytes_eq-Decides}
use denote.Ref.{Bor}
use Rattle.justfile_vocabulary.specs.declared.attribute_kind.AttributeKind.{AttributeKind}
use Rattle.justfile_token.specs.declared.token.Token.{Token}
use Rattle.justfile_model.specs.Meanings.AttributeRules.{is_known, least}
use Rattle.justfile_model.specs.Trees.ContentLeaf.{text_cmp}
use Rattle.justfile_model.specs.Readers.NewAttribute.{check_keys, refuse_key}
use Rattle.justfile_model.specs.Meanings.Meaning.{KeyArgument, at_key, first_of}
use Rattle.justfile_model.proofs.Lists.OrderLaws.{Ascends, sorted_from_ascends}
use Rattle.justfile_model.proofs.Meanings.SameKeys.{least_first}
use Rattle.justfile_expression.specs.LeafTree.{Leaf}
use Rattle.justfile_attribute_rules.specs.Keys.{Given, IsTaken, KeyMap, key_argument, key_arguments, keyed, views_keys, without}

abbrev pub Entry : Type 0
Entry = Bor (List ℕ) × Given

abbrev seen : List Entry → List (KeyArgument Leaf Token)
seen = map key_argument

abbrev query : (word : List ℕ) → Bor (List ℕ) → Bool
query word = is_at (λ k. slice_cmp nat_cmp word k.now)

turned : (s t : List ℕ) → bytes_eq s t ≡ bytes_eq t s
turned s t = go (bytes_eq s t) refl (bytes_eq t s) refl
  where
    go : (a : Bool) → bytes_eq s t ≡ a → (b : Bool) → bytes_eq t s ≡ b → a ≡ b
    go true e true f = refl
    go false e false f = refl
    go true e false f = sym ((bytes_eq-Decides t s).1 (sym ((bytes_eq-Decides s t).0 e))) ∙ f ∙ refl
    go false e true f = sym e ∙ (bytes_eq-Decides s t).1 (sym ((bytes_eq-Decides t s).0 f))

same_test : (word : List ℕ) (text : Bor (List ℕ)) → query word text ≡ bytes_eq text.now word
same_test word text = is_eq-slice_cmp word text.now ∙ turned word text.now

found_in : (word : List ℕ) (es : List Entry) → option_map (keyed word) (lookup (query word) es) ≡ at_key views_keys word (seen es)
found_in word [] = refl
found_in word (e ∷ es) = rw (same_test word e.0) (go (bytes_eq e.0.now word) refl (found_in word es))
  where
    go : (b : Bool) → bytes_eq e.0.now word ≡ b → option_map (keyed word) (lookup (query word) es) ≡ at_key views_keys word (seen es)
        → option_map (keyed word) (cond b (Some e.1) (lookup (query word) es)) ≡ cond b (Some (key_argument e)) (at_key views_keys word (seen es))
    go true is same = ap (λ text. Some (keyed text e.1)) (sym ((bytes_eq-Decides e.0.now word).0 is))
    go false is same = same

left_in : (word : List ℕ) (es : List Entry) → seen (remove_entry (query word) es) ≡ without word (seen es)
left_in word [] = refl
left_in word (e ∷ es) = rw (same_test word e.0) (go (bytes_eq e.0.now word) (left_in word es))
  where
    go : (b : Bool) → seen (remove_entry (query word) es) ≡ without word (seen es)
        → seen (cond b es (e ∷ remove_entry (query word) es)) ≡ cond b (seen es) (key_argument e ∷ without word (seen es))
    go true same = refl
    go false same = ap (λ keys. key_argument e ∷ keys) same

-- the key that is removed from a map is the one that the definitions find
pub found_is : (word : List ℕ) (m : KeyMap) → option_map (keyed word) (lookup (query word) m.entries) ≡ at_key views_keys word (key_arguments m)
found_is word m = found_in word m.entries

pub taken_is : (word : List ℕ) (m n : KeyMap) → n.entries ≡ remove_entry (query word) m.entries → IsTaken word m n
taken_is word m n e = ap seen e ∙ left_in word m.entries

-- ---- the first key that isn't accepted

abbrev text : KeyArgument Leaf Token → List ℕ
text k = views_keys.bytes k.key

abbrev under : KeyArgument Leaf Token → KeyArgument Leaf Token → Ordering
under j k = text_cmp (text j) (text k)

not_less : (r s : Ordering) → r ≡ Less → r ≡ ordering_reverse s → is_lt s ≡ false
not_less r Less e f = cc
not_less r Equal e f = refl
not_less r Greater e f = refl

module _ (test : KeyArgument Leaf Token → Bool) where
  none_below : (e : Entry) (es : List Entry) → AllByRecursion (λ k. slice_cmp nat_cmp e.0.now k.now ≡ Less) (keys_of es)
      → AllByRecursion (λ k. is_lt (under k (key_argument e)) ≡ false) (filter test (seen es))
  none_below e [] less = tt
  none_below e (d ∷ es) less = go (test (key_argument d)) (none_below e es less.1)
    where
      before : is_lt (under (key_argument d) (key_argument e)) ≡ false
      before = not_less (text_cmp e.0.now d.0.now) (text_cmp d.0.now e.0.now) less.0 (nat_list_cmp_total.antisymm e.0.now d.0.now)

      go : (b : Bool) → AllByRecursion (λ k. is_lt (under k (key_argument e)) ≡ false) (filter test (seen es))
          → AllByRecursion (λ k. is_lt (under k (key_argument e)) ≡ false) (cond b (key_argument d ∷ filter test (seen es)) (filter test (seen es)))
      go true others = (before, others)
      go false others = others

  ascending : (es : List Entry) → IsStrictlySortedBy (λ j k. slice_cmp nat_cmp j.now k.now) (keys_of es) → Ascends under (filter test (seen es))
  unfolding IsStrictlySortedBy
  ascending [] s = tt
  ascending (e ∷ es) s = go (test (key_argument e)) (ascending es s.1)
    where
      go : (b : Bool) → Ascends under (filter test (seen es)) → Ascends under (cond b (key_argument e ∷ filter test (seen es)) (filter test (seen es)))
      go true others = (none_below e es s.0, others)
      go false others = others

  pub least_of : (m : KeyMap) → IsOrdered (λ j k. slice_cmp nat_cmp j.now k.now) m → least text (filter test (key_arguments m)) ≡ first_of (filter test (key_arguments m))
  least_of m s =
      least_first text (filter test (key_arguments m)) (sorted_from_ascends (on_total text nat_list_cmp_total) (filter test (key_arguments m)) (ascending m.entries s))

abbrev pub unknown : Token → AttributeKind → KeyArgument Leaf Token → Bool
unknown at kind k = not (is_known views_keys at kind k)

-- the keys so far are accepted, and this one isn't, so it is refused
pub here_refused : (at : Token) (kind : AttributeKind) (m : KeyMap) → IsOrdered (λ j k. slice_cmp nat_cmp j.now k.now) m → (rest : List Entry)
    → filter (unknown at kind) (key_arguments m) ≡ filter (unknown at kind) (map key_argument rest) → (entry : Entry) (others : List Entry) → rest ≡ entry ∷ others
    → is_known views_keys at kind (key_argument entry) ≡ false
    → check_keys views_keys at kind (key_arguments m) ≡ refuse_key views_keys at (Some (key_argument entry))
here_refused at kind m s rest so_far entry others taken e =
    let first : filter (unknown at kind) (map key_argument (entry ∷ others)) ≡ key_argument entry ∷ filter (unknown at kind) (map key_argument others) = rw e refl in
    ap (refuse_key views_keys at)
    (least_of (unknown at kind) m s ∙ ap first_of (so_far ∙ ap (λ r. filter (unknown at kind) (map key_argument r)) taken ∙ first))
