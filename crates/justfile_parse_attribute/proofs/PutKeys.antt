-- A key that is inserted by its text: each entry still has the text of its key.
use Rattle.std.proofs.Common.{◌≡◌, ◌∙◌, ℕ, List, [], ◌∷◌, refl, sym, ap, subst}
use Rattle.std.specs.BTreeMap.{insert_entry}
use Rattle.std.specs.List.{All, AllByRecursion}
use Rattle.std.specs.Ordering.{is_eq, match_ordering}
use Rattle.std.specs.declared.cmp.Ordering.{Ordering}
use Rattle.std.specs.declared.cmp.Ordering.TheVariants.{Less, Equal, Greater}
use Rattle.std.proofs.lemmas.List.Elements.{All-from_recursion, recursion_from_All}
use Rattle.std.proofs.lemmas.Map.Text.{is_eq-slice_cmp}
use Rattle.std.proofs.lemmas.Slice.Eq.{bytes_eq-Decides}
use denote.Ref.{Bor}
use Rattle.justfile_attribute_rules.specs.Keys.{KeyMap}
use Rattle.justfile_parse_attribute.specs.ArgumentKeys.{AreKeyed, Given, IsInserted, key_text, text_order}

abbrev pub Stored : Type 0
Stored = Bor (List ℕ) × Given

-- the entry's text is that of its key
abbrev pub IsKeyed : Stored → Type 0
IsKeyed e = e.0.now ≡ key_text e.1

pub tied : (s t : Bor (List ℕ)) → text_order s t ≡ Equal → s.now ≡ t.now
tied s t h = (bytes_eq-Decides s.now t.now).0 (sym (is_eq-slice_cmp s.now t.now) ∙ ap is_eq h)

module _ (text : Bor (List ℕ)) (g : Given) (is : text.now ≡ key_text g) where
  abbrev put : List Stored → List Stored
  put es = insert_entry text_order es text g

  pub put_keyed : (es : List Stored) → AllByRecursion IsKeyed es → AllByRecursion IsKeyed (put es)
  put_keyed [] h = (is, tt)
  put_keyed (e ∷ es) h = go (text_order text e.0) refl (put_keyed es h.1)
    where
      go : (r : Ordering) → text_order text e.0 ≡ r → AllByRecursion IsKeyed (put es) → AllByRecursion IsKeyed (match_ordering r ((text, g) ∷ e ∷ es) ((e.0, g) ∷ es) (e ∷ put es))
      go Less r later = (is, h)
      go Equal r later = (sym (tied text e.0 r) ∙ is, h.1)
      go Greater r later = (h.0, later)

pub none_keyed : (m : KeyMap) → m.entries ≡ [] → AreKeyed m
unfolding AreKeyed
none_keyed m e = subst (All IsKeyed) (sym e) (All-from_recursion IsKeyed [] tt)

pub same_keyed : (m n : KeyMap) → n.entries ≡ m.entries → AreKeyed m → AreKeyed n
unfolding AreKeyed
same_keyed m n e h = subst (All IsKeyed) (sym e) h

pub stays_keyed : (g : Given) (m n : KeyMap) → IsInserted g m n → AreKeyed m → AreKeyed n
unfolding AreKeyed
stays_keyed g m n p h =
    subst (All IsKeyed) (sym p.entries) (All-from_recursion IsKeyed _ (put_keyed p.text g p.is m.entries (recursion_from_All IsKeyed m.entries h)))
