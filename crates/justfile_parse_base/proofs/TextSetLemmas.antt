-- Membership of texts in lists and sets.
use Rattle.std.proofs.Common.{◌≡◌, ◌∙◌, ℕ, Bool, true, false, ◌||◌, List, [], ◌∷◌, ◌++◌, map, Bor, refl, sym, ap}
use Rattle.std.proofs.lemmas.Map.Text.{is_eq-slice_cmp}
use Rattle.std.proofs.lemmas.Slice.Eq.{bytes_eq-Decides}
use Rattle.std.specs.BTreeMap.{is_at}
use Rattle.std.specs.BTreeSet.{BTreeSet, contains_by, insert_key}
use Rattle.std.specs.Cmp.Lexicographic.{slice_cmp}
use Rattle.std.specs.List.{list_any}
use Rattle.std.specs.Ordering.{is_eq, match_ordering, nat_cmp}
use Rattle.std.specs.Str.{bytes_eq}
use Rattle.std.specs.declared.cmp.Ordering.{Ordering}
use Rattle.std.specs.declared.cmp.Ordering.TheVariants.{Less, Equal, Greater}
use Rattle.justfile_parse_base.specs.TextSets.{HaveSame, texts_in}

abbrev Text : Type 0
Text = Bor (List ℕ)

abbrev texts_of : List Text → List (List ℕ)
texts_of = map (λ (t : Text). t.now)

abbrev text_order : Text → Text → Ordering
text_order s t = slice_cmp nat_cmp s.now t.now

among_keys : (text : List ℕ) (keys : List Text) → list_any (is_at (λ (k : Text). slice_cmp nat_cmp text k.now)) keys ≡ list_any (bytes_eq text) (texts_of keys)
among_keys text [] = refl
among_keys text (k ∷ keys) = rw (is_eq-slice_cmp text k.now, among_keys text keys) refl

-- a set holds a text that is among its texts
pub among_is : (text : List ℕ) (set : BTreeSet Text) → contains_by (λ (k : Text). slice_cmp nat_cmp text k.now) set ≡ list_any (bytes_eq text) (texts_in set)
among_is text set = among_keys text set.keys

-- one of two is true, whichever is first
either : (a b c : Bool) → (a || (b || c)) ≡ (b || (a || c))
either true true c = refl
either true false c = refl
either false true c = refl
either false false c = refl

twice : (a c : Bool) → (a || c) ≡ (a || (a || c))
twice true c = refl
twice false c = refl

last_first : (xs : List (List ℕ)) (x text : List ℕ) → list_any (bytes_eq text) (xs ++ x ∷ []) ≡ (bytes_eq text x || list_any (bytes_eq text) xs)
last_first [] x text = refl
last_first (y ∷ xs) x text = rw (last_first xs x text) (either (bytes_eq text y) (bytes_eq text x) (list_any (bytes_eq text) xs))

inserted : (key : Text) (text : List ℕ) (keys : List Text)
    → (bytes_eq text key.now || list_any (bytes_eq text) (texts_of keys)) ≡ list_any (bytes_eq text) (texts_of (insert_key text_order keys key))
inserted key text [] = refl
inserted key text (k ∷ keys) = go (text_order key k) refl (inserted key text keys)
  where
    go : (r : Ordering) → text_order key k ≡ r → (bytes_eq text key.now || list_any (bytes_eq text) (texts_of keys)) ≡ list_any (bytes_eq text) (texts_of (insert_key text_order keys key))
        → (bytes_eq text key.now || (bytes_eq text k.now || list_any (bytes_eq text) (texts_of keys)))
        ≡ list_any (bytes_eq text) (texts_of (match_ordering r (key ∷ k ∷ keys) (k ∷ keys) (k ∷ insert_key text_order keys key)))
    go Less e later = refl
    go Equal e later =
        let same : key.now ≡ k.now = (bytes_eq-Decides key.now k.now).0 (sym (is_eq-slice_cmp key.now k.now) ∙ ap is_eq e) in
        ap (λ t. bytes_eq text t || (bytes_eq text k.now || list_any (bytes_eq text) (texts_of keys))) same ∙ sym (twice (bytes_eq text k.now) (list_any (bytes_eq text) (texts_of keys)))
    go Greater e later =
        either (bytes_eq text key.now) (bytes_eq text k.now) (list_any (bytes_eq text) (texts_of keys)) ∙ ap (λ b. bytes_eq text k.now || b) later

-- a text that is put into a set is among its texts
pub added : (key : Text) (old new : BTreeSet Text) → new.keys ≡ insert_key text_order old.keys key → HaveSame (texts_in old ++ key.now ∷ []) (texts_in new)
added key old new h = λ text.
    last_first (texts_in old) key.now text ∙ inserted key text old.keys ∙ sym (ap (λ ks. list_any (bytes_eq text) (texts_of ks)) h)

pub same_texts : (xs : List (List ℕ)) → HaveSame xs xs
same_texts xs text = refl

-- one more text among both
pub same_more : (xs ys : List (List ℕ)) (x : List ℕ) → HaveSame xs ys → HaveSame (xs ++ x ∷ []) (ys ++ x ∷ [])
same_more xs ys x h = λ text. last_first xs x text ∙ ap (λ b. bytes_eq text x || b) (h text) ∙ sym (last_first ys x text)

pub same_then : (xs ys zs : List (List ℕ)) → HaveSame xs ys → HaveSame ys zs → HaveSame xs zs
same_then xs ys zs h k = λ text. h text ∙ k text
