-- The last item of a text.
use Rattle.std.proofs.Common.{◌≡◌, ◌↔◌, IsTrue, ◌∙◌, ◌+◌, ◌<◌, ◌≤◌, ◌==◌, ◌&&◌, ℕ, Bool, true, false, List, [], ◌∷◌, ap, cond, drop, get_or, length, refl, subst, sym}
use Rattle.std.proofs.lemmas.List.{drop_all, drop_more}
use Rattle.std.specs.Str.{IsCharBoundary}
use Rattle.justfile_completion.specs.Cursor.{IsLastItem, begins_item, in_character, item_after, last_item}

chosen : (b : Bool) (text : List ℕ) (next start : ℕ) → item_after (drop (cond b next start) text) (drop next text) ≡ cond b (item_after (drop next text) (drop next text)) (item_after (drop start text) (drop next text))
chosen true text next start = refl
chosen false text next start = refl

pub item_step : (text : List ℕ) (start later i x : ℕ) → i < length text → x ≡ get_or text i x → later ≡ cond (x == 10 && begins_item (drop (i + 1) text)) (i + 1) start
    → item_after (drop start text) (drop i text) ≡ last_item text → item_after (drop later text) (drop (i + 1) text) ≡ last_item text
item_step text start later i x inside at e so_far =
    ap (λ (n : ℕ). item_after (drop n text) (drop (i + 1) text)) e
    ∙ chosen (x == 10 && begins_item (drop (i + 1) text)) text (i + 1) start
    ∙ sym (ap (item_after (drop start text)) (drop_more text i x inside ∙ ap (λ y. y ∷ drop (i + 1) text) (sym at)))
    ∙ so_far

pub item_end : (text : List ℕ) (start i : ℕ) → length text ≤ i → item_after (drop start text) (drop i text) ≡ last_item text → drop start text ≡ last_item text
item_end text start i past so_far = sym (ap (item_after (drop start text)) (drop_all i text past)) ∙ so_far

differ : (is : Bool) → is ≡ true → is ≡ false → ⊥
differ is t f = cc

-- the last item would begin inside of a character
pub not_cut : (text bytes : List ℕ) (start : ℕ) (is : Bool) → bytes ≡ text → drop start bytes ≡ last_item bytes → IsTrue is ↔ IsCharBoundary text start → is ≡ false → IsLastItem text []
not_cut text bytes start is same begins iff f = in_character start (subst (λ (l : List ℕ). drop start l ≡ last_item l) same begins) (λ b. differ is (iff.1 b) f) refl
