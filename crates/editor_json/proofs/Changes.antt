-- Changes that are read one after the other.
use Rattle.std.proofs.Common.{◌≡◌, ◌∙◌, ◌<◌, ℕ, suc, ◌+◌, ◌||◌, List, [], ◌∷◌, ◌++◌, length, map, get_or, take, drop, Option, Some, None, refl, sym, ap}
use Rattle.std.specs.List.{list_any}
use Rattle.std.proofs.Math.Seq.{drop-cons}
use Rattle.std.proofs.lemmas.List.{map-append, take_more, take-append-drop}
use Rattle.serde_json.specs.Data.{Data}
use Rattle.serde_json.specs.View.{items_of, view}
use Rattle.serde_json.specs.declared.value.Value.{Value}
use Rattle.editor_messages.specs.declared.change.Change.{Change}
use Rattle.editor_json.specs.Received.{Edit, both, edit_in, edit_of, edits_in}
use Rattle.editor_json.specs.Requests.{is_utf8, offers_utf8}

pub edits_none : (ds : List Data) (d : Data) (es : List Data) → edit_in d ≡ None → edits_in (items_of (ds ++ d ∷ es)) ≡ None
edits_none [] d es e = ap (λ o. both (λ (x : Edit) xs. x ∷ xs) o (edits_in (items_of es))) e
edits_none (x ∷ ds) d es e = ap (both (λ (y : Edit) ys. y ∷ ys) (edit_in x)) (edits_none ds d es e) ∙ none_right (edit_in x)
  where
    none_right : (o : Option Edit) → both (λ (y : Edit) (ys : List Edit). y ∷ ys) o None ≡ None
    none_right None = refl
    none_right (Some y) = refl

abbrev snoc : List Edit → Edit → List Edit
snoc es e = es ++ e ∷ []

one_snoc : (o : Option Edit) → both (λ (y : Edit) (ys : List Edit). y ∷ ys) o (Some []) ≡ both snoc (Some []) o
one_snoc None = refl
one_snoc (Some e) = refl

both_snoc : (o : Option Edit) (r : Option (List Edit)) (p : Option Edit) → both (λ (y : Edit) (ys : List Edit). y ∷ ys) o (both snoc r p) ≡ both snoc (both (λ (y : Edit) (ys : List Edit). y ∷ ys) o r) p
both_snoc None r p = refl
both_snoc (Some x) None p = refl
both_snoc (Some x) (Some es) None = refl
both_snoc (Some x) (Some es) (Some e) = refl

edits_snoc : (ds : List Data) (d : Data) → edits_in (items_of (ds ++ d ∷ [])) ≡ both snoc (edits_in (items_of ds)) (edit_in d)
edits_snoc [] d = one_snoc (edit_in d)
edits_snoc (x ∷ ds) d = ap (both (λ (y : Edit) (ys : List Edit). y ∷ ys) (edit_in x)) (edits_snoc ds d) ∙ both_snoc (edit_in x) (edits_in (items_of ds)) (edit_in d)

edits_more : (ds : List Data) (d : Data) (seen : List Edit) (e : Edit) → edits_in (items_of ds) ≡ Some seen → edit_in d ≡ Some e → edits_in (items_of (ds ++ d ∷ [])) ≡ Some (seen ++ e ∷ [])
edits_more ds d seen e h k = edits_snoc ds d ∙ ap (λ r. both snoc r (edit_in d)) h ∙ ap (both snoc (Some seen)) k

taken : (vs : List Value) (i : ℕ) (v : Value) → i < length vs → v ≡ get_or vs i v → map view (take (i + 1) vs) ≡ map view (take i vs) ++ view v ∷ []
taken vs i v inside at = ap (map view) (take_more vs i v inside ∙ ap (λ w. take i vs ++ w ∷ []) (sym at)) ∙ map-append view (take i vs) (v ∷ [])

pub next_change : (vs : List Value) (i : ℕ) (v : Value) → i < length vs → v ≡ get_or vs i v → (old new : List Change) (change : Change) → edits_in (items_of (map view (take i vs))) ≡ Some (map edit_of old)
    → Some (edit_of change) ≡ edit_in (view v) → new ≡ old ++ change ∷ [] → edits_in (items_of (map view (take (i + 1) vs))) ≡ Some (map edit_of new)
next_change vs i v inside at old new change h k e =
    ap (λ ds. edits_in (items_of ds)) (taken vs i v inside at)
    ∙ edits_more (map view (take i vs)) (view v) (map edit_of old) (edit_of change) h (sym k)
    ∙ ap Some (sym (ap (map edit_of) e ∙ map-append edit_of old (change ∷ [])))

split : (vs : List Value) (i : ℕ) (v : Value) → i < length vs → v ≡ get_or vs i v → map view vs ≡ map view (take i vs) ++ view v ∷ map view (drop (suc i) vs)
split vs i v inside at =
    ap (map view) (sym (take-append-drop i vs) ∙ ap (λ ws. take i vs ++ ws) (drop-cons vs i v inside ∙ ap (λ w. w ∷ drop (suc i) vs) (sym at)))
    ∙ map-append view (take i vs) (v ∷ drop (suc i) vs)

pub no_change : (vs : List Value) (i : ℕ) (v : Value) → i < length vs → v ≡ get_or vs i v → None ≡ edit_in (view v) → None ≡ edits_in (items_of (map view vs))
no_change vs i v inside at e = sym (ap (λ ds. edits_in (items_of ds)) (split vs i v inside at) ∙ edits_none (map view (take i vs)) (view v) (map view (drop (suc i) vs)) (sym e))

pub offers_any : (vs : List Value) → offers_utf8 (items_of (map view vs)) ≡ list_any (λ v. is_utf8 (view v)) vs
offers_any [] = refl
offers_any (v ∷ vs) = ap (λ b. is_utf8 (view v) || b) (offers_any vs)
