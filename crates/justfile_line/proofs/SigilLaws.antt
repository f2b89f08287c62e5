-- The loop that collects the sigils at the front of a text.
use Rattle.std.proofs.Common.{◌≡◌, ◌≢◌, ℕ, ◌+◌, ◌<◌, ◌≤◌, Bool, true, false, cond, List, [], ◌∷◌, ◌++◌, ◌⊎◌, inl, inr, ⊎_elim, length, take, drop, get_or, Some, None, refl, sym, ap, ◌∙◌, subst, arith, length-append, length-drop}
use Rattle.std.specs.Prelude.{◌↔◌, map, IsTrue, AllPairs, Contains}
use Rattle.std.specs.declared.cmp.Ordering.{Ordering}
use Rattle.std.specs.BTreeMap.{is_at}
use Rattle.std.specs.BTreeSet as sorted
use Rattle.std.specs.BTreeSet.{BTreeSet}
use Rattle.std.proofs.lemmas.Grind.{common_steps}
use Rattle.std.proofs.lemmas.List.{map-append, take_more, get_or_append_left, get_or-append-add, get_or_default, take-append-drop, get_or-drop}
use Rattle.std.proofs.lemmas.List.Elements.{Contains-append_left, Contains-append_right, Contains-push, Contains-push_cases}
use Rattle.std.proofs.lemmas.List.Quantifiers.{all_pairs_push}
use Rattle.std.proofs.lemmas.List.Folds.{Any-from_list_any, list_any_at}
use Rattle.justfile_line.specs.declared.sigil.Sigil.{Sigil}
use Rattle.justfile_line.specs.declared.sigil.Sigil.TheVariants.{Guard, Infallible, Quiet}
use Rattle.justfile_line.specs.contracts.sigil.SigilOrd.TheImpl.{cmp-value}
use Rattle.justfile_line.specs.Sigil.{byte_of, sigil_of, BeginsWithSigils, IsSigilOf}

-- the order of sigils
abbrev order : Sigil → Sigil → Ordering
order = cmp-value.it

order-refl : (s : Sigil) → is_at (order s) s ≡ true
order-refl Guard = refl
order-refl Infallible = refl
order-refl Quiet = refl

order-exact : (s t : Sigil) → is_at (order s) t ≡ true → s ≡ t
order-exact Guard Guard e = refl
order-exact Guard Infallible e = cc
order-exact Guard Quiet e = cc
order-exact Infallible Guard e = cc
order-exact Infallible Infallible e = refl
order-exact Infallible Quiet e = cc
order-exact Quiet Guard e = cc
order-exact Quiet Infallible e = cc
order-exact Quiet Quiet e = refl

-- a set contains a sigil exactly if it is among its keys
Contains-from_set : (set : BTreeSet Sigil) (s : Sigil) → sorted.contains order set s ≡ true → Contains set.keys s
Contains-from_set set s found =
    let a = Any-from_list_any (is_at (order s)) set.keys found in
    let same = order-exact s a.1 a.4 in
    (a.0, a.2, get_or_default set.keys a.0 s a.1 a.2 ∙ a.3 ∙ sym same)

set_contains-from : (set : BTreeSet Sigil) (s : Sigil) → Contains set.keys s → sorted.contains order set s ≡ true
set_contains-from set s among =
    list_any_at (is_at (order s)) set.keys among.0 s among.1 (subst (λ (t : Sigil). is_at (order s) t ≡ true) (sym among.2) (order-refl s))

-- a byte with a sigil is the byte of that sigil
byte_of-sigil : (guards : Bool) (byte : ℕ) (s : Sigil) → sigil_of guards byte ≡ Some s → byte ≡ byte_of s
byte_of-sigil guards byte Guard e = grind (arith, common_steps)
byte_of-sigil guards byte Infallible e = grind (arith, common_steps)
byte_of-sigil guards byte Quiet e = grind (arith, common_steps)

-- `?` is a sigil only with guards
guarded_sigil : (guards : Bool) (byte : ℕ) → sigil_of guards byte ≡ Some Guard → IsTrue guards
guarded_sigil true byte e = refl
guarded_sigil false byte e = grind (arith, common_steps)

-- the sigil for the byte of a sigil
sigil_of-byte : (guards : Bool) (s : Sigil) → (s ≡ Guard → IsTrue guards) → sigil_of guards (byte_of s) ≡ Some s
sigil_of-byte guards Guard h = rw (h refl)
sigil_of-byte guards Infallible h = refl
sigil_of-byte guards Quiet h = refl

-- the sigils have different bytes
byte_of-exact : (s t : Sigil) → byte_of s ≡ byte_of t → s ≡ t
byte_of-exact Guard Guard e = refl
byte_of-exact Guard Infallible e = absurd (omega arith)
byte_of-exact Guard Quiet e = absurd (omega arith)
byte_of-exact Infallible Guard e = absurd (omega arith)
byte_of-exact Infallible Infallible e = refl
byte_of-exact Infallible Quiet e = absurd (omega arith)
byte_of-exact Quiet Guard e = absurd (omega arith)
byte_of-exact Quiet Infallible e = absurd (omega arith)
byte_of-exact Quiet Quiet e = refl

-- the keys are the sigils before index `i` of the text, which are all different
pub record IsGathered (guards : Bool) (text : List ℕ) (i : ℕ) (keys : List Sigil) : Type 0 where
  pub sigils : List Sigil
  pub different : AllPairs (λ s t. s ≢ t) sigils
  pub guarded : Contains sigils Guard → IsTrue guards
  pub front : map byte_of sigils ≡ take i text
  pub keys_same : (s : Sigil) → Contains keys s ↔ Contains sigils s

-- a sigil that isn't in a list differs from each of its elements
apart_from_new : (sigils : List Sigil) (s : Sigil) → (Contains sigils s → ⊥) → (k : ℕ) (d : Sigil) → k < length sigils → get_or sigils k d ≢ s
apart_from_new sigils s new k d h e = new (k, h, get_or_default sigils k s d h ∙ e)

-- a key of a set after one is added
key_after : (before after : BTreeSet Sigil) (sigils : List Sigil) (s q : Sigil) (here : Bool) → is_at (order s) q ≡ here
    → sorted.contains order after q ≡ cond here true (sorted.contains order before q)
    → (Contains before.keys q → Contains sigils q) → Contains after.keys q → Contains (sigils ++ s ∷ []) q
key_after before after sigils s q true at update same among =
    subst (λ (t : Sigil). Contains (sigils ++ s ∷ []) t) (order-exact s q at) (Contains-push sigils s)
key_after before after sigils s q false at update same among =
    Contains-append_left sigils (s ∷ []) q (same (Contains-from_set before q (sym update ∙ set_contains-from after q among)))

cond-true : (b : Bool) → cond b true true ≡ true
cond-true true = refl
cond-true false = refl

-- the keys of a set after one is added
keys_after : (before after : BTreeSet Sigil) (sigils : List Sigil) (s q : Sigil)
    → sorted.contains order after q ≡ cond (is_at (order s) q) true (sorted.contains order before q)
    → Contains before.keys q ↔ Contains sigils q → Contains after.keys q ↔ Contains (sigils ++ s ∷ []) q
keys_after before after sigils s q update same =
    let at = is_at (order s) q in (
      key_after before after sigils s q at refl update same.0,
      λ among. Contains-from_set after q (update ∙ ⊎_elim
          (λ (old : Contains sigils q). ap (λ (b : Bool). cond at true b) (set_contains-from before q (same.1 old)) ∙ cond-true at)
          (λ (e : s ≡ q). ap (λ (b : Bool). cond b true (sorted.contains order before q)) (subst (λ (t : Sigil). is_at (order s) t ≡ true) e (order-refl s)))
          (Contains-push_cases sigils s q among)),
    )

-- one more sigil, which is a new one
pub gathered_more : (guards : Bool) (text : List ℕ) (i : ℕ) (before after : BTreeSet Sigil) (s : Sigil) → i < length text
    → sigil_of guards (get_or text i 0) ≡ Some s → sorted.contains order before s ≡ false
    → ((q : Sigil) → sorted.contains order after q ≡ cond (is_at (order s) q) true (sorted.contains order before q))
    → IsGathered guards text i before.keys → IsGathered guards text (i + 1) after.keys
gathered_more guards text i before after s h is new update g =
    let fresh : Contains g.sigils s → ⊥ = λ among. let found = set_contains-from before s ((g.keys_same s).1 among) in cc in
    record {
      sigils = g.sigils ++ s ∷ [];
      different = all_pairs_push (λ a b. a ≢ b) g.sigils s g.different (apart_from_new g.sigils s fresh);
      guarded = λ among. ⊎_elim g.guarded (λ e. guarded_sigil guards (get_or text i 0) (is ∙ ap (λ (x : Sigil). Some x) e)) (Contains-push_cases g.sigils s Guard among);
      front = map-append byte_of g.sigils (s ∷ []) ∙ ap (λ (l : List ℕ). l ++ byte_of s ∷ []) g.front ∙ ap (λ (b : ℕ). take i text ++ b ∷ []) (sym (byte_of-sigil guards (get_or text i 0) s is)) ∙ sym (take_more text i 0 h);
      keys_same = λ q. keys_after before after g.sigils s q (update q) (g.keys_same q);
    }

-- the next byte isn't a new sigil
abbrev pub IsStopped : Bool → List ℕ → List Sigil → Type 0
IsStopped guards rest keys = (x : Sigil) (v : List ℕ) → rest ≡ byte_of x ∷ v → sigil_of guards (byte_of x) ≡ Some x → Contains keys x

-- of two lists of sigils at the front of a text, one begins with the other
common_front : (a b : List Sigil) (r t : List ℕ) → map byte_of a ++ r ≡ map byte_of b ++ t
    → ((u : List Sigil) × (a ≡ b ++ u)) ⊎ ((x : Sigil) × (u : List Sigil) × (v : List ℕ) × (b ≡ a ++ x ∷ u) × (r ≡ byte_of x ∷ v))
common_front a [] r t e = inl (a, refl)
common_front [] (x ∷ u) r t e = inr (x, u, map byte_of u ++ t, refl, e)
common_front (x ∷ a) (y ∷ b) r t e =
    let same : x ≡ y = byte_of-exact x y cc in
    let tails : map byte_of a ++ r ≡ map byte_of b ++ t = cc in
    ⊎_elim
    (λ w. inl (w.0, cc))
    (λ w. inr (w.0, w.1, w.2, cc, w.4))
    (common_front a b r t tails)

-- an element of a list of different sigils isn't among those before it
fresh_after : (a u : List Sigil) (x : Sigil) → AllPairs (λ s t. s ≢ t) (a ++ x ∷ u) → Contains a x → ⊥
fresh_after a u x different among =
    let long = length-append a (x ∷ u) in
    let lt = among.1 in
    let here : length a + 0 ≡ length a = omega arith in
    different among.0 (length a) x lt (omega arith)
    (get_or_append_left a (x ∷ u) x among.0 lt ∙ among.2
    ∙ sym (sym (ap (λ (k : ℕ). get_or (a ++ x ∷ u) k x) here) ∙ get_or-append-add a (x ∷ u) 0 x))

-- the sigils at the front of the text end if the next byte isn't a new sigil
none_after : (guards : Bool) (text : List ℕ) (i : ℕ) (keys : List Sigil) (g : IsGathered guards text i keys) → IsStopped guards (drop i text) keys
    → (sigils : List Sigil) → BeginsWithSigils guards text sigils → (x : Sigil) (u : List Sigil) (v : List ℕ)
    → sigils ≡ g.sigils ++ x ∷ u → drop i text ≡ byte_of x ∷ v → ⊥
none_after guards text i keys g stopped sigils begun x u v longer next =
    let there : Contains sigils x = subst (λ (l : List Sigil). Contains l x) (sym longer) (Contains-append_right g.sigils (x ∷ u) x (0, omega arith, refl)) in
    let is : sigil_of guards (byte_of x) ≡ Some x = sigil_of-byte guards x (λ e. begun.guarded (subst (λ (t : Sigil). Contains sigils t) e there)) in
    fresh_after g.sigils u x (subst (λ (l : List Sigil). AllPairs (λ s t. s ≢ t) l) longer begun.different) ((g.keys_same x).0 (stopped x v next is))

-- if the next byte isn't a new sigil, the keys are the sigils at the front of the text
all_of : (guards : Bool) (text : List ℕ) (i : ℕ) (keys : List Sigil) → IsGathered guards text i keys → IsStopped guards (drop i text) keys
    → (s : Sigil) → Contains keys s ↔ IsSigilOf guards text s
all_of guards text i keys g stopped s =
    let split : text ≡ map byte_of g.sigils ++ drop i text = sym (ap (λ (l : List ℕ). l ++ drop i text) g.front ∙ take-append-drop i text) in (
      λ (among : Contains keys s). (g.sigils, record { different = g.different; guarded = g.guarded; rest = drop i text; begins = split }, (g.keys_same s).0 among),
      λ (w : IsSigilOf guards text s). (g.keys_same s).1 (⊎_elim
          (λ (p : (u : List Sigil) × (g.sigils ≡ w.0 ++ u)). subst (λ (l : List Sigil). Contains l s) (sym p.1) (Contains-append_left w.0 p.0 s w.2))
          (λ p. absurd (none_after guards text i keys g stopped w.0 w.1 p.0 p.1 p.2 p.3 p.4))
          (common_front g.sigils w.0 (drop i text) w.1.rest (sym split ∙ w.1.begins))),
    )

-- the keys at the end of the loop
pub gathered_all : (guards : Bool) (text : List ℕ) (i : ℕ) (keys : List Sigil) → IsGathered guards text i keys → IsStopped guards (drop i text) keys
    → (result : List Sigil) → result ≡ keys → (s : Sigil) → Contains result s ↔ IsSigilOf guards text s
gathered_all guards text i keys g stopped result e s = rw e (all_of guards text i keys g stopped s)

-- at the end of the text there is no next byte
pub stopped_at_end : (guards : Bool) (text : List ℕ) (i : ℕ) (keys : List Sigil) → length text ≤ i → IsStopped guards (drop i text) keys
stopped_at_end guards text i keys h x v next is =
    let long = length-drop i text in
    let more : length (drop i text) ≡ length v + 1 = ap length next ∙ omega arith in
    absurd (omega arith)

-- the byte at an index
next_byte : (text rest : List ℕ) (i b : ℕ) → drop i text ≡ b ∷ rest → get_or text i 0 ≡ b
next_byte text rest i b next =
    let z : i + 0 ≡ i = omega arith in
    sym (ap (λ (k : ℕ). get_or text k 0) z) ∙ sym (get_or-drop i text 0 0) ∙ ap (λ (l : List ℕ). get_or l 0 0) next

-- a byte that isn't a sigil isn't a new one
pub stopped_at_other : (guards : Bool) (text : List ℕ) (i : ℕ) (keys : List Sigil) → sigil_of guards (get_or text i 0) ≡ None → IsStopped guards (drop i text) keys
stopped_at_other guards text i keys other x v next is =
    let here : get_or text i 0 ≡ byte_of x = next_byte text v i (byte_of x) next in
    let both : sigil_of guards (get_or text i 0) ≡ Some x = ap (λ (b : ℕ). sigil_of guards b) here ∙ is in
    absurd cc

-- a repeated sigil isn't a new one
pub stopped_at_again : (guards : Bool) (text : List ℕ) (i : ℕ) (set : BTreeSet Sigil) (s : Sigil) → sigil_of guards (get_or text i 0) ≡ Some s
    → sorted.contains order set s ≡ true → IsStopped guards (drop i text) set.keys
stopped_at_again guards text i set s again found x v next is =
    let here : get_or text i 0 ≡ byte_of x = next_byte text v i (byte_of x) next in
    let both : sigil_of guards (get_or text i 0) ≡ Some x = ap (λ (b : ℕ). sigil_of guards b) here ∙ is in
    let one : s ≡ x = cc in
    Contains-from_set set x (subst (λ (t : Sigil). sorted.contains order set t ≡ true) one found)
