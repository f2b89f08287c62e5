-- Mentions that are appended.
use Rattle.std.proofs.Common.{◌≡◌, ◌∙◌, ◌<◌, ◌+◌, ℕ, suc, Bool, Option, List, [], ◌∷◌, ◌++◌, length, map, take, get_or, Result, Ok, Err, IfOk, IsPermutation, refl, sym, ap, subst, append_assoc, append-nil, arith}
use Rattle.std.specs.List.Sorted.{IsNonDecreasingBy}
use Rattle.std.proofs.lemmas.List.{get_or-map, length-map, length-take-le, map-append, map_push, take_more}
use Rattle.std.proofs.lemmas.List.Sorted.{IsPermutation-map}
use Rattle.justfile_item.specs.declared.item.Item.{Item}
use Rattle.justfile_references.proofs.Gathered.{mapped}
use Rattle.justfile_references.specs.Defaults.{defaults_of}
use Rattle.justfile_references.specs.References.{item_references}
use Rattle.justfile_references.specs.declared.defaults.Defaults.{Defaults}
use Rattle.justfile_references.specs.declared.reference.Reference.{Reference}
use Rattle.justfile_token.specs.Token.{lexeme_of}
use Rattle.justfile_token.specs.declared.token.Token.{Token}
use Rattle.editor_language.specs.declared.mention.Mention.{Mention}
use Rattle.editor_language.specs.declared.mention.Role.{Role}
use Rattle.justfile_mentions.specs.Arguments.{arguments_of}
use Rattle.justfile_mentions.specs.Mentions.{AreByReferences, AreMentions, AreOfItem, meaning, parameters_among, scope_of, to_note}
use Rattle.justfile_mentions.specs.Noted.{Noted, noted}

-- the mention that a reference is
pub made : (index : ℕ) (defaults : Defaults) (parameters : List Token) (r : Reference) (role : Role) (name : List ℕ) (scope : Option ℕ) (start end : ℕ) (defines : Bool)
    → role ≡ meaning defaults parameters r → name ≡ lexeme_of r.token → scope ≡ scope_of index role → start ≡ r.token.offset → end ≡ r.token.offset + r.token.length → defines ≡ r.defines
    → ◌≡◌ {A = Noted} (record { role = role; name = name; scope = scope; span = record { start = start; end = end }; defines = defines }) (to_note index defaults parameters r)
made index defaults parameters r role name scope start end defines is_role is_name is_scope is_start is_end is_defines =
    λ i. record {
      role = is_role i;
      name = is_name i;
      scope = (is_scope ∙ ap (scope_of index) is_role) i;
      span = record { start = is_start i; end = is_end i };
      defines = is_defines i;
    }

-- the mentions that one more reference is
pub noted_more : (f : Reference → Noted) (xs : List Reference) (i : ℕ) (x : Reference) → i < length xs → x ≡ get_or xs i x → (old new : List Mention) (m : Mention) → map noted old ≡ map f (take i xs)
    → new ≡ old ++ m ∷ [] → noted m ≡ f x → map noted new ≡ map f (take (i + 1) xs)
noted_more f xs i x lt is old new m h e n =
    mapped xs i x lt is [] (map noted old) (map noted new) f h (ap (map noted) e ∙ map_push noted old m ∙ ap (λ (v : Noted). map noted old ++ v ∷ []) n)

-- the mentions that all references of an item are
pub referring : {A E : Type 0} (r : Result A E) (view : A → List Noted) (index : ℕ) (item : Item) (defaults : Defaults) (found passed lent : List Reference) (parameters kept : List Token)
    → IfOk r (λ a. view a ≡ map (to_note index defaults parameters) passed) → parameters ≡ kept → kept ≡ parameters_among lent → lent ≡ found → passed ≡ found
    → IsPermutation (item_references item) found → defaults ≡ defaults_of item → IfOk r (λ a. AreByReferences index item (view a))
referring (Ok a) view index item defaults found passed lent parameters kept is p k l s all d =
    let known : parameters ≡ parameters_among found = p ∙ k ∙ ap parameters_among l in
    record { found = found; are_all = all; are = is ∙ (λ i. map (to_note index (d i) (known i)) (s i)) }
referring (Err e) view index item defaults found passed lent parameters kept is p k l s all d = tt

-- mentions whose places rise, where less is known of each
rising : (xs : List Mention) → IsNonDecreasingBy (λ (m : Mention). m.span.start) xs → IsNonDecreasingBy (λ (n : Noted). n.span.start) (map noted xs)
rising [] h i j d le lt = let none : length (map noted []) ≡ 0 = length-map [] noted in omega (arith, none)
rising (x ∷ xs) h i j d le lt =
    let inside : j < length (x ∷ xs) = subst (λ (n : ℕ). j < n) (length-map (x ∷ xs) noted) lt in
    rw (get_or-map noted (x ∷ xs) i x d (omega arith), get_or-map noted (x ∷ xs) j x d inside) (h i j x le inside)

-- the mentions in an item: those that its references are and those in its attributes, in order
pub ordered : (index : ℕ) (item : Item) (first both sorted : List Mention) → AreByReferences index item (map noted first) → map noted both ≡ map noted first ++ arguments_of index item
    → IsPermutation both sorted → IsNonDecreasingBy (λ (m : Mention). m.span.start) sorted → AreOfItem index item (map noted sorted)
ordered index item first both sorted are is all order = record {
  by_references = map noted first;
  are_by_references = are;
  are_all = subst (λ (ms : List Noted). IsPermutation ms (map noted sorted)) is (IsPermutation-map noted both sorted all);
  in_order = rising sorted order;
}

-- the mentions in one more item
one_more : (index : ℕ) (xs : List Item) (x : Item) (found own : List Noted) → AreMentions index xs found → AreOfItem (index + length xs) x own → AreMentions index (xs ++ x ∷ []) (found ++ own)
one_more index [] x found own h o = record {
  first = own;
  rest = [];
  is = ap (λ (f : List Noted). f ++ own) h ∙ sym (append-nil own);
  are_own = let e : index + 0 ≡ index = omega arith in subst (λ (n : ℕ). AreOfItem n x own) e o;
  are_others = refl;
}
one_more index (y ∷ xs) x found own h o = record {
  first = h.first;
  rest = h.rest ++ own;
  is = ap (λ (f : List Noted). f ++ own) h.is ∙ append_assoc h.first h.rest own;
  are_own = h.are_own;
  are_others = let e : index + suc (length xs) ≡ suc index + length xs = omega arith in one_more (suc index) xs x h.rest own h.are_others (subst (λ (n : ℕ). AreOfItem n x own) e o);
}

-- those of an item of a list were appended to those of the items before it
pub appended : (xs : List Item) (i : ℕ) (x : Item) (found own next : List Mention) → i < length xs → x ≡ get_or xs i x → AreMentions 0 (take i xs) (map noted found) → AreOfItem i x (map noted own)
    → next ≡ found ++ own → AreMentions 0 (take (i + 1) xs) (map noted next)
appended xs i x found own next lt is h a added =
    let e : take i xs ++ x ∷ [] ≡ take (i + 1) xs = sym (take_more xs i x lt ∙ ap (λ (y : Item). take i xs ++ y ∷ []) (sym is)) in
    let n : i ≡ 0 + length (take i xs) = omega (arith, length-take-le i xs (omega arith)) in
    let of_item : AreOfItem (0 + length (take i xs)) x (map noted own) = subst (λ (m : ℕ). AreOfItem m x (map noted own)) n a in
    subst (λ (l : List Noted). AreMentions 0 (take (i + 1) xs) l) (sym (ap (map noted) added ∙ map-append noted found own))
    (subst (λ (ys : List Item). AreMentions 0 ys (map noted found ++ map noted own)) e (one_more 0 (take i xs) x (map noted found) (map noted own) h of_item))
