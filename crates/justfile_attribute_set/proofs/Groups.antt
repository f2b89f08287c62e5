-- Copies of the groups in the first pairs of a list, and their names.
use Rattle.std.proofs.Common.{◌≡◌, ◌∙◌, ℕ, ◌+◌, ◌<◌, List, [], ◌∷◌, ◌++◌, Option, Some, None, length, map, take, get_or, refl, sym, ap, subst}
use Rattle.std.specs.Prelude.{string_bytes}
use Rattle.std.specs.Borrow.{Bor}
use Rattle.std.specs.List.{AllZip, cons_option, filter_map}
use Rattle.std.proofs.lemmas.List.{append-nil, map-append, take_more}
use Rattle.std.proofs.lemmas.List.Elements.{AllZip-push, filter_map-append}
use Rattle.justfile_token.specs.StringLiteral.{IsSameLiteral}
use Rattle.justfile_token.specs.declared.string_literal.StringLiteral.{StringLiteral}
use Rattle.justfile_attribute.specs.declared.attribute.Attribute.{Attribute}
use Rattle.justfile_attribute.specs.declared.attribute.Attribute.TheVariants as attributes
use Rattle.justfile_attribute_set.specs.Attributes.{group_of, groups_in}
use Rattle.justfile_attribute_set.specs.Keys.{firsts}
use Rattle.justfile_attribute_set.specs.Pairs.{Pair}

groups_more : (ps : List Pair) (p : Pair) → groups_in (firsts (ps ++ p ∷ [])) ≡ groups_in (firsts ps) ++ groups_in (firsts (p ∷ []))
groups_more ps p = ap (filter_map group_of) (map-append (λ (q : Pair). q.0) ps (p ∷ [])) ∙ filter_map-append group_of (firsts ps) (firsts (p ∷ []))

groups_at : (all : List Pair) (i : ℕ) (p : Pair) (o : Option StringLiteral) → i < length all → p ≡ get_or all i p → group_of p.0 ≡ o
    → groups_in (firsts (take (i + 1) all)) ≡ groups_in (firsts (take i all)) ++ cons_option o []
groups_at all i p o h is e = ap (λ l. groups_in (firsts l)) (take_more all i p h ∙ ap (λ x. take i all ++ x ∷ []) (sym is)) ∙ groups_more (take i all) p ∙ ap (λ o. groups_in (firsts (take i all)) ++ cons_option o []) e

abbrev pub AreCopied : (copies : List StringLiteral) → (all : List Pair) → ℕ → Type 0
AreCopied copies all i = AllZip IsSameLiteral copies (groups_in (firsts (take i all)))

-- the next pair isn't a group
pub none_more : (copies : List StringLiteral) (all : List Pair) (i : ℕ) (p : Pair) → i < length all → p ≡ get_or all i p → group_of p.0 ≡ None
    → AreCopied copies all i → AreCopied copies all (i + 1)
none_more copies all i p h is e so_far = subst (AllZip IsSameLiteral copies) (sym (groups_at all i p None h is e ∙ append-nil (groups_in (firsts (take i all))))) so_far

-- the next pair is a group, which was copied
pub one_more : (copies later : List StringLiteral) (all : List Pair) (i : ℕ) (p : Pair) (copy group : StringLiteral) → i < length all → p ≡ get_or all i p
    → group_of p.0 ≡ Some group → IsSameLiteral copy group → later ≡ copies ++ copy ∷ [] → AreCopied copies all i → AreCopied later all (i + 1)
one_more copies later all i p copy group h is e same f so_far =
    subst (λ l. AllZip IsSameLiteral l (groups_in (firsts (take (i + 1) all)))) (sym f)
    (subst (AllZip IsSameLiteral (copies ++ copy ∷ [])) (sym (groups_at all i p (Some group) h is e))
    (AllZip-push IsSameLiteral copies (groups_in (firsts (take i all))) copy group so_far same))

abbrev name_of : StringLiteral → List ℕ
name_of group = string_bytes group.cooked

abbrev pub AreNames : (names : List (Bor (List ℕ))) → (all : List Pair) → ℕ → Type 0
AreNames names all i = map (λ name. name.now) names ≡ map name_of (groups_in (firsts (take i all)))

-- the next pair isn't a group
pub no_name : (names : List (Bor (List ℕ))) (all : List Pair) (i : ℕ) (p : Pair) → i < length all → p ≡ get_or all i p → group_of p.0 ≡ None
    → AreNames names all i → AreNames names all (i + 1)
no_name names all i p h is e so_far = so_far ∙ ap (map name_of) (sym (groups_at all i p None h is e ∙ append-nil (groups_in (firsts (take i all)))))

-- the next pair is a group, whose name was added
pub one_name : (names later : List (Bor (List ℕ))) (all : List Pair) (i : ℕ) (p : Pair) (name : Bor (List ℕ)) (group : StringLiteral) → i < length all → p ≡ get_or all i p
    → group_of p.0 ≡ Some group → name.now ≡ name_of group → later ≡ names ++ name ∷ [] → AreNames names all i → AreNames later all (i + 1)
one_name names later all i p name group h is e same f so_far =
    ap (map (λ (n : Bor (List ℕ)). n.now)) f ∙ map-append (λ (n : Bor (List ℕ)). n.now) names (name ∷ []) ∙ (λ j. so_far j ++ same j ∷ [])
    ∙ sym (map-append name_of (groups_in (firsts (take i all))) (group ∷ [])) ∙ ap (map name_of) (sym (groups_at all i p (Some group) h is e))

pub none_group : (a : Attribute) → ((l : StringLiteral) → a ≡ attributes.Group l → ⊥) → group_of a ≡ None
none_group (attributes.Group l) h = absurd (h l refl)
none_group _ h = refl
