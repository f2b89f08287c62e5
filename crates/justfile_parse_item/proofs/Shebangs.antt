-- Lines that begin with a text that begins with `#!`.
use Rattle.std.proofs.Common.{rules, ◌≡◌, ◌⊎◌, ℕ, Bool, true, false, ◌||◌, IsTrue, inl, inr, List, [], ◌∷◌, ◌++◌, drop, length, map, Option, Some, codes, refl, sym, ap, subst}
use Rattle.std.specs.Prelude.{◌↔◌, nat_eq}
use Rattle.std.specs.List.{slice_get, starts_with}
use Rattle.std.specs.Option.{option_and_then}
use Rattle.std.proofs.lemmas.Bool.Decides.{Decides-eqb}
use Rattle.std.proofs.lemmas.Slice.Eq.{starts_is}
use Rattle.justfile_attribute_set.specs.AttributeSet.{attributes_of}
use Rattle.justfile_attribute_set.specs.Attributes.{has_kind}
use Rattle.justfile_token.specs.Token.{lexeme_of}
use Rattle.justfile_vocabulary.specs.declared.attribute_kind.AttributeKind.TheVariants as kinds
use Rattle.justfile_line.specs.Line.{IsShebang, text_of_fragment}
use Rattle.justfile_line.specs.declared.fragment.Fragment.{Fragment}
use Rattle.justfile_line.specs.declared.fragment.Fragment.TheVariants as fragments
use Rattle.justfile_line.specs.declared.line.Line.{Line}
use Rattle.justfile_item.specs.declared.recipe.UnresolvedRecipe.{UnresolvedRecipe}
use Rattle.justfile_model.specs.Trees.Tree as tree
use Rattle.justfile_parse_item.specs.ItemTable.{has_shebang, is_shebang}
use Rattle.justfile_parse_item.specs.Filled.{HasShebang}
use Rattle.justfile_parse_item_parts.specs.BodyTrees.{fragment_tree, line_tree}

-- tests of the same
alike : (a b : Bool) (P : Type 0) → IsTrue a ↔ P → IsTrue b ↔ P → a ≡ b
alike true true P h k = refl
alike true false P h k = let x : IsTrue false = k.1 (h.0 (search rules)) in cc
alike false true P h k = let x : IsTrue false = h.1 (k.0 (search rules)) in cc
alike false false P h k = refl

-- a text that begins so
abbrev Begins : Option (List ℕ) → Type 0
Begins text = (rest : List ℕ) × (text ≡ Some (codes "#!" ++ rest))

some_is : (a b : List ℕ) → ◌≡◌ {A = Option (List ℕ)} (Some a) (Some b) → a ≡ b
some_is a b h = cc

is_true : (b : Bool) → b ≡ true → IsTrue b
is_true b e = search (rules, e)

true_is : (b : Bool) → IsTrue b → b ≡ true
true_is true h = refl
true_is false h = cc

begins_is : (text : List ℕ) → IsTrue (starts_with nat_eq text (codes "#!")) ↔ Begins (Some text)
begins_is text =
    let is = starts_is Decides-eqb text (codes "#!") (starts_with nat_eq text (codes "#!")) refl in (
      (λ h. (drop (length (codes "#!")) text, ap (λ (t : List ℕ). Some t) (is.0 (true_is (starts_with nat_eq text (codes "#!")) h)))),
      (λ b. is_true (starts_with nat_eq text (codes "#!")) (is.1 b.0 (some_is text (codes "#!" ++ b.0) b.1))),
    )

-- a line's first text, by its fragments
abbrev text_by : List Fragment → Option (List ℕ)
text_by fs = option_and_then text_of_fragment (slice_get fs 0)

by_fragments : (number : ℕ) (fs : List Fragment) → IsTrue (is_shebang (tree.Line number (map fragment_tree fs))) ↔ Begins (text_by fs)
by_fragments number [] = ((λ h. cc), (λ b. cc))
by_fragments number (fragments.Interpolation e ∷ fs) = ((λ h. cc), (λ b. cc))
by_fragments number (fragments.Text token ∷ fs) = begins_is (lexeme_of token)

pub shebang_is : (l : Line) (a : Bool) → IsTrue a ↔ IsShebang l → a ≡ is_shebang (line_tree l)
shebang_is l a h = alike a (is_shebang (line_tree l)) (IsShebang l) h (by_fragments l.number l.fragments.items)

-- the first line
by_lines : (ls : List Line) → IsTrue (has_shebang (map line_tree ls)) ↔ HasShebang ls
by_lines [] = ((λ h. cc), (λ b. absurd b))
by_lines (l ∷ ls) = by_fragments l.number l.fragments.items

either : (b c : Bool) {P : Type 0} → IsTrue c ↔ P → IsTrue (b || c) ↔ (IsTrue b ⊎ P)
either true c h = (λ x. inl x, λ y. search rules)
either false c {P = P} h = (λ x. inr (h.0 x), back)
  where
    back : IsTrue false ⊎ P → IsTrue c
    back (inl x) = cc
    back (inr p) = h.1 p

pub shebang_given : (r : UnresolvedRecipe) → r.shebang ≡ has_kind kinds.Script (attributes_of r.attributes) || has_shebang (map line_tree r.body.items)
    → IsTrue r.shebang ↔ (IsTrue (has_kind kinds.Script (attributes_of r.attributes)) ⊎ HasShebang r.body.items)
shebang_given r is =
    subst (λ (b : Bool). IsTrue b ↔ (IsTrue (has_kind kinds.Script (attributes_of r.attributes)) ⊎ HasShebang r.body.items)) (sym is)
    (either (has_kind kinds.Script (attributes_of r.attributes)) (has_shebang (map line_tree r.body.items)) (by_lines r.body.items))
