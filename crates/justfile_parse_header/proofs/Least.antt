-- The argument with the least text, found from the first attribute to the last.
use Rattle.std.proofs.Common.{◌≡◌, ◌∙◌, ℕ, List, [], ◌∷◌, Bool, true, false, cond, not, map, Option, Some, None, refl, sym, ap, true≢false}
use Rattle.std.specs.Cmp.{IsTotalOrder, on_total}
use Rattle.std.specs.Cmp.Lexicographic.{nat_list_cmp_total}
use Rattle.std.specs.List.{cons_option, filter}
use Rattle.std.specs.Option.{option_map}
use Rattle.std.specs.Ordering.{is_gt, ordering_reverse}
use Rattle.std.specs.declared.cmp.Ordering.{Ordering}
use Rattle.std.specs.declared.cmp.Ordering.TheVariants.{Less, Equal, Greater}
use Rattle.justfile_attribute.specs.Attribute.{leaf_attribute_of}
use Rattle.justfile_attribute.specs.declared.attribute.Attribute.{Attribute}
use Rattle.justfile_attribute_set.specs.Keys.{firsts}
use Rattle.justfile_attribute_set.specs.Pairs.{Pair, leaf_entry_of}
use Rattle.justfile_model.specs.Meanings.AttributeRules.{arg_rules, least, lesser, rules_in}
use Rattle.justfile_model.specs.Trees.ContentLeaf.{text_cmp}
use Rattle.justfile_model.specs.Meanings.Meaning.{text_of}
use Rattle.justfile_model.specs.Meanings.RecipeRules.{is_parameter}
use Rattle.justfile_model.specs.Trees.Tree.{Quoted}
use Rattle.justfile_parse_header.specs.Arguments.{least_undefined, lesser_of, undefined_in}
use Rattle.justfile_parse_header.specs.HeaderTable.{LeafParameter, Rules}
use Rattle.justfile_parse_header.specs.Options.{of_rules}
use Rattle.justfile_parse_header.proofs.ArgAttributes.{rules_left, rules_kept}
use Rattle.justfile_expression.specs.LeafViews.{views_leaves}
use Rattle.justfile_expression.specs.LeafTree.{Leaf}

-- ---- the lesser of three

module _ {X : Type 0} (text : X → List ℕ) where
  abbrev R : X → X → Ordering
  R x y = text_cmp (text x) (text y)

  order : IsTotalOrder R
  order = on_total text nat_list_cmp_total

  back : (x y : X) (o : Ordering) → R x y ≡ o → R y x ≡ ordering_reverse o
  back x y o e = order.antisymm y x ∙ ap ordering_reverse e

  greater : (o : Ordering) → is_gt o ≡ true → o ≡ Greater
  greater Less h = absurd (true≢false (sym h))
  greater Equal h = absurd (true≢false (sym h))
  greater Greater h = refl

  module _ (p q r : X) where
    above : is_gt (R p q) ≡ true → is_gt (R q r) ≡ true → is_gt (R p r) ≡ true
    above e f =
        let first = back p q Greater (greater (R p q) e) in
        let second = back q r Greater (greater (R q r) f) in
        ap is_gt (back r p Less (order.trans r q p second first))

    not_above : is_gt (R p q) ≡ false → is_gt (R q r) ≡ false → is_gt (R p r) ≡ false
    not_above = go (R p q) (R q r) refl refl
      where
        go : (a b : Ordering) → R p q ≡ a → R q r ≡ b → is_gt (R p q) ≡ false → is_gt (R q r) ≡ false → is_gt (R p r) ≡ false
        go Less Less e f h k = ap is_gt (order.trans p q r e f)
        go Less Equal e f h k =
            ap is_gt (order.antisymm p r ∙ ap ordering_reverse (sym (order.congr q r p f)) ∙ sym (order.antisymm p q) ∙ e)
        go Less Greater e f h k = absurd (true≢false (sym (ap is_gt f) ∙ k))
        go Equal b e f h k = ap is_gt (order.congr p q r e) ∙ k
        go Greater b e f h k = absurd (true≢false (sym (ap is_gt e) ∙ h))

    pub lesser_regroups : lesser text p (Some (lesser text q (Some r))) ≡ lesser text (lesser text p (Some q)) (Some r)
    lesser_regroups = go (is_gt (R q r)) (is_gt (R p q)) refl refl
      where
        go : (b a : Bool) → is_gt (R q r) ≡ b → is_gt (R p q) ≡ a
            → cond (is_gt (R p (cond b r q))) (cond b r q) p ≡ cond (is_gt (R (cond a q p) r)) r (cond a q p)
        go true true e f = ap (λ c. cond c r p) (above f e) ∙ sym (ap (λ c. cond c r q) e)
        go true false e f = refl
        go false true e f = ap (λ c. cond c q p) f ∙ sym (ap (λ c. cond c r q) e)
        go false false e f = ap (λ c. cond c q p) f ∙ sym (ap (λ c. cond c r p) (not_above f e))

abbrev Text : Quoted Leaf → List ℕ
Text = text_of views_leaves

regroups : (f g h : Option (Quoted Leaf)) → lesser_of f (lesser_of g h) ≡ lesser_of (lesser_of f g) h
regroups None g h = refl
regroups (Some p) None h = refl
regroups (Some p) (Some q) None = refl
regroups (Some p) (Some q) (Some r) = ap Some (lesser_regroups Text p q r)

-- ---- along attributes

abbrev name_of : Rules → Quoted Leaf
name_of r = r.name

named_lesser : (a : Rules) (o : Option Rules) → name_of (lesser (λ (r : Rules). Text r.name) a o) ≡ lesser Text a.name (option_map name_of o)
named_lesser a None = refl
named_lesser a (Some b) = go (is_gt (text_cmp (Text a.name) (Text b.name)))
  where
    go : (g : Bool) → name_of (cond g b a) ≡ cond g b.name a.name
    go true = refl
    go false = refl

-- the least name of these rules
abbrev least_named : List Rules → Option (Quoted Leaf)
least_named rules = option_map name_of (least (λ (r : Rules). Text r.name) rules)

one_more : (a : Rules) (others : List Rules) (is : Bool) → least_named (cond (not is) (a ∷ others) others) ≡ lesser_of (cond is None (Some a.name)) (least_named others)
one_more a others true = refl
one_more a others false = go (least (λ (r : Rules). Text r.name) others)
  where
    go : (o : Option Rules) → Some (name_of (lesser (λ (r : Rules). Text r.name) a o)) ≡ lesser_of (Some a.name) (option_map name_of o)
    go None = refl
    go (Some b) = ap Some (named_lesser a (Some b))

module _ (parameters : List LeafParameter) where
  -- the least name in these attributes, as text, that isn't the name of a parameter
  abbrev pub least_in : List Attribute → Option (Quoted Leaf)
  least_in [] = None
  least_in (a ∷ others) = lesser_of (undefined_in parameters (leaf_attribute_of a)) (least_in others)

  least_is : (attributes : List Attribute) → least_undefined parameters (rules_left attributes) ≡ least_in attributes
  least_is [] = refl
  least_is (a ∷ others) = go (rules_in (leaf_attribute_of a)) ∙ ap (lesser_of (undefined_in parameters (leaf_attribute_of a))) (least_is others)
    where
      go : (o : Option Rules) → least_undefined parameters (cons_option o (rules_left others))
          ≡ lesser_of (of_rules None (λ r. cond (is_parameter views_leaves parameters r) None (Some r.name)) o) (least_undefined parameters (rules_left others))
      go None = refl
      go (Some a) = one_more a (filter (λ r. not (is_parameter views_leaves parameters r)) (rules_left others)) (is_parameter views_leaves parameters a)

  pub begins : (ps : List Pair) (left : List Attribute) → left ≡ firsts ps → least_undefined parameters (arg_rules (map leaf_entry_of ps)) ≡ lesser_of None (least_in left)
  begins ps left e = ap (least_undefined parameters) (sym (rules_kept ps left e)) ∙ least_is left

  pub goes_on : (all found : Option (Quoted Leaf)) (a : Attribute) (left rest : List Attribute) → left ≡ a ∷ rest → all ≡ lesser_of found (least_in left)
      → all ≡ lesser_of (lesser_of found (undefined_in parameters (leaf_attribute_of a))) (least_in rest)
  goes_on all found a left rest is e = e ∙ ap (λ l. lesser_of found (least_in l)) is ∙ regroups found (undefined_in parameters (leaf_attribute_of a)) (least_in rest)

  pub ends : (all found : Option (Quoted Leaf)) (left : List Attribute) → left ≡ [] → all ≡ lesser_of found (least_in left) → all ≡ found
  ends all found left none e = e ∙ ap (λ l. lesser_of found (least_in l)) none ∙ alone found
    where
      alone : (o : Option (Quoted Leaf)) → lesser_of o None ≡ o
      alone None = refl
      alone (Some q) = refl
