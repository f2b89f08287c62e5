-- The order of the code's attributes is that of their trees, if their derived fields are right.
use Rattle.std.proofs.Common.{◌≡◌, ◌∙◌, ℕ, List, [], ◌∷◌, map, Option, Some, None, is_some, refl, sym, ap, codes, true, false}
use denote.Enum.Bare.{tag_one}
use denote.Enum.Declared.{tag_of}
use Rattle.std.proofs.lemmas.Map.Lookups.{exact_unsigned}
use Rattle.std.specs.Global.{Box}
use Rattle.std.specs.Option.{option_map}
use Rattle.std.specs.Ordering.{nat_cmp, ordering_then, is_ne, on}
use Rattle.std.specs.Cmp.Lexicographic.{slice_cmp}
use Rattle.std.specs.declared.cmp.Ordering.{Ordering}
use Rattle.std.specs.declared.cmp.Ordering.TheVariants.{Less, Equal, Greater}
use Rattle.justfile_vocabulary.specs.contracts.attribute_kind.AttributeKind as attribute_kinds
use Rattle.justfile_model.specs.Trees.KeyLaws.{then_end}
use Rattle.justfile_model.specs.Lexing.Tok.{tok_of}
use Rattle.justfile_expression.specs.Expression.{expr_of, literal_tok}
use Rattle.justfile_token.specs.StringLiteral.{IsSameLiteral}
use Rattle.justfile_token.specs.declared.name.Name.{Name}
use Rattle.justfile_token.specs.declared.string_literal.StringLiteral.{StringLiteral}
use Rattle.justfile_token.specs.declared.token.Token.{Token}
use Rattle.justfile_model.specs.Trees.ContentKeys.{attribute_key, attribute_keys, kind_of_attribute, expr_key, bound_number_key, bound_word_key, option_name_key, own_name_key, quoted_key, word_key}
use Rattle.justfile_model.specs.Trees.ContentKeys as keys
use Rattle.justfile_model.specs.Trees.ContentLeaf as contents
use Rattle.justfile_model.specs.Trees.ContentLeaf.{ContentLeaf, content_cmp}
use Rattle.justfile_model.specs.Trees.Key.{Key, keys_cmp, leaf, node, end, next, sequence, keys_of, option_key, present_key}
use Rattle.justfile_model.specs.Trees.Tree.{Expr, Quoted}
use Rattle.justfile_expression.specs.Content.{expression_content_cmp}
use Rattle.justfile_leaves.specs.LeafContent.{token_content}
use Rattle.justfile_expression.specs.ContentLaws.{content_key_cmp}
use Rattle.justfile_expression.specs.LeafViews.{views_leaves}
use Rattle.justfile_expression.specs.LeafTree.{Leaf, leaf_tree_of}
use Rattle.justfile_expression.specs.SeenKeys.{key_seen, quoted_seen}
use Rattle.justfile_expression.specs.declared.expression.Expression.{Expression}
use Rattle.justfile_attribute.specs.Attribute.{attribute_by, attribute_of, leaf_attribute_of, literal_leaf, quoted_by, option_by, property_by, bound_by}
use Rattle.justfile_attribute.specs.New.{HasDerivedAttributeFields}
use Rattle.justfile_attribute.specs.Form.{case_kind}
use Rattle.justfile_attribute.specs.Order.{attribute_content_cmp, by_content, case_keys, content_key, count_key, expression_key, literal_key, name_key, text_key}
use Rattle.justfile_attribute_rules.specs.ArgumentRules.{IsNamedAs}
use Rattle.justfile_attribute.specs.declared.attribute.Attribute.{Attribute}
use Rattle.justfile_attribute.specs.declared.attribute.Attribute.TheVariants as attributes

-- ---- the parts of fields

pub expressions_compare : (a b : Expression) → expression_content_cmp a b ≡ by_content (expression_key a) (expression_key b)
expressions_compare a b = sym (content_key_cmp a b) ∙ λ i. by_content (key_seen a i) (key_seen b i)

abbrev quoted_of : StringLiteral → Quoted Leaf
quoted_of l = quoted_by leaf_tree_of literal_leaf (λ (t : Token). t) l

literal_is : (l : StringLiteral) → quoted_key views_leaves (quoted_of l) ≡ literal_key l
literal_is l = sym (quoted_seen l.expand l)

literals_are : (ls : List StringLiteral) → keys_of (quoted_key views_leaves) (map quoted_of ls) ≡ keys_of literal_key ls
literals_are [] = refl
literals_are (l ∷ ls) = λ i. next (literal_is l i) (literals_are ls i)

-- the key of an optional part, of which a function gives the view
seen_option : {X Y : Type 0} (f : Y → Key ContentLeaf) (g : X → Y) (o : Option X) → option_key f (option_map g o) ≡ option_key (λ x. f (g x)) o
seen_option f g None = refl
seen_option f g (Some x) = refl

-- copies of literals have the same key
pub same_literal_key : (a b : StringLiteral) → IsSameLiteral a b → literal_key a ≡ literal_key b
same_literal_key a b h =
    λ i. leaf (contents.literal (record { cooked = h.cooked i; expand = h.expand i; kind = h.kind i; part = h.part i; token = token_content (h.token i) }))

option_is : (name : StringLiteral) (key : Option Name) (literal : Option StringLiteral) → IsNamedAs name key literal
    → option_name_key views_leaves (quoted_of name) (option_by leaf_tree_of literal_leaf (λ (t : Token). t) key literal) ≡ option_key literal_key literal
option_is name (Some key) (Some literal) h = ap present_key (literal_is name ∙ sym (same_literal_key literal name h))
option_is name (Some key) None h = absurd h
option_is name None (Some literal) h = ap present_key (literal_is literal)
option_is name None None h = refl

own_is : (word : List ℕ) (key : Option Name) (literal : Option StringLiteral)
    → own_name_key views_leaves word (option_by leaf_tree_of literal_leaf (λ (t : Token). t) key literal) ≡ option_key name_key key
own_is word (Some key) literal = refl
own_is word None (Some literal) = refl
own_is word None None = refl

number_is : (name : StringLiteral) (key : Option Name) (number : Option ℕ)
    → bound_number_key views_leaves (bound_by leaf_tree_of literal_leaf (λ (t : Token). t) name key number) ≡ option_key count_key number
number_is name key None = refl
number_is name (Some key) (Some number) = refl
number_is name None (Some number) = refl

word_is : (word : List ℕ) (name : StringLiteral) (key : Option Name) (number : Option ℕ) → is_some key ≡ is_some number
    → bound_word_key views_leaves word (bound_by leaf_tree_of literal_leaf (λ (t : Token). t) name key number) ≡ option_key name_key key
word_is word name None None h = refl
word_is word name (Some key) (Some number) h = refl
word_is word name None (Some number) h = absurd cc
word_is word name (Some key) None h = absurd cc

-- ---- an attribute by its case

module _ {A B : Type 0} (expression : Expression → Expr A B) (leaf : StringLiteral → A) (position : Token → B) where
  pub kind_is : (a : Attribute) → kind_of_attribute (attribute_by expression leaf position a) ≡ case_kind a
  kind_is (attributes.Confirm None) = refl
  kind_is (attributes.Confirm (Some e)) = refl
  kind_is (attributes.Doc None) = refl
  kind_is (attributes.Doc (Some e)) = refl
  kind_is (attributes.Timestamp None) = refl
  kind_is (attributes.Timestamp (Some e)) = refl
  kind_is (attributes.Script None) = refl
  kind_is (attributes.Script (Some i)) = refl
  kind_is _ = refl

-- the kind is the same, whatever the tree keeps of leaves
pub kind_seen : (a : Attribute) → kind_of_attribute (attribute_of a) ≡ kind_of_attribute (leaf_attribute_of a)
kind_seen a = kind_is expr_of literal_tok tok_of a ∙ sym (kind_is leaf_tree_of literal_leaf (λ (t : Token). t) a)

fields_are : (a : Attribute) → HasDerivedAttributeFields a → attribute_keys views_leaves (leaf_attribute_of a) ≡ case_keys a
fields_are (attributes.Arg flag help property long long_key max max_key min min_key multiple name pattern short short_key value) h = λ i.
    next (seen_option (word_key views_leaves (codes "flag")) (λ (t : Token). t) flag i) (next (option_key text_key (sym h.no_help i))
    (next (seen_option (keys.property_key views_leaves (codes "help")) (property_by leaf_tree_of literal_leaf (λ (t : Token). t)) property i)
    (next (option_is name long_key long h.long_named i) (next (own_is (codes "long") long_key long i)
    (next (number_is name max_key max i) (next (word_is (codes "max") name max_key max h.max_keyed i)
    (next (number_is name min_key min i) (next (word_is (codes "min") name min_key min h.min_keyed i)
    (next (seen_option (word_key views_leaves (codes "multiple")) (λ (t : Token). t) multiple i) (next (literal_is name i)
    (next (seen_option (keys.property_key views_leaves (codes "pattern")) (property_by leaf_tree_of literal_leaf (λ (t : Token). t)) pattern i)
    (next (option_is name short_key short h.short_named i) (next (own_is (codes "short") short_key short i)
    (next (seen_option (expr_key views_leaves) (λ (e : Box Expression). leaf_tree_of e.value) value i) end))))))))))))))
fields_are (attributes.Cache extra inputs outputs) h = λ i.
    next (seen_option (expr_key views_leaves) (λ (e : Box Expression). leaf_tree_of e.value) extra i) (next (seen_option (expr_key views_leaves) (λ (e : Box Expression). leaf_tree_of e.value) inputs i)
    (next (seen_option (expr_key views_leaves) (λ (e : Box Expression). leaf_tree_of e.value) outputs i) end))
fields_are (attributes.Confirm None) h = refl
fields_are (attributes.Confirm (Some e)) h = refl
fields_are (attributes.Doc None) h = refl
fields_are (attributes.Doc (Some e)) h = refl
fields_are (attributes.Extension l) h = λ i. next (literal_is l i) end
fields_are (attributes.Group l) h = λ i. next (literal_is l i) end
fields_are (attributes.Metadata ls) h = λ i. next (sequence (literals_are ls.items i)) end
fields_are (attributes.Timestamp None) h = refl
fields_are (attributes.Timestamp (Some e)) h = refl
fields_are (attributes.Script None) h = refl
fields_are (attributes.Script (Some interpreter)) h = λ i.
    next (present_key (sequence (next (literal_is interpreter.command i) (next (sequence (literals_are interpreter.arguments.items i)) end)))) end
fields_are _ h = refl

-- the key of an attribute with right derived fields is that of its tree
pub key_is : (a : Attribute) → HasDerivedAttributeFields a → attribute_key views_leaves (leaf_attribute_of a) ≡ content_key a
key_is a h = λ i. node (tag_of attribute_kinds.the_type (kind_is leaf_tree_of literal_leaf (λ (t : Token). t) a i)) (fields_are a h i)

-- ---- comparisons one after another

then_then : (a b c : Ordering) → ordering_then (ordering_then a b) c ≡ ordering_then a (ordering_then b c)
then_then Less b c = refl
then_then Equal b c = refl
then_then Greater b c = refl

pub chained : (a t b l lk m mk n nk u v p s sk w : Ordering)
    → ordering_then (ordering_then (ordering_then (ordering_then (ordering_then (ordering_then (ordering_then (ordering_then (ordering_then (ordering_then a t) b)
    (ordering_then l lk)) (ordering_then m mk)) (ordering_then n nk)) u) v) p) (ordering_then s sk)) w
    ≡ ordering_then a (ordering_then t (ordering_then b (ordering_then l (ordering_then lk (ordering_then m (ordering_then mk (ordering_then n (ordering_then nk
    (ordering_then u (ordering_then v (ordering_then p (ordering_then s (ordering_then sk (ordering_then w Equal))))))))))))))
chained a t b l lk m mk n nk u v p s sk w = simp (then_then, then_end)

pub then_are : {a b p q : Ordering} (r : Ordering) → p ≡ a → q ≡ b → r ≡ ordering_then p q → r ≡ ordering_then a b
then_are r e f g = g ∙ λ i. ordering_then (e i) (f i)

-- ---- kinds, and then fields

-- the index of its kind in declared order
abbrev pub kind_index : Attribute → ℕ
kind_index a = tag_of attribute_kinds.the_type (case_kind a)

whole : (a b : Attribute) → attribute_content_cmp a b ≡ ordering_then (nat_cmp (kind_index a) (kind_index b)) (keys_cmp content_cmp (case_keys a) (case_keys b))
whole a b = refl

pub kind_index_is : (a : Attribute) → tag_of attribute_kinds.the_type (kind_of_attribute (attribute_of a)) ≡ kind_index a
kind_index_is a = ap (tag_of attribute_kinds.the_type) (kind_is expr_of literal_tok tok_of a)

unequal : (o rest : Ordering) → is_ne o ≡ true → o ≡ ordering_then o rest
unequal Less rest e = refl
unequal Equal rest e = absurd cc
unequal Greater rest e = refl

equal : (o : Ordering) → is_ne o ≡ false → o ≡ Equal
equal Less e = absurd cc
equal Equal e = refl
equal Greater e = absurd cc

module _ (a b : Attribute) (o : Ordering) (ordered : o ≡ nat_cmp (kind_index a) (kind_index b)) where
  pub kinds_decide : is_ne o ≡ true → o ≡ attribute_content_cmp a b
  kinds_decide e =
      unequal o (keys_cmp content_cmp (case_keys a) (case_keys b)) e
      ∙ ap (λ (p : Ordering). ordering_then p (keys_cmp content_cmp (case_keys a) (case_keys b))) ordered ∙ sym (whole a b)

  pub same_kinds : is_ne o ≡ false → case_kind a ≡ case_kind b
  same_kinds e = tag_one attribute_kinds.the_type tt (case_kind a) (case_kind b) (exact_unsigned (kind_index a) (kind_index b) (sym ordered ∙ equal o e))

  pub fields_decide : (r : Ordering) → is_ne o ≡ false → r ≡ keys_cmp content_cmp (case_keys a) (case_keys b) → r ≡ attribute_content_cmp a b
  fields_decide r e f = f ∙ sym (whole a b ∙ ap (λ (p : Ordering). ordering_then p (keys_cmp content_cmp (case_keys a) (case_keys b))) (sym ordered ∙ equal o e))

-- ---- lists of literals

pub listed : {X : Type 0} (key_of : X → Key ContentLeaf) (xs ys : List X)
    → keys_cmp content_cmp (keys_of key_of xs) (keys_of key_of ys) ≡ slice_cmp (on key_of by_content) xs ys
listed key_of [] [] = refl
listed key_of [] (y ∷ ys) = refl
listed key_of (x ∷ xs) [] = refl
listed key_of (x ∷ xs) (y ∷ ys) = ap (ordering_then (by_content (key_of x) (key_of y))) (listed key_of xs ys)
