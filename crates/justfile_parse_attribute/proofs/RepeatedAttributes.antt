-- Attributes that aren't allowed after others.
use Rattle.std.proofs.Common.{◌≡◌, ◌∙◌, ℕ, ◌+◌, ◌<◌, ◌≤◌, drop, get_or, length, Bool, true, false, List, [], ◌∷◌, ◌++◌, map, Option, Some, None, Result, Ok, refl, sym, ap, subst, string_bytes}
use Rattle.std.specs.Global.{Box}
use Rattle.std.specs.List.{IsLastAndRest}
use Rattle.std.proofs.lemmas.List.{at_drop_more, drop_all}
use Rattle.justfile_attribute.specs.Attribute.{leaf_attribute_of, literal_leaf, script_by, single_by}
use Rattle.justfile_attribute.specs.declared.attribute.Attribute.{Attribute}
use Rattle.justfile_attribute.specs.declared.interpreter.Interpreter.{Interpreter}
use Rattle.justfile_attribute_rules.specs.Made.{Makes, quoted_leaf}
use Rattle.justfile_vocabulary.specs.declared.attribute_kind.AttributeKind.{AttributeKind}
use Rattle.justfile_vocabulary.specs.declared.attribute_kind.AttributeKind.TheVariants as kinds
use Rattle.justfile_token.specs.StringLiteral.{IsSameLiteral}
use Rattle.justfile_token.specs.declared.fault.Fault.{Fault}
use Rattle.justfile_token.specs.declared.name.Name.{Name}
use Rattle.justfile_token.specs.declared.string_literal.StringLiteral.{StringLiteral}
use Rattle.justfile_token.specs.declared.token.Token.{Token}
use Rattle.justfile_model.specs.Meanings.AttributeRules.{duplicate_rule, excludes, label_of, quoted_value}
use Rattle.justfile_model.specs.Trees.ContentKeys.{kind_of_attribute}
use Rattle.justfile_model.specs.Trees.ContentLeaf.{LiteralValue, literal_value}
use Rattle.justfile_model.specs.LiteralTexts.Literals.{string_of, token_of}
use Rattle.justfile_model.specs.Meanings.Meaning.{quoted_text, text_of}
use Rattle.justfile_model.specs.Readers.NewAttribute as new
use Rattle.justfile_model.specs.Readers.NewAttribute.{Made, check_repeated}
use Rattle.justfile_model.specs.Trees.LeafView.{or_empty}
use Rattle.justfile_model.specs.Meanings.Rules.{DuplicateAttribute, DuplicateArgAttribute, DuplicateGroupAttribute}
use Rattle.justfile_model.specs.Trees.Tree as tree
use Rattle.justfile_model.specs.Trees.Tree.{Entry, Quoted}
use Rattle.justfile_written.specs.Written.{uncommented}
use Rattle.justfile_written.specs.declared.written.Written.{Written}
use Rattle.justfile_parse_attribute.specs.AddedAttributes.{ChecksLast, IsAdded}
use Rattle.justfile_parse_attribute.specs.Attributes.{entry_of_pair}
use Rattle.justfile_parse_attribute.specs.Labels.{LeafAttribute}
use Rattle.justfile_leaves.specs.LeafContent.{literal_content}
use Rattle.justfile_expression.specs.LeafViews.{views_leaves, leaf_cooked, leaf_literal}
use Rattle.justfile_expression.specs.LeafTree.{Leaf, Literal, leaf_tree_of, literal_of}
use Rattle.justfile_expression.specs.declared.expression.Expression.{Expression}

abbrev seen_single : AttributeKind → Option (Box Expression) → LeafAttribute
seen_single kind o = single_by leaf_tree_of literal_leaf (λ t. t) kind o

pub single_label : (kind : AttributeKind) (o : Option (Box Expression)) → label_of views_leaves (seen_single kind o) ≡ None
single_label kind None = refl
single_label kind (Some e) = refl

pub script_label : (o : Option (Interpreter StringLiteral)) → label_of views_leaves (script_by leaf_tree_of literal_leaf (λ (t : Token). t) o) ≡ None
script_label None = refl
script_label (Some i) = refl

-- a literal has its text
pub label_text : (l : StringLiteral) → quoted_text views_leaves (quoted_leaf l) ≡ Some (string_bytes l.cooked)
label_text l = go l.expand
  where
    go : (b : Bool) → leaf_cooked (token_of (string_of b (Literal (literal_of l)))) ≡ Some (string_bytes l.cooked)
    go true = refl
    go false = refl

-- what a literal holds
label_value : (l : StringLiteral) → quoted_value views_leaves (quoted_leaf l) ≡ literal_value (literal_content l)
label_value l = go l.expand
  where
    go : (b : Bool) → literal_value (leaf_literal (token_of (string_of b (Literal (literal_of l))))) ≡ literal_value (literal_content l)
    go true = refl
    go false = refl

-- a copy holds the same
pub copied_value : (copy original : StringLiteral) → IsSameLiteral copy original → literal_value (literal_content copy) ≡ literal_value (literal_content original)
copied_value copy original h = λ i. record { cooked = h.cooked i; expand = h.expand i; kind = h.kind i; part = h.part i }

-- ---- the refusal, by the label

module _ (name first : Token) where
  pub other_rule : (a : LeafAttribute) → label_of views_leaves a ≡ None → duplicate_rule views_leaves name a first ≡ DuplicateAttribute name first
  other_rule (tree.Arg rules) e = cc
  other_rule (tree.Texts kinds.Group (q ∷ qs)) e = cc
  other_rule a e = refl

  pub arg_rule : (a : LeafAttribute) (l : StringLiteral) → kind_of_attribute a ≡ kinds.Arg → label_of views_leaves a ≡ Some (quoted_leaf l)
      → duplicate_rule views_leaves name a first ≡ DuplicateArgAttribute (string_bytes l.cooked) first
  arg_rule (tree.Arg rules) l k e =
      let same : rules.name ≡ quoted_leaf l = cc in
      ap (λ (q : Quoted Leaf). DuplicateArgAttribute (text_of views_leaves q) first) same ∙ ap (λ (o : Option (List ℕ)). DuplicateArgAttribute (or_empty o) first) (label_text l)
  arg_rule (tree.Texts kinds.Group (q ∷ qs)) l k e = cc
  arg_rule a l k e = cc

  pub group_rule : (a : LeafAttribute) (l : StringLiteral) → (kind_of_attribute a ≡ kinds.Arg → ⊥) → label_of views_leaves a ≡ Some (quoted_leaf l)
      → duplicate_rule views_leaves name a first ≡ DuplicateGroupAttribute (literal_value (literal_content l)) l.token first
  group_rule (tree.Arg rules) l k e = absurd (k refl)
  group_rule (tree.Texts kinds.Group (q ∷ qs)) l k e =
      let same : q ≡ quoted_leaf l = cc in
      ap (λ (q : Quoted Leaf). DuplicateGroupAttribute (quoted_value views_leaves q) (views_leaves.place q.token) first) same
      ∙ ap (λ (v : LiteralValue). DuplicateGroupAttribute v l.token first) (label_value l)
  group_rule a l k e = cc

-- ---- one after another

module _ (pairs : List (Attribute × Written)) (e : Entry Leaf Token) where
  abbrev pub checked_from : List (Attribute × Written) → Made Token (Unit {0})
  checked_from ds = check_repeated views_leaves (map entry_of_pair ds) e

  module _ (i : ℕ) (x : Attribute × Written) (so_far : checked_from (drop i pairs) ≡ checked_from pairs) (within : i < length pairs) (item : x ≡ get_or pairs i x) where
    abbrev step : checked_from pairs ≡ checked_from (x ∷ drop (i + 1) pairs)
    step = sym so_far ∙ at_drop_more checked_from pairs i x within ∙ ap (λ (y : Attribute × Written). checked_from (y ∷ drop (i + 1) pairs)) (sym item)

    pub repeated_later : excludes views_leaves (leaf_attribute_of x.0) e.attribute ≡ false → checked_from (drop (i + 1) pairs) ≡ checked_from pairs
    repeated_later h = sym (step ∙ rw h refl)

    pub repeated_here : excludes views_leaves (leaf_attribute_of x.0) e.attribute ≡ true
        → checked_from pairs ≡ new.refuse (duplicate_rule views_leaves e.name e.attribute x.1.name.token) e.name
    repeated_here h = step ∙ rw h refl

  pub repeated_end : (i : ℕ) → checked_from (drop i pairs) ≡ checked_from pairs → length pairs ≤ i → checked_from pairs ≡ Ok tt
  repeated_end i so_far h = sym so_far ∙ ap checked_from (drop_all i pairs h)

-- ---- the last one

-- what is put last, and what is before it, can be told
pub last_apart : {X : Type 0} (xs ys : List X) (x y : X) → xs ++ x ∷ [] ≡ ys ++ y ∷ [] → (xs ≡ ys) × (x ≡ y)
last_apart [] [] x y e = (refl, cc)
last_apart [] (b ∷ []) x y e = absurd cc
last_apart [] (b ∷ c ∷ ys) x y e = absurd cc
last_apart (a ∷ []) [] x y e = absurd cc
last_apart (a ∷ c ∷ xs) [] x y e = absurd cc
last_apart {X = X} (a ∷ xs) (b ∷ ys) x y e =
    let first : a ≡ b = cc in
    let others : xs ++ x ∷ [] ≡ ys ++ y ∷ [] = cc in
    let rest = last_apart xs ys x y others in
    (ap (λ (l : List X). a ∷ l) rest.0 ∙ ap (λ (z : X). z ∷ ys) first, rest.1)

module _ (result : Result (Unit {0}) Fault) (pairs : List (Attribute × Written)) where
  pub checks_last : (rest : List (Attribute × Written)) (x : Attribute × Written) → IsLastAndRest pairs x rest
      → Makes (λ (u : Unit {0}). tt) result (check_repeated views_leaves (map entry_of_pair rest) (entry_of_pair x)) → ChecksLast result pairs
  unfolding ChecksLast
  checks_last rest x h made before last e =
      let same = last_apart rest before x last (sym h.0 ∙ e) in
      subst (λ p. Makes (λ (u : Unit {0}). tt) result (check_repeated views_leaves (map entry_of_pair before) (entry_of_pair p))) same.1
      (subst (λ ps. Makes (λ (u : Unit {0}). tt) result (check_repeated views_leaves (map entry_of_pair ps) (entry_of_pair x))) same.0 made)

  pub checks_none : length pairs ≡ 0 → ChecksLast result pairs
  unfolding ChecksLast
  checks_none h [] last e = absurd cc
  checks_none h (b ∷ before) last e = absurd cc

-- ---- what is made is added

module _ (made : Made Token LeafAttribute) (name : Name) (before : List (Attribute × Written)) where
  pub made_added : (a : Attribute) (later : List (Attribute × Written)) → made ≡ Ok (leaf_attribute_of a) → later ≡ before ++ uncommented (a, name) ∷ [] → IsAdded leaf_attribute_of made name before later
  made_added a later e h = record { attribute = a; is_made = e; added = h }
