-- The first `arg` attribute for each name.
use Rattle.std.proofs.Common.{◌≡◌, ◌∙◌, ℕ, All, Bool, Bor, true, false, cond, List, [], ◌∷◌, map, OnOk, Option, Result, Some, None, Ok, Err, refl, sym, ap, subst}
use Rattle.std.proofs.lemmas.List.Elements.{All-head}
use Rattle.std.proofs.lemmas.Map.Text.{btree_map_updates_str}
use Rattle.std.proofs.lemmas.Slice.Eq.{bytes_eq-Decides}
use Rattle.std.specs.BTreeMap.{UpdatesBy, is_at}
use Rattle.std.specs.Cmp.Lexicographic.{slice_cmp}
use Rattle.std.specs.List.{list_any}
use Rattle.std.specs.Map.{lookup}
use Rattle.std.specs.Option.{is_some, option_map, option_or}
use Rattle.std.specs.Ordering.{nat_cmp}
use Rattle.std.specs.Str.{bytes_eq}
use Rattle.justfile_attribute.specs.Attribute.{leaf_attribute_of}
use Rattle.justfile_attribute.specs.declared.attribute.Attribute.{Attribute}
use Rattle.justfile_attribute_set.specs.Keys.{firsts}
use Rattle.justfile_attribute_set.specs.Pairs.{Pair, leaf_entry_of}
use Rattle.justfile_token.specs.Token.{lexeme_of}
use Rattle.justfile_token.specs.declared.token.Token.{Token}
use Rattle.justfile_recipe_header.specs.declared.parameter.Parameter.{Parameter}
use Rattle.justfile_model.specs.Meanings.AttributeRules.{arg_rules, rules_in}
use Rattle.justfile_model.specs.Meanings.RecipeRules.{rules_for}
use Rattle.justfile_attribute.specs.KeyedBounds.{HaveBoundKeys, HasBoundKeys}
use Rattle.justfile_parse_header.specs.Arguments.{OptionHasBoundKeys, is_named, is_of, rules_by, rules_named}
use Rattle.justfile_parse_header.specs.HeaderTable.{Rules}
use Rattle.justfile_parse_header.specs.ArgNames.{AreFirsts, Firsts, IsPut, IsPutAt, attribute_at, first_at}
use Rattle.justfile_parse_header.specs.Tree.{parameter_tree}
use Rattle.justfile_parse_header.proofs.ArgAttributes.{keyed_rest, rules_left, rules_named_begin, rules_named_here, rules_named_later}
use Rattle.justfile_expression.specs.LeafViews.{views_leaves}
use Rattle.justfile_expression.specs.LeafTree.{Named}

-- ---- one that is put

or_none : {X : Type 0} (o : Option X) → o ≡ option_or o None
or_none None = refl
or_none (Some x) = refl

-- nothing is put where another one is there
pub taken_put : (text : List ℕ) (a : Attribute) (old : Firsts) → is_some (first_at old text) ≡ true → IsPutAt text a old old
unfolding IsPutAt
taken_put text a old taken name = go (bytes_eq text name) refl
  where
    there : (o : Option (Bor Attribute)) (put : Option Attribute) → is_some o ≡ true → option_map (λ (a : Bor Attribute). a.now) o ≡ option_or (option_map (λ (a : Bor Attribute). a.now) o) put
    there None put e = absurd cc
    there (Some b) put e = refl

    go : (b : Bool) → bytes_eq text name ≡ b → attribute_at old name ≡ option_or (attribute_at old name) (cond b (Some a) None)
    go true same = there (first_at old name) (Some a) (subst (λ t. is_some (first_at old t) ≡ true) ((bytes_eq-Decides text name).0 same) taken)
    go false apart = or_none (attribute_at old name)

-- one that is put where none is
pub free_put : (text : List ℕ) (a : Bor Attribute) (old new : Firsts) → is_some (first_at old text) ≡ false
    → UpdatesBy (λ (x y : Bor (List ℕ)). slice_cmp nat_cmp x.now y.now) (λ (k : Bor (List ℕ)). slice_cmp nat_cmp text k.now) old new (Some a) → IsPutAt text a.now old new
unfolding IsPutAt
free_put text a old new free updates name =
    ap (option_map (λ (b : Bor Attribute). b.now)) (btree_map_updates_str text old new (Some a) updates name) ∙ go (bytes_eq text name) refl
  where
    none : (o : Option (Bor Attribute)) → is_some o ≡ false → Some a.now ≡ option_or (option_map (λ (b : Bor Attribute). b.now) o) (Some a.now)
    none None e = refl
    none (Some b) e = absurd cc

    go : (b : Bool) → bytes_eq text name ≡ b
        → option_map (λ (b : Bor Attribute). b.now) (cond b (Some a) (first_at old name)) ≡ option_or (attribute_at old name) (cond b (Some a.now) None)
    go true same = none (first_at old name) (subst (λ t. is_some (first_at old t) ≡ false) ((bytes_eq-Decides text name).0 same) free)
    go false apart = or_none (attribute_at old name)

-- it is put at the name that it has
named_put : (text : List ℕ) (a : Attribute) (old new : Firsts) → ((name : List ℕ) → bytes_eq text name ≡ is_of name (leaf_attribute_of a)) → IsPutAt text a old new → IsPut a old new
unfolding IsPutAt IsPut
named_put text a old new same h name = h name ∙ ap (λ b. option_or (attribute_at old name) (cond b (Some a) None)) (same name)

pub then_put : {E : Type 0} (text : List ℕ) (a : Attribute) (old new : Firsts) → ((name : List ℕ) → bytes_eq text name ≡ is_of name (leaf_attribute_of a))
    → (result : Result (Unit {0}) E) → OnOk result (IsPutAt text a old new) → OnOk result (IsPut a old new)
then_put text a old new same (Err e) h = tt
then_put text a old new same (Ok u) h = named_put text a old new same h

-- an attribute without a name isn't put anywhere
pub unnamed_put : (a : Attribute) (old : Firsts) → ((name : List ℕ) → is_of name (leaf_attribute_of a) ≡ false) → IsPut a old old
unfolding IsPut
unnamed_put a old none name = or_none (attribute_at old name) ∙ ap (λ b. option_or (attribute_at old name) (cond b (Some a) None)) (sym (none name))

-- ---- one after another

-- the rules of an attribute, or else the rest
abbrev rules_or : Option Attribute → (rest : Option Rules) → Option Rules
rules_or None rest = rest
rules_or (Some a) rest = rules_in (leaf_attribute_of a)

abbrev SomeHasBoundKeys : Option Attribute → Type 0
SomeHasBoundKeys None = Unit {0}
SomeHasBoundKeys (Some a) = HasBoundKeys a

rules_same : (o : Option (Bor Attribute)) → rules_by o ≡ rules_or (option_map (λ (a : Bor Attribute). a.now) o) None
rules_same None = refl
rules_same (Some a) = refl

keyed_same : (o : Option (Bor Attribute)) → SomeHasBoundKeys (option_map (λ (a : Bor Attribute). a.now) o) → OptionHasBoundKeys o
keyed_same None h = h
keyed_same (Some a) h = h

-- At each name is the first attribute so far that has it. Those in `left` come later.
pub record AreFirstsBefore (rules : List Rules) (found : Firsts) (left : List Attribute) : Type 0 where
  pub rules_at : (name : List ℕ) → rules_or (attribute_at found name) (rules_named (rules_left left) name) ≡ rules_named rules name
  pub found_keyed : (name : List ℕ) → SomeHasBoundKeys (attribute_at found name)
  pub keyed : HaveBoundKeys left

none_at : (found : Firsts) → found.entries ≡ [] → (name : List ℕ) → attribute_at found name ≡ None
none_at found e name =
    ap (λ es. option_map (λ (a : Bor Attribute). a.now) (lookup (is_at (λ (k : Bor (List ℕ)). slice_cmp nat_cmp name k.now)) es)) e

pub firsts_begin : (ps : List Pair) (found : Firsts) (left : List Attribute) → found.entries ≡ [] → left ≡ firsts ps → HaveBoundKeys left
    → AreFirstsBefore (arg_rules (map leaf_entry_of ps)) found left
firsts_begin ps found left none is keyed = record {
  rules_at = λ name. ap (λ o. rules_or o (rules_named (rules_left left) name)) (none_at found none name) ∙ rules_named_begin name ps left is;
  found_keyed = λ name. subst SomeHasBoundKeys (sym (none_at found none name)) tt;
  keyed = keyed;
}

pub firsts_end : (rules : List Rules) (found : Firsts) (left : List Attribute) → left ≡ [] → AreFirstsBefore rules found left → AreFirsts found rules
unfolding AreFirsts
firsts_end rules found left none h name = (
  rules_same (first_at found name) ∙ sym (ap (λ l. rules_or (attribute_at found name) (rules_named (rules_left l) name)) none) ∙ h.rules_at name,
  keyed_same (first_at found name) (h.found_keyed name),
)

module _ (rules : List Rules) (found : Firsts) (left : List Attribute) (a : Attribute) (rest : List Attribute) (is : left ≡ a ∷ rest)
    (so_far : AreFirstsBefore rules found left) where
  abbrev later : List ℕ → Option Rules
  later name = rules_named (rules_left rest) name

  abbrev put : (is_named : Bool) → Option Attribute
  put is_named = cond is_named (Some a) None

  -- its rules come before the rest
  first_rules : (name : List ℕ) (o : Option Attribute) → rules_or (option_or o (put (is_of name (leaf_attribute_of a)))) (later name) ≡ rules_or o (rules_named (rules_left (a ∷ rest)) name)
  first_rules name (Some b) = refl
  first_rules name None = go (is_of name (leaf_attribute_of a)) refl
    where
      go : (b : Bool) → is_of name (leaf_attribute_of a) ≡ b → rules_or (put b) (later name) ≡ rules_named (rules_left (a ∷ rest)) name
      go true named = sym (rules_named_here name a rest named)
      go false named = sym (rules_named_later name a rest named)

  first_keyed : (o : Option Attribute) (is_named : Bool) → SomeHasBoundKeys o → HasBoundKeys a → SomeHasBoundKeys (option_or o (put is_named))
  first_keyed (Some b) is_named h k = h
  first_keyed None true h k = k
  first_keyed None false h k = tt

  keyed_here : HasBoundKeys a
  unfolding HaveBoundKeys
  keyed_here = All-head HasBoundKeys a rest (subst (λ (l : List Attribute). All HasBoundKeys l) is so_far.keyed)

  pub firsts_go_on : (new : Firsts) → IsPut a found new → AreFirstsBefore rules new rest
  unfolding IsPut
  firsts_go_on new h = record {
    rules_at = λ name. ap (λ o. rules_or o (later name)) (h name) ∙ first_rules name (attribute_at found name)
        ∙ ap (λ l. rules_or (attribute_at found name) (rules_named (rules_left l) name)) (sym is) ∙ so_far.rules_at name;
    found_keyed = λ name. subst SomeHasBoundKeys (sym (h name)) (first_keyed (attribute_at found name) (is_of name (leaf_attribute_of a)) (so_far.found_keyed name) keyed_here);
    keyed = keyed_rest left a rest is so_far.keyed;
  }

-- ---- the attribute of a name

module _ (rules : List Rules) (found : Firsts) (are : AreFirsts found rules) where
  pub first_is_keyed : (name : List ℕ) → OptionHasBoundKeys (first_at found name)
  unfolding AreFirsts
  first_is_keyed name = (are name).1

  module _ (ps : List Parameter) (name : Token) where
    abbrev rules_of_name : Option Rules
    rules_of_name = rules_for views_leaves rules (map parameter_tree ps) (Named name None)

    -- a name that no attribute has has no rules
    pub named_nowhere : (text : List ℕ) → text ≡ lexeme_of name → None ≡ first_at found text → None ≡ rules_of_name
    unfolding AreFirsts
    named_nowhere text e none = go (is_named (map parameter_tree ps) (lexeme_of name))
      where
        absent : None ≡ rules_named rules (lexeme_of name)
        absent = ap rules_by none ∙ (are text).0 ∙ ap (rules_named rules) e

        go : (b : Bool) → None ≡ cond b None (rules_named rules (lexeme_of name))
        go true = refl
        go false = absent

    -- nor has one that was there before
    pub named_before : (text : List ℕ) → text ≡ lexeme_of name → is_named (map parameter_tree ps) text ≡ true → None ≡ rules_of_name
    named_before text e h = ap (λ b. cond b None (rules_named rules (lexeme_of name))) (sym (ap (is_named (map parameter_tree ps)) (sym e) ∙ h))

    -- any other name has the rules of the first attribute that has it
    pub named_first : (text : List ℕ) → text ≡ lexeme_of name → is_named (map parameter_tree ps) text ≡ false → (other : List ℕ) → other ≡ lexeme_of name
        → (result : Option (Bor Attribute)) → result ≡ first_at found other → rules_by result ≡ rules_of_name
    unfolding AreFirsts
    named_first text e h other same result is =
        ap rules_by is ∙ (are other).0 ∙ ap (rules_named rules) same
        ∙ ap (λ b. cond b None (rules_named rules (lexeme_of name))) (sym (ap (is_named (map parameter_tree ps)) (sym e) ∙ h))
