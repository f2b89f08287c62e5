-- What attributes set for parameters, from the first attribute to the last.
use Rattle.std.proofs.Common.{◌≡◌, ◌∙◌, ℕ, All, Bool, true, false, cond, List, [], ◌∷◌, map, Option, Some, None, refl, sym, ap, subst, true≢false}
use Rattle.std.proofs.lemmas.List.Elements.{All-tail}
use Rattle.std.specs.List.{cons_option, filter_map, flat_map}
use Rattle.justfile_attribute.specs.Attribute.{leaf_attribute_of}
use Rattle.justfile_attribute.specs.declared.attribute.Attribute.{Attribute}
use Rattle.justfile_attribute_set.specs.Keys.{firsts}
use Rattle.justfile_attribute_set.specs.Pairs.{Pair, leaf_entry_of}
use Rattle.justfile_model.specs.Meanings.AttributeRules.{arg_rules, rules_in}
use Rattle.justfile_model.specs.Grammars.Features.{rules_features}
use Rattle.justfile_model.specs.Readers.ReaderState.{with}
use Rattle.justfile_attribute.specs.KeyedBounds.{HaveBoundKeys, HasBoundKeys}
use Rattle.justfile_parse_expression.proofs.Rest.{with_none}
use Rattle.justfile_parse_expression.specs.TableReader.{State}
use Rattle.justfile_parse_header.specs.Arguments.{is_of, is_rule_of, rules_named}
use Rattle.justfile_parse_header.specs.HeaderTable.{Rules}
use Rattle.justfile_parse_header.specs.OptionRules.{features_in}
use Rattle.justfile_parse_header.specs.Options.{of_rules}
use Rattle.justfile_parse_header.proofs.Notes.{with_more}

-- the rules of these attributes
abbrev pub rules_left : List Attribute → List Rules
rules_left attributes = filter_map (λ (a : Attribute). rules_in (leaf_attribute_of a)) attributes

pub first_rules_are : (ps : List Pair) → arg_rules (map leaf_entry_of ps) ≡ rules_left (firsts ps)
first_rules_are [] = refl
first_rules_are (p ∷ ps) = ap (λ (l : List Rules). cons_option (rules_in (leaf_attribute_of p.0)) l) (first_rules_are ps)

pub rules_kept : (ps : List Pair) (left : List Attribute) → left ≡ firsts ps → rules_left left ≡ arg_rules (map leaf_entry_of ps)
rules_kept ps left e = ap (λ (l : List Attribute). rules_left l) e ∙ sym (first_rules_are ps)

-- ---- the features that are noted

-- with what these attributes note
abbrev pub noting : List Attribute → State → State
noting attributes s = with (flat_map rules_features (rules_left attributes)) s

pub noting_begins : (ps : List Pair) (left : List Attribute) (s : State) → left ≡ firsts ps → noting left s ≡ with (flat_map rules_features (arg_rules (map leaf_entry_of ps))) s
noting_begins ps left s e = ap (λ (l : List Rules). with (flat_map rules_features l) s) (rules_kept ps left e)

pub noting_goes_on : (a : Attribute) (rest : List Attribute) (s : State) → noting (a ∷ rest) s ≡ noting rest (with (features_in (leaf_attribute_of a)) s)
noting_goes_on a rest s = go (rules_in (leaf_attribute_of a))
  where
    go : (o : Option Rules) → with (flat_map rules_features (cons_option o (rules_left rest))) s ≡ with (flat_map rules_features (rules_left rest)) (with (of_rules [] rules_features o) s)
    go None = ap (λ (t : State). with (flat_map rules_features (rules_left rest)) t) (sym (with_none s))
    go (Some r) = sym (with_more (rules_features r) (flat_map rules_features (rules_left rest)) s)

pub noting_ends : (s : State) → noting [] s ≡ s
noting_ends s = with_none s

-- ---- the rules with a name

module _ (name : List ℕ) where
  pub rules_named_begin : (ps : List Pair) (left : List Attribute) → left ≡ firsts ps → rules_named (rules_left left) name ≡ rules_named (arg_rules (map leaf_entry_of ps)) name
  rules_named_begin ps left e = ap (λ (l : List Rules). rules_named l name) (rules_kept ps left e)

  module _ (a : Attribute) (rest : List Attribute) where
    pub rules_named_later : is_of name (leaf_attribute_of a) ≡ false → rules_named (rules_left (a ∷ rest)) name ≡ rules_named (rules_left rest) name
    rules_named_later h = go (rules_in (leaf_attribute_of a)) h
      where
        go : (o : Option Rules) → of_rules false (is_rule_of name) o ≡ false → rules_named (cons_option o (rules_left rest)) name ≡ rules_named (rules_left rest) name
        go None h = refl
        go (Some r) h = ap (λ (b : Bool). cond b (Some r) (rules_named (rules_left rest) name)) h

    pub rules_named_here : is_of name (leaf_attribute_of a) ≡ true → rules_named (rules_left (a ∷ rest)) name ≡ rules_in (leaf_attribute_of a)
    rules_named_here h = go (rules_in (leaf_attribute_of a)) h
      where
        go : (o : Option Rules) → of_rules false (is_rule_of name) o ≡ true → rules_named (cons_option o (rules_left rest)) name ≡ o
        go None h = absurd (true≢false (sym h))
        go (Some r) h = ap (λ (b : Bool). cond b (Some r) (rules_named (rules_left rest) name)) h

-- ---- bounds with their keys

pub keyed_rest : (left : List Attribute) (a : Attribute) (rest : List Attribute) → left ≡ a ∷ rest → HaveBoundKeys left → HaveBoundKeys rest
unfolding HaveBoundKeys
keyed_rest left a rest is keyed = All-tail HasBoundKeys a rest (subst (λ (l : List Attribute). All HasBoundKeys l) is keyed)
