-- The features that an attribute uses, in the steps in which they are recorded.
use Rattle.std.proofs.Common.{◌≡◌, ◌∙◌, ℕ, List, ◌++◌, Option, Some, None, Result, Ok, Err, refl, sym, ap, append_assoc}
use Rattle.std.specs.Prelude.{String}
use Rattle.std.specs.Global.{Box, Global}
use Rattle.std.specs.Option.{option_map}
use Rattle.justfile_attribute.specs.Attribute.{bound_by, leaf_attribute_of, literal_leaf}
use Rattle.justfile_attribute.specs.declared.attribute.Attribute.{Attribute}
use Rattle.justfile_attribute.specs.declared.attribute.Attribute.TheVariants as variants
use Rattle.justfile_attribute_rules.specs.Made.{quoted_leaf}
use Rattle.justfile_token.specs.declared.name.Name.{Name}
use Rattle.justfile_token.specs.declared.string_literal.StringLiteral.{StringLiteral}
use Rattle.justfile_token.specs.declared.token.Token.{Token}
use Rattle.justfile_vocabulary.specs.declared.list_feature.ListFeature.{ListFeature}
use Rattle.justfile_vocabulary.specs.declared.list_feature.ListFeature.TheVariants as features
use Rattle.justfile_model.specs.Grammars.Features.{Noted, bound_place, noted_at, rules_features}
use Rattle.justfile_model.specs.Readers.ReaderState.{with}
use Rattle.justfile_model.specs.Trees.Tree as tree
use Rattle.justfile_parse_expression.specs.MethodResults.{UnlessMemory}
use Rattle.justfile_parse_expression.specs.TableReader.{State}
use Rattle.justfile_parse_expression.specs.declared.expression_error.ExpressionError.{ExpressionError}
use Rattle.justfile_parse_header.specs.HeaderTable.{Rules}
use Rattle.justfile_parse_header.specs.OptionRules.{bound_place_in, features_in}
use Rattle.justfile_expression.specs.LeafTree.{leaf_tree_of}
use Rattle.justfile_expression.specs.declared.expression.Expression.{Expression}

noted : State → List (Noted Token) → State
noted s l = record { run = s.run; depth = s.depth; left = s.left; noted = l }

-- features after others are noted one list after the other
pub with_more : (fs gs : List (Noted Token)) (s : State) → with gs (with fs s) ≡ with (fs ++ gs) s
unfolding noted
with_more fs gs s = ap (noted s) (append_assoc s.noted fs gs)

-- each that is there after the others
all_noted : (r : Rules) (s : State)
    → with (noted_at features.ArgMin (bound_place r.min)) (with (noted_at features.ArgMax (bound_place r.max)) (with (noted_at features.Multiple r.multiple) (with (noted_at features.Flag r.flag) s)))
    ≡ with (rules_features r) s
all_noted r s =
    let flag = noted_at features.Flag r.flag in
    let multiple = noted_at features.Multiple r.multiple in
    let max = noted_at features.ArgMax (bound_place r.max) in
    let min = noted_at features.ArgMin (bound_place r.min) in
    ap (λ (t : State). with min (with max t)) (with_more flag multiple s) ∙ ap (λ (t : State). with min t) (with_more (flag ++ multiple) max s)
    ∙ with_more (flag ++ multiple ++ max) min s

same : {X : Type 0} (o : Option X) → o ≡ option_map (λ x. x) o
same None = refl
same (Some x) = refl

-- the place of a number is that of its bound
place_is : (name : StringLiteral) (key : Option Name) (number : Option ℕ) → bound_place_in name.token key number ≡ bound_place (bound_by leaf_tree_of literal_leaf (λ t. t) name key number)
place_is name key None = refl
place_is name (Some key) (Some number) = refl
place_is name None (Some number) = refl

abbrev note : ListFeature → Option Token → State → State
note feature at s = with (noted_at feature at) s

module _ (flag : Option Token) (help : Option (String Global)) (help_property : Option (Name × Box Expression)) (long : Option StringLiteral) (long_key : Option Name)
    (max : Option ℕ) (max_key : Option Name) (min : Option ℕ) (min_key : Option Name) (multiple : Option Token) (name : StringLiteral)
    (pattern : Option (Name × Box Expression)) (short : Option StringLiteral) (short_key : Option Name) (value : Option (Box Expression)) where
  abbrev attribute : Attribute
  attribute = variants.Arg flag help help_property long long_key max max_key min min_key multiple name pattern short short_key value

  -- what is noted step by step is what the attribute notes
  notes_all : (s : State)
      → note features.ArgMin (bound_place_in name.token min_key min) (note features.ArgMax (bound_place_in name.token max_key max) (note features.Multiple multiple (note features.Flag flag s)))
      ≡ with (features_in (leaf_attribute_of attribute)) s
  notes_all s =
      ap (λ (at : Option Token). note features.ArgMin (bound_place_in name.token min_key min) (note features.ArgMax (bound_place_in name.token max_key max) (note features.Multiple multiple (note features.Flag at s)))) (same flag)
      ∙ ap (λ (at : Option Token). note features.ArgMin (bound_place_in name.token min_key min) (note features.ArgMax (bound_place_in name.token max_key max) (note features.Multiple at (note features.Flag (option_map (λ t. t) flag) s)))) (same multiple)
      ∙ ap (λ (at : Option Token). note features.ArgMin (bound_place_in name.token min_key min) (note features.ArgMax at (note features.Multiple (option_map (λ t. t) multiple) (note features.Flag (option_map (λ t. t) flag) s)))) (place_is name max_key max)
      ∙ ap (λ (at : Option Token). note features.ArgMin at (note features.ArgMax (bound_place (bound_by leaf_tree_of literal_leaf (λ t. t) name max_key max)) (note features.Multiple (option_map (λ t. t) multiple) (note features.Flag (option_map (λ t. t) flag) s)))) (place_is name min_key min)
      ∙ all_noted (record {
        flag = option_map (λ t. t) flag;
        help = None;
        long = tree.NoOption;
        max = bound_by leaf_tree_of literal_leaf (λ t. t) name max_key max;
        min = bound_by leaf_tree_of literal_leaf (λ t. t) name min_key min;
        multiple = option_map (λ t. t) multiple;
        name = quoted_leaf name;
        pattern = None;
        short = tree.NoOption;
        value = None;
      }) s

  module _ (s s1 s2 s3 : State) (max_place min_place : Option Token) (max_is : max_place ≡ bound_place_in name.token max_key max) (min_is : min_place ≡ bound_place_in name.token min_key min)
      (is_1 : s1 ≡ note features.Flag flag s) (is_2 : s2 ≡ note features.Multiple multiple s1) (is_3 : s3 ≡ note features.ArgMax max_place s2) where
    pub arg_noted : (result : Result (Unit {0}) ExpressionError) (s4 : State) (a : Attribute) → a ≡ attribute
        → UnlessMemory result (λ done. s4 ≡ note features.ArgMin min_place s3) → UnlessMemory result (λ done. s4 ≡ with (features_in (leaf_attribute_of a)) s)
    arg_noted (Err stop) s4 a is h = h
    arg_noted (Ok done) s4 a is h =
        h
        ∙ ap (note features.ArgMin min_place) (is_3 ∙ ap (note features.ArgMax max_place) (is_2 ∙ ap (note features.Multiple multiple) is_1))
        ∙ ap (λ (at : Option Token). note features.ArgMin min_place (note features.ArgMax at (note features.Multiple multiple (note features.Flag flag s)))) max_is
        ∙ ap (λ (at : Option Token). note features.ArgMin at (note features.ArgMax (bound_place_in name.token max_key max) (note features.Multiple multiple (note features.Flag flag s)))) min_is
        ∙ notes_all s
        ∙ ap (λ (a : Attribute). with (features_in (leaf_attribute_of a)) s) (sym is)
