-- A copy of an attribute has the same tree as its original.
use Rattle.std.proofs.Common.{◌≡◌, ◌∙◌, ℕ, List, [], ◌∷◌, map, refl, ap, Option, Some, None}
use Rattle.std.specs.Global.{Box}
use Rattle.std.specs.List.{AllZip}
use Rattle.std.specs.Option.{option_map}
use Rattle.justfile_token.specs.StringLiteral.{IsSameLiteral}
use Rattle.justfile_vocabulary.specs.declared.attribute_kind.AttributeKind.{AttributeKind}
use Rattle.justfile_vocabulary.specs.declared.attribute_kind.AttributeKind.TheVariants as kinds
use Rattle.justfile_token.specs.declared.name.Name.{Name}
use Rattle.justfile_token.specs.declared.string_literal.StringLiteral.{StringLiteral}
use Rattle.justfile_token.specs.declared.token.Token.{Token}
use Rattle.justfile_model.specs.Trees.Tree as tree
use Rattle.justfile_model.specs.Trees.Tree.{Expr, Quoted}
use Rattle.justfile_expression.specs.LeafTree.{Leaf, Literal, leaf_tree_of}
use Rattle.justfile_expression.specs.declared.expression.Expression.{Expression}
use Rattle.justfile_attribute.specs.Attribute.{bound_by, formed_by, leaf_attribute_of, literal_leaf, option_by, property_by, quoted_by, script_by, single_by}
use Rattle.justfile_token.specs.Copies.{IsSameIfPresent}
use Rattle.justfile_expression.specs.Copies.{IsSameBoxed}
use Rattle.justfile_attribute.specs.Copies.{IsSameAttribute, IsSameForm, IsSameInterpreter, IsSameProperty}
use Rattle.justfile_attribute.specs.Form as forms
use Rattle.justfile_attribute.specs.Form.{Form, case_kind, form_of}
use Rattle.justfile_attribute.specs.declared.attribute.Attribute.{Attribute}
use Rattle.justfile_attribute.specs.declared.interpreter.Interpreter.{Interpreter}
use Rattle.justfile_attribute_set.proofs.CopiedTrees.{same_literal, same_tree}

-- what the tree keeps of tokens and literals, with all fields of the parser's leaves
abbrev position : Token → Token
position t = t

abbrev quoted : StringLiteral → Quoted Leaf
quoted = quoted_by leaf_tree_of literal_leaf position

same_quoted : (copy original : StringLiteral) → IsSameLiteral copy original → quoted copy ≡ quoted original
same_quoted copy original same = λ i. record { expanded = same.expand i; token = Literal (same_literal copy original same i) }

-- if a view of copies and originals is the same, so is that of optional ones
same_options : {X Y : Type 0} (R : X → X → Type 0) (f : X → Y) → ((copy original : X) → R copy original → f copy ≡ f original)
    → (copy original : Option X) → IsSameIfPresent R copy original → option_map f copy ≡ option_map f original
same_options R f each None None same = refl
same_options R f each (Some copy) (Some original) same = ap Some (each copy original same)
same_options R f each None (Some original) same = absurd same
same_options R f each (Some copy) None same = absurd same

pub same_maps : {X Y : Type 0} (R : X → X → Type 0) (f : X → Y) → ((copy original : X) → R copy original → f copy ≡ f original)
    → (copies originals : List X) → AllZip R copies originals → map f copies ≡ map f originals
same_maps R f each [] [] same = refl
same_maps R f each (copy ∷ copies) (original ∷ originals) same = λ i. each copy original same.0 i ∷ same_maps R f each copies originals same.1 i
same_maps R f each [] (original ∷ originals) same = absurd same
same_maps R f each (copy ∷ copies) [] same = absurd same

-- an expression in a box
abbrev boxed_leaves : Box Expression → Expr Leaf Token
boxed_leaves e = leaf_tree_of e.value

pub same_boxed : (copy original : Box Expression) → IsSameBoxed copy original → boxed_leaves copy ≡ boxed_leaves original
same_boxed copy original same = same_tree copy.value original.value same

same_expressions : (copy original : Option (Box Expression)) → IsSameIfPresent IsSameBoxed copy original → option_map boxed_leaves copy ≡ option_map boxed_leaves original
same_expressions = same_options IsSameBoxed boxed_leaves same_boxed

same_property : (copy original : Name × Box Expression) → IsSameProperty copy original
    → property_by leaf_tree_of literal_leaf position copy ≡ property_by leaf_tree_of literal_leaf position original
same_property copy original same = λ i. record { key = (same.0 i).token; value = same_boxed copy.1 original.1 same.1 i }

same_properties : (copy original : Option (Name × Box Expression)) → IsSameIfPresent IsSameProperty copy original
    → option_map (property_by leaf_tree_of literal_leaf position) copy ≡ option_map (property_by leaf_tree_of literal_leaf position) original
same_properties = same_options IsSameProperty (property_by leaf_tree_of literal_leaf position) same_property

same_option : (key key' : Option Name) (copy original : Option StringLiteral) → key ≡ key' → IsSameIfPresent IsSameLiteral copy original
    → option_by leaf_tree_of literal_leaf position key copy ≡ option_by leaf_tree_of literal_leaf position key' original
same_option key key' copy original k same =
    (λ i. option_by leaf_tree_of literal_leaf position (k i) copy) ∙ within key' copy original same
  where
    within : (key : Option Name) (copy original : Option StringLiteral) → IsSameIfPresent IsSameLiteral copy original
        → option_by leaf_tree_of literal_leaf position key copy ≡ option_by leaf_tree_of literal_leaf position key original
    within (Some key) copy original same = refl
    within None None None same = refl
    within None (Some copy) (Some original) same = ap tree.Named (same_quoted copy original same)
    within None None (Some original) same = absurd same
    within None (Some copy) None same = absurd same

same_single : (kind : AttributeKind) (copy original : Option (Box Expression)) → IsSameIfPresent IsSameBoxed copy original
    → single_by leaf_tree_of literal_leaf position kind copy ≡ single_by leaf_tree_of literal_leaf position kind original
same_single kind None None same = refl
same_single kind (Some copy) (Some original) same = λ i. tree.Single kind (same_boxed copy original same i)
same_single kind None (Some original) same = absurd same
same_single kind (Some copy) None same = absurd same

same_bound : (name name' : StringLiteral) (key key' : Option Name) (number number' : Option ℕ) → IsSameLiteral name name' → key ≡ key' → number ≡ number'
    → bound_by leaf_tree_of literal_leaf position name key number ≡ bound_by leaf_tree_of literal_leaf position name' key' number'
same_bound name name' key key' number number' same k n =
    (λ i. bound_by leaf_tree_of literal_leaf position name (k i) (n i)) ∙ within key' number'
  where
    within : (key : Option Name) (number : Option ℕ) → bound_by leaf_tree_of literal_leaf position name key number ≡ bound_by leaf_tree_of literal_leaf position name' key number
    within key None = refl
    within (Some key) (Some number) = refl
    within None (Some number) = λ i. Some (record { key = same.token i; number = number })

same_script : (copy original : Option (Interpreter StringLiteral)) → IsSameIfPresent IsSameInterpreter copy original
    → script_by leaf_tree_of literal_leaf position copy ≡ script_by leaf_tree_of literal_leaf position original
same_script None None same = refl
same_script (Some copy) (Some original) same =
    λ i. tree.Texts kinds.Script (same_quoted copy.command original.command same.command i ∷ same_maps IsSameLiteral quoted same_quoted copy.arguments.items original.arguments.items same.arguments i)
same_script None (Some original) same = absurd same
same_script (Some copy) None same = absurd same

abbrev formed : AttributeKind → Form → tree.Attribute Leaf Token
formed = formed_by leaf_tree_of literal_leaf position

same_form : (kind : AttributeKind) (copy original : Form) → IsSameForm copy original → formed kind copy ≡ formed kind original
same_form kind forms.Plain forms.Plain same = refl
same_form kind (forms.Optional copy) (forms.Optional original) same = same_single kind copy original same
same_form kind (forms.Single copy) (forms.Single original) same = ap (tree.Single kind) (same_boxed copy original same)
same_form kind (forms.Literal copy) (forms.Literal original) same = λ i. tree.Texts kind (same_quoted copy original same i ∷ [])
same_form kind (forms.Literals copies) (forms.Literals originals) same = ap (tree.Texts kind) (same_maps IsSameLiteral quoted same_quoted copies originals same)
same_form kind (forms.Env name value) (forms.Env name' value') same = λ i. tree.Env (same_boxed name name' same.0 i) (same_boxed value value' same.1 i)
same_form kind (forms.Signals copy) (forms.Signals original) same = ap tree.Signals same
same_form kind (forms.Cache extra inputs outputs) (forms.Cache extra' inputs' outputs') same =
    λ i. tree.Cache (same_expressions extra extra' same.0 i) (same_expressions inputs inputs' same.1 i) (same_expressions outputs outputs' same.2 i)
same_form kind (forms.Script copy) (forms.Script original) same = same_script copy original same
same_form kind (forms.Arg flag help property long long_key max max_key min min_key multiple name pattern short short_key value)
    (forms.Arg flag' help' property' long' long_key' max' max_key' min' min_key' multiple' name' pattern' short' short_key' value')
    same =
    λ i. tree.Arg (record {
      flag = option_map position (same.0 i);
      help = same_properties property property' same.2 i;
      long = same_option long_key long_key' long long' same.4 same.3 i;
      max = same_bound name name' max_key max_key' max max' same.10 same.6 same.5 i;
      min = same_bound name name' min_key min_key' min min' same.10 same.8 same.7 i;
      multiple = option_map position (same.9 i);
      name = same_quoted name name' same.10 i;
      pattern = same_properties pattern pattern' same.11 i;
      short = same_option short_key short_key' short short' same.13 same.12 i;
      value = same_expressions value value' same.14 i;
    })
same_form kind _ _ same = absurd same

pub same_attribute_tree : (copy original : Attribute) → IsSameAttribute copy original → leaf_attribute_of copy ≡ leaf_attribute_of original
same_attribute_tree copy original same =
    ap (λ kind. formed kind (form_of copy)) same.kind ∙ same_form (case_kind original) (form_of copy) (form_of original) same.fields
