-- The loop that parses parameters, one after another.
use Rattle.std.proofs.Common.{◌≡◌, ◌∙◌, ℕ, Bool, true, false, List, [], ◌∷◌, ◌++◌, append_assoc, map, Option, Some, None, Ok, Err, refl, sym, ap, subst, arith}
use Rattle.std.proofs.lemmas.List.{append-nil, map-append}
use Rattle.std.specs.Global.{Box}
use Rattle.std.specs.Option.{is_some}
use Rattle.justfile_numbers.specs.Numerator.{number_of}
use Rattle.justfile_numbers.specs.declared.numerator.Numerator.{Numerator}
use Rattle.justfile_token.specs.declared.token.Token.{Token}
use Rattle.justfile_vocabulary.specs.declared.token_kind.TokenKind.TheVariants as kinds
use Rattle.justfile_recipe_header.specs.declared.parameter.Parameter.{Parameter}
use Rattle.justfile_model.proofs.Readers.HeaderReading as laws
use Rattle.justfile_model.specs.Readers.HeaderReader as headers
use Rattle.justfile_model.specs.Readers.HeaderReader.{obeying}
use Rattle.justfile_model.specs.Readers.ReaderState.{accepted}
use Rattle.justfile_model.specs.Meanings.RecipeRules.{rules_for}
use Rattle.justfile_model.specs.Meanings.Rules.{Broken}
use Rattle.justfile_model.specs.declared.parameter_kind.ParameterKind.{ParameterKind}
use Rattle.justfile_model.specs.declared.parameter_kind.ParameterKind.TheVariants.{Singular}
use Rattle.justfile_parse_base.specs.SharedTable.{view_of}
use Rattle.justfile_parse_base.specs.ParseErrors.{IsParseError}
use Rattle.justfile_parse_base.specs.declared.parse_error.ParseError.{ParseError}
use Rattle.justfile_parse_expression.specs.TableReader.{Read, ReadError, State, accept, expect, leaves}
use Rattle.justfile_parse_expression.specs.Significant.{TableToken}
use Rattle.justfile_parse_base.specs.Counting.{TookBindingNumbers, counters_of, identifiers_left}
use Rattle.justfile_parse_header.specs.HeaderTable as reader
use Rattle.justfile_parse_header.specs.HeaderTable.{LeafParameter, Rules}
use Rattle.justfile_parse_header.specs.ArgAttribute.{HaveDerivedFieldsAfter, HaveDerivedParameterFields, HasArgAttribute, HasDerivedParameterFields, KeepsDerivedParameterFields, arg_attribute_broken}
use Rattle.justfile_parse_header.specs.Tree.{parameter_tree, value_tree}
use Rattle.justfile_parse_base.proofs.BindingNumbers.{took_both, took_none}
use Rattle.justfile_parse_base.proofs.HeaderErrors.{failed}
use Rattle.justfile_expression.specs.LeafViews.{views_leaves}
use Rattle.justfile_expression.specs.LeafTree.{Named}
use Rattle.justfile_expression.specs.declared.expression.Expression.{Expression}

-- ---- derived fields

fields_after : (rules : List Rules) (before : List LeafParameter) (ps : List Parameter) (p : Parameter) → HaveDerivedFieldsAfter rules before ps
    → HasDerivedParameterFields rules (before ++ map parameter_tree ps) p → HaveDerivedFieldsAfter rules before (ps ++ p ∷ [])
fields_after rules before [] p h k = (subst (λ (l : List LeafParameter). HasDerivedParameterFields rules l p) (append-nil before) k, tt)
fields_after rules before (q ∷ qs) p h k =
    let one = parameter_tree q ∷ [] in (
      h.0,
      fields_after rules (before ++ one) qs p h.1 (subst (λ (l : List LeafParameter). HasDerivedParameterFields rules l p) (sym (append_assoc before one (map parameter_tree qs))) k),
    )

pub none_fields : (rules : List Rules) → HaveDerivedParameterFields rules []
unfolding HaveDerivedParameterFields
none_fields rules = tt

pub same_fields : (rules : List Rules) (ps : List Parameter) → KeepsDerivedParameterFields rules ps ps
unfolding KeepsDerivedParameterFields
same_fields rules ps h = h

pub both_fields : (rules : List Rules) (old between new : List Parameter) → KeepsDerivedParameterFields rules old between → KeepsDerivedParameterFields rules between new
    → KeepsDerivedParameterFields rules old new
unfolding KeepsDerivedParameterFields
both_fields rules old between new h k w = k (h w)

pub then_fields : (rules : List Rules) (old new : List Parameter) → HaveDerivedParameterFields rules old → KeepsDerivedParameterFields rules old new → HaveDerivedParameterFields rules new
unfolding KeepsDerivedParameterFields
then_fields rules old new h k = k h

-- one more parameter, whose derived fields are right
pub pushed_fields : (rules : List Rules) (old new : List Parameter) (p : Parameter) → new ≡ old ++ p ∷ [] → HasDerivedParameterFields rules (map parameter_tree old) p
    → KeepsDerivedParameterFields rules old new
unfolding HaveDerivedParameterFields KeepsDerivedParameterFields
pushed_fields rules old new p e h k = subst (HaveDerivedParameterFields rules) (sym e) (fields_after rules [] old p k h)

-- ---- a loop

-- from one place to another these parameters were read
pub record IsReadTo (rules : List Rules) (s q : State) (first next : Numerator) (old done : List Parameter) : Type 0 where
  pub read : reader.singulars rules ((map parameter_tree done, counters_of next), q) ≡ reader.singulars rules ((map parameter_tree old, counters_of first), s)
  pub numbers : TookBindingNumbers first next (identifiers_left s) (identifiers_left q)
  pub fields : KeepsDerivedParameterFields rules old done

pub begins : (rules : List Rules) (s : State) (first : Numerator) (old : List Parameter) → IsReadTo rules s s first first old old
begins rules s first old = record { read = refl; numbers = took_none first (identifiers_left s) (identifiers_left s) (omega arith); fields = same_fields rules old }

module _ (rules : List Rules) (s q : State) (first next : Numerator) (old done : List Parameter) (so_far : IsReadTo rules s q first next old done) where
  pub ends : reader.begins_parameter q ≡ false → reader.singulars rules ((map parameter_tree old, counters_of first), s) ≡ Ok ((map parameter_tree done, counters_of next), q)
  ends h = sym so_far.read ∙ laws.singulars_end leaves view_of rules ((map parameter_tree done, counters_of next), q) h

  module _ (another : reader.begins_parameter q ≡ true) where
    pub goes_on : (then : Numerator) (new : List Parameter) (rest : State)
        → reader.parameter rules Singular ((map parameter_tree done, counters_of next), q) ≡ Ok ((map parameter_tree new, counters_of then), rest)
        → TookBindingNumbers next then (identifiers_left q) (identifiers_left rest) → KeepsDerivedParameterFields rules done new → IsReadTo rules s rest first then old new
    goes_on then new rest is numbers fields = record {
      read = sym (laws.singulars_go_on leaves view_of rules ((map parameter_tree done, counters_of next), q) ((map parameter_tree new, counters_of then), rest) another is) ∙ so_far.read;
      numbers = took_both first next then (identifiers_left s) (identifiers_left q) (identifiers_left rest) so_far.numbers numbers;
      fields = both_fields rules old done new so_far.fields fields;
    }

    fails : (e : ReadError) → reader.parameter rules Singular ((map parameter_tree done, counters_of next), q) ≡ Err e
        → reader.singulars rules ((map parameter_tree old, counters_of first), s) ≡ Err e
    fails e h = sym so_far.read ∙ laws.singulars_fail leaves view_of rules ((map parameter_tree done, counters_of next), q) e another h

    -- a parameter is refused, or no number is left for it
    pub errs : (error : ParseError) (left : State) (wanting : ReadError)
        → IsParseError error left (reader.parameter rules Singular ((map parameter_tree done, counters_of next), q) ≡ Err wanting) (reader.parameter rules Singular ((map parameter_tree done, counters_of next), q))
        → IsParseError error left (reader.singulars rules ((map parameter_tree old, counters_of first), s) ≡ Err wanting) (reader.singulars rules ((map parameter_tree old, counters_of first), s))
    errs error left wanting h = failed (reader.parameter rules Singular ((map parameter_tree done, counters_of next), q)) (reader.singulars rules ((map parameter_tree old, counters_of first), s)) fails error left _ _ (fails wanting) h

-- ---- the `arg` attribute of a parameter

-- the rules that the `arg` attribute of a parameter breaks are those that the parameter breaks
arg_attribute_is : (rules : List Rules) (before : List LeafParameter) (kind : ParameterKind) (export : Bool) (token : Token) (default : Option (Box Expression)) (found : Option Rules)
    → found ≡ rules_for views_leaves rules before (Named token None)
    → arg_attribute_broken token (is_some default) kind found ≡ reader.broken_by rules before (record { kind = kind; export = export; name = Named token None; default = value_tree default })
arg_attribute_is rules before kind export token None found is = rw is refl
arg_attribute_is rules before kind export token (Some e) found is = rw is refl

-- a parameter with what its `arg` attribute sets has its derived fields
pub named_fields : (rules : List Rules) (before : List LeafParameter) (p : Parameter) (found : Option Rules) (token : Token) → found ≡ rules_for views_leaves rules before (Named token None)
    → p.name.token ≡ token → HasArgAttribute found p → HasDerivedParameterFields rules before p
named_fields rules before p found token is same its_rules =
    subst (λ (t : Token). HasArgAttribute (rules_for views_leaves rules before (Named t None)) p) (sym same) (subst (λ (f : Option Rules). HasArgAttribute f p) is its_rules)

-- ---- exported or not

module _ (rules : List Rules) (kind : ParameterKind) (x : reader.Parameters) (s : State) where
  pub exported : (dollar : TableToken) (rest : State) → accept kinds.Dollar s ≡ Some (dollar, rest) → reader.parameter rules kind (x, s) ≡ reader.named_parameter rules kind true x rest
  unfolding headers.parameter accepted
  exported dollar rest h = rw h refl

  pub unexported : accept kinds.Dollar s ≡ None → reader.parameter rules kind (x, s) ≡ reader.named_parameter rules kind false x s
  unfolding headers.parameter accepted
  unexported h = rw h refl

-- ---- one in the steps in which it is read

module _ (rules : List Rules) (kind : ParameterKind) (export : Bool) (before : List Parameter) (first : Numerator) (s : State) where
  abbrev pub Found : Read reader.Parameters
  Found = reader.named_parameter rules kind export (map parameter_tree before, counters_of first) s

  pub name_fails : (e : ReadError) → expect kinds.Identifier s ≡ Err e → Found ≡ Err e
  unfolding headers.named_parameter
  name_fails e h = rw h refl

  module _ {name : TableToken} {s1 : State} (named : expect kinds.Identifier s ≡ Ok (name, s1)) where
    pub default_fails : (e : ReadError) → reader.default_value s1 ≡ Err e → Found ≡ Err e
    unfolding headers.named_parameter
    default_fails e h = rw (named, h) refl

    module _ (default : Option (Box Expression)) {s2 : State} (valued : reader.default_value s1 ≡ Ok (value_tree default, s2)) {has : Bool} (has_is : has ≡ is_some default)
        {its_rules : Option Rules} (is : its_rules ≡ rules_for views_leaves rules (map parameter_tree before) (Named name.0 None)) where
      broken_is : arg_attribute_broken name.0 has kind its_rules ≡ reader.broken_by rules (map parameter_tree before) (record { kind = kind; export = export; name = Named name.0 None; default = value_tree default })
      broken_is = ap (λ (b : Bool). arg_attribute_broken name.0 b kind its_rules) has_is ∙ arg_attribute_is rules (map parameter_tree before) kind export name.0 default its_rules is

      pub arg_attribute_fails : (e : ReadError) → obeying (arg_attribute_broken name.0 has kind its_rules) s2 ≡ Err e → Found ≡ Err e
      unfolding headers.named_parameter leaves
      arg_attribute_fails e h =
          let k = ap (λ (l : List (Broken Token)). obeying l s2) (sym broken_is) ∙ h in
          rw (named, valued, k) refl

      module _ (obeyed : obeying (arg_attribute_broken name.0 has kind its_rules) s2 ≡ Ok (tt, s2)) where
        obeyed_is : obeying (reader.broken_by rules (map parameter_tree before) (record { kind = kind; export = export; name = Named name.0 None; default = value_tree default })) s2 ≡ Ok (tt, s2)
        obeyed_is = ap (λ (l : List (Broken Token)). obeying l s2) (sym broken_is) ∙ obeyed

        pub number_fails : (e : ReadError) → reader.next_binding_number (counters_of first) s2 ≡ Err e → Found ≡ Err e
        unfolding headers.named_parameter leaves
        number_fails e h = rw (named, valued, obeyed_is, h) refl

        pub parameter_read : (number : ℕ) (next : Numerator) → reader.next_binding_number (counters_of first) s2 ≡ Ok ((number, counters_of next), s2) → (new : List Parameter) (p : Parameter)
            → new ≡ before ++ p ∷ [] → p.name.token ≡ name.0
            → parameter_tree p ≡ record { kind = kind; export = export; name = Named p.name.token (Some (number_of number)); default = value_tree default }
            → Found ≡ Ok ((map parameter_tree new, counters_of next), s2)
        unfolding headers.named_parameter leaves
        parameter_read number next h new p e token tree =
            let q : Token → LeafParameter = λ t. record { kind = kind; export = export; name = Named t (Some (number_of number)); default = value_tree default } in
            let all : map parameter_tree new ≡ map parameter_tree before ++ q name.0 ∷ [] =
            ap (map parameter_tree) e ∙ map-append parameter_tree before (p ∷ []) ∙ ap (λ (r : LeafParameter). map parameter_tree before ++ r ∷ []) (tree ∙ ap q token) in
            rw (named, valued, obeyed_is, h, all) refl
