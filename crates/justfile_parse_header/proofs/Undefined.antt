-- The errors of `arg` attributes that name no parameter.
use Rattle.std.proofs.Common.{◌≡◌, List, [], ◌∷◌, not, Option, Some, None, Ok, Err, refl, sym, subst, string_bytes}
use Rattle.std.specs.List.{filter}
use Rattle.std.specs.Option.{option_map}
use Rattle.justfile_attribute_rules.specs.Made.{IsFaultOfRule, quoted_leaf}
use Rattle.justfile_token.specs.declared.fault.Fault.{Fault}
use Rattle.justfile_token.specs.declared.string_literal.StringLiteral.{StringLiteral}
use Rattle.justfile_model.specs.Meanings.AttributeRules.{least, of_some}
use Rattle.justfile_model.specs.Readers.HeaderReader.{obeying}
use Rattle.justfile_model.specs.Meanings.Meaning.{text_of}
use Rattle.justfile_model.specs.Readers.ReaderState as reading
use Rattle.justfile_model.specs.Meanings.RecipeRules.{is_parameter}
use Rattle.justfile_model.specs.Meanings.Rules.{UndefinedArgAttribute}
use Rattle.justfile_parse_base.specs.ParseErrors.{IsParseError, IsErrorOfFault}
use Rattle.justfile_parse_base.specs.declared.parse_error.ParseError.{ParseError}
use Rattle.justfile_parse_base.proofs.RuleSteps.{fails_for}
use Rattle.justfile_parse_expression.specs.TableReader.{Read, State}
use Rattle.justfile_parse_header.specs.Arguments.{least_undefined}
use Rattle.justfile_parse_header.specs.HeaderTable.{LeafParameter, Rules, undefined}
use Rattle.justfile_parse_header.proofs.Texts.{text_is}
use Rattle.justfile_expression.specs.LeafViews.{views_leaves}

module _ (parameters : List LeafParameter) (rules : List Rules) (s : State) where
  -- the refusal of the least argument
  abbrev refusing : Option Rules → Read (Unit {0})
  refusing o = obeying (of_some (λ (a : Rules). record { rule = UndefinedArgAttribute (text_of views_leaves a.name); token = views_leaves.place a.name.token } ∷ []) o) s

  abbrev least_of : Option Rules
  least_of = least (λ (a : Rules). text_of views_leaves a.name) (filter (λ a. not (is_parameter views_leaves parameters a)) rules)

  pub is_defined : None ≡ least_undefined parameters rules → obeying (undefined parameters rules) s ≡ Ok (tt, s)
  is_defined h = go least_of h
    where
      go : (o : Option Rules) → None ≡ option_map (λ (r : Rules). r.name) o → refusing o ≡ Ok (tt, s)
      go None h = refl
      go (Some a) h = cc

  pub is_undefined : (l : StringLiteral) (fault : Fault) (error : ParseError) → Some (quoted_leaf l) ≡ least_undefined parameters rules
      → IsFaultOfRule (UndefinedArgAttribute (string_bytes l.cooked)) l.token fault → IsErrorOfFault error fault
      → IsParseError error s ⊥ (obeying (undefined parameters rules) s)
  is_undefined l fault error found refused h = go least_of found
    where
      go : (o : Option Rules) → Some (quoted_leaf l) ≡ option_map (λ (r : Rules). r.name) o → IsParseError error s ⊥ (refusing o)
      go None k = cc
      go (Some a) k =
          subst
          (λ q. IsParseError {Y = Unit {0} × State} error s ⊥ (Err (reading.BreaksRule (record { rule = UndefinedArgAttribute (text_of views_leaves q); token = views_leaves.place q.token }))))
          (inside k)
          (subst (λ text. IsParseError {Y = Unit {0} × State} error s ⊥ (Err (reading.BreaksRule (record { rule = UndefinedArgAttribute text; token = l.token })))) (sym (text_is l))
          (fails_for (Unit {0} × State) (UndefinedArgAttribute (string_bytes l.cooked)) l.token fault error s h refused))
        where
          inside : Some (quoted_leaf l) ≡ Some a.name → quoted_leaf l ≡ a.name
          inside k = cc
