-- What functions that parse parameters return and write.
use Rattle.std.specs.Prelude.{ℕ, List, Result, IfOk, map}
use Rattle.justfile_numbers.specs.declared.numerator.Numerator.{Numerator}
use Rattle.justfile_recipe_header.specs.declared.parameter.Parameter.{Parameter}
use Rattle.justfile_parse_base.specs.declared.parse_error.ParseError.{ParseError}
use Rattle.justfile_parse_expression.specs.TableReader.{Read, State}
use Rattle.justfile_parse_expression.specs.View.{state_of}
use Rattle.justfile_parse_expression.specs.declared.parser_state.ParserState.{ParserState}
use Rattle.justfile_parse_header.specs.ArgAttribute.{KeepsDerivedParameterFields}
use Rattle.justfile_parse_base.specs.Counting.{ReadsCounted, TookBindingNumbers, counters_of, identifiers_left, identifiers_left_after}
use Rattle.justfile_parse_header.specs.HeaderTable.{Parameters, Rules}
use Rattle.justfile_parse_header.specs.Tree.{parameter_tree}

-- how parameters are read after others, with these rules
abbrev pub ParameterReader : Type 0
ParameterReader = List Rules → Parameters × State → Read Parameters

-- On success `parameters` of what was returned are those in `before`, and after them those that `read` reads, with the derived fields that
-- the rules determine. Only these were given numbers.
pub record ReadsParameters {X : Type 0} (rules : List Rules) (parameters : X → List Parameter) (result : Result X ParseError) (before : List Parameter) (old new : Numerator)
    (first last : State) (read : ParameterReader) : Type 0 where
  pub reads : ReadsCounted (λ x. map parameter_tree (parameters x)) result new last (read rules ((map parameter_tree before, counters_of old), first))
  pub fields : IfOk result (λ x. KeepsDerivedParameterFields rules before (parameters x))
  pub numbers : TookBindingNumbers old new (identifiers_left first) (identifiers_left_after result last)

-- the same from the parser before it to the parser after it
abbrev pub ParsesParameters : {X E : Type 0} (answer : E → List ℕ → Result (List ℕ) (List ℕ)) → List Rules → (X → List Parameter) → Result X ParseError → (before : List Parameter)
    → (old new : Numerator) → (first last : ParserState E) → ParameterReader → Type 0
ParsesParameters answer rules parameters result before old new first last read = ReadsParameters rules parameters result before old new (state_of answer first) (state_of answer last) read
