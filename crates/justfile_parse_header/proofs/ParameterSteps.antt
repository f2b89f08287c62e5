-- What parsing parameters returns and writes, one step after another.
use Rattle.std.proofs.Common.{◌≡◌, List, [], map, Result, Some, None, Ok, Err, refl, sym, subst, arith}
use Rattle.justfile_numbers.specs.declared.numerator.Numerator.{Numerator}
use Rattle.justfile_vocabulary.specs.declared.token_kind.TokenKind.{TokenKind}
use Rattle.justfile_vocabulary.specs.declared.token_kind.TokenKind.TheVariants as kinds
use Rattle.justfile_recipe_header.specs.declared.parameter.Parameter.{Parameter}
use Rattle.justfile_model.specs.Readers.HeaderReader as headers
use Rattle.justfile_model.specs.Readers.ReaderState.{NoNumber}
use Rattle.justfile_model.specs.declared.parameter_kind.ParameterKind.{ParameterKind}
use Rattle.justfile_model.specs.declared.parameter_kind.ParameterKind.TheVariants.{Plus, Star}
use Rattle.justfile_parse_base.specs.ParseErrors.{ReadsRuled}
use Rattle.justfile_parse_base.specs.declared.parse_error.ParseError.{ParseError}
use Rattle.justfile_parse_base.specs.declared.parse_error.ParseError.TheVariants.{Expression}
use Rattle.justfile_parse_expression.specs.MethodResults.{IsExpressionError}
use Rattle.justfile_parse_expression.specs.Significant.{TableToken}
use Rattle.justfile_parse_expression.specs.TableReader.{Read, ReadError, State, accept, expect}
use Rattle.justfile_parse_expression.specs.declared.expression_error.ExpressionError.{ExpressionError}
use Rattle.justfile_parse_base.specs.Counting.{TookBindingNumbers, counters_of, identifiers_left, identifiers_left_after}
use Rattle.justfile_parse_header.specs.HeaderTable as reader
use Rattle.justfile_parse_header.specs.HeaderTable.{Rules}
use Rattle.justfile_parse_header.specs.ParameterResults.{ParameterReader, ReadsParameters}
use Rattle.justfile_parse_header.specs.Tree.{parameter_tree}
use Rattle.justfile_parse_header.specs.declared.read_parameters.ReadParameters.{ReadParameters}
use Rattle.justfile_parse_base.proofs.BindingNumbers.{took_after_token, took_before_token, took_both, took_none, within}
use Rattle.justfile_parse_base.proofs.HeaderErrors.{failed, stopped}
use Rattle.justfile_parse_header.proofs.Parameters.{both_fields, same_fields}

-- after a token that was taken
pub after_token : {X : Type 0} (rules : List Rules) (parameters : X → List Parameter) (result : Result X ParseError) (before : List Parameter) (old new : Numerator) (kind : TokenKind)
    (s : State) (x : TableToken × State) (last : State) (all rest : ParameterReader) → accept kind s ≡ Some x
    → all rules ((map parameter_tree before, counters_of old), s) ≡ rest rules ((map parameter_tree before, counters_of old), x.1)
    → ReadsParameters rules parameters result before old new x.1 last rest → ReadsParameters rules parameters result before old new s last all
after_token rules parameters result before old new kind s x last all rest taken same h = record {
  reads = rw same h.reads;
  fields = h.fields;
  numbers = took_after_token old new kind s x (identifiers_left_after result last) taken h.numbers;
}

-- ---- the last one

module _ (rules : List Rules) (x : reader.Parameters) (s : State) where
  pub plus_next : (plus : TableToken × State) → accept kinds.Plus s ≡ Some plus → reader.last_parameter rules (x, s) ≡ reader.variadic rules Plus (x, plus.1)
  unfolding headers.last_parameter
  plus_next plus h = rw h refl

  module _ (no_plus : accept kinds.Plus s ≡ None) where
    pub star_next : (star : TableToken × State) → accept kinds.Asterisk s ≡ Some star → reader.last_parameter rules (x, s) ≡ reader.variadic rules Star (x, star.1)
    unfolding headers.last_parameter
    star_next star h = rw (no_plus, h) refl

    none_next : accept kinds.Asterisk s ≡ None → reader.last_parameter rules (x, s) ≡ Ok (x, s)
    unfolding headers.last_parameter
    none_next h = rw (no_plus, h) refl

-- there is none
pub no_last : (rules : List Rules) (before : List Parameter) (old : Numerator) (s : State) → accept kinds.Plus s ≡ None → accept kinds.Asterisk s ≡ None
    → ReadsParameters {X = Unit {0}} rules (λ _. before) (Ok tt) before old old s s reader.last_parameter
no_last rules before old s h k = record {
  reads = none_next rules (map parameter_tree before, counters_of old) s h k;
  fields = same_fields rules before;
  numbers = took_none old (identifiers_left s) (identifiers_left s) (omega arith);
}

module _ (rules : List Rules) (kind : ParameterKind) (before after : List Parameter) (old new : Numerator) (s last : State) where
  abbrev pub Variadic : Result (Unit {0}) ParseError → ParameterReader → Type 0
  Variadic result read = ReadsParameters rules (λ _. after) result before old new s last read

  variadic_fails : (e : ReadError) → reader.parameter rules kind ((map parameter_tree before, counters_of old), s) ≡ Err e
      → reader.variadic rules kind ((map parameter_tree before, counters_of old), s) ≡ Err e
  unfolding headers.variadic
  variadic_fails e h = rw h refl

  pub no_variadic : (error : ParseError) → Variadic (Err error) (λ rules. reader.parameter rules kind) → Variadic (Err error) (λ rules. reader.variadic rules kind)
  no_variadic error h = record {
    reads =
        failed (reader.parameter rules kind ((map parameter_tree before, counters_of old), s)) (reader.variadic rules kind ((map parameter_tree before, counters_of old), s)) variadic_fails error last _ _
        (variadic_fails (NoNumber (counters_of new))) h.reads;
    fields = tt;
    numbers = h.numbers;
  }

  -- no name may follow
  pub then_no_name : (result : Result (Unit {0}) ParseError) → Variadic (Ok tt) (λ rules. reader.parameter rules kind) → ReadsRuled (λ _. tt) result last (reader.expect_no_name last)
      → Variadic result (λ rules. reader.variadic rules kind)
  unfolding headers.variadic
  then_no_name (Ok tt) h k = record { reads = rw (h.reads, k) refl; fields = h.fields; numbers = h.numbers }
  then_no_name (Err error) h k = record {
    reads = failed (reader.expect_no_name last) (reader.variadic rules kind ((map parameter_tree before, counters_of old), s)) (λ e is. rw (h.reads, is) refl) error last ⊥ _ (λ j. absurd j) k;
    fields = tt;
    numbers = within old new (identifiers_left s) (identifiers_left last) (identifiers_left s) 0 h.numbers (omega arith) (omega arith);
  }

-- ---- all of them

-- the reader of all parameters, in the form of the others
abbrev pub all_parameters : ParameterReader
all_parameters rules x = reader.parameters rules x.0.1 x.1

-- the parameters that were read
abbrev pub All : Result ReadParameters ParseError → (rules : List Rules) → (old new : Numerator) → (first last : State) → Type 0
All result rules old new first last = ReadsParameters rules (λ (read : ReadParameters). read.list.items) result [] old new first last all_parameters

module _ (rules : List Rules) (first : Numerator) (s : State) where
  abbrev Found : Read reader.Parameters
  Found = reader.parameters rules (counters_of first) s

  singulars_fail : (e : ReadError) → reader.singulars rules (([], counters_of first), s) ≡ Err e → Found ≡ Err e
  unfolding headers.parameters
  singulars_fail e h = rw h refl

  pub no_singulars : (error : ParseError) (singular : List Parameter) (then : Numerator) (s1 : State)
      → ReadsParameters {X = Unit {0}} rules (λ _. singular) (Err error) [] first then s s1 reader.singulars → All (Err error) rules first then s s1
  no_singulars error singular then s1 h = record {
    reads = failed (reader.singulars rules (([], counters_of first), s)) Found singulars_fail error s1 _ _ (singulars_fail (NoNumber (counters_of then))) h.reads;
    fields = tt;
    numbers = h.numbers;
  }

  module _ (singular : List Parameter) (between : Numerator) (s1 : State) (begun : ReadsParameters {X = Unit {0}} rules (λ _. singular) (Ok tt) [] first between s s1 reader.singulars) where
    last_fails : (e : ReadError) → reader.last_parameter rules ((map parameter_tree singular, counters_of between), s1) ≡ Err e → Found ≡ Err e
    unfolding headers.parameters
    last_fails e h = rw (begun.reads, h) refl

    pub no_last_read : (error : ParseError) (all : List Parameter) (then : Numerator) (s2 : State)
        → ReadsParameters {X = Unit {0}} rules (λ _. all) (Err error) singular between then s1 s2 reader.last_parameter → All (Err error) rules first then s s2
    no_last_read error all then s2 h = record {
      reads =
          failed (reader.last_parameter rules ((map parameter_tree singular, counters_of between), s1)) Found last_fails error s2 _ _ (last_fails (NoNumber (counters_of then))) h.reads;
      fields = tt;
      numbers = took_both first between then (identifiers_left s) (identifiers_left s1) 0 begun.numbers h.numbers;
    }

    module _ (all : List Parameter) (then : Numerator) (s2 : State) (ended : ReadsParameters {X = Unit {0}} rules (λ _. all) (Ok tt) singular between then s1 s2 reader.last_parameter) where
      took : TookBindingNumbers first then (identifiers_left s) (identifiers_left s2)
      took = took_both first between then (identifiers_left s) (identifiers_left s1) (identifiers_left s2) begun.numbers ended.numbers

      colon_fails : (e : ReadError) → expect kinds.Colon s2 ≡ Err e → Found ≡ Err e
      unfolding headers.parameters
      colon_fails e h = rw (begun.reads, ended.reads, h) refl

      pub no_colon : (cause : ExpressionError) (left : State) → IsExpressionError cause left ⊥ (expect kinds.Colon s2) → All (Err (Expression cause)) rules first then s left
      no_colon cause left h = record {
        reads = stopped (expect kinds.Colon s2) Found colon_fails cause left ⊥ _ (λ k. absurd k) h;
        fields = tt;
        numbers = within first then (identifiers_left s) (identifiers_left s2) (identifiers_left s) 0 took (omega arith) (omega arith);
      }

      pub all_read : (x : TableToken × State) → expect kinds.Colon s2 ≡ Ok x → (parameters : ReadParameters) → parameters.list.items ≡ all → All (Ok parameters) rules first then s x.1
      unfolding headers.parameters
      all_read x h parameters is =
          let P : List Parameter → Type 0 = λ ps. ReadsParameters {X = Unit {0}} rules (λ _. ps) (Ok tt) [] first then s x.1 all_parameters in
          let read : P all = record {
            reads = rw (begun.reads, ended.reads, h) refl;
            fields = both_fields rules [] singular all begun.fields ended.fields;
            numbers = took_before_token first then kinds.Colon (identifiers_left s) s2 x h took;
          } in
          let moved = subst P (sym is) read in
          record { reads = moved.reads; fields = moved.fields; numbers = moved.numbers }
