-- If a part of a header can't be read or breaks a rule, neither can the header with the parts before and after it.
use Rattle.std.proofs.Common.{◌≡◌, Ok, Err, refl, sym, ap, subst}
use Rattle.justfile_token.specs.declared.compile_error.CompileError.{CompileError}
use Rattle.justfile_model.specs.Readers.ReaderState as reading
use Rattle.justfile_model.specs.Readers.ReaderState.{◌>>=◌}
use Rattle.justfile_parse_base.specs.ParseErrors.{IsParseError, IsErrorOfRead}
use Rattle.justfile_parse_expression.specs.MethodResults.{IsExpressionError, literal_read_error, read_error_at}
use Rattle.justfile_parse_expression.specs.TableReader.{Read, ReadError, State}
use Rattle.justfile_parse_base.specs.declared.parse_error.ParseError.{ParseError}
use Rattle.justfile_parse_base.specs.declared.parse_error.ParseError.TheVariants.{Expression, Compile}
use Rattle.justfile_parse_expression.specs.declared.expression_error.ExpressionError.{ExpressionError}
use Rattle.justfile_parse_expression.specs.declared.expression_error.ExpressionError.TheVariants.{Refused, Literal, Memory, Numbers}

-- what refuses wherever something else does
module _ {X Y : Type 0} (found : Read X) (other : Read Y) (fails : (e : ReadError) → found ≡ Err e → other ≡ Err e) where
  pub stopped : (stop : ExpressionError) (left : State) (Short Wanting : Type 0) → (Short → Wanting) → IsExpressionError stop left Short found → IsExpressionError stop left Wanting other
  stopped (Refused r) left Short Wanting f h = fails (read_error_at r left) h
  stopped (Literal refused) left Short Wanting f h = fails (literal_read_error refused.value.error) h
  stopped Memory left Short Wanting f h = tt
  stopped Numbers left Short Wanting f h = f h

  pub broken : (e : CompileError) → IsErrorOfRead found e → IsErrorOfRead other e
  broken e h = go found refl h
    where
      go : (o : Read X) → found ≡ o → IsErrorOfRead o e → IsErrorOfRead other e
      go (Ok x) is h = absurd h
      go (Err (reading.Unexpected t)) is h = absurd h
      go (Err (reading.TooDeep t)) is h = absurd h
      go (Err (reading.NotCooked fault t)) is h = absurd h
      go (Err (reading.BreaksRule rule)) is h = subst (λ (o : Read Y). IsErrorOfRead o e) (sym (fails (reading.BreaksRule rule) is)) h
      go (Err (reading.Extraneous count opener)) is h = subst (λ (o : Read Y). IsErrorOfRead o e) (sym (fails (reading.Extraneous count opener) is)) h
      go (Err (reading.AfterVariadic name)) is h = subst (λ (o : Read Y). IsErrorOfRead o e) (sym (fails (reading.AfterVariadic name) is)) h
      go (Err (reading.UnknownSetting name)) is h = subst (λ (o : Read Y). IsErrorOfRead o e) (sym (fails (reading.UnknownSetting name) is)) h
      go (Err (reading.ExpectedKeyword expected t)) is h = subst (λ (o : Read Y). IsErrorOfRead o e) (sym (fails (reading.ExpectedKeyword expected t) is)) h
      go (Err (reading.NoNumber counters)) is h = absurd h

  pub failed : (failure : ParseError) (left : State) (Short Wanting : Type 0) → (Short → Wanting) → IsParseError failure left Short found → IsParseError failure left Wanting other
  failed (Expression stop) left Short Wanting f h = stopped stop left Short Wanting f h
  failed (Compile error) left Short Wanting f h = broken error.value h

-- what is not read first is not read
pub first_fails : {X Y : Type 0} (found : Read X) (next : X × State → Read Y) (e : ReadError) → found ≡ Err e → (found >>= next) ≡ Err e
first_fails found next e h = ap (λ (o : Read _). o >>= next) h

pub first_stops : {X Y : Type 0} (found : Read X) (next : X × State → Read Y) (stop : ExpressionError) (left : State) (Wanting : Type 0) → IsExpressionError stop left ⊥ found
    → IsExpressionError stop left Wanting (found >>= next)
first_stops found next stop left Wanting h = stopped found (found >>= next) (first_fails found next) stop left ⊥ Wanting (λ k. absurd k) h

pub first_errs : {X Y : Type 0} (found : Read X) (next : X × State → Read Y) (error : ParseError) (left : State) (Wanting : Type 0) → IsParseError error left ⊥ found
    → IsParseError error left Wanting (found >>= next)
first_errs found next error left Wanting h = failed found (found >>= next) (first_fails found next) error left ⊥ Wanting (λ k. absurd k) h
