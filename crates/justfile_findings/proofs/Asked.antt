-- The message of an error, with the name that may be meant.
use Rattle.std.proofs.Common.{◌≡◌, ◌∙◌, ◌++◌, ℕ, List, Option, None, Some, Result, Ok, Err, IfOk, String, ap, append-nil, string_bytes, sym}
use Rattle.std.specs.Option.{option_copied}
use Rattle.std.specs.declared.alloc.Global.{Global}
use denote.Ref.{Bor}
use Rattle.justfile_token.specs.Messages.{message_text}
use Rattle.justfile_token.specs.declared.compile_error.CompileError.{CompileError}
use Rattle.justfile_problems.specs.Errors.{IsErrorOf}
use Rattle.justfile_problems.specs.declared.problem.Problem.{Problem}
use Rattle.justfile_findings.specs.Suggestions.{question}

pub without : {E : Type 0} (r : Result (String Global) E) (text : List ℕ) (name : Option (Bor (List ℕ))) → name ≡ None → IfOk r (λ made. string_bytes made ≡ text)
    → IfOk r (λ made. string_bytes made ≡ text ++ question (option_copied name))
without (Ok made) text name e h = h ∙ sym (append-nil text) ∙ ap (λ (n : Option (Bor (List ℕ))). text ++ question (option_copied n)) (sym e)
without (Err x) text name e h = tt

pub with : {E : Type 0} (r : Result (String Global) E) (text : List ℕ) (name : Option (Bor (List ℕ))) (one : Bor (List ℕ)) → name ≡ Some one
    → IfOk r (λ made. string_bytes made ≡ text ++ question (Some one.now)) → IfOk r (λ made. string_bytes made ≡ text ++ question (option_copied name))
with (Ok made) text name one e h = h ∙ ap (λ (n : Option (Bor (List ℕ))). text ++ question (option_copied n)) (sym e)
with (Err x) text name one e h = tt

-- it is that of the error that a problem is
pub of_problem : {E : Type 0} (r : Result (String Global) E) (problem : Problem) (error : CompileError) (end : List ℕ) → IsErrorOf problem error
    → IfOk r (λ made. string_bytes made ≡ message_text error ++ end) → IfOk r (λ made. (x : CompileError) × IsErrorOf problem x × (string_bytes made ≡ message_text x ++ end))
of_problem (Ok made) problem error end is h = (error, is, h)
of_problem (Err x) problem error end is h = tt
