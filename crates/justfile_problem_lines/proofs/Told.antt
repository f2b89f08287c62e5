-- The lines of errors, one after the other.
use Rattle.std.proofs.Common.{◌≡◌, ◌∙◌, ◌<◌, ◌+◌, ℕ, List, [], ◌∷◌, ◌++◌, length, take, get_or, Result, Ok, Err, OnOk, sym, ap, subst, append-nil}
use Rattle.std.specs.List.{AllZip, flat_map}
use Rattle.std.proofs.lemmas.Grind.{flat_map-append}
use Rattle.std.proofs.lemmas.List.{take_more}
use Rattle.justfile_token.specs.declared.compile_error.CompileError.{CompileError}
use Rattle.justfile_problem_lines.specs.Lines.{AddsLines, TellErrors, error_text}

pub each_push : {X Y : Type 0} (R : X → Y → Type 0) (xs : List X) (ys : List Y) (x : X) (y : Y) → AllZip R xs ys → R x y → AllZip R (xs ++ x ∷ []) (ys ++ y ∷ [])
each_push R [] [] x y h k = (k, tt)
each_push R [] (b ∷ ys) x y h k = absurd h
each_push R (a ∷ xs) [] x y h k = absurd h
each_push R (a ∷ xs) (b ∷ ys) x y h k = (h.0, each_push R xs ys x y h.1 k)

module _ {X : Type 0} (source : List ℕ) (R : X → CompileError → Type 0) where
  -- what was appended, if it was
  pub adds : {A E : Type 0} (r : Result A E) (x : X) (error : CompileError) (old new : List ℕ) → R x error → OnOk r (new ≡ old ++ error_text source error) → OnOk r (AddsLines source R x old new)
  adds (Ok a) x error old new is h = record { error = error; is = is; added = h }
  adds (Err e) x error old new is h = tt

  -- one error more
  pub one_told : (xs : List X) (i : ℕ) (x : X) (old new : List ℕ) → i < length xs → x ≡ get_or xs i x → TellErrors source R (take i xs) old → AddsLines source R x old new
      → TellErrors source R (take (i + 1) xs) new
  one_told xs i x old new inside at so_far more =
      subst (λ l. TellErrors source R l new) (sym (take_more xs i x inside ∙ ap (λ y. take i xs ++ y ∷ []) (sym at)))
      (record {
        errors = so_far.errors ++ more.error ∷ [];
        each = each_push R (take i xs) so_far.errors x more.error so_far.each more.is;
        are =
            more.added ∙ ap (λ l. l ++ error_text source more.error) so_far.are
            ∙ sym (flat_map-append (error_text source) so_far.errors (more.error ∷ [])
            ∙ ap (λ l. flat_map (error_text source) so_far.errors ++ l) (append-nil (error_text source more.error)));
      })

  -- of a text that is the source
  pub adds_to : (text : List ℕ) (x : X) (old new : List ℕ) → text ≡ source → AddsLines text R x old new → AddsLines source R x old new
  adds_to text x old new is h = subst (λ s. AddsLines s R x old new) is h
