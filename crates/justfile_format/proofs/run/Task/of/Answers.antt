use Rattle.std.proofs.Common.{◌≡◌, ◌≤◌, ◌<◌, ℕ, List, [], ◌∷◌, length, get_or, map, codes, string_bytes, sym, ap, ◌∙◌, arith}
use Rattle.std.specs.Prelude.{String}
use Rattle.std.specs.Global.{Global}
use Rattle.std.proofs.lemmas.Slice.Eq.{bytes_eq-Decides}
use Rattle.justfile_format.proofs.run.Task.of.Goals as goal

-- the texts of a list of one
only : (xs : List (String Global)) (x : String Global) (text : List ℕ) → 1 ≤ length xs → length xs < 2 → x ≡ get_or xs 0 x → string_bytes x ≡ text → map string_bytes xs ≡ text ∷ []
only [] x text h g e f = absurd (omega arith)
only (y ∷ []) x text h g e f = ap (λ (z : String Global). string_bytes z ∷ []) (sym e) ∙ ap (λ l. l ∷ []) f
only (y ∷ z ∷ ys) x text h g e f = absurd (omega arith)

pub returns-then-eq-clause-check : goal.returns-then-eq-clause-check
returns-then-eq-clause-check c = λ asked.
    only c.args.arguments.now c.argument-item.result (codes "--check") (omega arith) (omega arith) c.argument-item.is
    (sym c.as_str.ensures.value ∙ (bytes_eq-Decides c.as_str.result.now (codes "--check")).0 (sym c.eq.ensures ∙ c.if-eq.true))
