use Rattle.std.proofs.Common.{◌≡◌, ◌+◌, ◌<◌, ℕ, length, get_or, subst, sym, arith, inl, inr}
use Rattle.std.proofs.lemmas.Bool.{cases_lt}
use Rattle.justfile_lines.proofs.Searches.{found_between, found_last}
use Rattle.justfile_lines.proofs.lines.Lines.line.Goals as goal

pub returns : goal.returns
returns c =
    let starts = c.args.self.now.starts.items in
    let e : c.halves.high ≡ c.halves.low + 1 = omega (arith, c.halves-test.false, c.halves.invariant.order) in
    elim (cases_lt c.halves.high (length starts)) [
      | inl lt ↦ sym
          (found_between c.args.self.now.text.now starts c.halves.low c.args.offset c.args.self.now.are_starts (omega arith) c.halves.invariant.from
          (subst (λ (n : ℕ). c.args.offset < get_or starts n 0) e (c.halves.invariant.to lt)))
      | inr le ↦ sym
          (found_last c.args.self.now.text.now starts c.halves.low c.args.offset c.args.self.now.are_starts (omega (arith, c.halves.invariant.within)) c.halves.invariant.from)
    ]
