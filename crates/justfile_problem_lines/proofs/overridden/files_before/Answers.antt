use Rattle.std.proofs.Common.{◌∙◌, ℕ, ap, arith, nat_eq, sym}
use Rattle.std.proofs.lemmas.List.Quantifiers.{position-Some}
use Rattle.justfile_problem_lines.specs.Modules.{up_to}
use Rattle.justfile_problem_lines.proofs.overridden.files_before.Goals as goal

pub split_at-requires : goal.split_at-requires
split_at-requires c = omega (arith, (position-Some (λ (other : ℕ). nat_eq other c.args.index) c.args.group.now c.in-Some.place 0 (sym c.place_in.ensures ∙ c.in-Some.is)).0)

pub returns-in-Some : goal.returns-in-Some
returns-in-Some c = c.split_at.ensures.front ∙ ap (up_to c.args.group.now) (sym c.in-Some.is ∙ c.place_in.ensures)

pub returns-in-None : goal.returns-in-None
returns-in-None c = ap (up_to c.args.group.now) (sym c.in-None.is ∙ c.place_in.ensures)
