use Rattle.std.proofs.Common.{◌∙◌, All, List, length, sym, subst}
use Rattle.circles.specs.declared.circle.Circle.{Circle as Ring}
use Rattle.justfile_problems.specs.Circular.{IsInside}
use Rattle.justfile_problems.proofs.Rings.{among_result, rings_inside}
use Rattle.justfile_problems.proofs.circular.circles_among.Goals as goal

pub read_all-requires : goal.read_all-requires
read_all-requires c =
    let P : List Ring → Type 0 = λ l. All (IsInside (length c.args.steps.now)) l in
    subst P (sym c.deref-2.ensures.value) (rings_inside c.args.steps.now c.deref.result.now c.in_ok-rings.rings.items (c.deref.ensures.value ∙ c.in_ok-edges.ensures) c.in_ok-rings.ensures)

pub returns : goal.returns
returns c =
    among_result c.read_all.result c.args.steps.now c.deref.result.now c.in_ok-rings.rings.items c.deref-2.result.now (c.deref.ensures.value ∙ c.in_ok-edges.ensures) c.in_ok-rings.ensures c.deref-2.ensures.value
    c.read_all.ensures
