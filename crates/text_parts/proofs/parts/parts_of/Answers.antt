use Rattle.std.proofs.Common.{rules}
use Rattle.text_parts.proofs.Fitting.{all_found, begun_more}
use Rattle.text_parts.proofs.parts.parts_of.Goals as goal

pub returns-then-at-text : goal.returns-then-at-text
returns-then-at-text g c =
    all_found g.C.Cut.is_part c.args.text.now c.parts.parts.items c.find_part.new.done.items c.parts.at c.in_ok-at.at
    c.parts.invariant c.in_ok-at.ensures (search (rules, c.if-at-text.true))

pub parts-preserved : goal.parts-preserved
parts-preserved g c =
    begun_more g.C.Cut.is_part c.args.text.now c.parts.parts.items c.find_part.new.done.items c.parts.at c.in_ok-at.at
    c.parts.invariant c.in_ok-at.ensures (search (rules, c.if-at-text.false))
