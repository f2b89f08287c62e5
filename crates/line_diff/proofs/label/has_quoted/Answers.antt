use Rattle.std.proofs.Common.{ap, sym, ◌∙◌}
use Rattle.std.proofs.lemmas.Iterator.{YieldsList-from_chars}
use Rattle.std.proofs.lemmas.Iterator.Consumers.{YieldsList-end, YieldsList-turn}
use Rattle.std.proofs.lemmas.List.{map-id}
use Rattle.std.specs.List.{list_any}
use Rattle.line_diff.specs.Label.{is_quoted}
use Rattle.line_diff.proofs.LabelLemmas.{list_any_at}
use Rattle.line_diff.proofs.label.has_quoted.Goals as goal

pub returns-then-is_quoted : goal.returns-then-is_quoted
returns-then-is_quoted c =
    let road = YieldsList-from_chars c.args.name.now c.utf8.name (cc) in
    let turn = YieldsList-turn road c.loop-character.yielded _ c.loop-character.yielded_by _ _ c.in-Some.character c.in-Some.is c.next.ensures.steps in
    sym (list_any_at is_quoted _ _ c.in-Some.character turn.0 turn.1 (sym c.is_quoted.ensures ∙ c.if-is_quoted.true))

pub returns : goal.returns
returns c =
    let end = YieldsList-end (YieldsList-from_chars c.args.name.now c.utf8.name (cc)) c.loop-character.yielded _ c.loop-character.yielded_by _ _ c.in-None.is c.next.ensures.steps in
    sym c.loop-character.invariant ∙ ap (list_any is_quoted) (sym (map-id _) ∙ end.0)
