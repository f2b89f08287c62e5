use Rattle.std.proofs.Common.{sym, ◌∙◌}
use Rattle.std.proofs.lemmas.Iterator.{YieldsList-from_chars}
use Rattle.std.proofs.lemmas.Iterator.Consumers.{YieldsList-end}
use Rattle.std.proofs.lemmas.List.{map-id}
use Rattle.line_diff.proofs.LabelLemmas.{quoted_label}
use Rattle.line_diff.proofs.label.in_quotes.Goals as goal

pub returns : goal.returns
returns c =
    let end = YieldsList-end (YieldsList-from_chars c.args.name.now c.utf8.name (cc)) c.loop-character.yielded _ c.loop-character.yielded_by _ _ c.in-None.is c.next.ensures.steps in
    quoted_label c.args.name.now _ _ c.loop-character.yielded (sym c.has_quoted.ensures ∙ c.if-not-has_quoted.false) c.loop-character.invariant
    (sym (map-id _) ∙ end.0) c.in_ok-push_str.ensures.bytes
