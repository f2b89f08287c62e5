use Rattle.std.proofs.Common.{sym, ap, ◌∙◌, arith}
use Rattle.std.specs.BTreeSet.{BTreeSet}
use Rattle.justfile_line.specs.declared.sigil.Sigil.{Sigil}
use Rattle.justfile_line.proofs.SigilLaws.{gathered_more, gathered_all, stopped_at_end, stopped_at_other, stopped_at_again}
use Rattle.justfile_line.proofs.line.front_sigils.Goals as goal
use Rattle.justfile_line.proofs.line.front_sigils.Goals.{else-loop-byte-test, then-loop-byte-test+in_default, then-loop-byte-test+in-Some+in_ok-insert+then-not-branch}

pub loop-byte-preserved : goal.loop-byte-preserved
loop-byte-preserved c =
    gathered_more c.args.guards c.args.text.now c.loop-byte.byte-index c.loop-byte.sigils c.insert.new.self c.in-Some.sigil (omega arith)
    (sym c.of_byte.ensures ∙ c.in-Some.is) (grind (arith, c.in_ok-insert.ensures.added, c.if-not-branch.false)) c.in_ok-insert.ensures.updates.0 c.loop-byte.invariant

pub returns : goal.returns
returns c =
    let i = c.loop-byte.byte-index in
    let set = c.loop-byte.sigils in
    let text = c.args.text.now in
    elim c.loop-byte-test.branch [
      | else-loop-byte-test w ↦ gathered_all c.args.guards text i set.keys c.loop-byte.invariant (stopped_at_end c.args.guards text i set.keys (omega arith)) c.loop-byte-test.sigils.keys (ap (λ (s : BTreeSet Sigil). s.keys) w.sigils-is)
      | then-loop-byte-test+in_default w ↦ gathered_all c.args.guards text i set.keys c.loop-byte.invariant (stopped_at_other c.args.guards text i set.keys (sym w.of_byte.ensures ∙ w.in_default.is)) c.loop-byte-test.sigils.keys (ap (λ (s : BTreeSet Sigil). s.keys) w.sigils-is)
      | then-loop-byte-test+in-Some+in_ok-insert+then-not-branch w ↦ gathered_all c.args.guards text i set.keys c.loop-byte.invariant (stopped_at_again c.args.guards text i set w.in-Some.sigil (sym w.of_byte.ensures ∙ w.in-Some.is) (grind (arith, w.in_ok-insert.ensures.added, w.if-not-branch.true))) c.loop-byte-test.sigils.keys (ap (λ (s : BTreeSet Sigil). s.keys) w.sigils-is ∙ (rw w.if-not-branch.true at w.in_ok-insert.ensures.unchanged))
    ]
