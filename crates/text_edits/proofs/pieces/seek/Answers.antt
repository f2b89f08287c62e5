use Rattle.text_edits.proofs.Cut.{counted, sought}
use Rattle.text_edits.proofs.pieces.seek.Goals as goal

pub returns-clause-offset : goal.returns-clause-offset
returns-clause-offset c =
    sought c.args.encoding c.go_on.new.before.items _ _ c.args.position c.go_on.result c.requires.utf8 c.in_ok-there.ensures.same c.go_on.ensures.leads c.go_on.ensures.reaches

pub returns-clause-count : goal.returns-clause-count
returns-clause-count c = counted c.args.encoding c.go_on.new.before.items c.go_on.result c.go_on.ensures.leads
