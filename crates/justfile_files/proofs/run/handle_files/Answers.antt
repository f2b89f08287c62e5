use Rattle.std.proofs.Common.{◌∙◌, arith}
use Rattle.justfile_files.proofs.OutcomeLemmas.{given_alone, small_status, word_last, word_more, words_done}
use Rattle.justfile_files.proofs.run.handle_files.Goals as goal

pub returns-in_default-clause-outcomes : goal.returns-in_default-clause-outcomes
returns-in_default-clause-outcomes g c =
    let F = g.F.Formatter in
    let laws = g.met.F.Formatter in
    let before = c.loop-name.invariant in
    word_last F.formats F.rejects laws.one laws.settled laws.never_both c.args.task g.O.Output.writes g.O.Output.loses g.E.Messages.tells
    c.args.names.now c.loop-name.name-index c.name-item.result c.as_str-name.result.now c.loop-name-test.true c.name-item.is c.as_str-name.ensures.value
    before.reported c.handle_file.ensures.status c.in_default.is before.small

pub returns-in_default-clause-files : goal.returns-in_default-clause-files
returns-in_default-clause-files g c =
    let F = g.F.Formatter in
    let laws = g.met.F.Formatter in
    given_alone F.formats F.rejects laws.one laws.settled laws.never_both c.args.task g.O.Output.writes g.O.Output.loses g.E.Messages.tells
    (returns-in_default-clause-outcomes g c)

pub loop-name-preserved : goal.loop-name-preserved
loop-name-preserved g c =
    let F = g.F.Formatter in
    let laws = g.met.F.Formatter in
    let before = c.loop-name.invariant in
    let more = c.in-Some.ensures in
    record {
      reported =
          word_more F.formats F.rejects laws.one laws.settled laws.never_both c.args.task g.O.Output.writes g.O.Output.loses g.E.Messages.tells
          c.args.names.now c.loop-name.name-index c.name-item.result c.as_str-name.result.now c.loop-name-test.true c.name-item.is
          c.as_str-name.ensures.value before.reported more.status c.max-status.ensures;
      small = omega (arith, before.small, c.max-status.ensures, small_status more.status.outcome _ more.status.status_is);
      silent = λ small. more.silent (omega (arith, small, c.max-status.ensures)) ∙ before.silent (omega (arith, small, c.max-status.ensures));
    }

pub returns-clause-outcomes : goal.returns-clause-outcomes
returns-clause-outcomes g c =
    let F = g.F.Formatter in
    let laws = g.met.F.Formatter in
    words_done F.formats F.rejects laws.one laws.settled laws.never_both c.args.task g.O.Output.writes g.O.Output.loses g.E.Messages.tells
    c.args.names.now c.loop-name.name-index c.loop-name-test.false c.loop-name.invariant.reported

pub returns-clause-files : goal.returns-clause-files
returns-clause-files g c =
    let F = g.F.Formatter in
    let laws = g.met.F.Formatter in
    given_alone F.formats F.rejects laws.one laws.settled laws.never_both c.args.task g.O.Output.writes g.O.Output.loses g.E.Messages.tells
    (returns-clause-outcomes g c)
