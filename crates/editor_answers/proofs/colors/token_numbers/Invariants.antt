use Rattle.justfile_lines.specs.Positions.{IsPlace}
use Rattle.editor_answers.proofs.colors.token_numbers.Given as goal

abbrev pub invariant-loop-token : goal.invariant-loop-token
invariant-loop-token l = IsPlace l.shown.encoding l.shown.lines.text.now l.known
