use Rattle.std.proofs.Common.{◌≡◌, filter, map, take}
use Rattle.justfile_lines.specs.Positions.{IsPlace}
use Rattle.editor_language.specs.Mentions.{is_like}
use Rattle.editor_answers.specs.Ranges.{highlight_of}
use Rattle.editor_answers.proofs.shown.Shown.highlights.Given as goal

abbrev pub invariant-loop-mention : goal.invariant-loop-mention
invariant-loop-mention l = record {
  are : l.highlights.items ≡ map (highlight_of l.self.encoding l.self.lines.text.now) (filter (is_like l.name) (take l.mention-index l.mentions));
  place : IsPlace l.self.encoding l.self.lines.text.now l.known;
}
