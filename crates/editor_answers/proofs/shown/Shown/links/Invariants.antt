use Rattle.std.proofs.Common.{◌≡◌, map, take}
use Rattle.editor_answers.specs.Links.{pointed, to_point}
use Rattle.editor_answers.proofs.shown.Shown.links.Given as goal

abbrev pub invariant-loop-link : goal.invariant-loop-link
invariant-loop-link l = map pointed l.links.items ≡ map (to_point l.self.encoding l.self.lines.text.now l.folder) (take l.link-index l.found)
