use Rattle.std.proofs.Common.{◌≡◌, ◌++◌, map, take, string_bytes}
use Rattle.std.specs.List.{flat_map}
use Rattle.justfile_model.specs.LiteralTexts.Unindent.{middle_line}
use Rattle.justfile_literal_parts.proofs.unindent.push_later_lines.Given as goal

abbrev pub invariant-loop-line : goal.invariant-loop-line
invariant-loop-line l = string_bytes l.text ≡ string_bytes l.initial.text ++ flat_map (middle_line l.run) (map (λ line. line.now) (take l.line-index l.middle))
