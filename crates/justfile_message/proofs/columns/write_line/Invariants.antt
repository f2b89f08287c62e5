use Rattle.std.proofs.Common.{length}
use denote.Text.{Utf8}
use denote.Shadow.{shadow}
use Rattle.justfile_message.specs.Columns.{WritesFront}
use Rattle.justfile_message.proofs.columns.write_line.Given as goal

-- the front of the line is written
abbrev pub invariant-loop-text : goal.invariant-loop-text
invariant-loop-text g l = shadow (Utf8 l.rest) × WritesFront g.W.Write.write_str_gives l.initial.f l.line l.rest l.f

abbrev pub decreases-loop-text : goal.decreases-loop-text
decreases-loop-text g l = length l.rest
