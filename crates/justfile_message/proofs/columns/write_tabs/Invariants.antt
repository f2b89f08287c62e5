use Rattle.std.proofs.Common.{◌≡◌, ◌<◌, ◌≤◌, ℕ, List, ◌++◌, codes, length}
use denote.Text.{Utf8}
use denote.Shadow.{shadow}
use Rattle.std.specs.Fmt.{HasWritten, IsPlainFormatter}
use Rattle.std.specs.List.{repeat}
use Rattle.justfile_message.specs.Columns.{shown_line}
use Rattle.justfile_message.proofs.columns.write_tabs.Given as goal

-- a text is written that is, with the spaces of the tabs since and what is left of the line as it is shown, the line as it is shown
abbrev pub invariant-loop-after : goal.invariant-loop-after
invariant-loop-after g l = record {
  is_text : shadow (Utf8 l.rest);
  shorter : length l.rest ≤ length l.line;
  text : List ℕ;
  few : l.tabs < 8;
  all : (text ++ repeat l.tabs (codes "    ")) ++ shown_line l.rest ≡ shown_line l.line;
  written : IsPlainFormatter l.initial.f → HasWritten g.W.Write.write_str_gives l.initial.f text l.f;
}

abbrev pub decreases-loop-after : goal.decreases-loop-after
decreases-loop-after g l = length l.rest
