use Rattle.std.proofs.Common.{◌≡◌, string_bytes}
use Rattle.std.specs.List.{flat_map}
use Rattle.justfile_files.specs.Visible.{visible_character}
use Rattle.justfile_files.proofs.visible.visible_text.Given as goal

-- the characters so far are shown
abbrev pub invariant-loop-character : goal.invariant-loop-character
invariant-loop-character l = string_bytes l.shown ≡ flat_map (visible_character l.keeps_feeds) l.yielded
