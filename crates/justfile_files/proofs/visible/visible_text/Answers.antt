use Rattle.std.proofs.Common.{ap, sym, ◌∙◌}
use Rattle.std.proofs.lemmas.Iterator.{YieldsList-from_chars}
use Rattle.std.proofs.lemmas.Iterator.Consumers.{YieldsList-end}
use Rattle.std.proofs.lemmas.List.{map-id}
use Rattle.std.specs.List.{flat_map}
use Rattle.justfile_files.specs.Visible.{visible_character}
use Rattle.justfile_files.proofs.visible.visible_text.Goals as goal

pub returns : goal.returns
returns c =
    let end = YieldsList-end (YieldsList-from_chars c.args.text.now c.utf8.text (cc)) c.loop-character.yielded _ c.loop-character.yielded_by _ _ c.in-None.is c.next.ensures.steps in
    c.loop-character.invariant ∙ ap (flat_map (visible_character c.args.keeps_feeds)) (sym (map-id _) ∙ end.0)
