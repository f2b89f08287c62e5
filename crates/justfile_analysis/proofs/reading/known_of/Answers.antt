use Rattle.std.proofs.Common.{◌∙◌, ap, map, refl, subst, sym}
use Rattle.justfile_survey.specs.Seen.{seen}
use Rattle.justfile_mentions.specs.Mentions.{AreMentions, noted}
use Rattle.justfile_analysis.specs.Shown.{surveyed, to_show}
use Rattle.justfile_analysis.proofs.Lists.{map_twice}
use Rattle.justfile_analysis.proofs.reading.known_of.Goals as goal

pub returns : goal.returns
returns c = record {
  none_wrong = refl;
  items_are =
      c.in_ok-items_of.ensures
      ∙ ap (map surveyed) c.deref-2.ensures.value
      ∙ sym (map_twice to_show seen c.in_ok-found.found.items)
      ∙ ap (map to_show) c.in_ok-found.ensures;
  mentions_are = subst (λ items. AreMentions 0 items (map noted c.in_ok-mentions.mentions.items)) c.deref.ensures.value c.in_ok-mentions.ensures;
}
