use Rattle.justfile_survey.proofs.Kept.{at_first}
use Rattle.justfile_survey.proofs.recovery.survey_parts.Goals as goal

pub go_through-requires : goal.go_through-requires
go_through-requires c = at_first c.args.path.now c.args.text.now _ c.new.ensures.items c.new-2.ensures.items
