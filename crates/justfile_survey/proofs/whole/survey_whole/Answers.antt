use Rattle.justfile_survey.proofs.Found.{shown_if_ok}
use Rattle.justfile_survey.proofs.whole.survey_whole.Goals as goal

pub returns-in-Ok : goal.returns-in-Ok
returns-in-Ok c = shown_if_ok c.args.path.now c.args.text.now c.in-Ok.ast c.whole_items-items.result c.in-Ok.ensures.ok c.whole_items-items.ensures
