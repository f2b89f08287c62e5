use Rattle.editor_answers.proofs.shown.Shown.line_width.Goals as goal

pub position-place-requires : goal.position-place-requires
position-place-requires c = c.offset-end.ensures.boundary.0
