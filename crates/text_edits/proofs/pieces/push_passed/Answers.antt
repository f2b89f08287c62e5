use Rattle.std.proofs.Common.{List, sym, subst}
use Rattle.justfile_lines.specs.Going.{first_place, place_after}
use Rattle.text_edits.specs.Pieces.{Leads}
use Rattle.text_edits.specs.declared.pieces.Piece.{Piece}
use Rattle.text_edits.proofs.Cut.{leads_more}
use Rattle.text_edits.proofs.pieces.push_passed.Goals as goal

pub returns-in_ok-push-clause-leads : goal.returns-in_ok-push-clause-leads
returns-in_ok-push-clause-leads c =
    λ encoding h.
    subst (λ (l : List Piece). Leads encoding first_place l (place_after encoding c.args.start c.args.text.now)) (sym c.in_ok-push.ensures.items)
    (leads_more encoding first_place c.args.before.now.items (record { text = c.args.text; start = c.args.start }) h)
