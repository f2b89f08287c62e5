use Rattle.std.proofs.Common.{rules}
use Rattle.text_edits.proofs.Cut.{none_sized}
use Rattle.text_edits.proofs.pieces.Pieces.new.Goals as goal

pub invariant_of-result : goal.invariant_of-result
invariant_of-result c = record {
  are_pieces = record {
    leads = search rules;
    sized = c.in_ok-push_parts.ensures.sized c.args.encoding (none_sized c.args.encoding c.new-after.result.items (search rules));
    utf8 = search rules;
    len_is = search rules;
    short = search rules;
  };
}
