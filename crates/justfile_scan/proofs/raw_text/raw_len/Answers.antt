use Rattle.std.proofs.Common.{◌≡◌, true, rules, sym, ap, subst, ◌∙◌, arith, length, length-drop}
use Rattle.std.specs.List.{prefix_len}
use Rattle.std.proofs.lemmas.List.Sums.{prefix_len-le-length}
use Rattle.justfile_scan.specs.RawTexts.{is_plain, is_plain_end, IsScanStep}
use Rattle.justfile_scan.proofs.Pieces.{inside_plain, inside_piece, inside_end, inside_stop}
use Rattle.justfile_scan.proofs.raw_text.raw_len.Goals as goal

pub overflow_add-at : goal.overflow_add-at
overflow_add-at c =
    omega (arith, c.plain_len-at.ensures, prefix_len-le-length (is_plain c.args.text) c.skip.result.now, ap length c.skip.ensures, length-drop c.pieces.at c.args.bytes.now, c.pieces.invariant.within)

pub returns-then-more-eq0 : goal.returns-then-more-eq0
returns-then-more-eq0 c =
    let plain = inside_plain _ _ _ _ c.pieces.invariant (c.plain_len-at.ensures ∙ ap (prefix_len (is_plain c.args.text)) c.skip.ensures) in
    let piece = subst (λ bs. IsScanStep c.args.text bs c.piece_len-more.result) c.skip-in-pieces.ensures c.piece_len-more.ensures in
    inside_end _ _ _ _ plain piece c.if-more-eq0.true

pub pieces-preserved : goal.pieces-preserved
pieces-preserved c =
    let plain = inside_plain _ _ _ _ c.pieces.invariant (c.plain_len-at.ensures ∙ ap (prefix_len (is_plain c.args.text)) c.skip.ensures) in
    let piece = subst (λ bs. IsScanStep c.args.text bs c.piece_len-more.result) c.skip-in-pieces.ensures c.piece_len-more.ensures in
    inside_piece _ _ _ _ plain piece (omega (arith, c.if-more-eq0.false))

pub returns-then-is_plain_end : goal.returns-then-is_plain_end
returns-then-is_plain_end c =
    let plain = inside_plain _ _ _ _ c.pieces.invariant (c.plain_len-at.ensures ∙ ap (prefix_len (is_plain c.args.text)) c.skip.ensures) in
    let stop : is_plain_end c.args.text c.byte_at.result ≡ true = search (rules, c.if-is_plain_end.ensures) in
    inside_stop _ _ _ plain (ap (is_plain_end c.args.text) (sym c.byte_at.ensures) ∙ stop)
