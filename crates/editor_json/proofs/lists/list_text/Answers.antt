use Rattle.std.proofs.Common.{◌∙◌, arith, refl, string_bytes}
use Rattle.editor_json.proofs.Pieces.{all_closed, all_integers, next_open}
use Rattle.editor_json.proofs.lists.list_text.Goals as goal

pub loop-item-init : goal.loop-item-init
loop-item-init g c = record { is = c.in_ok-list.ensures.ok; is_later = refl; integers = tt }

pub loop-item-preserved : goal.loop-item-preserved
loop-item-preserved g c =
    next_open (g.T.Written.written c.args.shared.now) c.args.items.now c.loop-item.item-index c.item-item.result (omega (arith, c.loop-item-test.true)) c.item-item.is (string_bytes c.loop-item.list)
    (string_bytes c.push_piece.new.list) c.as_str.result.now c.loop-item.is_later c.loop-item.invariant (c.as_str.ensures.value ∙ c.in_ok-piece.ensures.exact) c.in_ok-piece.ensures.integers c.in_ok-push_piece.ensures

pub returns-clause-exact : goal.returns-clause-exact
returns-clause-exact g c =
    all_closed (g.T.Written.written c.args.shared.now) c.args.items.now c.loop-item.item-index c.loop-item-test.false (string_bytes c.loop-item.list) (string_bytes c.push_str.new.self) c.loop-item.is_later c.loop-item.invariant
    c.in_ok-push_str.ensures.bytes

pub returns-clause-integers : goal.returns-clause-integers
returns-clause-integers g c =
    all_integers (g.T.Written.written c.args.shared.now) c.args.items.now c.loop-item.item-index c.loop-item-test.false (string_bytes c.loop-item.list) c.loop-item.is_later c.loop-item.invariant
