use Rattle.std.proofs.Common.{◌≡◌, ◌∙◌, ℕ, ◌-◌, ◌+◌, ◌<◌, List, [], drop, get_or, length, map, take, subst, sym, ap, arith, refl}
use Rattle.std.proofs.lemmas.List.{get_or-drop, length-drop, take_all}
use Rattle.std.proofs.lemmas.Result.{IfOk-from_err}
use Rattle.justfile_vocabulary.specs.Indentation.{indentation_text}
use Rattle.justfile_token.proofs.PutLemmas.{failed_at}
use Rattle.justfile_item.specs.Item.{item_shape}
use Rattle.justfile_item.specs.declared.item.Item.{Item}
use Rattle.justfile_ast.specs.Separator.{front_text, last_separator}
use Rattle.justfile_ast.proofs.Separators.{took_next, failed_next, separator_next}
use Rattle.justfile_ast.proofs.ast.write_items.Goals as goal

-- the item at an index, among those from the first one on
among : (items : List Item) (first index : ℕ) (x : Item) → first + (index - first) ≡ index → x ≡ get_or items index x → x ≡ get_or (drop first items) (index - first) x
among items first index x place e = e ∙ sym (get_or-drop first items (index - first) x ∙ ap (λ k. get_or items k x) place)

pub loop-index-init : goal.loop-index-init
loop-index-init g c =
    let zero : c.args.first - c.args.first ≡ 0 = omega arith in
    let none : [] ≡ take (c.args.first - c.args.first) (drop c.args.first c.args.items.now) = sym (ap (λ n. take n (drop c.args.first c.args.items.now)) zero) in
    let P : List Item → Type 0 = λ l.
    g.S.Sink.took c.args.sink.now (front_text (indentation_text c.args.indentation) c.args.separator (map item_shape l)) c.args.sink.now
    × (c.args.separator ≡ last_separator c.args.separator (map item_shape l)) in
    subst P none (g.met.S.Sink.took_nothing c.args.sink.now, refl)

pub returns-in_err-following : goal.returns-in_err-following
returns-in_err-following g c =
    let s = g.met.S.Sink in
    let l = c.loop-index in
    record {
      separator = IfOk-from_err c.from_residual.result _ c.from_residual.ensures.0;
      puts =
          failed_at g.S.Sink.took g.S.Sink.failed _ c.from_residual.ensures.0 (failed_next (indentation_text c.args.indentation) c.args.separator item_shape
          (drop c.args.first c.args.items.now) (l.index - c.args.first) c.index-items-index.result
          (omega (arith, c.loop-index-test.true, l.auto.index, length-drop c.args.first c.args.items.now))
          (among c.args.items.now c.args.first l.index c.index-items-index.result (omega (arith, l.auto.index)) c.index-items-index.is)
          g.S.Sink.took g.S.Sink.failed s.took_more s.failed_later s.failed_before l.following l.invariant.1 _ _ _ l.invariant.0 c.in_err-following.ensures.puts);
    }

pub loop-index-preserved : goal.loop-index-preserved
loop-index-preserved g c =
    let s = g.met.S.Sink in
    let l = c.loop-index in
    let xs = drop c.args.first c.args.items.now in
    let i = l.index - c.args.first in
    let below : i < length xs = omega (arith, c.loop-index-test.true, l.auto.index, length-drop c.args.first c.args.items.now) in
    let is = among c.args.items.now c.args.first l.index c.index-items-index.result (omega (arith, l.auto.index)) c.index-items-index.is in
    let next : l.index + 1 - c.args.first ≡ i + 1 = omega (arith, l.auto.index) in
    let P : ℕ → Type 0 = λ n.
    g.S.Sink.took c.args.sink.now (front_text (indentation_text c.args.indentation) c.args.separator (map item_shape (take n xs))) c.write_separated.new.sink
    × (c.in_ok-following.following ≡ last_separator c.args.separator (map item_shape (take n xs))) in
    subst P (sym next) (
      took_next (indentation_text c.args.indentation) c.args.separator item_shape xs i c.index-items-index.result below is g.S.Sink.took g.S.Sink.failed s.took_more s.failed_later s.failed_before l.following l.invariant.1 _ _ _ l.invariant.0 c.in_ok-following.ensures.puts,
      separator_next (indentation_text c.args.indentation) c.args.separator item_shape xs i c.index-items-index.result below is g.S.Sink.took g.S.Sink.failed s.took_more s.failed_later s.failed_before l.following l.invariant.1 c.in_ok-following.following c.in_ok-following.ensures.separator,
    )

pub returns : goal.returns
returns g c =
    let l = c.loop-index in
    let xs = drop c.args.first c.args.items.now in
    let all : take (l.index - c.args.first) xs ≡ xs = take_all (l.index - c.args.first) xs (omega (arith, c.loop-index-test.false, l.auto.index, length-drop c.args.first c.args.items.now)) in
    record {
      separator = subst (λ ys. l.following ≡ last_separator c.args.separator (map item_shape ys)) all l.invariant.1;
      puts =
          subst (λ ys. g.S.Sink.took c.args.sink.now (front_text (indentation_text c.args.indentation) c.args.separator (map item_shape ys)) l.sink) all l.invariant.0;
    }
