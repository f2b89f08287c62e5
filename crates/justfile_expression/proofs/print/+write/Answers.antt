use Rattle.std.proofs.Common.{rules, ℕ, List, [], ◌++◌, take, refl, sym, ap, subst, arith}
use Rattle.std.specs.List.{flat_map}
use Rattle.std.proofs.lemmas.Option.{slice_get_within}
use Rattle.justfile_expression.specs.Children.{children, start_texts}
use Rattle.justfile_expression.specs.Text.{text_of}
use Rattle.justfile_leaves.specs.Texts.{Texts, texts_joined}
use Rattle.justfile_expression.proofs.Joined.{child_text}
use Rattle.justfile_token.proofs.PutLemmas.{failed_at}
use Rattle.justfile_expression.proofs.Loops.{at_err, took_next}
use Rattle.justfile_expression.proofs.Nodes.{fewer}
use Rattle.justfile_expression.proofs.Walk.{failed_start, failed_child, took_all, rest_nodes, completed_more, rest_fewer, failed_rest, next_completes, all_completed, completed_at, rest_in}
use Rattle.justfile_expression.proofs.print.+write.Goals as goal

pub write_to_last-returns-in_err-write_words-clause-err : goal.write_to_last-returns-in_err-write_words-clause-err
write_to_last-returns-in_err-write_words-clause-err g t c =
    let s = g.met.S.Sink in
    at_err _ (failed_start g.S.Sink.took g.S.Sink.failed s.took_more s.failed_later s.failed_before c.args.expression.now _ _
    (subst (λ (texts : Texts). g.S.Sink.failed c.args.sink.now (texts_joined texts) c.write_words.new.sink) c.start.ensures c.in_err-write_words.ensures))

pub write_to_last-write_expression-requires : goal.write_to_last-write_expression-requires
write_to_last-write_expression-requires g t c κs within = (omega (arith, fewer c.args.expression.now c.loop-part.index _ (sym c.in-Some.ensures.child)), search rules)

pub write_to_last-returns-in_err-write_expression-clause-err : goal.write_to_last-returns-in_err-write_expression-clause-err
write_to_last-returns-in_err-write_expression-clause-err g t c =
    let s = g.met.S.Sink in
    at_err _ (failed_child g.S.Sink.took g.S.Sink.failed s.took_more s.failed_later s.failed_before c.args.expression.now _ _ _ c.loop-part.index
    (subst (λ (texts : Texts). g.S.Sink.took c.args.sink.now (texts_joined texts) c.write_words.new.sink) c.start.ensures c.in_ok-write_words.ensures)
    c.loop-part.invariant _ (sym c.in-Some.ensures.child) _ (s.failed_before _ _ _ _ c.in_err-write_expression.ensures))

pub write_to_last-returns-in_err-write_words-2-clause-err : goal.write_to_last-returns-in_err-write_words-2-clause-err
write_to_last-returns-in_err-write_words-2-clause-err g t c =
    let s = g.met.S.Sink in
    at_err _ (failed_child g.S.Sink.took g.S.Sink.failed s.took_more s.failed_later s.failed_before c.args.expression.now _ _ _ c.loop-part.index
    (subst (λ (texts : Texts). g.S.Sink.took c.args.sink.now (texts_joined texts) c.write_words.new.sink) c.start.ensures c.in_ok-write_words.ensures)
    c.loop-part.invariant _ (sym c.in-Some.ensures.child) _ (s.failed_later _ _ _ _ _ c.in_ok-write_expression.ensures c.in_err-write_words-2.ensures))

pub write_to_last-loop-part-smaller : goal.write_to_last-loop-part-smaller
write_to_last-loop-part-smaller g t c = omega (arith, slice_get_within (children c.args.expression.now) c.loop-part.index _ (sym c.in-Some.ensures.child))

pub write_to_last-loop-part-preserved : goal.write_to_last-loop-part-preserved
write_to_last-loop-part-preserved g t c =
    let s = g.met.S.Sink in
    took_next g.S.Sink.took g.S.Sink.failed s.took_more s.failed_later s.failed_before child_text (children c.args.expression.now) c.loop-part.index _ (sym c.in-Some.ensures.child) _ _ _ c.loop-part.invariant
    (s.took_more _ _ _ _ _ c.in_ok-write_expression.ensures c.in_ok-write_words-2.ensures)

pub write_to_last-returns-clause-ok : goal.write_to_last-returns-clause-ok
write_to_last-returns-clause-ok g t c =
    let s = g.met.S.Sink in (
      text_of c.args.expression.now,
      took_all g.S.Sink.took g.S.Sink.failed s.took_more s.failed_later s.failed_before c.args.expression.now _ _ _ c.loop-part.index
          (subst (λ (texts : Texts). g.S.Sink.took c.args.sink.now (texts_joined texts) c.write_words.new.sink) c.start.ensures c.in_ok-write_words.ensures)
          c.loop-part.invariant c.in_default.ensures.child,
      refl,
    )

pub write_expression-write_to_last-requires : goal.write_expression-write_to_last-requires
write_expression-write_to_last-requires g t c κs within = (omega (arith, rest_in c.loop-rest.rest c.in-Some.next _ c.in-Some.is c.loop-rest.invariant.no_more), search rules)

pub write_expression-returns-in_err-rest : goal.write_expression-returns-in_err-rest
write_expression-returns-in_err-rest g t c =
    let s = g.met.S.Sink in
    failed_at g.S.Sink.took g.S.Sink.failed _ c.from_residual.ensures.0 (failed_rest g.S.Sink.took g.S.Sink.failed s.took_more s.failed_later s.failed_before c.args.expression.now _ _ _ _ c.in-Some.next.now
    c.loop-rest.invariant.taken c.in_err-rest.ensures.err (next_completes c.loop-rest.rest c.in-Some.next _ _ c.in-Some.is c.loop-rest.invariant.completed))

pub write_expression-loop-rest-init : goal.write_expression-loop-rest-init
write_expression-loop-rest-init g t c = record { text = []; taken = g.met.S.Sink.took_nothing _; completed = refl; no_more = omega arith }

pub write_expression-loop-rest-smaller : goal.write_expression-loop-rest-smaller
write_expression-loop-rest-smaller g t c =
    let put = c.in_ok-rest.ensures.ok in
    omega (arith, rest_fewer put.0 c.in_ok-rest.rest c.in-Some.next.now put.2, ap rest_nodes c.in-Some.is)

pub write_expression-loop-rest-preserved : goal.write_expression-loop-rest-preserved
write_expression-loop-rest-preserved g t c =
    let put = c.in_ok-rest.ensures.ok in
    record {
      text = c.loop-rest.invariant.text ++ put.0;
      taken = g.met.S.Sink.took_more _ _ _ _ _ c.loop-rest.invariant.taken put.1;
      completed =
          completed_more c.loop-rest.invariant.text put.0 c.in-Some.next.now c.args.expression.now c.in_ok-rest.rest
          (next_completes c.loop-rest.rest c.in-Some.next _ _ c.in-Some.is c.loop-rest.invariant.completed) put.2;
      no_more =
          omega (
            arith,
            rest_fewer put.0 c.in_ok-rest.rest c.in-Some.next.now put.2,
            rest_in c.loop-rest.rest c.in-Some.next _ c.in-Some.is c.loop-rest.invariant.no_more,
          );
    }

pub write_expression-returns : goal.write_expression-returns
write_expression-returns g t c =
    subst (λ (text : List ℕ). g.S.Sink.took c.args.sink.now text c.loop-rest.sink) (all_completed c.loop-rest.rest _ _ c.in_default.is c.loop-rest.invariant.completed) c.loop-rest.invariant.taken

pub write_to_last-returns-then-is_empty-clause-ok : goal.write_to_last-returns-then-is_empty-clause-ok
write_to_last-returns-then-is_empty-clause-ok g t c =
    let s = g.met.S.Sink in (
      texts_joined (start_texts c.args.expression.now) ++ flat_map child_text (take c.loop-part.index (children c.args.expression.now)),
      s.took_more _ _ _ _ _
          (subst (λ (texts : Texts). g.S.Sink.took c.args.sink.now (texts_joined texts) c.write_words.new.sink) c.start.ensures c.in_ok-write_words.ensures)
          c.loop-part.invariant,
      completed_at c.args.expression.now c.loop-part.index c.in-Some.part _ (sym c.in-Some.ensures.child) (c.is_empty.ensures.0 c.if-is_empty.true),
    )
