use Rattle.std.proofs.Common.{◌<◌, ◌∙◌, Option, IfSome, is_some, rules, arith, get_or, refl, sym, ap, subst}
use Rattle.justfile_expression.specs.Resolved.{IsResolved, IsResolvedPart, numbers_of}
use Rattle.justfile_expression.proofs.Resolved.{resolved_call, resolved_list, resolved_format_string, kept_on, related_on, all_related}
use Rattle.justfile_expression.specs.declared.expression.Expression.{Expression, size-Expression}
use Rattle.justfile_expression.proofs.ResolvedSteps.{IsWithin, exchanged_smaller, one_more_parent, resolved_alone, same_right}
use Rattle.justfile_expression.proofs.resolve.+resolve.Goals as goal

pub resolve_left-returns-in-Call : goal.resolve_left-returns-in-Call
unfolding numbers_of Rattle.justfile_expression.specs.declared.expression.Expression.TheViews.out-Expression denote.Hole.Carrier.out
resolve_left-returns-in-Call t c =
    rw c.in-Call.is
    (resolved_call (numbers_of c.args.numbers.now) c.in-Call.name c.resolve_all.new.expressions c.in-Call.arguments
    (rw c.in-Call.arguments-is at c.resolve_all.ensures))

pub resolve_left-returns-in-FormatString : goal.resolve_left-returns-in-FormatString
unfolding numbers_of Rattle.justfile_expression.specs.declared.expression.Expression.TheViews.out-Expression denote.Hole.Carrier.out
resolve_left-returns-in-FormatString t c =
    rw c.in-FormatString.is
    (resolved_format_string (numbers_of c.args.numbers.now) c.in-FormatString.start c.resolve_parts.new.parts c.in-FormatString.expressions
    (rw c.in-FormatString.expressions-is at c.resolve_parts.ensures))

pub resolve_left-returns-in-List : goal.resolve_left-returns-in-List
unfolding numbers_of Rattle.justfile_expression.specs.declared.expression.Expression.TheViews.out-Expression denote.Hole.Carrier.out
resolve_left-returns-in-List t c =
    rw c.in-List.is
    (resolved_list (numbers_of c.args.numbers.now) c.in-List.opener c.resolve_all-in-List.new.expressions c.in-List.elements
    (rw c.in-List.elements-is at c.resolve_all-in-List.ensures))

pub resolve_all-loop-expression-init : goal.resolve_all-loop-expression-init
resolve_all-loop-expression-init t c = (search rules, tt)

pub resolve_all-loop-expression-preserved : goal.resolve_all-loop-expression-preserved
resolve_all-loop-expression-preserved t c =
    let kept = c.loop-expression.invariant.0 in (
      kept_on c.loop-expression.expression-index c.loop-expression.expression-items c.deref_mut-expression-items.result.now c.resolve.new.expression kept,
      related_on (IsResolved (numbers_of c.args.numbers.now)) c.loop-expression.expression-index c.loop-expression.expression-items c.deref_mut-expression-items.result.now
          c.resolve.new.expression c.expression-item.result kept.0 c.loop-expression-test.true c.loop-expression.invariant.1
          (rw (kept.1 c.loop-expression.expression-index c.expression-item.result (omega arith)) at c.resolve.ensures),
    )

pub resolve_all-returns : goal.resolve_all-returns
resolve_all-returns t c =
    all_related (IsResolved (numbers_of c.args.numbers.now)) _ c.loop-expression.expression-index c.loop-expression.expression-items c.deref_mut-expression-items.result.now c.args.expressions.now.items _
    c.deref_mut-expression-items.ensures.value c.loop-expression.invariant.0.0 c.deref_mut-expression-items.ensures.len c.loop-expression-test.false c.loop-expression.invariant.1

pub resolve_parts-loop-part-init : goal.resolve_parts-loop-part-init
resolve_parts-loop-part-init t c = (search rules, tt)

pub resolve_parts-loop-part-preserved : goal.resolve_parts-loop-part-preserved
resolve_parts-loop-part-preserved t c =
    let kept = c.loop-part.invariant.0 in (
      kept_on c.loop-part.part-index c.loop-part.part-items c.deref_mut-part-items.result.now (c.resolve.new.expression, (get_or c.loop-part.part-items c.loop-part.part-index c.part-item.result).1) kept,
      related_on (IsResolvedPart (numbers_of c.args.numbers.now)) c.loop-part.part-index c.loop-part.part-items c.deref_mut-part-items.result.now
          (c.resolve.new.expression, (get_or c.loop-part.part-items c.loop-part.part-index c.part-item.result).1) c.part-item.result kept.0 c.loop-part-test.true c.loop-part.invariant.1
          (subst (λ p. IsResolvedPart (numbers_of c.args.numbers.now) (c.resolve.new.expression, (get_or c.loop-part.part-items c.loop-part.part-index c.part-item.result).1) p)
          (kept.1 c.loop-part.part-index c.part-item.result (omega arith)) (c.resolve.ensures, refl)),
    )

pub resolve_parts-returns : goal.resolve_parts-returns
resolve_parts-returns t c =
    all_related (IsResolvedPart (numbers_of c.args.numbers.now)) _ c.loop-part.part-index c.loop-part.part-items c.deref_mut-part-items.result.now c.args.parts.now.items _
    c.deref_mut-part-items.ensures.value c.loop-part.invariant.0.0 c.deref_mut-part-items.ensures.len c.loop-part-test.false c.loop-part.invariant.1

pub resolve_chain-loop-expression-preserved : goal.resolve_chain-loop-expression-preserved
resolve_chain-loop-expression-preserved t c =
    let numbers = numbers_of c.args.numbers.now in
    let present = sym c.has_right.ensures.has_right ∙ c.loop-expression-test.true in
    let same = same_right numbers c.resolve_left.new.expression c.loop-expression.expression c.resolve_left.ensures in
    record {
      shallow =
          omega (
            arith,
            ap size-Expression c.swap.ensures.x_after,
            c.loop-expression.invariant.shallow,
            exchanged_smaller c.resolve_left.new.expression c.loop-expression.parents c.exchange_right.new.expression c.exchange_right.new.other (size-Expression c.loop-expression.expression)
                (ap is_some same ∙ present) c.exchange_right.ensures
                (subst (λ (right : Option Expression). IfSome right (λ r. size-Expression r < size-Expression c.loop-expression.expression)) (sym same) c.has_right.ensures.smaller),
          );
      whole =
          subst (λ (x : Expression). IsWithin numbers c.swap.new.y x c.args.expression.now) (sym c.swap.ensures.x_after)
          (subst (λ (y : Expression). IsWithin numbers y c.exchange_right.new.other c.args.expression.now) (sym c.swap.ensures.y_after)
          (one_more_parent numbers c.resolve_left.new.expression c.loop-expression.expression c.loop-expression.parents c.exchange_right.new.expression c.exchange_right.new.other c.args.expression.now
          present c.resolve_left.ensures c.exchange_right.ensures c.loop-expression.invariant.whole));
    }

pub resolve_chain-returns : goal.resolve_chain-returns
resolve_chain-returns t c =
    c.loop-expression.invariant.whole c.resolve_left-2.new.expression
    (resolved_alone (numbers_of c.args.numbers.now) c.resolve_left-2.new.expression c.loop-expression.expression c.resolve_left-2.ensures
    (sym c.has_right.ensures.has_right ∙ c.loop-expression-test.false))
