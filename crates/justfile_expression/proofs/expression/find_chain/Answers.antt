use Rattle.std.proofs.Common.{Option, ap, subst, reverse, rules, arith}
use Rattle.std.specs.Borrow.{Bor}
use Rattle.std.specs.Option.{option_map}
use Rattle.justfile_expression.specs.RightSides.{IsChain}
use Rattle.justfile_expression.specs.declared.expression.Expression.{Expression}
use Rattle.justfile_expression.proofs.RightSides.{begun, chain_left, falls, pushed, none_deep, pushed_deep, next_deep}
use Rattle.justfile_expression.proofs.expression.find_chain.Goals as goal

pub loop-rest-init : goal.loop-rest-init
loop-rest-init c = record {
  in_chain = begun c.new-chain.result.items c.args.expression.now _ (search rules) c.right_side-rest.ensures.right_side;
  smaller = none_deep c.new-chain.result.items c.args.expression.now (search rules);
  next_smaller = c.right_side-rest.ensures.smaller;
}

pub loop-rest-smaller : goal.loop-rest-smaller
loop-rest-smaller c = omega (arith, falls c.in-Some.next.now c.right_side-rest-in-Some.result c.right_side-rest-in-Some.ensures.smaller, ap chain_left c.in-Some.is)

pub loop-rest-preserved : goal.loop-rest-preserved
loop-rest-preserved c = record {
  in_chain =
      pushed c.loop-rest.chain.items c.push.new.self.items c.in-Some.next c.args.expression.now _ c.in_ok-push.ensures.items c.right_side-rest-in-Some.ensures.right_side
      (subst (λ (r : Option (Bor Expression)). IsChain (reverse c.loop-rest.chain.items) c.args.expression.now (option_map (λ (e : Bor Expression). e.now) r)) c.in-Some.is c.loop-rest.invariant.in_chain);
  smaller =
      pushed_deep c.loop-rest.chain.items c.push.new.self.items c.in-Some.next c.loop-rest.rest c.args.expression.now c.in_ok-push.ensures.items c.in-Some.is
      c.loop-rest.invariant.smaller c.loop-rest.invariant.next_smaller;
  next_smaller =
      next_deep c.in-Some.next c.loop-rest.rest c.right_side-rest-in-Some.result c.args.expression.now c.in-Some.is
      c.right_side-rest-in-Some.ensures.smaller c.loop-rest.invariant.next_smaller;
}

pub returns : goal.returns
returns c = record {
  in_chain =
      subst (λ (r : Option (Bor Expression)). IsChain (reverse c.loop-rest.chain.items) c.args.expression.now (option_map (λ (e : Bor Expression). e.now) r)) c.in_default.is c.loop-rest.invariant.in_chain;
  smaller = c.loop-rest.invariant.smaller;
}
