use Rattle.std.proofs.Common.{IfSome, reverse}
use Rattle.std.specs.Borrow.{Bor}
use Rattle.std.specs.List.{All}
use Rattle.std.specs.Option.{option_map}
use Rattle.justfile_expression.specs.RightSides.{IsLessDeep, IsChain}
use Rattle.justfile_expression.specs.declared.expression.Expression.{Expression}
use Rattle.justfile_expression.proofs.RightSides.{chain_left}
use Rattle.justfile_expression.proofs.expression.find_chain.Given as goal

-- the expressions found so far are a chain, and each is smaller than the whole
abbrev pub invariant-loop-rest : goal.invariant-loop-rest
invariant-loop-rest l = record {
  in_chain : IsChain (reverse l.chain.items) l.expression (option_map (λ (e : Bor Expression). e.now) l.rest);
  smaller : All (IsLessDeep l.expression) l.chain.items;
  next_smaller : IfSome l.rest (IsLessDeep l.expression);
}

abbrev pub decreases-loop-rest : goal.decreases-loop-rest
decreases-loop-rest l = chain_left l.rest
