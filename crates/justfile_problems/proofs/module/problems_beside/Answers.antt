use Rattle.std.proofs.Common.{◌∙◌, ◌++◌, ap, rules}
use Rattle.std.proofs.lemmas.List.Sorted.{IsNonDecreasingBy-from_sort_by_key}
use Rattle.justfile_problems.specs.Names.{first}
use Rattle.justfile_problems.specs.Overridden.{is_overridden_in}
use Rattle.justfile_problems.specs.Problems.{definition_problems}
use Rattle.justfile_problems.specs.declared.problem.Problem.{Problem}
use Rattle.justfile_problems.proofs.Known.{within_found}
use Rattle.justfile_problems.proofs.module.problems_beside.Goals as goal

pub returns-clause-in_order : goal.returns-clause-in_order
returns-clause-in_order c = IsNonDecreasingBy-from_sort_by_key (λ (p : Problem). p.token.offset) _ c.in_ok-sort_by_key.ensures.sorted (λ a r q k. search rules)

pub returns-clause-all : goal.returns-clause-all
returns-clause-all c =
    within_found c.args.rules c.in_ok-names.names (is_overridden_in c.args.overridden.now) c.args.all.now c.args.own.now c.deref.result.now c.args.uses.now c.args.suspects.now c.push_of_own.new.found.items c.push_of_uses.new.found.items
    c.push_of_suspects.new.found.items c.sort_by_key.new.self.items (c.deref.ensures.value ∙ c.in_ok-known.ensures) c.in_ok-names.ensures
    (c.in_ok-push_of_own.ensures ∙ ap (λ l. l ++ definition_problems c.args.rules (first c.args.own.now) c.args.own.now) c.new-found.ensures.items) c.in_ok-push_of_uses.ensures c.in_ok-push_of_suspects.ensures
    c.in_ok-sort_by_key.ensures.permutation
