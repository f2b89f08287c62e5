use Rattle.std.proofs.Common.{rules}
use Rattle.std.proofs.lemmas.List.Sorted.{IsNonDecreasingBy-from_sort_by_key}
use Rattle.justfile_references.specs.declared.reference.Reference.{Reference}
use Rattle.justfile_references.proofs.items.references.Goals as goal

pub returns-clause-in_order : goal.returns-clause-in_order
returns-clause-in_order c = IsNonDecreasingBy-from_sort_by_key (λ (r : Reference). r.token.offset) _ c.in_ok-sort_by_key.ensures.sorted (λ a r q k. search rules)
