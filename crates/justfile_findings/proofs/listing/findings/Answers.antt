use Rattle.std.proofs.Common.{List, rules, subst}
use Rattle.std.specs.Prelude.{IsPermutation}
use Rattle.std.proofs.lemmas.List.Sorted.{IsNonDecreasingBy-from_sort_by_key}
use Rattle.editor_language.specs.declared.parts.Finding.{Finding}
use Rattle.justfile_findings.proofs.listing.findings.Goals as goal

pub returns : goal.returns
returns c = record {
  of_problems = c.in_ok-found.found.items;
  of_circles = c.in_ok-others.others.items;
  problems_told = c.in_ok-found.ensures;
  circles_told = c.in_ok-others.ensures;
  all = subst (λ (l : List Finding). IsPermutation l c.sort_by_key.new.self.items) c.in_ok-append.ensures.items c.in_ok-sort_by_key.ensures.permutation;
  in_order = IsNonDecreasingBy-from_sort_by_key (λ (f : Finding). f.span.start) _ c.in_ok-sort_by_key.ensures.sorted (λ a r q k. search rules);
}
