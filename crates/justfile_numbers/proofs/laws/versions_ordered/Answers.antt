use Rattle.std.proofs.Common.{refl}
use Rattle.justfile_numbers.specs.contracts.version.VersionOrd.TheImpl.Laws.{total-law, matches_eq-law}
use Rattle.justfile_numbers.proofs.laws.versions_ordered.Goals as goal

pub returns-clause-order : goal.returns-clause-order
returns-clause-order c = λ v w. refl

pub returns-clause-total : goal.returns-clause-total
returns-clause-total c = total-law

pub returns-clause-ties : goal.returns-clause-ties
returns-clause-ties c = matches_eq-law
