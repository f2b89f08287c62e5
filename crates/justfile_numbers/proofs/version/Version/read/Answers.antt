use Rattle.justfile_numbers.proofs.VersionLemmas.{one_number, two_numbers, three_numbers, none_along}
use Rattle.justfile_numbers.proofs.version.Version.read.Goals as goal

pub returns-in_default-clause-none : goal.returns-in_default-clause-none
returns-in_default-clause-none c = λ v is. one_number c.args.text.now v is c.in_default.ensures.none

pub returns-in_default-split_at_dot-clause-none : goal.returns-in_default-split_at_dot-clause-none
returns-in_default-split_at_dot-clause-none c = λ v is.
    two_numbers c.args.text.now v is c.in-Some.major.now c.in-Some.rest.now
    c.in-Some.ensures.some c.in-Some.ensures.first c.in_default-split_at_dot.ensures.none

pub returns-clause-none : goal.returns-clause-none
returns-clause-none c =
    none_along c.from_numbers.result _ _
    (λ no v is. no v (three_numbers c.args.text.now v is c.in-Some.major.now c.in-Some.rest.now
    c.in-Some.ensures.some c.in-Some.ensures.first
    c.in-Some-split_at_dot.minor.now c.in-Some-split_at_dot.patch.now
    c.in-Some-split_at_dot.ensures.some c.in-Some-split_at_dot.ensures.first))
    c.from_numbers.ensures.none
