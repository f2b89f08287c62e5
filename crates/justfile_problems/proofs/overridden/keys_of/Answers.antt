use Rattle.std.proofs.Common.{◌≡◌, ◌∙◌, ◌-◌, ◌+◌, ◌<◌, suc, length, get_or, ap, arith}
use Rattle.justfile_problems.specs.Names.{key}
use Rattle.justfile_problems.proofs.Overrides.{keys_earlier}
use Rattle.justfile_problems.proofs.overridden.keys_of.Goals as goal

pub loop-passed-preserved : goal.loop-passed-preserved
loop-passed-preserved c =
    let ds = c.args.definitions.now in
    let d = c.index-definitions-count.result in
    let last = length ds - c.loop-passed.passed in
    let at = length ds - (c.loop-passed.passed + 1) in
    let inside : at < length ds = omega (arith, c.loop-passed-test.true) in
    let is : d ≡ get_or ds at d = c.index-definitions-count.is ∙ ap (λ n. get_or ds n d) (omega arith) in
    let next : last ≡ suc at = omega (arith, c.loop-passed-test.true) in
    λ space scope text. keys_earlier ds at last d inside is next (key space scope text) _ _ (c.loop-passed.invariant space scope text) (c.in_ok-add_key.ensures space scope text)
