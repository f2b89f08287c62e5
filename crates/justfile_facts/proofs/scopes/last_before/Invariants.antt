use Rattle.std.proofs.Common.{◌≡◌, drop}
use Rattle.std.specs.Option.{option_or}
use Rattle.justfile_facts.specs.Scopes.{last_before}
use Rattle.justfile_facts.proofs.scopes.last_before.Given as goal

-- what is found in the rest, or else before it, is what is to be found
abbrev pub invariant-loop-parameter : goal.invariant-loop-parameter
invariant-loop-parameter l = last_before l.token l.parameters ≡ option_or (last_before l.token (drop l.parameter-index l.parameters)) l.last
