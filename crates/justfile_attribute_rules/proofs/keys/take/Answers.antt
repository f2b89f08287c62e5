use Rattle.std.proofs.Common.{ap, ◌∙◌}
use Rattle.std.specs.Option.{option_map}
use Rattle.justfile_attribute_rules.specs.Keys.{keyed}
use Rattle.justfile_attribute_rules.proofs.KeyLemmas.{found_is, taken_is}
use Rattle.justfile_attribute_rules.proofs.keys.take.Goals as goal

pub returns-clause-taken : goal.returns-clause-taken
returns-clause-taken c = ap (option_map (keyed c.args.word.now)) c.remove.ensures.value ∙ found_is c.args.word.now c.args.keys.now

pub returns-clause-removed : goal.returns-clause-removed
returns-clause-removed c = taken_is c.args.word.now c.args.keys.now c.remove.new.self c.remove.ensures.entries
