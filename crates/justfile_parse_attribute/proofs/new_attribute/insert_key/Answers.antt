use Rattle.std.proofs.Common.{rules}
use Rattle.justfile_parse_attribute.proofs.PutKeys.{stays_keyed}
use Rattle.justfile_parse_attribute.proofs.new_attribute.insert_key.Goals as goal

pub returns-in-Ok-clause-keyed : goal.returns-in-Ok-clause-keyed
returns-in-Ok-clause-keyed c = stays_keyed c.args.given c.args.keys.now c.insert.new.self (search rules) c.requires
