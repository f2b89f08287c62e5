use Rattle.justfile_problems.proofs.Known.{own_found}
use Rattle.justfile_problems.proofs.module.push_of_own.Goals as goal

pub returns : goal.returns
returns c =
    own_found c.push_of_definitions.result c.args.rules c.in_ok-names.names c.args.own.now c.args.found.now.items c.push_of_definitions.new.found.items c.in_ok-names.ensures c.push_of_definitions.ensures
