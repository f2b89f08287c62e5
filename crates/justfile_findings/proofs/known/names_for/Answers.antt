use Rattle.std.proofs.Common.{ap}
use Rattle.std.specs.Option.{option_copied}
use Rattle.justfile_findings.specs.Suggestions.{texts}
use Rattle.justfile_findings.proofs.Meant.{both}
use Rattle.justfile_findings.proofs.known.names_for.Goals as goal

pub returns : goal.returns
returns c =
    both (texts c.new-names.result.items) (texts c.push_defined.new.names.items) (texts c.push_built_in.new.names.items) (option_copied c.use_of-used.result) c.args.definitions.now
    c.args.uses.now c.args.problem.now (ap texts c.new-names.ensures.items) c.use_of-used.ensures c.in_ok-push_defined.ensures c.in_ok-push_built_in.ensures
