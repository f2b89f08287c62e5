use Rattle.std.proofs.Common.{◌∙◌, map, subst, sym}
use Rattle.justfile_parse_header.specs.Arguments.{AreKeptNames}
use Rattle.justfile_parse_header.specs.Tree.{parameter_tree}
use Rattle.justfile_parse_header.proofs.ReadNames.{added_or_kept, not_either, unnamed_or_kept}
use Rattle.justfile_parse_header.proofs.read_parameters.ReadParameters.push.Goals as goal

pub invariant_of-self : goal.invariant_of-self
invariant_of-self c =
    let it = c.args.self.now in
    let call = c.push_named in
    record {
      named =
          added_or_kept call.result it.list.items call.new.list.items c.args.parameter it.names call.new.names it.has_all_names it.named call.ensures.pushed call.ensures.named
          call.ensures.kept call.ensures.kept_names;
    }

pub invariant_of-self-else-keeps_name : goal.invariant_of-self-else-keeps_name
invariant_of-self-else-keeps_name c =
    let it = c.args.self.now in
    let call = c.push_parameter in
    let some = not_either c.args.is_looked_up it.has_all_names (sym c.keeps_name.ensures ∙ c.if-keeps_name.false) in
    record {
      named =
          subst (AreKeptNames (map parameter_tree call.new.list.items) it.names) (sym some)
          (unnamed_or_kept call.result it.list.items call.new.list.items c.args.parameter it.names (subst (AreKeptNames (map parameter_tree it.list.items) it.names) some it.named)
          call.ensures.pushed call.ensures.kept);
    }
