use Rattle.std.proofs.Common.{◌∙◌, Some, ap, subst, sym}
use Rattle.justfile_parse_header.specs.Arguments.{OptionHasBoundKeys, rules_by}
use Rattle.justfile_parse_header.specs.Tree.{rules_of}
use Rattle.justfile_parse_header.proofs.Firsts.{first_is_keyed, named_before, named_first, named_nowhere}
use Rattle.justfile_parse_header.proofs.arguments.find_arg.Goals as goal

pub returns-then-is_named-clause-rules : goal.returns-then-is_named-clause-rules
returns-then-is_named-clause-rules c =
    named_before (rules_of c.args.arg_attributes.now.attributes.now) c.args.arg_attributes.now.firsts c.requires c.args.before.now.list.items c.args.name
    c.lexeme-2.result.now c.lexeme-2.ensures (sym c.is_named.ensures ∙ c.if-is_named.true)

pub returns-else-is_named-clause-rules : goal.returns-else-is_named-clause-rules
returns-else-is_named-clause-rules c =
    named_first (rules_of c.args.arg_attributes.now.attributes.now) c.args.arg_attributes.now.firsts c.requires c.args.before.now.list.items c.args.name
    c.lexeme-2.result.now c.lexeme-2.ensures (sym c.is_named.ensures ∙ c.if-is_named.false) c.lexeme.result.now c.lexeme.ensures (Some c.in_ok-found.found) c.in_ok-found.ensures

pub returns-else-is_named-clause-keyed : goal.returns-else-is_named-clause-keyed
returns-else-is_named-clause-keyed c =
    subst OptionHasBoundKeys (sym c.in_ok-found.ensures) (first_is_keyed (rules_of c.args.arg_attributes.now.attributes.now) c.args.arg_attributes.now.firsts c.requires c.lexeme.result.now)

pub returns-in_err-found-clause-rules : goal.returns-in_err-found-clause-rules
returns-in_err-found-clause-rules c =
    ap rules_by c.from_residual.ensures
    ∙ named_nowhere (rules_of c.args.arg_attributes.now.attributes.now) c.args.arg_attributes.now.firsts c.requires c.args.before.now.list.items c.args.name
    c.lexeme.result.now c.lexeme.ensures c.in_err-found.ensures
