use Rattle.std.proofs.Common.{arith, sym, ◌∙◌}
use Rattle.std.proofs.lemmas.Grind.{common_steps}
use Rattle.justfile_model.proofs.Lexing.CutLemmas.{after_byte, class_fact}
use Rattle.justfile_model.specs.Lexing.Next.{token_by_class}
use Rattle.justfile_lex.proofs.explain.explain_by_class.Goals as goal

pub unreachable-requires : goal.unreachable-requires
unfolding token_by_class
unreachable-requires c = grind (arith, common_steps)

pub unreachable-requires-in-LineFeed : goal.unreachable-requires-in-LineFeed
unfolding token_by_class
unreachable-requires-in-LineFeed c = grind (arith, common_steps)

pub unreachable-requires-in-IdentifierStart : goal.unreachable-requires-in-IdentifierStart
unfolding token_by_class
unreachable-requires-in-IdentifierStart c = grind (arith, common_steps)

pub explain_literal-requires : goal.explain_literal-requires
unfolding token_by_class
explain_literal-requires c = grind (arith, common_steps)

pub explain_closer-requires-clause-no_token : goal.explain_closer-requires-clause-no_token
unfolding token_by_class
explain_closer-requires-clause-no_token c = grind (arith, common_steps)

pub explain_fixed-requires-clause-boundary : goal.explain_fixed-requires-clause-boundary
explain_fixed-requires-clause-boundary c = after_byte c.args.rest.now 0 1 c.utf8.rest c.requires.some (class_fact _ _ (sym c.requires.class ∙ c.in-Fixed.is)).1 (omega arith)

pub explain_fixed-requires-clause-no_token : goal.explain_fixed-requires-clause-no_token
unfolding token_by_class
explain_fixed-requires-clause-no_token c = grind (arith, common_steps)

pub explain_other-requires-clause-no_token : goal.explain_other-requires-clause-no_token
unfolding token_by_class
explain_other-requires-clause-no_token c = grind (arith, common_steps)

pub returns-in-CarriageReturn : goal.returns-in-CarriageReturn
unfolding token_by_class
returns-in-CarriageReturn c = grind (arith, common_steps)

pub returns-in-IdentifierContinue : goal.returns-in-IdentifierContinue
unfolding token_by_class
returns-in-IdentifierContinue c = grind (arith, common_steps)

pub returns-in-Quote : goal.returns-in-Quote
unfolding token_by_class
returns-in-Quote c = grind (arith, common_steps)

pub returns-in-Opener : goal.returns-in-Opener
unfolding token_by_class
returns-in-Opener c = grind (arith, common_steps)

pub returns-in-Closer : goal.returns-in-Closer
unfolding token_by_class
returns-in-Closer c = grind (arith, common_steps)

pub returns-in-Fixed : goal.returns-in-Fixed
unfolding token_by_class
returns-in-Fixed c = grind (arith, common_steps)

pub returns-in-Lead : goal.returns-in-Lead
unfolding token_by_class
returns-in-Lead c = grind (arith, common_steps)

pub returns-in-Other : goal.returns-in-Other
unfolding token_by_class
returns-in-Other c = grind (arith, common_steps)
