use Rattle.std.proofs.Common.{◌≤◌, Bool, subst, sym}
use Rattle.justfile_vocabulary.specs.declared.token_kind.TokenKind.TheVariants as kinds
use Rattle.justfile_parse_expression.specs.TableReader.{State}
use Rattle.justfile_parse_expression.specs.View.{state_of}
use Rattle.justfile_parse_base.specs.Counting.{identifiers_left}
use Rattle.justfile_parse_item.proofs.CounterSteps.{more_moved}
use Rattle.justfile_parse_item.proofs.Recipes.{accepted_fewer}
use Rattle.justfile_parse_item.proofs.recipe.parse_any_recipe.Goals as goal

pub returns-clause-moved : goal.returns-clause-moved
returns-clause-moved g c =
    let A = g.X.Expander.answer in
    let s = state_of A c.args.parser.now in
    let rest = state_of A c.accept_kind-quiet.new.parser in
    let P : Bool × State → Type 0 = λ q. identifiers_left q.1 ≤ identifiers_left s in
    more_moved c.args.numerator.now c.parse_recipe.new.numerator (identifiers_left rest) (identifiers_left s) c.parse_recipe.ensures.moved
    (subst P (sym c.accept_kind-quiet.ensures) (accepted_fewer kinds.At s))
