use Rattle.std.proofs.Common.{List, subst}
use Rattle.std.proofs.lemmas.List.{take_all}
use Rattle.justfile_token.specs.declared.token.Token.{Token}
use Rattle.justfile_lex.proofs.TableLemmas.{IsTableTo, all_significant, goes_on}
use Rattle.justfile_lex.proofs.table.significant.Goals as goal

pub loop-token-preserved : goal.loop-token-preserved
loop-token-preserved c =
    goes_on c.args.tokens.now _ _ _ _ _ c.token-item.result c.loop-token-test.true c.token-item.is c.loop-token.invariant c.in_ok-glued.ensures.after c.in_ok-glued.ensures.table

pub returns : goal.returns
returns c =
    let tokens = c.args.tokens.now in
    all_significant tokens c.loop-token.glued _
    (subst (λ (l : List Token). IsTableTo l c.loop-token.glued c.loop-token.table.items) (take_all _ tokens c.loop-token-test.false) c.loop-token.invariant)
