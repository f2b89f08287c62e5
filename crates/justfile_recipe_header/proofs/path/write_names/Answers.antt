use Rattle.std.proofs.Common.{◌≡◌, List, ◌∷◌, ℕ, subst}
use Rattle.justfile_token.proofs.PutLemmas.{failed_at}
use Rattle.justfile_recipe_header.proofs.Parts.{names_parts}
use Rattle.justfile_recipe_header.proofs.path.write_names.Goals as goal

pub returns-in_err-write_each : goal.returns-in_err-write_each
returns-in_err-write_each g c =
    let split = c.in-Some.ensures.cases in
    let cut : c.args.names.now ≡ c.in-Some.first.now ∷ c.in-Some.rest.now = cc in
    failed_at g.S.Sink.took g.S.Sink.failed _ c.from_residual-in_err-write_each.ensures.0 (subst (λ (t : List ℕ). g.S.Sink.failed c.args.sink.now t c.write_each.new.sink) (names_parts _ _ _ cut)
    (g.met.S.Sink.failed_later _ _ _ _ _ c.in_ok-write.ensures c.in_err-write_each.ensures))

pub returns : goal.returns
returns g c =
    let split = c.in-Some.ensures.cases in
    let cut : c.args.names.now ≡ c.in-Some.first.now ∷ c.in-Some.rest.now = cc in
    subst (λ (t : List ℕ). g.S.Sink.took c.args.sink.now t c.write_each.new.sink) (names_parts _ _ _ cut)
    (g.met.S.Sink.took_more _ _ _ _ _ c.in_ok-write.ensures c.in_ok-write_each.ensures)
