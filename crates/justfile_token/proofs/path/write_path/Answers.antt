use Rattle.std.proofs.Common.{◌≡◌, ◌∷◌, refl, sym}
use Rattle.std.proofs.Output.{has_written_append, has_written_of_eq}
use Rattle.justfile_token.proofs.PathLemmas.{path_text_first}
use Rattle.justfile_token.proofs.path.write_path.Goals as goal

pub returns : goal.returns
returns g c = λ plain ok.
    let split = c.in-Some.ensures.cases in
    let cut : c.args.names.now ≡ c.in-Some.first.now ∷ c.in-Some.rest.now = cc in
    let first = c.in_ok-write_str.ensures.writes plain refl in
    has_written_of_eq _ _ _ _ _ (sym (path_text_first g.N.PathName.name_bytes _ _ _ cut))
    (has_written_append _ _ _ _ _ _ (rw c.text.ensures at first) (c.write_separated.ensures first.plain ok))
