use Rattle.std.proofs.Common.{◌≡◌, [], ◌∷◌, ◌++◌, refl}
use Rattle.std.proofs.Output.{has_written_append, has_written_of_eq}
use Rattle.justfile_message.specs.List.{item_text}
use Rattle.justfile_message.proofs.ListLemmas.{others_text}
use Rattle.justfile_message.proofs.list.write_others.Goals as goal

pub returns : goal.returns
returns g c = λ plain ok.
    let split = c.in-Some.ensures.cases in
    let cut : c.args.items.now ≡ c.in-Some.others.now ++ c.in-Some.last.now ∷ [] = cc in
    let commas = c.in_ok-write_after_commas.ensures plain refl in
    let separator = c.in_ok-write_str.ensures.writes commas.plain refl in
    has_written_of_eq _ _ _ _ _ (others_text (λ item. item_text c.args.ticked (g.T.Alternative.alternative_text item)) _ _ _ _ cut c.is_empty.ensures)
    (has_written_append _ _ _ _ _ _ commas (has_written_append _ _ _ _ _ _ (rw c.last_separator.ensures at separator) (c.write_item.ensures separator.plain ok)))
