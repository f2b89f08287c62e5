use Rattle.std.proofs.Common.{rules}
use Rattle.std.proofs.lemmas.List.Sorted.{IsNonDecreasingBy-from_sort_by_key}
use Rattle.editor_language.specs.declared.mention.Mention.{Mention}
use Rattle.justfile_mentions.proofs.Appended.{ordered}
use Rattle.justfile_mentions.proofs.items.mentions_in.Goals as goal

pub returns : goal.returns
returns c =
    ordered c.args.index c.args.item.now _ _ _ c.in_ok-own.ensures c.in_ok-push_arguments.ensures c.in_ok-sort_by_key.ensures.permutation
    (IsNonDecreasingBy-from_sort_by_key (λ (m : Mention). m.span.start) _ c.in_ok-sort_by_key.ensures.sorted (λ a r q k. search rules))
