use Rattle.std.proofs.Common.{None, rules}
use Rattle.justfile_completion.specs.Completions.{all_ends}
use Rattle.justfile_completion.specs.Cursor.{AreTokens}
use Rattle.justfile_completion.proofs.Told.{by_last}
use Rattle.justfile_completion.proofs.found.found_at.Goals as goal

pub returns-in-None : goal.returns-in-None
returns-in-None c =
    let uncut_front : AreTokens c.args.front.now all_ends None = search rules in
    by_last (λ r. r.0.items) (λ r. r.1) (λ r. r.2) c.found_in_item.result c.args.names.now c.args.front.now c.last_item.result.now c.args.typed.now uncut_front c.last_item.ensures c.found_in_item.ensures
