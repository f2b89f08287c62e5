use Rattle.justfile_mentions.proofs.Single.{single_if}
use Rattle.justfile_mentions.proofs.names.is_name.Goals as goal

pub returns-in-Ok : goal.returns-in-Ok
returns-in-Ok c =
    single_if c.args.text.now c.in-Ok.tokens.items c.deref.result.now c.is_single.result c.in-Ok.ensures.tokens c.deref.ensures.value c.is_single.ensures
