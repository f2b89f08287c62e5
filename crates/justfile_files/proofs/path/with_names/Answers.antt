use Rattle.std.proofs.Common.{◌∙◌, ◌++◌, ap, string_bytes}
use Rattle.justfile_files.proofs.PathLemmas.{text_joined}
use Rattle.justfile_files.proofs.path.with_names.Goals as goal

pub returns : goal.returns
returns c =
    text_joined (string_bytes c.args.front) _ c.args.names.now
    (c.in_ok-push_str.ensures.bytes ∙ ap (λ l. string_bytes c.args.front ++ l) (c.as_str.ensures.value ∙ c.in_ok-names.ensures.ok))
