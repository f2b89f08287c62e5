use Rattle.std.proofs.Common.{◌∙◌, ap, refl}
use Rattle.justfile_files.specs.Path.{path_beside}
use Rattle.justfiles.proofs.located.place_at.Goals as goal

pub returns-in_ok-at-in-Some : goal.returns-in_ok-at-in-Some
returns-in_ok-at-in-Some c =
    rw c.in-Some.is (c.in_ok-at-in-Some.at, refl, c.in_ok-at-in-Some.ensures ∙ ap (λ n. path_beside c.args.path.now n) c.as_str.ensures.value)
