use Rattle.std.proofs.Common.{◌∙◌, string_bytes}
use Rattle.std.specs.Option.{option_map}
use Rattle.justfiles.proofs.Told.{found_at}
use Rattle.justfiles.proofs.located.find_module.Goals as goal

pub returns : goal.returns
returns g c =
    found_at g.F.Folders.has c.args.path.now c.args.submodule.now c.as_str.result.now c.lexeme.result.now (option_map string_bytes c.in_ok-found.found) c.place_at.result (c.as_str.ensures.value ∙ c.in_ok-folder.ensures) c.lexeme.ensures
    c.in_ok-found.ensures c.place_at.ensures
