use Rattle.justfile_parse_item.proofs.Shebangs.{shebang_is}
use Rattle.justfile_parse_item.proofs.recipe.is_shebang.Goals as goal

pub returns : goal.returns
returns c = shebang_is c.args.line.now c.is_shebang.result c.is_shebang.ensures
