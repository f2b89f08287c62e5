use Rattle.std.proofs.Common.{option_copied, option_map, string_bytes, ap}
use Rattle.justfile_server.proofs.Linked.{of_module}
use Rattle.justfile_server.proofs.links.path_of.Goals as goal

pub returns-in_ok-path-in-Module : goal.returns-in_ok-path-in-Module
returns-in_ok-path-in-Module g c =
    of_module g.F.Folders.has (option_copied c.args.folder) c.in-Some.folder.now c.args.text.now c.args.item.now c.module_path.result (option_map string_bytes) _ _ _ c.if-item.false
    (ap option_copied c.in-Some.is) c.in-Module.is c.chunk_text.ensures c.in_ok-path-in-Module.ensures c.as_str.ensures.value c.module_path.ensures
