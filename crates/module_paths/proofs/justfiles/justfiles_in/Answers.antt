use Rattle.std.proofs.Common.{map, string_bytes}
use Rattle.module_paths.proofs.JustfileLemmas.{one_more}
use Rattle.module_paths.proofs.justfiles.justfiles_in.Goals as goal

pub loop-name-preserved : goal.loop-name-preserved
loop-name-preserved c =
    one_more c.args.folder.now c.args.inside.now c.loop-name.name-index c.name-item.result c.as_str.result.now (string_bytes c.in_ok-path_in.field-0)
    (map string_bytes c.loop-name.found.items) _ c.loop-name-test.true c.name-item.is c.as_str.ensures.value c.in_ok-path_in.ensures c.loop-name.invariant
    c.in_ok-push_sought.ensures
