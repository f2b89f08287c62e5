use Rattle.justfile_files.proofs.FoundLemmas.{lead_word}
use Rattle.justfile_files.proofs.found.find_files.Goals as goal

pub loop-name-preserved : goal.loop-name-preserved
loop-name-preserved g c =
    lead_word g.D.Folder.lists c.args.folder.now c.args.names.now c.loop-name.name-index c.name-item.result c.as_str.result.now c.loop-name.found.items
    c.in_ok-found_at.field-0.items _ c.loop-name-test.true c.name-item.is c.as_str.ensures.value c.loop-name.invariant c.in_ok-found_at.ensures
    c.in_ok-append.ensures.items
