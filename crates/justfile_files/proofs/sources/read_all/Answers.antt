use Rattle.std.proofs.Common.{◌∙◌}
use Rattle.justfile_files.proofs.SourceLemmas.{extends_alike, extends_both, extends_none}
use Rattle.justfile_files.proofs.sources.read_all.Goals as goal

pub loop-index-preserved : goal.loop-index-preserved
loop-index-preserved g c =
    let leads = g.L.Linter.leads in
    let before = c.loop-index.invariant in
    let next = c.in_ok-read_at.ensures in
    record {
      kept = λ name. next.kept name ∙ before.kept name;
      read = extends_both leads (g.D.Folder.contents c.args.folder.now) _ _ _ before.read (extends_alike leads (g.D.Folder.contents c.args.folder.now) (g.D.Folder.contents c.loop-index.folder) _ _ before.kept next.read);
    }
