use Rattle.std.proofs.Common.{◌∙◌, Global, List, String, subst, sym}
use Rattle.justfile_files.specs.Request.{texts}
use Rattle.justfile_files.specs.Sources.{source_of, sources}
use Rattle.justfile_files.proofs.SourceLemmas.{extends_alike, extends_both, named_by, named_still}
use Rattle.justfile_files.proofs.sources.read_named_by.Goals as goal

pub read_path-requires : goal.read_path-requires
read_path-requires g c =
    let leads = g.L.Linter.leads in
    named_still leads (g.D.Folder.contents c.args.folder.now) (sources c.args.files.now.items) (sources c.loop-path.files.items) c.as_str.result.now c.loop-path.invariant.read
    (named_by leads c.args.files.now.items c.args.index c.index.result.now c.deref-path-items.result.now c.loop-path.path-index c.path-item.result c.as_str.result.now c.requires c.index.ensures
    (subst (λ (l : List (String Global)). leads (source_of c.index.result.now).path (source_of c.index.result.now).text (texts l)) (sym c.deref-path-items.ensures.value) c.in_ok-paths.ensures)
    c.loop-path-test.true c.path-item.is c.as_str.ensures.value)

pub loop-path-preserved : goal.loop-path-preserved
loop-path-preserved g c =
    let leads = g.L.Linter.leads in
    let before = c.loop-path.invariant in
    let next = c.in_ok-read_path.ensures in
    record {
      kept = λ name. next.kept name ∙ before.kept name;
      read = extends_both leads (g.D.Folder.contents c.args.folder.now) _ _ _ before.read (extends_alike leads (g.D.Folder.contents c.args.folder.now) (g.D.Folder.contents c.loop-path.folder) _ _ before.kept next.read);
    }
