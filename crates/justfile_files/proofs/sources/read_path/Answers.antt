use Rattle.std.proofs.Common.{◌∙◌, ap, string_bytes, sym}
use Rattle.std.specs.List.{list_any}
use Rattle.justfile_files.specs.Sources.{is_at}
use Rattle.justfile_files.proofs.SourceLemmas.{pushed_new, text_known}
use Rattle.justfile_files.proofs.sources.read_path.Goals as goal

pub returns-in-Text-clause-read : goal.returns-in-Text-clause-read
returns-in-Text-clause-read g c =
    let files = g.D.Folder.contents c.args.folder.now in
    let path = c.args.path.now in
    pushed_new g.L.Linter.leads files c.push_file.result c.args.files.now.items c.push_file.new.files.items path (string_bytes c.in-Text.text) c.requires
    (sym (c.has_path.ensures ∙ ap (list_any (is_at path)) c.deref.ensures.value) ∙ c.if-has_path.false)
    (text_known (files path) c.in_ok-text.field-0 c.in-Text.text c.in-Text.is c.in_ok-text.ensures.text) c.push_file.ensures
