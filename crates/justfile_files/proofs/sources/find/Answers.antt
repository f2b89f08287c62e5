use Rattle.justfile_files.proofs.sources.find.Goals as goal

pub returns-in-Err-clause-text : goal.returns-in-Err-clause-text
returns-in-Err-clause-text g c = c.without_file.ensures (g.D.Folder.contents c.args.folder.now c.args.path.now)
