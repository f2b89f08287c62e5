use Rattle.std.proofs.Common.{map, string_bytes}
use Rattle.justfiles.proofs.Told.{named_paths}
use Rattle.justfiles.proofs.linted.paths_in.Goals as goal

pub returns-in-Ok : goal.returns-in-Ok
returns-in-Ok g c = named_paths g.F.Folders.has c.args.path.now c.args.source.now c.in-Ok.ast c.paths_of.result (λ v. map string_bytes v.items) c.in-Ok.ensures.ok c.paths_of.ensures
