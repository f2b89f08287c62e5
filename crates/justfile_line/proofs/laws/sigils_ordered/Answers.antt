use Rattle.std.proofs.Common.{rules}
use Rattle.justfile_line.specs.contracts.sigil.SigilOrd.TheImpl.Laws as laws
use Rattle.justfile_line.proofs.Equalities.{sigils_whole}
use Rattle.justfile_line.proofs.laws.sigils_ordered.Goals as goal

pub returns : goal.returns
returns c = record { total = laws.total-law; ties = laws.matches_eq-law; rising = search (rules); whole = sigils_whole }
