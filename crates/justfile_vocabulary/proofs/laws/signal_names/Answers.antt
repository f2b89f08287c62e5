use Rattle.std.proofs.Common.{◌∙◌, ap}
use Rattle.justfile_vocabulary.proofs.SignalLaws.{named, name_of_named}
use Rattle.justfile_vocabulary.specs.Signal.{signal_named}
use Rattle.justfile_vocabulary.proofs.laws.signal_names.Goals as goal

pub returns : goal.returns
returns c = λ text s. (name_of_named text s, λ is. ap signal_named is ∙ named s)
