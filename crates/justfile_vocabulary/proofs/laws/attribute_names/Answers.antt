use Rattle.std.proofs.Common.{◌∙◌, ap}
use Rattle.justfile_vocabulary.proofs.AttributeKindLaws.{named, name_of_named}
use Rattle.justfile_vocabulary.specs.AttributeKind.{kind_named}
use Rattle.justfile_vocabulary.proofs.laws.attribute_names.Goals as goal

pub returns : goal.returns
returns c = λ text k. (name_of_named text k, λ is. ap kind_named is ∙ named k)
