use Rattle.std.proofs.Common.{take}
use Rattle.std.specs.List.{AllZip}
use Rattle.justfile_token.specs.Copies.{IsSameText}
use Rattle.justfile_attribute.proofs.interpreters.copy_texts.Given as goal

abbrev pub invariant-loop-text : goal.invariant-loop-text
invariant-loop-text l = AllZip IsSameText l.copies.items (take l.text-index l.texts)
