use Rattle.std.proofs.Common.{◌≡◌, map}
use Rattle.std.specs.List.{filter}
use Rattle.justfile_attribute_rules.specs.Keys.{key_argument, key_arguments}
use Rattle.justfile_attribute_rules.proofs.KeyLemmas.{unknown}
use Rattle.justfile_attribute_rules.proofs.keys.check_keys.Given as goal

-- the keys so far are accepted
abbrev pub invariant-loop-text : goal.invariant-loop-text
invariant-loop-text l = filter (unknown l.name.token l.kind) (key_arguments l.keys) ≡ filter (unknown l.name.token l.kind) (map key_argument l.text-iterator)
