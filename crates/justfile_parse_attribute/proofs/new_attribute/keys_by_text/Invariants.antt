use Rattle.std.proofs.Common.{vec_len}
use Rattle.justfile_parse_attribute.proofs.KeysPut.{ArePut}
use Rattle.justfile_parse_attribute.proofs.new_attribute.keys_by_text.Given as goal

abbrev pub invariant-loop-given : goal.invariant-loop-given
invariant-loop-given l = ArePut l.fn.keyed.items l.keyed.items l.keys

abbrev pub decreases-loop-given : goal.decreases-loop-given
decreases-loop-given l = vec_len l.keyed
