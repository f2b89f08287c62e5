use Rattle.std.proofs.Common.{◌≡◌, drop}
use Rattle.justfile_parse_attribute.specs.Attributes.{entry_of_pair}
use Rattle.justfile_parse_attribute.proofs.RepeatedAttributes.{checked_from}
use Rattle.justfile_parse_attribute.proofs.repeated.check_once.Given as goal

abbrev pub invariant-loop-earlier : goal.invariant-loop-earlier
invariant-loop-earlier l =
    checked_from l.before (entry_of_pair (l.attribute, l.written)) (drop l.earlier-index l.before) ≡ checked_from l.before (entry_of_pair (l.attribute, l.written)) l.before
