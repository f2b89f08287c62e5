use Rattle.std.proofs.Common.{IsUtf8, chars, length, string_bytes}
use Rattle.justfile_literal.proofs.Leads.{Leads}
use Rattle.justfile_literal.proofs.cook.cook_string.Given as goal

abbrev pub invariant-loop-character : goal.invariant-loop-character
invariant-loop-character l = record {
  utf8 : IsUtf8 l.rest;
  leads : Leads l.text (string_bytes l.cooked) l.rest;
}

abbrev pub decreases-loop-character : goal.decreases-loop-character
decreases-loop-character l = length (chars l.rest)
