use Rattle.std.proofs.Common.{◌≡◌, Bool, true, false}
use Rattle.std.specs.Prelude.{MatchBool}
use Rattle.justfile_literal.proofs.Verbatim.{cooks_itself}
use Rattle.justfile_literal.proofs.literal.has_backslash.Goals as goal

-- what holds where the test fails
in_else : (There Absent : Type 0) (found : Bool) → MatchBool found There Absent → found ≡ false → Absent
in_else There Absent true held fails = absurd (cc)
in_else There Absent false held fails = held

pub returns : goal.returns
returns c fails = cooks_itself c.args.text.now (in_else _ _ c.contains.result c.contains.ensures.cases fails)
