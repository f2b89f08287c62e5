use Rattle.std.proofs.Common.{refl}
use Rattle.std.proofs.lemmas.Result.{IfOk-weaker}
use Rattle.justfile_literal.proofs.Braces.{replaced}
use Rattle.justfile_literal.proofs.format.unescape_braces.Goals as goal

pub returns : goal.returns
returns c = IfOk-weaker c.replace.result _ _ (λ unescaped h. replaced h.0 _ c.args.text.now _ refl h.1) c.replace.ensures.ok
