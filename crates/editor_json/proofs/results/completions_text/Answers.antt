use Rattle.editor_json.proofs.Integers.{completions_integers, ok_any}
use Rattle.editor_json.proofs.results.completions_text.Goals as goal

pub returns-clause-integers : goal.returns-clause-integers
returns-clause-integers c = ok_any c.format.result (completions_integers c.args.completions.now c.deref.result.now c.deref.ensures.value c.in_ok-items.ensures.integers)
