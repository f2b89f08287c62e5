use Rattle.std.proofs.Common.{◌∙◌, ◌++◌, ℕ, List, ap}
use Rattle.editor_json.proofs.Abilities.{are_written}
use Rattle.editor_json.specs.declared.results.TheConstants.{AFTER, BEFORE}
use Rattle.editor_json.proofs.results.abilities_text.Goals as goal

pub returns-clause-exact : goal.returns-clause-exact
returns-clause-exact c = c.in_ok-text.ensures.ok ∙ ap (λ (t : List ℕ). BEFORE.now ++ (t ++ AFTER.now)) c.encoding_name-name.ensures ∙ are_written c.args.encoding
