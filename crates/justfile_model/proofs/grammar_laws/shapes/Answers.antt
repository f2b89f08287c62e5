use Rattle.justfile_model.proofs.Sound.Agreement.{one_tree}
use Rattle.justfile_model.proofs.Derivations.CookedTexts.{same_texts}
use Rattle.justfile_model.proofs.Derivations.Leaves.{file_forgets, file_lifts, one_shape}
use Rattle.justfile_model.proofs.Lexing.Spelled.{lexed_spelled}
use Rattle.justfile_model.proofs.grammar_laws.shapes.Goals as goal

pub returns : goal.returns
returns c = record {
  spelled = lexed_spelled;
  shape_of_tree = file_forgets;
  tree_of_shape = file_lifts;
  one = λ C ts spelled. one_shape C ts spelled (one_tree C ts);
  texts = same_texts;
}
