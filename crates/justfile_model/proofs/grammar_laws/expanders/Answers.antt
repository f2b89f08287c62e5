use Rattle.justfile_model.proofs.Derivations.Expanders.{tree_kept, tree_asks, shape_kept, shape_asks}
use Rattle.justfile_model.proofs.grammar_laws.expanders.Goals as goal

pub returns : goal.returns
returns c = record { tree = tree_kept; shape = shape_kept; tree_asks = tree_asks; shape_asks = shape_asks }
