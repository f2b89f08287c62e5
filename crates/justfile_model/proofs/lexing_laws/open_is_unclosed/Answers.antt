use Rattle.justfile_model.proofs.Lexing.ModeLaws.{delimiters_law, interpolations_law, levels_law}
use Rattle.justfile_model.proofs.lexing_laws.open_is_unclosed.Goals as goal

pub returns : goal.returns
returns c = record { delimiters = delimiters_law; levels = levels_law; interpolation = interpolations_law }
