use Rattle.justfile_model.proofs.Lexing.BodyLaws.{body_law, colon_law}
use Rattle.justfile_model.proofs.lexing_laws.bodies_follow_colons.Goals as goal

pub returns : goal.returns
returns c = record { colon = colon_law; body = body_law }
