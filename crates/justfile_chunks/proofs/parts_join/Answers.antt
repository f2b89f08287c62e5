use Rattle.justfile_chunks.proofs.ManyParts as many
use Rattle.justfile_chunks.proofs.MovedTrees as moved
use Rattle.justfile_chunks.proofs.ReadTexts as read
use Rattle.justfile_chunks.proofs.parts_join.Goals as goal

pub returns : goal.returns
returns c = record { two = read.read_law; many = many.parts_law; shapes = moved.joined_shapes }
