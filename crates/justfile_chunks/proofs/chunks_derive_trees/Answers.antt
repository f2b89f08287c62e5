use Rattle.justfile_chunks.proofs.ChunkTrees as law
use Rattle.justfile_chunks.proofs.chunks_derive_trees.Goals as goal

pub returns : goal.returns
returns c = record { trees = law.trees_derive; tokens = law.tokens_move; numbers = law.numbers_follow }
