use Rattle.justfile_chunks.proofs.AllCuts as law
use Rattle.justfile_chunks.proofs.chunks_derive.Goals as goal

pub returns : goal.returns
returns c = record { law = law.chunks_derive }
