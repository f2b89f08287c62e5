use Rattle.std.proofs.Common.{◌≡◌, drop, map}
use Rattle.justfile_model.specs.Lexing.Tok.{tok_of}
use Rattle.justfile_chunks.specs.Chunks.{next_kind}
use Rattle.justfile_chunks.proofs.cuts.next_kind.Given as goal

abbrev pub invariant-loop-token : goal.invariant-loop-token
invariant-loop-token l = next_kind (map tok_of (drop l.token-index l.tokens)) ≡ next_kind (map tok_of l.tokens)
