use Rattle.std.proofs.Common.{◌≡◌, ◌+◌, None, drop}
use Rattle.justfile_server.specs.Headers.{header_len}
use Rattle.justfile_server.proofs.headers.header_len.Given as goal

abbrev pub invariant-loop-byte : goal.invariant-loop-byte
invariant-loop-byte l = record {
  at : l.length ≡ l.byte-index;
  rest : l.length + header_len l.quote (drop l.byte-index l.text) ≡ header_len None l.text;
}
