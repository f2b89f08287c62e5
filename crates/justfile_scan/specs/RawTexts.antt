-- Steps in reading raw text up to its end: over plain bytes, and piece by piece.
use Rattle.std.specs.Prelude.{◌≡◌, ℕ, ◌+◌, ◌≤◌, Bool, not, ◌&&◌, ◌==◌, nat_lt, List, length, drop, if◌then◌else◌}
use Rattle.justfile_model.specs.declared.raw_text.RawText.{RawText}
use Rattle.justfile_model.specs.declared.raw_text.RawText.TheVariants.{Comment, Body, Literal}
use Rattle.justfile_token.specs.StringKind.{quote_of}
use Rattle.justfile_model.specs.Lexing.LiteralText.{raw_len}
use Rattle.justfile_vocabulary.specs.ByteNames as byte

-- a byte that surely hides nothing and begins no end in a literal with this quote, whatever follows it
abbrev pub is_plain_in : (quote : ℕ) → ℕ → Bool
is_plain_in quote b = not (b == quote) && not (b == byte.backslash) && not (b == byte.brace_left)

-- a byte that surely hides nothing and begins no end, whatever follows it; some others don't either
abbrev pub is_plain : RawText → ℕ → Bool
is_plain Comment b = nat_lt byte.carriage_return b
is_plain Body b = nat_lt byte.carriage_return b && not (b == byte.brace_left)
is_plain (Literal k format) b = is_plain_in (quote_of k.delimiter) b

-- a byte at which the text ends, whatever follows it
abbrev pub is_plain_end : RawText → ℕ → Bool
is_plain_end Comment b = b == byte.line_feed
is_plain_end Body b = b == byte.line_feed
is_plain_end (Literal k format) b = b == quote_of k.delimiter && not k.indented

-- The piece at the start has `n` bytes; 0 means that the text ends here.
pub record IsScanStep (s : RawText) (rest : List ℕ) (n : ℕ) : Type 0 where
  pub within : n ≤ length rest
  pub length_is : raw_len s rest ≡ n + (if n == 0 then 0 else raw_len s (drop n rest))

-- The text up to this position belongs to the inside, and the inside continues here or ends here.
pub record IsWithinRaw (s : RawText) (bytes : List ℕ) (at : ℕ) : Type 0 where
  pub within : at ≤ length bytes
  pub length_is : raw_len s bytes ≡ at + raw_len s (drop at bytes)
