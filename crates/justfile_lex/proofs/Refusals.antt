-- The error where there is no next token, by the first byte.
use Rattle.std.proofs.Common.{◌≡◌, ℕ, ◌<◌, true, false, List, [], ◌∷◌, length, get_or, take, Some, None, Ok, arith}
use Rattle.std.specs.Result.{result_ok}
use Rattle.std.proofs.lemmas.Grind.{common_steps}
use Rattle.justfile_vocabulary.specs.declared.byte_class.ByteClass.{ByteClass}
use Rattle.justfile_vocabulary.specs.declared.token_kind.TokenKind.{TokenKind}
use Rattle.justfile_vocabulary.specs.ByteClass.{class_of}
use Rattle.justfile_model.specs.Lexing.Bytes.{blank, is_blank, blank_len}
use Rattle.justfile_model.specs.Lexing.Modes.{Mode}
use Rattle.justfile_model.specs.Lexing.Next.{NextToken, body_token, token_by_class, token_within_line, blanks_or, layout, next}
use Rattle.justfile_scan.specs.Layouts.{indent}

-- blanks always are a token
no_blank : (m : Mode) (rest : List ℕ) (k : ByteClass) → blank k ≡ true → result_ok (token_by_class m k rest) ≡ None → ⊥
unfolding token_by_class
no_blank m rest k h none = grind (arith, common_steps)

-- the token that was found
pub found_is : (t : NextToken) (x : TokenKind × ℕ) → Some x ≡ result_ok t → t ≡ Ok x
found_is t x h = grind (arith, common_steps)

module _ (m : Mode) (rest : List ℕ) where
  abbrev ByClass : NextToken
  ByClass = token_by_class m (class_of (get_or rest 0 0)) rest

  -- within a line the error is that of the first byte's class
  within_line : result_ok (token_within_line m rest) ≡ None → token_within_line m rest ≡ ByClass
  unfolding token_within_line body_token
  within_line none = grind (arith, common_steps)

  blanks_is : (n : ℕ) → result_ok (blanks_or n m rest) ≡ None → blanks_or n m rest ≡ ByClass
  blanks_is n none = grind (arith, common_steps, within_line)

  -- at the start of a line that begins with blanks it is that of the blanks
  layout_blanks : (found following : List ℕ) → (result_ok ByClass ≡ None → ⊥) → result_ok (layout m found following rest) ≡ None → layout m found following rest ≡ indent m found
  unfolding layout
  layout_blanks found following any none = grind (arith, common_steps, blanks_is)

  layout_none : (following : List ℕ) → result_ok (layout m [] following rest) ≡ None → layout m [] following rest ≡ ByClass
  unfolding layout
  layout_none following none = grind (arith, common_steps, within_line)

-- if the text begins with blanks, the error is theirs
pub next_blanks : (m : Mode) (rest : List ℕ) → 0 < length rest → is_blank (get_or rest 0 0) ≡ true → result_ok (next m rest) ≡ None → next m rest ≡ indent m (take (blank_len rest) rest)
unfolding next
next_blanks m [] l h none = absurd (grind arith)
next_blanks m (b ∷ bs) l h none = grind (arith, common_steps, layout_blanks, within_line, no_blank)

-- and otherwise that of its first byte's class
pub next_other : (m : Mode) (rest : List ℕ) → 0 < length rest → is_blank (get_or rest 0 0) ≡ false → result_ok (next m rest) ≡ None → next m rest ≡ token_by_class m (class_of (get_or rest 0 0)) rest
unfolding next
next_other m [] l h none = absurd (grind arith)
next_other m (b ∷ bs) l h none = grind (arith, common_steps, layout_none, within_line)

-- an error other than that of an open interpolation is before the end
pub refused_some : (m : Mode) (rest : List ℕ) → (length rest ≡ 0 → m.interpolation ≡ None) → result_ok (next m rest) ≡ None → 0 < length rest
unfolding next
refused_some m [] closed none = grind (arith, common_steps)
refused_some m (b ∷ bs) closed none = grind arith
