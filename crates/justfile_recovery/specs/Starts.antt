-- Where an item may begin in a text.
use Rattle.std.specs.Prelude.{◌≡◌, ℕ, ◌+◌, ◌-◌, ◌<◌, ◌≤◌, ◌⊎◌, Bool, true, false, ◌&&◌, ◌||◌, List, length, slice_index_or, nat_eq, nat_le, nat_lt}

-- an item, its attributes or a comment may begin with this byte: a letter, `_`, `@`, `#` or `[`
abbrev pub begins_item : ℕ → Bool
begins_item byte =
    (nat_le 65 byte && nat_le byte 90) || (nat_le 97 byte && nat_le byte 122) || nat_eq byte 95 || nat_eq byte 64 || nat_eq byte 35 || nat_eq byte 91

-- a line begins at the offset
abbrev pub begins_line : List ℕ → ℕ → Bool
begins_line text at = nat_eq at 0 || nat_eq (slice_index_or text (at - 1) 0) 10

-- an item may begin at the offset
unfoldable pub is_start : List ℕ → ℕ → Bool
is_start text at = nat_lt at (length text) && begins_item (slice_index_or text at 0) && begins_line text at

-- an item may begin at no offset from `from` on and before `to`
abbrev pub HasNone : List ℕ → (from to : ℕ) → Type 0
HasNone text from to = (at : ℕ) → from ≤ at → at < to → is_start text at ≡ false

-- the first offset from `from` on at which an item may begin, or the end of the text
pub record IsFirstStart (text : List ℕ) (from first : ℕ) : Type 0 where
  pub forward : from ≤ first
  pub within : first ≤ length text
  pub is : (first ≡ length text) ⊎ (is_start text first ≡ true)
  pub none_before : HasNone text from first

-- the last offset after `from` and up to `to` at which an item may begin, or `from`
pub record IsLastStart (text : List ℕ) (from to last : ℕ) : Type 0 where
  pub forward : from ≤ last
  pub within : last ≤ to
  pub is : (last ≡ from) ⊎ (is_start text last ≡ true)
  pub none_after : HasNone text (last + 1) (to + 1)
