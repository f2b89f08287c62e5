-- Hexadecimal digits at the start of a text of characters.
use Rattle.std.proofs.Common.{zero, suc, ◌≡◌, ℕ, ◌+◌, ◌<◌, ◌≤◌, Bool, true, false, cond, List, [], ◌∷◌, ◌++◌, length, take, drop, refl, sym, ap, subst, arith, one-add}
use Rattle.std.specs.List.{prefix_len}
use Rattle.std.specs.Char.{is_ascii_hexdigit}
use Rattle.justfile_model.specs.LiteralTexts.Cook.{AreHex}

-- the number of digits at the front, at most `most`
abbrev pub hex_upto : ℕ → List ℕ → ℕ
hex_upto most cs = prefix_len is_ascii_hexdigit (take most cs)

-- a digit is at the front
abbrev pub is_hex_head : List ℕ → Bool
is_hex_head [] = false
is_hex_head (c ∷ cs) = is_ascii_hexdigit c

-- the number of digits at the front is `n`
pub record HexFront (most : ℕ) (cs : List ℕ) (n : ℕ) : Type 0 where
  pub bound : n ≤ most
  pub front : AreHex (take n cs)
  pub front_len : length (take n cs) ≡ n
  pub stop : n < most → is_hex_head (drop n cs) ≡ false

by_head : (most c : ℕ) (cs : List ℕ) → HexFront most cs (hex_upto most cs) → (digit : Bool) → is_ascii_hexdigit c ≡ digit → HexFront (suc most) (c ∷ cs) (cond digit (1 + hex_upto most cs) 0)
by_head most c cs more false e = record { bound = omega arith; front = tt; front_len = refl; stop = λ h. e }
by_head most c cs more true e =
    subst (HexFront (suc most) (c ∷ cs)) (sym (one-add (hex_upto most cs))) record { bound = omega (arith, more.bound); front = (e, more.front); front_len = ap suc more.front_len; stop = λ h. more.stop (omega arith) }

pub hex_front : (most : ℕ) (cs : List ℕ) → HexFront most cs (hex_upto most cs)
hex_front zero cs = record { bound = omega arith; front = tt; front_len = refl; stop = λ h. absurd (omega arith) }
hex_front (suc most) [] = record { bound = omega arith; front = tt; front_len = refl; stop = λ h. refl }
hex_front (suc most) (c ∷ cs) = by_head most c cs (hex_front most cs) (is_ascii_hexdigit c) refl

-- digits, and then no other one unless there are as many as may be
pub hex_is : (most : ℕ) (hex later : List ℕ) → AreHex hex → length hex ≤ most → (length hex < most → is_hex_head later ≡ false) → hex_upto most (hex ++ later) ≡ length hex
hex_is zero [] later h le stop = refl
hex_is (suc most) [] [] h le stop = refl
hex_is (suc most) [] (c ∷ cs) h le stop = rw (stop (omega arith)) refl
hex_is zero (x ∷ hex) later h le stop = absurd (omega arith)
hex_is (suc most) (x ∷ hex) later h le stop = rw h.0 (omega (arith, hex_is most hex later h.1 (omega arith) (λ l. stop (omega arith))))
