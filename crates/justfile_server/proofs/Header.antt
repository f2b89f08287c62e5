-- How long a header is.
use Rattle.std.proofs.Common.{◌≡◌, ◌∙◌, ◌+◌, ◌<◌, ◌≤◌, ℕ, true, false, List, ◌∷◌, Option, ap, arith, cond, drop, get_or, length, sym}
use Rattle.std.proofs.lemmas.List.{drop_all, drop_more}
use Rattle.justfile_server.specs.Headers.{ends_header, header_len, quote_after}

-- up to a byte, and after it
module _ (text : List ℕ) (i x : ℕ) (inside : i < length text) (at : x ≡ get_or text i x) (quote : Option ℕ) where
  abbrev after : ℕ
  after = header_len (quote_after quote x) (drop (i + 1) text)

  from_byte : header_len quote (drop i text) ≡ cond (ends_header quote x) 0 (1 + after)
  from_byte = ap (header_len quote) (drop_more text i x inside ∙ ap (λ y. y ∷ drop (i + 1) text) (sym at))

  pub header_more : (next : Option ℕ) (n all : ℕ) → ends_header quote x ≡ false → next ≡ quote_after quote x → n + header_len quote (drop i text) ≡ all
      → (n + 1) + header_len next (drop (i + 1) text) ≡ all
  header_more next n all goes e so_far =
      let step : header_len quote (drop i text) ≡ 1 + after = from_byte ∙ ap (λ b. cond b 0 (1 + after)) goes in
      let regroup : (n + 1) + after ≡ n + (1 + after) = omega arith in
      ap (λ q. (n + 1) + header_len q (drop (i + 1) text)) e ∙ regroup ∙ sym (ap (λ m. n + m) step) ∙ so_far

  pub header_ends : (n all : ℕ) → ends_header quote x ≡ true → n + header_len quote (drop i text) ≡ all → n ≡ all
  header_ends n all ends so_far =
      let step : header_len quote (drop i text) ≡ 0 = from_byte ∙ ap (λ b. cond b 0 (1 + after)) ends in
      let same : n ≡ n + 0 = omega arith in
      same ∙ sym (ap (λ m. n + m) step) ∙ so_far

-- up to the end of the text
pub header_whole : (text : List ℕ) (quote : Option ℕ) (i n all : ℕ) → length text ≤ i → n + header_len quote (drop i text) ≡ all → n ≡ all
header_whole text quote i n all past so_far =
    let same : n ≡ n + 0 = omega arith in
    same ∙ sym (ap (λ l. n + header_len quote l) (drop_all i text past)) ∙ so_far
