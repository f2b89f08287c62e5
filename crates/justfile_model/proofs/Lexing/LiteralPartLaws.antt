-- A literal, or a part of a format string, is an opener, an inside, and an end.
use Rattle.std.proofs.Common.{◌≡◌, ◌≢◌, ℕ, ◌+◌, ◌<◌, Bool, true, false, cond, eqb, List, [], ◌∷◌, ◌++◌, length, take, drop, get_or, Ok, Err, refl, sym, ap, subst, ◌∙◌, arith, codes, length-drop}
use Rattle.std.specs.Prelude.{◌↔◌, ◌||◌, ◌&&◌, replicate}
use Rattle.std.proofs.lemmas.Bool.{and_parts}
use Rattle.std.proofs.lemmas.Bool.Decides.{nat_tests}
use Rattle.std.proofs.lemmas.List.{length-replicate, drop_at, length-append, length-take-le, take-append-drop}
use Rattle.justfile_token.specs.declared.string_kind.StringKind.{StringKind}
use Rattle.justfile_vocabulary.specs.declared.token_kind.TokenKind.{TokenKind}
use Rattle.justfile_token.specs.StringKind.{delimiter_len, delimiter_text, quote_of}
use Rattle.justfile_model.specs.declared.raw_text.RawText.TheVariants.{Literal}
use Rattle.justfile_model.specs.Lexing.Bytes.{is_interpolation_start}
use Rattle.justfile_model.specs.Lexing.LexicalFault.{Here}
use Rattle.justfile_model.specs.Lexing.LiteralParts.{EndsWithBraces, EndsWithDelimiter, IsPart, Unterminated}
use Rattle.justfile_model.specs.Lexing.LiteralText.{is_delimiter, raw_len}
use Rattle.justfile_model.specs.Lexing.Next.{NextToken, literal_part, unterminated}
use Rattle.justfile_model.specs.Lexing.Pieces.{IsInside}
use Rattle.justfile_model.proofs.Lexing.CutLemmas.{eq_from, ne_from, quote_ascii, raw_within}
use Rattle.justfile_model.proofs.Lexing.PieceLaws.{inside_law, no_end_law}

-- ---- the bytes of an end

three_first : (q : ℕ) → 0 < q → (bs : List ℕ) → (eqb (get_or bs 0 0) q && eqb (get_or bs 1 0) q && eqb (get_or bs 2 0) q) ≡ true → bs ≡ q ∷ q ∷ q ∷ drop 3 bs
three_first q some (x ∷ y ∷ z ∷ zs) h =
    let a : x ≡ q = grind (arith, nat_tests) in
    let b : y ≡ q = grind (arith, nat_tests) in
    let c : z ≡ q = grind (arith, nat_tests) in
    λ i. a i ∷ b i ∷ c i ∷ zs
three_first q some _ h = grind (arith, nat_tests)

one_first : (q : ℕ) → 0 < q → (bs : List ℕ) → eqb (get_or bs 0 0) q ≡ true → bs ≡ q ∷ drop 1 bs
one_first q some [] h = grind (arith, nat_tests)
one_first q some (x ∷ xs) h = let a : x ≡ q = grind (arith, nat_tests) in λ i. a i ∷ xs

delimiter_first : (k : StringKind) (bs : List ℕ) → is_delimiter k bs ≡ true → bs ≡ delimiter_text k ++ drop (delimiter_len k) bs
delimiter_first k bs h = by k.indented h
  where
    q : ℕ
    q = quote_of k.delimiter

    by : (b : Bool) → cond b (eqb (get_or bs 0 0) q && eqb (get_or bs 1 0) q && eqb (get_or bs 2 0) q) (eqb (get_or bs 0 0) q) ≡ true → bs ≡ replicate (cond b 3 1) q ++ drop (cond b 3 1) bs
    by true h = three_first q (omega (arith, quote_ascii k.delimiter)) bs h
    by false h = one_first q (omega (arith, quote_ascii k.delimiter)) bs h

delimiter_length : (k : StringKind) → length (delimiter_text k) ≡ delimiter_len k
delimiter_length k = length-replicate (delimiter_len k) (quote_of k.delimiter)

braces_first : (bs : List ℕ) → is_interpolation_start bs ≡ true → bs ≡ codes "{{" ++ drop 2 bs
braces_first [] h = cc
braces_first (x ∷ []) h = grind (arith, nat_tests)
braces_first (x ∷ y ∷ ys) h =
    let a : x ≡ 123 = grind (arith, nat_tests) in
    let b : y ≡ 123 = grind (arith, nat_tests) in
    λ i. a i ∷ b i ∷ ys

-- no delimiter begins with a brace
no_start : (k : StringKind) (follows : List ℕ) → is_interpolation_start (delimiter_text k ++ follows) ≡ false
no_start k follows = by k.indented
  where
    by : (b : Bool) → is_interpolation_start (replicate (cond b 3 1) (quote_of k.delimiter) ++ follows) ≡ false
    by true = grind (arith, nat_tests, quote_ascii k.delimiter)
    by false = grind (arith, nat_tests, quote_ascii k.delimiter)

no_delimiter : (k : StringKind) (follows : List ℕ) → is_delimiter k (codes "{{" ++ follows) ≡ false
no_delimiter k follows = grind (arith, nat_tests, quote_ascii k.delimiter)

-- ---- the part

module _ (k : StringKind) (format : Bool) (more whole : TokenKind) (opener : List ℕ) where
  -- the token that is found, if `n` bytes of this text come before the first end
  found_by : List ℕ → ℕ → NextToken
  found_by text n =
      cond (eqb n (length text)) (Err (Here (unterminated k.delimiter) 0 (length opener)))
      (cond (format && is_interpolation_start (drop n text)) (Ok (more, length opener + n + 2)) (Ok (whole, length opener + n + delimiter_len k)))

  part_is : (text : List ℕ) → literal_part k format (length opener) more whole (opener ++ text) ≡ found_by text (raw_len (Literal k format) text)
  unfolding literal_part found_by
  part_is text = ap (λ text. found_by text (raw_len (Literal k format) text)) (drop_at opener text (length opener) refl)

  three_lengths : (inside end : List ℕ) (n : ℕ) → length end ≡ n → length opener + length inside + n ≡ length (opener ++ (inside ++ end))
  three_lengths inside end n e = omega (arith, e, length-append opener (inside ++ end), length-append inside end)

  Part : List ℕ → NextToken → Type 0
  Part = IsPart k format more whole opener

  -- ---- what is found is such a part

  unended : (text : List ℕ) → raw_len (Literal k format) text ≡ length text → Part text (Err (Here (unterminated k.delimiter) 0 (length opener)))
  unfolding Part
  unended text h = Unterminated ((no_end_law (Literal k format) text).0 h)

  with_braces : (inside follows : List ℕ) → IsInside (Literal k format) inside follows → is_interpolation_start follows ≡ true → Part (inside ++ follows) (Ok (more, length opener + length inside + 2))
  unfolding Part
  with_braces inside follows i h =
      let first = braces_first follows h in
      subst (λ n. IsPart k format more whole opener (inside ++ follows) (Ok (more, n))) (sym (three_lengths inside (codes "{{") 2 refl))
      (EndsWithBraces inside (drop 2 follows) (ap (λ follows. inside ++ follows) first) (subst (IsInside (Literal k format) inside) first i))

  with_delimiter : (inside follows : List ℕ) → IsInside (Literal k format) inside follows → is_delimiter k follows ≡ true → Part (inside ++ follows) (Ok (whole, length opener + length inside + delimiter_len k))
  unfolding Part
  with_delimiter inside follows i h =
      let first = delimiter_first k follows h in
      subst (λ n. IsPart k format more whole opener (inside ++ follows) (Ok (whole, n))) (sym (three_lengths inside (delimiter_text k) (delimiter_len k) (delimiter_length k)))
      (EndsWithDelimiter inside (drop (delimiter_len k) follows) (ap (λ follows. inside ++ follows) first) (subst (IsInside (Literal k format) inside) first i))

  with_end : (inside follows : List ℕ) → IsInside (Literal k format) inside follows → (b : Bool) → (format && is_interpolation_start follows) ≡ b → Part (inside ++ follows) (cond b (Ok (more, length opener + length inside + 2)) (Ok (whole, length opener + length inside + delimiter_len k)))
  with_end inside follows i true h = with_braces inside follows i (and_parts format _ h).1
  with_end inside follows i false h = with_delimiter inside follows i (let ends = i.end_follows.ends_here in grind (arith, nat_tests))

  found_part : (text : List ℕ) → Part text (found_by text (raw_len (Literal k format) text))
  unfolding found_by
  found_part text = by (eqb n (length text)) refl
    where
      n : ℕ
      n = raw_len (Literal k format) text

      by : (b : Bool) → eqb n (length text) ≡ b → Part text (cond b (Err (Here (unterminated k.delimiter) 0 (length opener))) (cond (format && is_interpolation_start (drop n text)) (Ok (more, length opener + n + 2)) (Ok (whole, length opener + n + delimiter_len k))))
      by true h = unended text (eq_from n (length text) h)
      by false h =
          let less : n < length text = omega (arith, raw_within (Literal k format) text, ne_from n (length text) h) in
          let front : length (take n text) ≡ n = length-take-le n text (omega (arith, less)) in
          let joined : take n text ++ drop n text ≡ text = take-append-drop n text in
          let some : drop n text ≢ [] = λ nil. absurd (omega (arith, less, ap length nil, length-drop n text)) in
          let inside : IsInside (Literal k format) (take n text) (drop n text) = (inside_law (Literal k format) (take n text) (drop n text)).0 (ap (raw_len (Literal k format)) joined ∙ sym front, some) in
          subst (λ m. Part text (cond (format && is_interpolation_start (drop n text)) (Ok (more, length opener + m + 2)) (Ok (whole, length opener + m + delimiter_len k)))) front
          (subst (λ text'. Part text' (cond (format && is_interpolation_start (drop n text)) (Ok (more, length opener + length (take n text) + 2)) (Ok (whole, length opener + length (take n text) + delimiter_len k)))) joined
          (with_end (take n text) (drop n text) inside _ refl))

  -- ---- such a part is what is found

  ended : (inside follows : List ℕ) → IsInside (Literal k format) inside follows → found_by (inside ++ follows) (raw_len (Literal k format) (inside ++ follows)) ≡ cond (format && is_interpolation_start follows) (Ok (more, length opener + length inside + 2)) (Ok (whole, length opener + length inside + delimiter_len k))
  unfolding found_by
  ended inside follows i =
      let read = (inside_law (Literal k format) inside follows).1 i in
      let longer : eqb (length inside) (length (inside ++ follows)) ≡ false = shorter follows read.1 in
      let left : drop (length inside) (inside ++ follows) ≡ follows = drop_at inside follows (length inside) refl in
      ap (found_by (inside ++ follows)) read.0 ∙ rw (longer, left) refl
    where
      not_same : (a b : ℕ) → a < b → eqb a b ≡ false
      not_same a b l = grind (arith, nat_tests)

      shorter : (follows : List ℕ) → follows ≢ [] → eqb (length inside) (length (inside ++ follows)) ≡ false
      shorter [] some = absurd (some refl)
      shorter (b ∷ bs) some = not_same _ _ (omega (arith, length-append inside (b ∷ bs)))

  and_false : (a b : Bool) → b ≡ false → (a && b) ≡ false
  and_false a b h = grind (arith, nat_tests)

  or_right : (a b : Bool) → (a || b) ≡ true → a ≡ false → b ≡ true
  or_right a b h e = grind (arith, nat_tests)

  part_found : (text : List ℕ) (found : NextToken) → Part text found → found_by text (raw_len (Literal k format) text) ≡ found
  unfolding found_by Part
  part_found text found (EndsWithDelimiter inside follows is i) =
      ap (λ text. found_by text (raw_len (Literal k format) text)) is ∙ ended inside (delimiter_text k ++ follows) i
      ∙ ap (λ b. cond b (Ok (more, length opener + length inside + 2)) (Ok (whole, length opener + length inside + delimiter_len k))) (and_false format _ (no_start k follows))
      ∙ ap (λ n. Ok (whole, n)) (three_lengths inside (delimiter_text k) (delimiter_len k) (delimiter_length k))
  part_found text found (EndsWithBraces inside follows is i) =
      ap (λ text. found_by text (raw_len (Literal k format) text)) is ∙ ended inside (codes "{{" ++ follows) i
      ∙ ap (λ b. cond b (Ok (more, length opener + length inside + 2)) (Ok (whole, length opener + length inside + delimiter_len k))) (or_right _ _ i.end_follows.ends_here (no_delimiter k follows))
      ∙ ap (λ n. Ok (more, n)) (three_lengths inside (codes "{{") 2 refl)
  part_found text found (Unterminated n) = all_read ((no_end_law (Literal k format) text).1 n)
    where
      same : (n : ℕ) → eqb n n ≡ true
      same n = grind (arith, nat_tests)

      all_read : raw_len (Literal k format) text ≡ length text → found_by text (raw_len (Literal k format) text) ≡ Err (Here (unterminated k.delimiter) 0 (length opener))
      all_read h = ap (found_by text) h ∙ rw (same (length text)) refl

  pub part_law : (text : List ℕ) (found : NextToken) → (literal_part k format (length opener) more whole (opener ++ text) ≡ found) ↔ IsPart k format more whole opener text found
  unfolding Part
  part_law text found = (λ e. subst (IsPart k format more whole opener text) (sym (part_is text) ∙ e) (found_part text), λ p. part_is text ∙ part_found text found p)
