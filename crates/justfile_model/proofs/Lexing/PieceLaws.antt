-- Text that is read up to its first end is the pieces before that end.
use Rattle.std.proofs.Common.{zero, suc, ◌≡◌, ◌≢◌, ℕ, ◌+◌, ◌<◌, ◌≤◌, Bool, true, false, ltb, List, [], ◌∷◌, ◌++◌, ◌⊎◌, inl, inr, length, take, drop, refl, sym, ap, subst, ◌∙◌, ⊎_elim, arith, length-drop}
use Rattle.std.specs.Prelude.{◌↔◌}
use Rattle.std.specs.List.{concat}
use Rattle.std.proofs.lemmas.Bool.{cases_lt}
use Rattle.std.proofs.lemmas.Bool.Decides.{nat_tests}
use Rattle.std.proofs.lemmas.List.{append_assoc, length-append, take-append-drop, take-append-le, drop-append-le, take_at, drop_at}
use Rattle.justfile_model.specs.declared.raw_text.RawText.{RawText}
use Rattle.justfile_model.specs.declared.raw_text.RawText.TheVariants.{Comment, Body, Literal}
use Rattle.justfile_model.specs.Lexing.LiteralText.{pieces_len, hides, ends, raw_len}
use Rattle.justfile_model.specs.Lexing.Pieces.{first_piece, ArePieces, IsBetweenPieces, IsEnd, IsInside, HasNoEnd}
use Rattle.justfile_model.proofs.Lexing.CutLemmas.{quote_ascii}

-- nothing ends an empty text
no_end_in_nil : (s : RawText) → ends s [] ≡ true → ⊥
no_end_in_nil Comment h = cc
no_end_in_nil Body h = cc
no_end_in_nil (Literal k format) h = grind (arith, nat_tests, quote_ascii k.delimiter)

drop_taken : (n : ℕ) (xs : List ℕ) → drop (length (take n xs)) xs ≡ drop n xs
drop_taken zero xs = refl
drop_taken (suc n) [] = refl
drop_taken (suc n) (x ∷ xs) = drop_taken n xs

nil_right : (xs ys : List ℕ) → xs ++ ys ≡ [] → ys ≡ []
nil_right [] ys e = e
nil_right (x ∷ xs) ys e = cc

module _ (s : RawText) where
  -- what is hidden is passed, as far as the text goes
  passes : (n : ℕ) (bs : List ℕ) → pieces_len (hides s) (ends s) n bs ≡ length (take n bs) + raw_len s (drop n bs)
  unfolding pieces_len
  passes zero bs = omega arith
  passes (suc n) [] = refl
  passes (suc n) (b ∷ bs) = omega (arith, passes n bs)

  -- at an end nothing is read
  stops : (text : List ℕ) → IsEnd s text → raw_len s text ≡ 0
  unfolding pieces_len
  stops [] e = refl
  stops (b ∷ bs) e =
      let h : ltb 0 (hides s (b ∷ bs)) ≡ false = rw e.hides_nothing refl in
      let g : ends s (b ∷ bs) ≡ true = e.ends_here in
      rw (h, g) refl

  -- elsewhere a piece is read, and then the rest
  first_is : (b : ℕ) (bs : List ℕ) → first_piece s (b ∷ bs) ≡ b ∷ take (hides s (b ∷ bs)) bs
  first_is b bs = let e : suc (hides s (b ∷ bs)) ≡ 1 + hides s (b ∷ bs) = omega arith in subst (λ n. take n (b ∷ bs) ≡ b ∷ take (hides s (b ∷ bs)) bs) e refl

  unfoldable Reads : (text piece : List ℕ) → Type 0
  Reads text piece = raw_len s text ≡ length piece + raw_len s (drop (length piece) text)

  reads_by : (b : ℕ) (bs : List ℕ) (hidden ended : Bool) → ltb 0 (hides s (b ∷ bs)) ≡ hidden → ends s (b ∷ bs) ≡ ended → (IsEnd s (b ∷ bs) → ⊥) → Reads (b ∷ bs) (b ∷ take (hides s (b ∷ bs)) bs)
  unfolding pieces_len Reads
  reads_by b bs true ended h g free = rw h (omega (arith, passes (hides s (b ∷ bs)) bs, ap (raw_len s) (drop_taken (hides s (b ∷ bs)) bs)))
  reads_by b bs false true h g free = absurd (free (record { ends_here = g; hides_nothing = grind (arith, nat_tests) }))
  reads_by b bs false false h g free =
      let none : hides s (b ∷ bs) ≡ 0 = grind (arith, nat_tests) in
      rw (h, g) (rw none (omega arith))

  reads : (b : ℕ) (bs : List ℕ) → (IsEnd s (b ∷ bs) → ⊥) → Reads (b ∷ bs) (first_piece s (b ∷ bs))
  reads b bs free = subst (Reads (b ∷ bs)) (sym (first_is b bs)) (reads_by b bs _ _ refl refl free)

  is_end : (text : List ℕ) → IsEnd s text ⊎ (IsEnd s text → ⊥)
  is_end text = by (ends s text) (ltb 0 (hides s text)) refl refl
    where
      by : (ended hidden : Bool) → ends s text ≡ ended → ltb 0 (hides s text) ≡ hidden → IsEnd s text ⊎ (IsEnd s text → ⊥)
      by true false g h = inl (record { ends_here = g; hides_nothing = grind (arith, nat_tests) })
      by true true g h = inr (λ e. let none = e.hides_nothing in grind (arith, nat_tests))
      by false hidden g h = inr (λ e. cc (e.ends_here))

  -- a piece at no end is read, and then what follows it
  past_piece : (piece follows : List ℕ) → piece ≢ [] → piece ≡ first_piece s (piece ++ follows) → (IsEnd s (piece ++ follows) → ⊥) → raw_len s (piece ++ follows) ≡ length piece + raw_len s follows
  unfolding Reads
  past_piece [] follows some is free = absurd (some refl)
  past_piece (b ∷ bs) follows some is free = go (subst (Reads (b ∷ (bs ++ follows))) (sym is) (reads b (bs ++ follows) free))
    where
      go : Reads (b ∷ (bs ++ follows)) (b ∷ bs) → raw_len s (b ∷ (bs ++ follows)) ≡ length (b ∷ bs) + raw_len s follows
      go h = h ∙ ap (λ rest. length (b ∷ bs) + raw_len s rest) (drop_at (b ∷ bs) follows (length (b ∷ bs)) refl)

  -- nothing is read past a place between pieces that is an end
  read_before : (pieces : List (List ℕ)) (follows : List ℕ) → ArePieces s pieces follows → IsEnd s follows → raw_len s (concat pieces ++ follows) ≤ length (concat pieces)
  read_before [] follows are e = omega (arith, stops follows e)
  read_before (piece ∷ pieces) follows are e = rw append_assoc (by (is_end (piece ++ (concat pieces ++ follows))) (read_before pieces follows are.2 e))
    where
      by : IsEnd s (piece ++ (concat pieces ++ follows)) ⊎ (IsEnd s (piece ++ (concat pieces ++ follows)) → ⊥) → raw_len s (concat pieces ++ follows) ≤ length (concat pieces) → raw_len s (piece ++ (concat pieces ++ follows)) ≤ length (piece ++ concat pieces)
      by (inl here) more = omega (arith, stops _ here)
      by (inr free) more = omega (arith, past_piece piece (concat pieces ++ follows) are.0 are.1 free, length-append piece (concat pieces))

  -- the part of a text that is read, and the rest
  record Scan (text : List ℕ) : Type 0 where
    before : List ℕ
    follows : List ℕ
    are : before ++ follows ≡ text
    is_between : IsBetweenPieces s before follows
    read : raw_len s text ≡ length before
    stop : follows ≢ [] → IsEnd s follows

  more_pieces : (piece rest text : List ℕ) → piece ≢ [] → piece ++ rest ≡ text → piece ≡ first_piece s text → (IsEnd s text → ⊥) → Scan rest → Scan text
  more_pieces piece rest text some joins is free more =
      let whole : piece ++ (concat more.is_between.pieces ++ more.follows) ≡ text = ap (λ front. piece ++ (front ++ more.follows)) (sym more.is_between.joined) ∙ ap (λ rest. piece ++ rest) more.are ∙ joins in
      let first : piece ≡ first_piece s (piece ++ rest) = is ∙ ap (first_piece s) (sym joins) in
      record {
        before = piece ++ more.before;
        follows = more.follows;
        are = append_assoc piece more.before more.follows ∙ ap (λ rest. piece ++ rest) more.are ∙ joins;
        is_between = record { pieces = piece ∷ more.is_between.pieces; joined = ap (λ rest. piece ++ rest) more.is_between.joined; are_pieces = (some, is ∙ ap (first_piece s) (sym whole), more.is_between.are_pieces) };
        read = sym (ap (raw_len s) joins) ∙ past_piece piece rest some first (subst (λ text. IsEnd s text → ⊥) (sym joins) free) ∙ omega (arith, more.read, length-append piece more.before);
        stop = more.stop;
      }

  scan : (n : ℕ) (text : List ℕ) → length text ≤ n → Scan text
  unfolding pieces_len
  scan n [] l = record { before = []; follows = []; are = refl; is_between = record { pieces = []; joined = refl; are_pieces = tt }; read = refl; stop = λ some. absurd (some refl) }
  scan zero (b ∷ bs) l = absurd (omega arith)
  scan (suc n) (b ∷ bs) l = by (is_end (b ∷ bs)) (scan n)
    where
      rest : List ℕ
      rest = drop (hides s (b ∷ bs)) bs

      by : IsEnd s (b ∷ bs) ⊎ (IsEnd s (b ∷ bs) → ⊥) → ((rest : List ℕ) → length rest ≤ n → Scan rest) → Scan (b ∷ bs)
      by (inl here) more = record { before = []; follows = b ∷ bs; are = refl; is_between = record { pieces = []; joined = refl; are_pieces = tt }; read = stops (b ∷ bs) here; stop = λ some. here }
      by (inr free) more = more_pieces (b ∷ take (hides s (b ∷ bs)) bs) rest (b ∷ bs) (λ e. cc e) (ap (λ xs. b ∷ xs) (take-append-drop (hides s (b ∷ bs)) bs)) (sym (first_is b bs)) free (more rest (omega (arith, length-drop (hides s (b ∷ bs)) bs)))

  -- the text isn't empty at an end
  text_left : (follows : List ℕ) → IsEnd s follows → follows ≢ []
  text_left follows e nil = no_end_in_nil s (subst (λ text. ends s text ≡ true) nil e.ends_here)

  some_left : (xs : List ℕ) → xs ≢ [] → 0 < length xs
  some_left [] some = absurd (some refl)
  some_left (x ∷ xs) some = omega arith

  -- no end comes before what is read
  end_at : (before follows : List ℕ) → IsBetweenPieces s before follows → IsEnd s follows → raw_len s (before ++ follows) ≤ length before
  end_at before follows b e = subst (λ front. raw_len s (front ++ follows) ≤ length front) (sym b.joined) (read_before b.pieces follows b.are_pieces e)

  inside_from : (inside follows : List ℕ) → raw_len s (inside ++ follows) ≡ length inside → follows ≢ [] → IsInside s inside follows
  inside_from inside follows h some =
      let sc = scan (length (inside ++ follows)) (inside ++ follows) (omega arith) in
      let len : length sc.before ≡ length inside = sym sc.read ∙ h in
      let front : sc.before ≡ inside = sym (take_at sc.before sc.follows (length sc.before) refl) ∙ ap (take (length sc.before)) sc.are ∙ take_at inside follows (length sc.before) (sym len) in
      let rest : sc.follows ≡ follows = sym (drop_at sc.before sc.follows (length sc.before) refl) ∙ ap (drop (length sc.before)) sc.are ∙ drop_at inside follows (length sc.before) (sym len) in
      record {
        is_between = subst (λ front. IsBetweenPieces s front follows) front (subst (IsBetweenPieces s sc.before) rest sc.is_between);
        end_follows = subst (IsEnd s) rest (sc.stop (λ nil. some (sym rest ∙ nil)));
        none_earlier = λ before after joins more b e.
            let text : before ++ (after ++ follows) ≡ inside ++ follows = sym (append_assoc before after follows) ∙ ap (λ front. front ++ follows) (sym joins) in
            let sooner : raw_len s (inside ++ follows) ≤ length before = subst (λ text. raw_len s text ≤ length before) text (end_at before (after ++ follows) b e) in
            let longer : length before + length after ≡ length inside = sym (length-append before after) ∙ ap length (sym joins) in
            absurd (omega (arith, h, sooner, longer, some_left after more));
      }

  inside_read : (inside follows : List ℕ) → IsInside s inside follows → raw_len s (inside ++ follows) ≡ length inside
  inside_read inside follows i =
      let sc = scan (length (inside ++ follows)) (inside ++ follows) (omega arith) in
      let most : raw_len s (inside ++ follows) ≤ length inside = end_at inside follows i.is_between i.end_follows in
      ⊎_elim
      (λ less.
      let n = length sc.before in
      let short : n < length inside = omega (arith, sc.read, less) in
      let front : sc.before ≡ take n inside = sym (take_at sc.before sc.follows n refl) ∙ ap (take n) sc.are ∙ take-append-le n inside follows (omega (arith, short)) in
      let rest : sc.follows ≡ drop n inside ++ follows = sym (drop_at sc.before sc.follows n refl) ∙ ap (drop n) sc.are ∙ drop-append-le n inside follows (omega (arith, short)) in
      let more : drop n inside ≢ [] = λ nil. absurd (omega (arith, ap length nil, length-drop n inside, short)) in
      let left : sc.follows ≢ [] = λ nil. text_left follows i.end_follows (nil_right (drop n inside) follows (sym rest ∙ nil)) in
      absurd (i.none_earlier (take n inside) (drop n inside) (sym (take-append-drop n inside)) more (subst (λ front. IsBetweenPieces s front (drop n inside ++ follows)) front (subst (IsBetweenPieces s sc.before) rest sc.is_between)) (subst (IsEnd s) rest (sc.stop left))))
      (λ no_less. omega (arith, most, no_less))
      (cases_lt (raw_len s (inside ++ follows)) (length inside))

  pub inside_law : (inside follows : List ℕ) → ((raw_len s (inside ++ follows) ≡ length inside) × (follows ≢ [])) ↔ IsInside s inside follows
  inside_law inside follows = (λ h. inside_from inside follows h.0 h.1, λ i. (inside_read inside follows i, text_left follows i.end_follows))

  pub no_end_law : (text : List ℕ) → (raw_len s text ≡ length text) ↔ HasNoEnd s text
  no_end_law text = (never, whole)
    where
      never : raw_len s text ≡ length text → HasNoEnd s text
      never h before follows joins b e =
          let sooner : raw_len s text ≤ length before = subst (λ text. raw_len s text ≤ length before) (sym joins) (end_at before follows b e) in
          omega (arith, h, sooner, ap length joins, length-append before follows, some_left follows (text_left follows e))

      whole : HasNoEnd s text → raw_len s text ≡ length text
      whole none =
          let sc = scan (length text) text (omega arith) in
          by sc sc.follows refl
        where
          by : (sc : Scan text) (follows : List ℕ) → sc.follows ≡ follows → raw_len s text ≡ length text
          by sc [] e = sc.read ∙ omega (arith, ap length sc.are, length-append sc.before sc.follows, ap length e)
          by sc (b ∷ bs) e = absurd (none sc.before sc.follows (sym sc.are) sc.is_between (sc.stop (λ nil. cc)))
