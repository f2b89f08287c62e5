-- The tokens of a chunk are those of the whole text, moved.
use Rattle.std.proofs.Common.{◌≡◌, ◌∙◌, ℕ, ◌+◌, ◌-◌, ◌<◌, ◌≤◌, List, [], ◌∷◌, ◌++◌, length, map, take, refl, sym, ap, subst, arith, ⊎_elim, append-nil, length-append, length-take, take_all}
use Rattle.std.specs.Prelude.{not, reverse}
use Rattle.std.specs.List.{count_by, prefix_len}
use Rattle.std.proofs.Math.Seq.{take-append-add, take-take}
use Rattle.std.proofs.lemmas.Bool.{cases_lt}
use Rattle.std.proofs.lemmas.List.{length-reverse, reverse-append, take-append-le}
use Rattle.std.proofs.lemmas.List.Sums.{prefix_len-le-length, sum_by-append}
use Rattle.justfile_model.specs.Lexing.Lexed.{Begins, Lexed, StandsAt, end_of}
use Rattle.justfile_model.specs.Lexing.Places.{column_at, is_line_feed, last_line_start, line_of_offset, text_before}
use Rattle.justfile_model.specs.Lexing.Tok.{Tok}
use Rattle.justfile_model.proofs.Lexing.UnclosedLaws.{reverse_more}
use Rattle.justfile_round_trip.proofs.LiteralTexts.LexedModes.{Sign, sign}
use Rattle.justfile_chunks.specs.Chunks.{moved, text_of}
use Rattle.justfile_chunks.proofs.FeedTexts.{run_same}
use Rattle.justfile_chunks.proofs.SameModes.{signs}
use Rattle.justfile_chunks.proofs.SameNext.{cons_parts}
use Rattle.justfile_chunks.proofs.SplitRuns.{in_order}

-- ---- places

-- the bytes at the front of the part that count for the line at this place in it
pub record Before (a p r : List ℕ) (k : ℕ) (bs : List ℕ) (more : ℕ) : Type 0 where
  pub is : text_before (a ++ (p ++ r)) (length a + k) ≡ a ++ bs
  pub bytes : k ≡ length bs + more

pub inside : (a p r : List ℕ) (k : ℕ) → k < length p → Before a p r k (take k p) 0
inside a p r k l =
    let size : length (a ++ (p ++ r)) ≡ length a + (length p + length r) = length-append a (p ++ r) ∙ ap (λ n. length a + n) (length-append p r) in
    record {
      is =
          take-take (length a + k) (length (a ++ (p ++ r)) - 1) (a ++ (p ++ r)) (omega (arith, size, l))
          ∙ take-append-add a (p ++ r) k ∙ ap (λ x. a ++ x) (take-append-le k p r (omega arith));
      bytes = omega (arith, length-take k p, l);
    }

-- at the end of the text its last byte doesn't count
at_end : (a p : List ℕ) → 0 < length p → Before a p [] (length p) (take (length p - 1) p) 1
at_end a p some =
    let size : length (a ++ (p ++ [])) ≡ length a + length p = length-append a (p ++ []) ∙ ap (λ n. length a + n) (ap length (append-nil p)) in
    let less : length (a ++ (p ++ [])) - 1 ≡ length a + (length p - 1) = omega (arith, size, some) in
    record {
      is =
          take_all (length a + length p) (take (length (a ++ (p ++ [])) - 1) (a ++ (p ++ [])))
          (omega (arith, length-take (length (a ++ (p ++ [])) - 1) (a ++ (p ++ [])), size))
          ∙ ap (λ n. take n (a ++ (p ++ []))) less ∙ take-append-add a (p ++ []) (length p - 1) ∙ ap (λ x. a ++ take (length p - 1) x) (append-nil p);
      bytes = omega (arith, length-take (length p - 1) p, some);
    }

-- the length of the line so far
pub amid : List ℕ → ℕ
amid bs = prefix_len (λ b. not (is_line_feed b)) (reverse bs)

amid_fits : (bs : List ℕ) → amid bs ≤ length bs
unfolding amid
amid_fits bs = omega (arith, prefix_len-le-length (λ b. not (is_line_feed b)) (reverse bs), length-reverse bs)

column_is : (text : List ℕ) (n more : ℕ) (bs : List ℕ) → text_before text n ≡ bs → n ≡ length bs + more → column_at text n ≡ amid bs + more
unfolding column_at last_line_start amid
column_is text n more bs e l = ap (λ x. n - (length x - prefix_len (λ b. not (is_line_feed b)) (reverse x))) e ∙ omega (arith, amid_fits bs, l)

pub feeds_append : (xs ys : List ℕ) → count_by is_line_feed (xs ++ ys) ≡ count_by is_line_feed xs + count_by is_line_feed ys
feeds_append xs ys = sum_by-append _ xs ys

-- A text is moved from being after `b` to being after `a`.
pub record Moves (a b : List ℕ) (offset line : ℕ) : Type 0 where
  pub bytes : length a ≡ offset + length b
  pub lines : count_by is_line_feed a ≡ line + count_by is_line_feed b
  pub column : (bs : List ℕ) → amid (a ++ bs) ≡ amid (b ++ bs)

module _ (a b p r s : List ℕ) (offset line : ℕ) (m : Moves a b offset line) where
  module _ (k more : ℕ) (bs : List ℕ) (x : Before a p r k bs more) (y : Before b p s k bs more) where
    line_moved : line_of_offset (a ++ (p ++ r)) (length a + k) ≡ line + line_of_offset (b ++ (p ++ s)) (length b + k)
    unfolding line_of_offset
    line_moved =
        let whole = ap (count_by is_line_feed) x.is in
        let part = ap (count_by is_line_feed) y.is in
        omega (arith, whole, part, feeds_append a bs, feeds_append b bs, m.lines)

    column_moved : column_at (a ++ (p ++ r)) (length a + k) ≡ column_at (b ++ (p ++ s)) (length b + k)
    column_moved =
        column_is (a ++ (p ++ r)) (length a + k) more (a ++ bs) x.is (omega (arith, x.bytes, length-append a bs))
        ∙ ap (λ n. n + more) (m.column bs)
        ∙ sym (column_is (b ++ (p ++ s)) (length b + k) more (b ++ bs) y.is (omega (arith, x.bytes, length-append b bs)))

-- ---- tokens

-- each token begins where the one before it ends, and is at its place in the text
abbrev pub Placed : List ℕ → ℕ → List Tok → Type 0
Placed text offset [] = Unit {0}
Placed text offset (t ∷ ts) = StandsAt text offset t × Placed text (offset + length t.lexeme) ts

placed_more : (text : List ℕ) (e ts : List Tok) → Begins text e → Placed text (end_of e) ts → Placed text 0 (reverse e ++ ts)
placed_more text [] ts b h = h
placed_more text (t ∷ e) ts b h =
    subst (Placed text 0) (sym (reverse_more t e ts))
    (placed_more text e (t ∷ ts) b.0 (b.1.stands, subst (λ n. Placed text (n + length t.lexeme) ts) b.1.stands.offset_is h))

pub placed : (text : List ℕ) (tokens : List Tok) → Lexed text tokens → Placed text 0 tokens
placed text tokens l = subst (Placed text 0) (in_order text tokens l) (placed_more text l.earlier (l.last ∷ []) l.begins (l.is_next.stands, tt))

pub placed_after : (text : List ℕ) (ts us : List Tok) (offset : ℕ) → Placed text offset (ts ++ us) → Placed text (offset + length (text_of ts)) us
placed_after text [] us offset h = subst (λ n. Placed text n us) (omega arith) h
placed_after text (t ∷ ts) us offset h =
    subst (λ n. Placed text n us) (omega (arith, length-append t.lexeme (text_of ts))) (placed_after text ts us (offset + length t.lexeme) h.1)

pub placed_front : (text : List ℕ) (ts us : List Tok) (offset : ℕ) → Placed text offset (ts ++ us) → Placed text offset ts
placed_front text [] us offset h = tt
placed_front text (t ∷ ts) us offset h = (h.0, placed_front text ts us (offset + length t.lexeme) h.1)

-- A token with bytes is the other one, moved. Of one without bytes nothing is said: at the end of a text it has another place.
pub record IsMoved (offset line : ℕ) (t u : Tok) : Type 0 where
  pub kind : t.kind ≡ u.kind
  pub lexeme : t.lexeme ≡ u.lexeme
  pub place : 0 < length t.lexeme → t ≡ moved offset line u

-- so are the tokens, and the first ones of the others
abbrev pub AreMoved : (offset line : ℕ) → List Tok → List Tok → Type 0
AreMoved offset line [] us = Unit {0}
AreMoved offset line (t ∷ ts) [] = ⊥
AreMoved offset line (t ∷ ts) (u ∷ us) = IsMoved offset line t u × AreMoved offset line ts us

module _ (a b p r s : List ℕ) (offset line : ℕ) (m : Moves a b offset line) where
  one_moved : (t u : Tok) (k more : ℕ) (bs : List ℕ) → Before a p r k bs more → Before b p s k bs more
      → StandsAt (a ++ (p ++ r)) (length a + k) t → StandsAt (b ++ (p ++ s)) (length b + k) u → t.kind ≡ u.kind → t.lexeme ≡ u.lexeme → t ≡ moved offset line u
  one_moved t u k more bs c d x y kind same =
      let offset_is : t.offset ≡ offset + u.offset = x.offset_is ∙ omega (arith, m.bytes, y.offset_is) in
      let line_is : t.line ≡ line + u.line = x.line_is ∙ ap (line_of_offset (a ++ (p ++ r))) x.offset_is ∙ line_moved a b p r s offset line m k more bs c d
      ∙ ap (λ n. line + n) (sym (y.line_is ∙ ap (line_of_offset (b ++ (p ++ s))) y.offset_is)) in
      let column_is : t.column ≡ u.column = x.column_is ∙ ap (column_at (a ++ (p ++ r))) x.offset_is ∙ column_moved a b p r s offset line m k more bs c d
      ∙ sym (y.column_is ∙ ap (column_at (b ++ (p ++ s))) y.offset_is) in
      λ i. record { kind = kind i; lexeme = same i; offset = offset_is i; line = line_is i; column = column_is i }

  pub all_moved : (ts us : List Tok) (ms : List Sign) (k : ℕ) → Placed (a ++ (p ++ r)) (length a + k) ts → Placed (b ++ (p ++ s)) (length b + k) us
      → signs us ≡ signs ts ++ ms → k + length (text_of ts) ≤ length p
      → AreMoved offset line ts us
  all_moved [] us ms k x y e l = tt
  all_moved (t ∷ ts) [] ms k x y e l = cc
  all_moved (t ∷ ts) (u ∷ us) ms k x y e l =
      let h = cons_parts (sign u.kind u.lexeme) (sign t.kind t.lexeme) (signs us) (signs ts ++ ms) e in
      let kind : t.kind ≡ u.kind = ap (λ (m : Sign). m.kind) (sym h.0) in
      let same : t.lexeme ≡ u.lexeme = ap (λ (m : Sign). m.lexeme) (sym h.0) in
      let n = length t.lexeme in
      let size : length (t.lexeme ++ text_of ts) ≡ n + length (text_of ts) = length-append t.lexeme (text_of ts) in (
        record {
          kind = kind;
          lexeme = same;
          place = λ some. let l' : k < length p = omega (arith, some, l, size) in
              one_moved t u k 0 (take k p) (inside a p r k l') (inside b p s k l') x.0 y.0 kind same;
        },
        all_moved ts us ms (k + n)
            (subst (λ j. Placed (a ++ (p ++ r)) j ts) (omega arith) x.1)
            (subst (λ j. Placed (b ++ (p ++ s)) j us) (omega (arith, ap length same)) y.1)
            h.1 (omega (arith, l, size)),
      )

-- up to the end of the text all tokens are the others, moved
module _ (a b p : List ℕ) (offset line : ℕ) (m : Moves a b offset line) (some : 0 < length p) where
  place_moved : (t u : Tok) (k : ℕ) → k ≤ length p → StandsAt (a ++ (p ++ [])) (length a + k) t → StandsAt (b ++ (p ++ [])) (length b + k) u → t.kind ≡ u.kind
      → t.lexeme ≡ u.lexeme
      → t ≡ moved offset line u
  place_moved t u k l x y kind same =
      ⊎_elim
      (λ less. one_moved a b p [] [] offset line m t u k 0 (take k p) (inside a p [] k less) (inside b p [] k less) x y kind same)
      (λ none.
      let e : k ≡ length p = omega (arith, l, none) in
      one_moved a b p [] [] offset line m t u (length p) 1 (take (length p - 1) p) (at_end a p some) (at_end b p some)
      (subst (λ j. StandsAt (a ++ (p ++ [])) (length a + j) t) e x) (subst (λ j. StandsAt (b ++ (p ++ [])) (length b + j) u) e y) kind same)
      (cases_lt k (length p))

  pub last_moved : (ts us : List Tok) (k : ℕ) → Placed (a ++ (p ++ [])) (length a + k) ts → Placed (b ++ (p ++ [])) (length b + k) us → signs us ≡ signs ts
      → k + length (text_of ts) ≤ length p
      → ts ≡ map (moved offset line) us
  last_moved [] [] k x y e l = refl
  last_moved (t ∷ ts) (u ∷ us) k x y e l =
      let h = cons_parts (sign u.kind u.lexeme) (sign t.kind t.lexeme) (signs us) (signs ts) e in
      let same : t.lexeme ≡ u.lexeme = ap (λ (m : Sign). m.lexeme) (sym h.0) in
      let n = length t.lexeme in
      let size : length (t.lexeme ++ text_of ts) ≡ n + length (text_of ts) = length-append t.lexeme (text_of ts) in
      let first : t ≡ moved offset line u = place_moved t u k (omega (arith, l, size)) x.0 y.0 (ap (λ (m : Sign). m.kind) (sym h.0)) same in
      let others : ts ≡ map (moved offset line) us = last_moved ts us (k + n)
      (subst (λ j. Placed (a ++ (p ++ [])) j ts) (omega arith) x.1) (subst (λ j. Placed (b ++ (p ++ [])) j us) (omega (arith, ap length same)) y.1) h.1
      (omega (arith, l, size)) in
      λ i. first i ∷ others i
  last_moved _ _ k x y e l = cc

-- ---- after a line feed

feed_column : (w bs : List ℕ) → amid ((w ++ (10 ∷ [])) ++ bs) ≡ amid ((10 ∷ []) ++ bs)
unfolding amid
feed_column w bs =
    let p = λ (b : ℕ). not (is_line_feed b) in
    ap (prefix_len p) (reverse-append (w ++ (10 ∷ [])) bs ∙ ap (λ x. reverse bs ++ x) (reverse-append w (10 ∷ [])))
    ∙ run_same p refl (reverse bs) (reverse w) []
    ∙ sym (ap (prefix_len p) (reverse-append (10 ∷ []) bs))

-- after a text that ends in a line feed a text is moved from the place after a line feed
pub after_text : (w : List ℕ) → Moves (w ++ (10 ∷ [])) (10 ∷ []) (length (w ++ (10 ∷ [])) - 1) (count_by is_line_feed (w ++ (10 ∷ [])) - 1)
after_text w = record {
  bytes = omega (arith, length-append w (10 ∷ []));
  lines = omega (arith, feeds_append w (10 ∷ []));
  column = feed_column w;
}

-- the start of a text isn't moved
pub at_start : Moves [] [] 0 0
at_start = record { bytes = refl; lines = refl; column = λ bs. refl }
