-- Going along a text: the last place that isn't past a position is the offset of the position.
use Rattle.std.proofs.Common.{◌≡◌, ◌==◌, ℕ, zero, suc, ◌+◌, ◌-◌, ◌<◌, ◌≤◌, Bool, true, false, List, [], ◌∷◌, ◌++◌, length, take, drop, get_or, cond, refl, sym, ap, subst, ◌∙◌, ◌↔◌, arith, inl, inr}
use Rattle.memchr.specs.Find.{NoneBefore, Passes, is_byte}
use Rattle.std.specs.Str.{IsCharBoundary, IsUtf8}
use Rattle.std.proofs.lemmas.Bool.{cases_Bool, cases_eq, cases_lt, eqb-true, ne_eqb}
use Rattle.std.proofs.lemmas.Bool.Decides.{nat_tests}
use Rattle.std.proofs.lemmas.List.{drop-take, take_all, take_more, take-append-drop, take-take, length-append, length-take-le}
use Rattle.std.proofs.lemmas.List.Sums.{count_by_more_no, sum_by-append, sum_by-cons}
use Rattle.std.proofs.lemmas.Str.{IsCharBoundary-end}
use Rattle.justfile_lines.specs.declared.encoding.Encoding.{Encoding}
use Rattle.justfile_lines.specs.declared.position.Place.{Place}
use Rattle.justfile_lines.specs.declared.position.Position.{Position}
use Rattle.justfile_lines.specs.Going.{IsBefore, IsInText, IsUpTo, after_byte, after_size, first_place, is_past, place_after, size_between}
use Rattle.justfile_lines.specs.Positions.{IsOffset, byte_units, column_at, feeds, last_line, line_at, width}
use Rattle.justfile_lines.specs.Starts.{IsStart}
use Rattle.justfile_lines.proofs.Searches.{no_feeds, rest_from, rest_is}
use Rattle.justfile_lines.proofs.Columns.{column_from, last_after, first_start, line_after, lines_grow, start_after, units_bound, without_feeds}

-- ---- places after texts

pub place-append : (encoding : Encoding) (p : Place) (a b : List ℕ) → place_after encoding p (a ++ b) ≡ place_after encoding (place_after encoding p a) b
place-append encoding p [] b = refl
place-append encoding p (c ∷ a) b = place-append encoding (after_byte encoding p c) a b

pub offset_is : (encoding : Encoding) (p : Place) (text : List ℕ) → (place_after encoding p text).offset ≡ p.offset + length text
offset_is encoding p [] = omega arith
offset_is encoding p (c ∷ text) = omega (arith, offset_is encoding (after_byte encoding p c) text)

abbrev is_feed : ℕ → ℕ
is_feed c = cond (c == 10) 1 0

line_of_byte : (encoding : Encoding) (p : Place) (c : ℕ) → (after_byte encoding p c).position.line ≡ p.position.line + is_feed c
line_of_byte encoding p c = elim (cases_Bool (c == 10)) [ inl e ↦ rw e (omega arith) | inr e ↦ rw e (omega arith) ]

pub line_is : (encoding : Encoding) (p : Place) (text : List ℕ) → (place_after encoding p text).position.line ≡ p.position.line + feeds text
line_is encoding p [] = omega arith
line_is encoding p (c ∷ text) = omega (arith, line_is encoding (after_byte encoding p c) text, line_of_byte encoding p c, sum_by-cons is_feed c text)

-- without a line feed the column grows by the width
column_grows : (encoding : Encoding) (p : Place) (text : List ℕ) → feeds text ≡ 0 → (place_after encoding p text).position.column ≡ p.position.column + width encoding text
column_grows encoding p [] none = omega arith
column_grows encoding p (c ∷ text) none =
    grind (arith, nat_tests, column_grows encoding (after_byte encoding p c) text, sum_by-cons is_feed c text, sum_by-cons (byte_units encoding) c text)

-- after a line feed it is the width of what follows the last one
column_after_feed : (encoding : Encoding) (p : Place) (text : List ℕ) → 0 < feeds text → (place_after encoding p text).position.column ≡ width encoding (last_line text)
column_after_feed encoding p [] some = absurd (omega (arith, some))
column_after_feed encoding p (c ∷ text) some =
    grind (
      arith,
      nat_tests,
      column_after_feed encoding (after_byte encoding p c) text,
      column_grows encoding (after_byte encoding p c) text,
      without_feeds text,
      sum_by-cons is_feed c text,
    )

pub column_is : (encoding : Encoding) (text : List ℕ) → (place_after encoding first_place text).position.column ≡ width encoding (last_line text)
column_is encoding text =
    grind (arith, nat_tests, column_after_feed encoding first_place text, column_grows encoding first_place text, without_feeds text)

-- the size of a text by its lines
pub counted : (encoding : Encoding) (text last : List ℕ) (line column : ℕ) → line ≡ feeds text → last ≡ last_line text → column ≡ width encoding last
    → (record { offset = length text; position = record { line = line; column = column } }) ≡ place_after encoding first_place text
counted encoding text last line column number is wide =
    let place = place_after encoding first_place text in
    let at : length text ≡ place.offset = omega (arith, offset_is encoding first_place text) in
    let down : line ≡ place.position.line = omega (arith, line_is encoding first_place text, number) in
    let along : column ≡ place.position.column = wide ∙ ap (width encoding) is ∙ sym (column_is encoding text) in
    λ i. record { offset = at i; position = record { line = down i; column = along i } }

-- ---- places past a position

apart : (b : Bool) → b ≡ true → b ≡ false → ⊥
apart b t f = cc

line_up_to : (position : Position) (p : Place) → is_past position p ≡ false → p.position.line ≤ position.line
line_up_to position p h = grind (arith, nat_tests)

column_up_to : (position : Position) (p : Place) → is_past position p ≡ false → position.line ≡ p.position.line → p.position.column ≤ position.column
column_up_to position p h e = grind (arith, nat_tests)

byte_past : (encoding : Encoding) (position : Position) (p : Place) (c : ℕ) → is_past position p ≡ true → is_past position (after_byte encoding p c) ≡ true
byte_past encoding position p c h = grind (arith, nat_tests)

-- what follows a place past the position is past it
pub past_grows : (encoding : Encoding) (position : Position) (p : Place) (text : List ℕ) → is_past position p ≡ true → is_past position (place_after encoding p text) ≡ true
past_grows encoding position p [] h = h
past_grows encoding position p (c ∷ text) h = past_grows encoding position (after_byte encoding p c) text (byte_past encoding position p c h)

-- ---- the offset of a position

-- a line of the text begins somewhere
start_of : (text : List ℕ) → IsUtf8 text → (n line : ℕ) → n ≤ length text → line ≤ line_at text n → (at : ℕ) × IsStart text line at
start_of text u zero line within le = (0, subst (λ (l : ℕ). IsStart text l 0) (omega (arith, le)) (first_start text u))
start_of text u (suc n) line within le =
    elim (cases_lt (line_at text n) line) [
      | inr before ↦ start_of text u n line (omega (arith, within)) before
      | inl after ↦ elim (cases_eq (get_or text n 0) 10) [
        | inl e ↦
            let lt : n < length text = omega (arith, within) in
            let more : suc n ≡ n + 1 = omega arith in
            let next : line_at text (suc n) ≡ line_at text n + 1 = ap (line_at text) more ∙ line_after text n lt e in
            (n + 1, subst (λ (l : ℕ). IsStart text l (n + 1)) (omega (arith, next, after, le)) (start_after text n u lt e))
        | inr other ↦
            let lt : n < length text = omega (arith, within) in
            let more : suc n ≡ n + 1 = omega arith in
            let next : line_at text (suc n) ≡ line_at text n = ap (line_at text) more ∙ count_by_more_no (λ c. c == 10) text n 0 lt (ne_eqb _ 10 other) in
            absurd (omega (arith, next, after, le))
      ]
    ]

module _ (encoding : Encoding) (text : List ℕ) (position : Position) (count : ℕ) (u : IsUtf8 text) (h : IsUpTo encoding first_place text position count) where
  abbrev place : ℕ → Place
  place n = place_after encoding first_place (take n text)

  line_of : (n : ℕ) → (place n).position.line ≡ line_at text n
  line_of n = omega (arith, line_is encoding first_place (take n text))

  column_of : (n : ℕ) → (place n).position.column ≡ column_at encoding text n
  column_of n = column_is encoding (take n text)

  all_lines : line_at text (length text) ≡ feeds text
  all_lines = ap feeds (take_all (length text) text (omega arith))

  -- no later place has the position's line and a column that isn't greater
  not_later : (other : ℕ) → IsCharBoundary text other → line_at text other ≤ position.line → (line_at text other ≡ position.line → column_at encoding text other ≤ position.column)
      → count < other → ⊥
  not_later other bound le col lt = grind (arith, nat_tests, h.last other bound lt, line_of other, column_of other, le, col)

  in_its_line : position.line ≤ feeds text → line_at text count ≡ position.line
  in_its_line some =
      let (at, start) = start_of text u (length text) position.line (omega arith) (omega (arith, some, all_lines)) in
      grind (
        arith,
        line_up_to position (place count) h.up_to,
        line_of count,
        lines_grow text at count,
        start.line_is,
        start.boundary.0,
        column_from encoding text position.line at at start,
        not_later at start.boundary,
      )

  pub offset_found : IsOffset encoding text position count
  offset_found = record {
    boundary = h.boundary;
    in_line = λ some. record {
      line_is = in_its_line some;
      column_is = omega (arith, column_up_to position (place count) h.up_to (omega (arith, line_of count, in_its_line some)), column_of count);
      last = λ other bound e le. elim (cases_lt count other) [
        | inl lt ↦ absurd (not_later other bound (omega (arith, e)) (λ _. le) lt)
        | inr ge ↦ ge
      ];
    };
    after = λ beyond. elim (cases_lt count (length text)) [
      | inl lt ↦ absurd (not_later (length text) (IsCharBoundary-end text) (omega (arith, all_lines, beyond)) (λ e. absurd (omega (arith, e, all_lines, beyond))) lt)
      | inr ge ↦ omega (arith, ge, h.boundary.0)
    ];
  }

-- ---- the numbers of places

byte_in_text : (encoding : Encoding) (p : Place) (c : ℕ) → byte_units encoding c ≤ 2 → IsInText p → IsInText (after_byte encoding p c)
byte_in_text encoding p c two h = let l = h.line in let k = h.column in record { line = grind (arith, nat_tests); column = grind (arith, nat_tests) }

pub next_in_text : (encoding : Encoding) (p next : Place) (c : ℕ) → IsInText p → next ≡ after_byte encoding p c → IsInText next
next_in_text encoding p next c h e = subst IsInText (sym e) (byte_in_text encoding p c (units_bound encoding c) h)

-- all places of texts that begin at one in a text
pub all_in_text : (encoding : Encoding) (p : Place) (text : List ℕ) → IsInText p → IsInText (place_after encoding p text)
all_in_text encoding p [] h = h
all_in_text encoding p (c ∷ text) h = all_in_text encoding (after_byte encoding p c) text (byte_in_text encoding p c (units_bound encoding c) h)

pub first_in_text : IsInText first_place
first_in_text = record { line = omega arith; column = omega arith }

-- ---- the loop that goes along a text

pub next_place : (encoding : Encoding) (p here next : Place) (text bytes : List ℕ) (at : ℕ) → at < length text → bytes ≡ text → here ≡ place_after encoding p (take at text)
    → next ≡ after_byte encoding here (get_or bytes at 0) → next ≡ place_after encoding p (take (at + 1) text)
next_place encoding p here next text bytes at lt same is e =
    e
    ∙ ap (λ (b : List ℕ). after_byte encoding here (get_or b at 0)) same
    ∙ ap (λ (q : Place). after_byte encoding q (get_or text at 0)) is
    ∙ sym (place-append encoding p (take at text) (get_or text at 0 ∷ []))
    ∙ ap (place_after encoding p) (sym (take_more text at 0 lt))

pub next_offset : (encoding : Encoding) (here next : Place) (c from at : ℕ) → next ≡ after_byte encoding here c → here.offset ≡ from + at → next.offset ≡ from + (at + 1)
next_offset encoding here next c from at e h = let step : next.offset ≡ here.offset + 1 = ap (λ (q : Place). q.offset) e in omega (arith, step, h)

pub not_a_bound : (is : Bool) (text : List ℕ) (other at : ℕ) → (is ≡ true) ↔ IsCharBoundary text (at + 1) → is ≡ false → IsCharBoundary text other → other ≡ at + 1 → (count : ℕ) → other ≤ count
not_a_bound is text other at iff f bound e count = absurd (apart is (iff.1 (subst (IsCharBoundary text) e bound)) f)

pub past_further : (encoding : Encoding) (p : Place) (position : Position) (text : List ℕ) (i j : ℕ) → i ≤ j → is_past position (place_after encoding p (take i text)) ≡ true
    → is_past position (place_after encoding p (take j text)) ≡ true
past_further encoding p position text i j le h =
    subst (λ (l : List ℕ). is_past position (place_after encoding p l) ≡ true) (take-append-drop i (take j text))
    (subst (λ (q : Place). is_past position q ≡ true) (sym (place-append encoding p (take i (take j text)) (drop i (take j text))))
    (past_grows encoding position (place_after encoding p (take i (take j text))) (drop i (take j text))
    (subst (λ (l : List ℕ). is_past position (place_after encoding p l) ≡ true) (sym (take-take i j text le)) h)))

pub count_is : (encoding : Encoding) (p last : Place) (text : List ℕ) (count : ℕ) → count ≤ length text → last ≡ place_after encoding p (take count text) → last.offset ≡ p.offset + count
count_is encoding p last text count le e = ap (λ (q : Place). q.offset) e ∙ offset_is encoding p (take count text) ∙ ap (λ (n : ℕ). p.offset + n) (length-take-le count text le)

module _ (encoding : Encoding) (p last : Place) (text : List ℕ) (position : Position) (count at : ℕ) (boundary : IsCharBoundary text count) (up_to : is_past position last ≡ false)
    (is : last ≡ place_after encoding p (take count text)) (latest : (other : ℕ) → IsCharBoundary text other → other ≤ at → other ≤ count) where
  not_past : is_past position (place_after encoding p (take count text)) ≡ false
  not_past = subst (λ (q : Place). is_past position q ≡ false) is up_to

  -- the next byte is past the position
  pub stopped : is_past position (place_after encoding p (take (at + 1) text)) ≡ true → IsUpTo encoding p text position count
  stopped past = record {
    boundary = boundary;
    up_to = not_past;
    last = λ other bound lt. elim (cases_lt at other) [
      | inl after ↦ past_further encoding p position text (at + 1) other (omega (arith, after)) past
      | inr before ↦ absurd (omega (arith, latest other bound before, lt))
    ];
  }

  -- the text ends there
  pub ended : length text ≤ at → IsUpTo encoding p text position count
  ended all = record {
    boundary = boundary;
    up_to = not_past;
    last = λ other bound lt. absurd (omega (arith, latest other bound (omega (arith, bound.0, all)), lt));
  }

-- ---- sizes of texts

same_place : (p q : Place) → p.offset ≡ q.offset → p.position.line ≡ q.position.line → p.position.column ≡ q.position.column → p ≡ q
same_place p q e f g = λ i. record { offset = e i; position = record { line = f i; column = g i } }

size_line : (encoding : Encoding) (text : List ℕ) → (place_after encoding first_place text).position.line ≡ feeds text
size_line encoding text = omega (arith, line_is encoding first_place text)

-- the column after a text, by that of its size
column_by_size : (encoding : Encoding) (p : Place) (text : List ℕ)
    → (place_after encoding p text).position.column ≡ (after_size p (place_after encoding first_place text)).position.column
column_by_size encoding p text =
    grind (
      arith,
      nat_tests,
      column_after_feed encoding p text,
      column_after_feed encoding first_place text,
      column_grows encoding p text,
      column_grows encoding first_place text,
      size_line encoding text,
    )

pub after_its_size : (encoding : Encoding) (p : Place) (text : List ℕ) → after_size p (place_after encoding first_place text) ≡ place_after encoding p text
after_its_size encoding p text =
    let size = place_after encoding first_place text in
    same_place (after_size p size) (place_after encoding p text) (omega (arith, offset_is encoding p text, offset_is encoding first_place text))
    (omega (arith, line_is encoding p text, size_line encoding text)) (sym (column_by_size encoding p text))

column_between : (encoding : Encoding) (p : Place) (text : List ℕ)
    → (size_between p (place_after encoding p text)).position.column ≡ (place_after encoding first_place text).position.column
column_between encoding p text =
    grind (
      arith,
      nat_tests,
      column_after_feed encoding p text,
      column_after_feed encoding first_place text,
      column_grows encoding p text,
      column_grows encoding first_place text,
      line_is encoding p text,
    )

pub size_is : (encoding : Encoding) (p : Place) (text : List ℕ) → size_between p (place_after encoding p text) ≡ place_after encoding first_place text
size_is encoding p text =
    same_place (size_between p (place_after encoding p text)) (place_after encoding first_place text) (omega (arith, offset_is encoding p text, offset_is encoding first_place text))
    (omega (arith, line_is encoding p text, size_line encoding text)) (column_between encoding p text)

-- ---- from line to line

-- The place after the first line feed that follows a place of a text: where the next line begins.
module _ (encoding : Encoding) (p here : Place) (text : List ℕ) (at n : ℕ) (is : here ≡ place_after encoding p (take at text)) (first : NoneBefore (Passes (is_byte 10) (rest_from text at)) 0 (length (rest_from text at)) n)
    (feed : Passes (is_byte 10) (rest_from text at) n) where
  abbrev line : List ℕ
  line = take n (rest_from text at) ++ 10 ∷ []

  one_feed : feeds line ≡ 1
  one_feed =
      let f : ℕ → ℕ = λ (c : ℕ). cond (c == 10) 1 0 in
      omega (arith, sum_by-append f (take n (rest_from text at)) (10 ∷ []), sum_by-cons f 10 [], no_feeds (rest_from text at) n (omega (arith, first.high)) first.before)

  cut_line : take (at + (n + 1)) text ≡ take at text ++ line
  cut_line =
      let rest = rest_from text at in
      let front = take (at + (n + 1)) text in
      sym (take-append-drop at front)
      ∙ (λ i. take-take at (at + (n + 1)) text (omega arith) i ++ drop-take at (n + 1) text i)
      ∙ ap (λ (l : List ℕ). take at text ++ take (n + 1) l) (sym (rest_is text at))
      ∙ ap (λ (l : List ℕ). take at text ++ l) (take_more rest n 0 first.high ∙ ap (λ (c : ℕ). take n rest ++ c ∷ []) (eqb-true _ 10 feed))

  pub next_line : (record { offset = here.offset + (n + 1); position = record { line = here.position.line + 1; column = 0 } }) ≡ place_after encoding p (take (at + (n + 1)) text)
  next_line =
      let there = place_after encoding here line in
      let whole : there ≡ place_after encoding p (take (at + (n + 1)) text) =
      ap (λ (q : Place). place_after encoding q line) is ∙ sym (place-append encoding p (take at text) line) ∙ ap (place_after encoding p) (sym cut_line)
      in
      let along : here.offset + (n + 1) ≡ there.offset = omega (arith, offset_is encoding here line, length-append (take n (rest_from text at)) (10 ∷ []), length-take-le n (rest_from text at) (omega (arith, first.high))) in
      let down : here.position.line + 1 ≡ there.position.line = omega (arith, line_is encoding here line, one_feed) in
      let column : 0 ≡ there.position.column = sym (column_after_feed encoding here line (omega (arith, one_feed)) ∙ ap (width encoding) (last_after (take n (rest_from text at)) [])) in
      (λ i. record { offset = along i; position = record { line = down i; column = column i } }) ∙ whole

-- before a position no place at the beginning of its line, or of an earlier one, is past it
pub not_past_before : (position : Position) (from p : Place) → is_past position from ≡ false → IsBefore from position.line p → is_past position p ≡ false
not_past_before position from p h before = grind (arith, nat_tests, before, h)
