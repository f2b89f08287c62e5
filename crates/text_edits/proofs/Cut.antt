-- Texts in pieces.
use Rattle.std.proofs.Common.{◌≡◌, ◌∙◌, ℕ, ◌+◌, ◌-◌, ◌<◌, ◌≤◌, false, true, List, [], ◌∷◌, ◌++◌, length, take, drop, max, get_or, Result, Ok, Err, IfOk, OnOk, refl, sym, ap, subst, append_assoc, append-nil, arith, inl, inr, length-append, length-drop}
use Rattle.std.specs.List.{flat_map}
use Rattle.std.specs.Str.{IsCharBoundary, IsUtf8}
use Rattle.std.proofs.lemmas.Bool.{both_ways, cases_lt}
use Rattle.std.proofs.lemmas.Grind.{flat_map-append}
use Rattle.std.proofs.Math.Seq.{take-append-add, take-append_seam, drop-append-add}
use Rattle.std.proofs.lemmas.List.{get_or-append-add, get_or_append_left, reverse-append, take-append-drop, take-append-le, take_all, length-take-le}
use Rattle.std.proofs.lemmas.Str.{IsCharBoundary-end, IsUtf8-append, IsUtf8-drop, IsUtf8-take}
use Rattle.justfile_lines.specs.Going.{IsInText, IsUpTo, after_size, first_place, is_past, longest, place_after, size_between}
use Rattle.justfile_lines.specs.Positions.{IsOffset}
use Rattle.justfile_lines.specs.declared.encoding.Encoding.{Encoding}
use Rattle.justfile_lines.specs.declared.position.Place.{Place}
use Rattle.justfile_lines.specs.declared.position.Position.{Position}
use Rattle.justfile_lines.proofs.Ahead.{after_its_size, all_in_text, first_in_text, offset_found, offset_is, past_further, place-append, size_is}
use Rattle.text_edits.specs.Pieces.{AreSized, HasSize, Leads, text_after, text_before, text_of}
use Rattle.text_edits.specs.declared.pieces.Next.{Next}
use Rattle.text_edits.specs.declared.pieces.Piece.{Piece}

-- ---- sizes

pub sized_more : (encoding : Encoding) (after next : List Next) (p : Next) → next ≡ after ++ p ∷ [] → AreSized encoding after → HasSize encoding p
    → AreSized encoding next
sized_more encoding after next p e h k = subst (AreSized encoding) (sym e) (go after h)
  where
    go : (after : List Next) → AreSized encoding after → AreSized encoding (after ++ p ∷ [])
    go [] h = (k, tt)
    go (q ∷ after) h = (h.0, go after h.1)

pub none_sized : (encoding : Encoding) (after : List Next) → after ≡ [] → AreSized encoding after
none_sized encoding after none = subst (AreSized encoding) (sym none) tt

pub sized_less : (encoding : Encoding) (after rest : List Next) (p : Next) → after ≡ rest ++ p ∷ [] → AreSized encoding after → AreSized encoding rest × HasSize encoding p
sized_less encoding after rest p e h = go rest (subst (AreSized encoding) e h)
  where
    go : (rest : List Next) → AreSized encoding (rest ++ p ∷ []) → AreSized encoding rest × HasSize encoding p
    go [] h = (tt, h.0)
    go (q ∷ rest) h = let it = go rest h.1 in ((h.0, it.0), it.1)

-- the size of the text from a place to another
pub size_from_place : (encoding : Encoding) (start end size : Place) (text : List ℕ) → end ≡ place_after encoding start text → size ≡ size_between start end
    → size ≡ place_after encoding first_place text
size_from_place encoding start end size text e f = f ∙ ap (size_between start) e ∙ size_is encoding start text

-- the place after a piece
pub beyond_is : (encoding : Encoding) (here size beyond : Place) (text : List ℕ) → size ≡ place_after encoding first_place text → beyond ≡ after_size here size
    → beyond ≡ place_after encoding here text
beyond_is encoding here size beyond text e f = f ∙ ap (after_size here) e ∙ after_its_size encoding here text

pub sized_in_text : (encoding : Encoding) (size : Place) (text : List ℕ) → size ≡ place_after encoding first_place text → IsInText size
sized_in_text encoding size text e = subst IsInText (sym e) (all_in_text encoding first_place text first_in_text)

pub size_offset : (encoding : Encoding) (size : Place) (text : List ℕ) → size ≡ place_after encoding first_place text → size.offset ≡ length text
size_offset encoding size text e =
    let plain : first_place.offset + length text ≡ length text = omega arith in
    ap (λ (q : Place). q.offset) e ∙ offset_is encoding first_place text ∙ plain

-- what is left of a piece has its size
pub rest_size : (encoding : Encoding) (here there size beyond rest_of : Place) (text passed rest : List ℕ) (n : ℕ) → size ≡ place_after encoding first_place text → beyond ≡ after_size here size
    → there ≡ place_after encoding here passed → passed ≡ take n text → rest ≡ drop n text → rest_of ≡ size_between there beyond → rest_of ≡ place_after encoding first_place rest
rest_size encoding here there size beyond rest_of text passed rest n e f g p q r =
    let cut : text ≡ passed ++ rest = sym (ap (λ (l : List ℕ). l ++ rest) p ∙ ap (λ (l : List ℕ). take n text ++ l) q ∙ take-append-drop n text) in
    let end : beyond ≡ place_after encoding there rest =
    beyond_is encoding here size beyond text e f ∙ ap (place_after encoding here) cut ∙ place-append encoding here passed rest ∙ ap (λ (x : Place). place_after encoding x rest) (sym g)
    in
    size_from_place encoding there beyond rest_of rest end r

-- ---- one piece more or less

pub before_more : (before : List Piece) (p : Piece) → text_before (before ++ p ∷ []) ≡ text_before before ++ p.text.now
before_more before p = flat_map-append (λ (q : Piece). q.text.now) before (p ∷ []) ∙ ap (λ (l : List ℕ). text_before before ++ l) (append-nil p.text.now)

pub after_more : (after : List Next) (p : Next) → text_after (after ++ p ∷ []) ≡ p.text.now ++ text_after after
after_more after p = ap (flat_map (λ (q : Next). q.text.now)) (reverse-append after (p ∷ []))

-- the last piece before the place comes after it
pub moved_back : (before other : List Piece) (after next : List Next) (p : Piece) (b : Next) → other ≡ before ++ p ∷ [] → b.text.now ≡ p.text.now → next ≡ after ++ b ∷ []
    → text_of before next ≡ text_of other after
moved_back before other after next p b e same f = simp (e, f, before_more before p, after_more after b, same, append_assoc)

pub leads_more : (encoding : Encoding) (from : Place) (before : List Piece) (p : Piece) → Leads encoding from before p.start
    → Leads encoding from (before ++ p ∷ []) (place_after encoding p.start p.text.now)
leads_more encoding from [] p h = (h, ap (λ (q : Place). place_after encoding q p.text.now) h)
leads_more encoding from (b ∷ before) p h = (h.0, leads_more encoding (place_after encoding from b.text.now) before p h.1)

pub leads_less : (encoding : Encoding) (from : Place) (before : List Piece) (p : Piece) (to : Place) → Leads encoding from (before ++ p ∷ []) to → Leads encoding from before p.start
leads_less encoding from [] p to h = h.0
leads_less encoding from (b ∷ before) p to h = (h.0, leads_less encoding (place_after encoding from b.text.now) before p to h.1)

pub leads_last : (encoding : Encoding) (from : Place) (before : List Piece) (p : Piece) (to : Place) → Leads encoding from (before ++ p ∷ []) to → to ≡ place_after encoding p.start p.text.now
leads_last encoding from [] p to h = h.1 ∙ ap (λ (q : Place). place_after encoding q p.text.now) (sym h.0)
leads_last encoding from (b ∷ before) p to h = leads_last encoding (place_after encoding from b.text.now) before p to h.1

pub last_size : (encoding : Encoding) (before other : List Piece) (p : Piece) (to size : Place) → other ≡ before ++ p ∷ [] → Leads encoding first_place other to
    → size ≡ size_between p.start to → size ≡ place_after encoding first_place p.text.now
last_size encoding before other p to size e h f =
    size_from_place encoding p.start to size p.text.now (leads_last encoding first_place before p to (subst (λ (l : List Piece). Leads encoding first_place l to) e h)) f

pub leads_to : (encoding : Encoding) (from : Place) (before : List Piece) (to : Place) → Leads encoding from before to → to ≡ place_after encoding from (text_before before)
leads_to encoding from [] to h = h
leads_to encoding from (b ∷ before) to h =
    leads_to encoding (place_after encoding from b.text.now) before to h.1 ∙ sym (place-append encoding from b.text.now (text_before before))

pub leads_back : (encoding : Encoding) (before other : List Piece) (p : Piece) (to : Place) → other ≡ before ++ p ∷ [] → Leads encoding first_place other to → Leads encoding first_place before p.start
leads_back encoding before other p to e h = leads_less encoding first_place before p to (subst (λ (l : List Piece). Leads encoding first_place l to) e h)

-- the place has the length of what is before it
pub count_before : (encoding : Encoding) (before : List Piece) (to : Place) → Leads encoding first_place before to → to.offset ≡ length (text_before before)
count_before encoding before to h =
    let plain : first_place.offset + length (text_before before) ≡ length (text_before before) = omega arith in
    ap (λ (q : Place). q.offset) (leads_to encoding first_place before to h) ∙ offset_is encoding first_place (text_before before) ∙ plain

pub place_in_text : (encoding : Encoding) (before : List Piece) (to : Place) → Leads encoding first_place before to → IsInText to
place_in_text encoding before to h = subst IsInText (sym (leads_to encoding first_place before to h)) (all_in_text encoding first_place (text_before before) first_in_text)

-- there is room for the next piece
pub room : (encoding : Encoding) (before : List Piece) (here : Place) (after rest : List Next) (piece : Next) (whole : List ℕ) → Leads encoding first_place before here
    → after ≡ rest ++ piece ∷ [] → text_of before after ≡ whole → length whole ≤ longest → here.offset + length piece.text.now ≤ longest
room encoding before here after rest piece whole leads e same short =
    let split : length whole ≡ length (text_before before) + (length piece.text.now + length (text_after rest)) =
    ap length (sym same)
    ∙ length-append (text_before before) (text_after after)
    ∙ ap (λ (l : List ℕ). length (text_before before) + length l) (ap text_after e ∙ after_more rest piece)
    ∙ ap (λ (n : ℕ). length (text_before before) + n) (length-append piece.text.now (text_after rest))
    in
    omega (arith, split, short, count_before encoding before here leads)

-- ---- a place in the next piece

-- a bound of the text is one of the part that it is in
bound_in : (front part back : List ℕ) (n k : ℕ) → length front ≡ n → IsCharBoundary (front ++ (part ++ back)) (n + k) → k ≤ length part → IsCharBoundary part k
bound_in front part back n k is bound le = (
  le,
  λ lt hi.
      let same : get_or (front ++ (part ++ back)) (n + k) 0 ≡ get_or part k 0 =
      ap (λ (m : ℕ). get_or (front ++ (part ++ back)) (m + k) 0) (sym is) ∙ get_or-append-add front (part ++ back) k 0 ∙ get_or_append_left part back 0 k lt
      in
      let within : n + k < length (front ++ (part ++ back)) = omega (arith, length-append front (part ++ back), length-append part back, is, lt) in
      omega (arith, bound.1 within (omega (arith, same, hi)), same),
)

-- a bound within a part is one of the text
bound_of : (front part back : List ℕ) (n k : ℕ) → length front ≡ n → IsCharBoundary part k → k < length part → IsCharBoundary (front ++ (part ++ back)) (n + k)
bound_of front part back n k is bound lt = (
  omega (arith, length-append front (part ++ back), length-append part back, is, lt),
  λ _ hi.
      let same : get_or (front ++ (part ++ back)) (n + k) 0 ≡ get_or part k 0 =
      ap (λ (m : ℕ). get_or (front ++ (part ++ back)) (m + k) 0) (sym is) ∙ get_or-append-add front (part ++ back) k 0 ∙ get_or_append_left part back 0 k lt
      in
      omega (arith, bound.1 lt (omega (arith, same, hi)), same),
)

taken : (front part back : List ℕ) (n k : ℕ) → length front ≡ n → k ≤ length part → take (n + k) (front ++ (part ++ back)) ≡ front ++ take k part
taken front part back n k is le =
    ap (λ (m : ℕ). take (m + k) (front ++ (part ++ back))) (sym is)
    ∙ take-append-add front (part ++ back) k
    ∙ ap (λ (l : List ℕ). front ++ l) (take-append-le k part back le)

module _ (encoding : Encoding) (front part back : List ℕ) (here : Place) (position : Position) (n count : ℕ) (is : length front ≡ n) (begins : here ≡ place_after encoding first_place front)
    (up : IsUpTo encoding here part position count) (some : count < length part) where
  abbrev pub joined_text : List ℕ
  joined_text = front ++ (part ++ back)

  placed : (k : ℕ) → k ≤ length part → place_after encoding first_place (take (n + k) joined_text) ≡ place_after encoding here (take k part)
  placed k le =
      ap (place_after encoding first_place) (taken front part back n k is le)
      ∙ place-append encoding first_place front (take k part)
      ∙ ap (λ (q : Place). place_after encoding q (take k part)) (sym begins)

  past_part : (k : ℕ) → IsCharBoundary part k → count < k → k ≤ length part → is_past position (place_after encoding first_place (take (n + k) joined_text)) ≡ true
  past_part k bound lt le = subst (λ (q : Place). is_past position q ≡ true) (sym (placed k le)) (up.last k bound lt)

  pub reached : IsUpTo encoding first_place joined_text position (n + count)
  reached = record {
    boundary = bound_of front part back n count is up.boundary some;
    up_to = subst (λ (q : Place). is_past position q ≡ false) (sym (placed count (omega (arith, some)))) up.up_to;
    last = λ other bound lt.
        let k : ℕ = other - n in
        let e : other ≡ n + k = omega (arith, lt) in
        let at : IsCharBoundary joined_text (n + k) = subst (IsCharBoundary joined_text) e bound in
        subst (λ (m : ℕ). is_past position (place_after encoding first_place (take m joined_text)) ≡ true) (sym e)
        (elim (cases_lt (length part) k) [
          | inr within ↦ past_part k (bound_in front part back n k is at within) (omega (arith, lt, e)) within
          | inl beyond ↦
              past_further encoding first_place position joined_text (n + length part) (n + k) (omega (arith, beyond)) (past_part (length part) (IsCharBoundary-end part) some (omega arith))
        ]);
  }

-- the whole text is before the place
pub all_before : (encoding : Encoding) (front : List ℕ) (here : Place) (position : Position) → here ≡ place_after encoding first_place front → is_past position here ≡ false
    → IsUpTo encoding first_place front position (length front)
all_before encoding front here position begins up_to = record {
  boundary = IsCharBoundary-end front;
  up_to =
      subst (λ (l : List ℕ). is_past position (place_after encoding first_place l) ≡ false) (sym (take_all (length front) front (omega arith)))
      (subst (λ (q : Place). is_past position q ≡ false) begins up_to);
  last = λ other bound lt. absurd (omega (arith, bound.0, lt));
}

-- ---- going on

-- a place in the piece that comes next
pub goes_into : (encoding : Encoding) (before new : List Piece) (here there : Place) (part back passed : List ℕ) (position : Position)
    → Leads encoding first_place before here
    → (up : (count : ℕ) × IsUpTo encoding here part position count × (there ≡ place_after encoding here (take count part)) × (there.offset ≡ here.offset + count))
    → text_before new ≡ text_before before ++ passed → passed ≡ take (there.offset - here.offset) part → is_past position (place_after encoding here part) ≡ true
    → IsUpTo encoding first_place (text_before before ++ (part ++ back)) position (length (text_before new))
goes_into encoding before new here there part back passed position leads up f p past =
    let front = text_before before in
    let count = up.0 in
    let n : there.offset - here.offset ≡ count = omega (arith, up.3) in
    let long : length (text_before new) ≡ length front + count =
    ap length f
    ∙ length-append front passed
    ∙ ap (λ (m : ℕ). length front + m) (ap length p ∙ ap (λ (m : ℕ). length (take m part)) n ∙ length-take-le count part up.1.boundary.0)
    in
    let some : count < length part =
    elim (cases_lt count (length part)) [
      | inl lt ↦ lt
      | inr le ↦ absurd
          (both_ways (is_past position (place_after encoding here part))
          (subst (λ (l : List ℕ). is_past position (place_after encoding here l) ≡ false) (take_all count part le) up.1.up_to) past)
    ]
    in
    subst (λ (m : ℕ). IsUpTo encoding first_place (front ++ (part ++ back)) position m) (sym long)
    (reached encoding front part back here position (length front) count refl (leads_to encoding first_place before here leads) up.1 some)

pub no_more : (after : List Next) → length after ≡ 0 → after ≡ []
no_more [] e = refl
no_more (p ∷ after) e = absurd (omega (arith, e))

pub ends_up_to : (encoding : Encoding) (before : List Piece) (here : Place) (after : List Next) (whole : List ℕ) (position : Position) → Leads encoding first_place before here
    → length after ≡ 0 → text_of before after ≡ whole → is_past position here ≡ false → IsUpTo encoding first_place whole position (length (text_before before))
ends_up_to encoding before here after whole position leads none same up_to =
    let all : text_before before ≡ whole = sym (append-nil (text_before before)) ∙ ap (λ (l : List Next). text_of before l) (sym (no_more after none)) ∙ same in
    subst (λ (l : List ℕ). IsUpTo encoding first_place l position (length (text_before before))) all
    (all_before encoding (text_before before) here position (leads_to encoding first_place before here leads) up_to)

-- ---- a place that was looked for

pub counted : {E : Type 0} (encoding : Encoding) (before : List Piece) (r : Result Place E) → IfOk r (Leads encoding first_place before) → IfOk r (λ there. there.offset ≡ length (text_before before))
counted encoding before (Ok there) h = count_before encoding before there h
counted encoding before (Err e) h = tt

pub sought : {E : Type 0} (encoding : Encoding) (before : List Piece) (old whole : List ℕ) (position : Position) (r : Result Place E) → IsUtf8 old → whole ≡ old
    → IfOk r (Leads encoding first_place before) → OnOk r (IsUpTo encoding first_place whole position (length (text_before before)))
    → IfOk r (λ there. IsOffset encoding old position there.offset)
sought encoding before old whole position (Ok there) u same leads h =
    subst (IsOffset encoding old position) (sym (count_before encoding before there leads))
    (offset_found encoding old position (length (text_before before)) u (subst (λ (l : List ℕ). IsUpTo encoding first_place l position (length (text_before before))) same h))
sought encoding before old whole position (Err e) u same leads h = tt

-- ---- what is taken out, and what is put in

rest_bound : (front part : List ℕ) (n k : ℕ) → length front ≡ n → IsCharBoundary (front ++ part) (n + k) → IsCharBoundary part k
rest_bound front part n k is bound = (
  omega (arith, bound.0, length-append front part, is),
  λ lt hi.
      let same : get_or (front ++ part) (n + k) 0 ≡ get_or part k 0 = ap (λ (m : ℕ). get_or (front ++ part) (m + k) 0) (sym is) ∙ get_or-append-add front part k 0 in
      let within : n + k < length (front ++ part) = omega (arith, length-append front part, is, lt) in
      omega (arith, bound.1 within (omega (arith, same, hi)), same),
)

pub skipped : (after rest : List Next) (piece : Next) (left : ℕ) (all : List ℕ) → after ≡ rest ++ piece ∷ [] → length piece.text.now ≤ left → drop left (text_after after) ≡ all
    → drop (left - length piece.text.now) (text_after rest) ≡ all
skipped after rest piece left all e le same =
    let more : left ≡ length piece.text.now + (left - length piece.text.now) = omega (arith, le) in
    sym (drop-append-add piece.text.now (text_after rest) (left - length piece.text.now))
    ∙ ap (λ (m : ℕ). drop m (piece.text.now ++ text_after rest)) (sym more)
    ∙ ap (drop left) (sym (ap text_after e ∙ after_more rest piece))
    ∙ same

pub bound_past : (after rest : List Next) (piece : Next) (left : ℕ) → after ≡ rest ++ piece ∷ [] → length piece.text.now ≤ left → IsCharBoundary (text_after after) left
    → IsCharBoundary (text_after rest) (left - length piece.text.now)
bound_past after rest piece left e le bound =
    let more : left ≡ length piece.text.now + (left - length piece.text.now) = omega (arith, le) in
    rest_bound piece.text.now (text_after rest) (length piece.text.now) (left - length piece.text.now) refl
    (subst (λ (m : ℕ). IsCharBoundary (piece.text.now ++ text_after rest) m) more (subst (λ (l : List ℕ). IsCharBoundary l left) (ap text_after e ∙ after_more rest piece) bound))

module _ (front back old : List ℕ) (s e : ℕ) (split : front ++ back ≡ old) (is : length front ≡ s) where
  pub cut_bound : IsCharBoundary old s → IsCharBoundary old e → IsCharBoundary back (e - s)
  cut_bound begins ends =
      elim (cases_lt e s) [
        | inr le ↦
            let more : e ≡ s + (e - s) = omega (arith, le) in
            rest_bound front back s (e - s) is (subst (IsCharBoundary (front ++ back)) more (subst (λ (l : List ℕ). IsCharBoundary l e) (sym split) ends))
        | inl lt ↦
            let none : s ≡ s + (e - s) = omega (arith, lt) in
            rest_bound front back s (e - s) is (subst (IsCharBoundary (front ++ back)) none (subst (λ (l : List ℕ). IsCharBoundary l s) (sym split) begins))
      ]

  front_is : take s old ≡ front
  front_is = ap (take s) (sym split) ∙ ap (λ (m : ℕ). take m (front ++ back)) (sym is) ∙ take-append_seam front back

  back_is : drop (max e s) old ≡ drop (e - s) back
  back_is =
      let more : max e s ≡ s + (e - s) = omega arith in
      ap (drop (max e s)) (sym split)
      ∙ ap (λ (m : ℕ). drop m (front ++ back)) more
      ∙ ap (λ (m : ℕ). drop (m + (e - s)) (front ++ back)) (sym is)
      ∙ drop-append-add front back (e - s)

  module _ (new next : List ℕ) (put : next ≡ new ++ drop (e - s) back) where
    pub put_in : front ++ next ≡ (take s old ++ new) ++ drop (max e s) old
    put_in = simp (put, front_is, back_is, append_assoc)

    pub put_utf8 : IsUtf8 old → IsUtf8 new → IsCharBoundary old s → IsCharBoundary old e → IsUtf8 (front ++ next)
    put_utf8 u v begins ends =
        let greater : IsCharBoundary old (max e s) = grind (arith, begins, ends) in
        subst IsUtf8 (sym put_in)
        (IsUtf8-append (take s old ++ new) (drop (max e s) old) (IsUtf8-append (take s old) new (IsUtf8-take old s u begins) v) (IsUtf8-drop old (max e s) u greater))

    pub put_length : (len : ℕ) → length old ≡ len → IsCharBoundary back (e - s) → length (front ++ next) ≡ (len - (e - s)) + length new
    put_length len all bound =
        omega (
          arith,
          length-append front next,
          ap length put ∙ length-append new (drop (e - s) back),
          length-drop (e - s) back,
          bound.0,
          ap length split,
          length-append front back,
          all,
        )

-- ---- pieces that are passed

-- a whole piece is passed
pub passed_whole : (before new : List Piece) (after rest : List Next) (piece : Next) → after ≡ rest ++ piece ∷ [] → text_before new ≡ text_before before ++ piece.text.now
    → text_of new rest ≡ text_of before after
passed_whole before new after rest piece e f = simp (e, f, after_more rest piece, append_assoc)

-- a part of a piece is passed
pub passed_part : (before new : List Piece) (after next : List Next) (r : Next) (text passed : List ℕ) (n : ℕ) → text_before new ≡ text_before before ++ passed → passed ≡ take n text
    → r.text.now ≡ drop n text → next ≡ after ++ r ∷ [] → text_of new next ≡ text_before before ++ (text ++ text_after after)
passed_part before new after next r text passed n f p q g =
    let front = text_before before in
    let back = text_after after in
    let cut : passed ++ r.text.now ≡ text = ap (λ (l : List ℕ). l ++ r.text.now) p ∙ ap (λ (l : List ℕ). take n text ++ l) q ∙ take-append-drop n text in
    ap (λ (l : List Next). text_before new ++ text_after l) g
    ∙ ap (λ (l : List ℕ). text_before new ++ l) (after_more after r)
    ∙ ap (λ (l : List ℕ). l ++ (r.text.now ++ back)) f
    ∙ append_assoc front passed (r.text.now ++ back)
    ∙ ap (λ (l : List ℕ). front ++ l) (sym (append_assoc passed r.text.now back) ∙ ap (λ (l : List ℕ). l ++ back) cut)

-- the place in a piece is the one after what is passed of it
pub there_is : (encoding : Encoding) (here there : Place) (part passed : List ℕ) (position : Position)
    → (up : (count : ℕ) × IsUpTo encoding here part position count × (there ≡ place_after encoding here (take count part)) × (there.offset ≡ here.offset + count))
    → passed ≡ take (there.offset - here.offset) part → there ≡ place_after encoding here passed
there_is encoding here there part passed position up p =
    let n : up.0 ≡ there.offset - here.offset = omega (arith, up.3) in
    up.2 ∙ ap (λ (m : ℕ). place_after encoding here (take m part)) n ∙ ap (place_after encoding here) (sym p)
