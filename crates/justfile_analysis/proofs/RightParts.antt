-- A text whose parts are right: by the law of parts that are read, it derives their trees, joined.
use Rattle.std.proofs.Common.{◌≡◌, ◌∙◌, ℕ, suc, ◌+◌, ◌-◌, ◌<◌, Bool, true, false, List, [], ◌∷◌, ◌++◌, length, map, take, drop, refl, sym, ap, subst, append-nil, arith, length-append}
use Rattle.std.specs.Prelude.{slice_index}
use Rattle.std.specs.List.{count_by, flat_map}
use Rattle.std.proofs.Math.Seq.{drop-cons, take-add}
use Rattle.std.proofs.lemmas.List.{drop-drop, length-take, length-take-le, same_from_push, take-append-drop, take_all, take_more}
use Rattle.justfile_model.specs.Grammars.Conditions.{Conditions}
use Rattle.justfile_model.specs.Lexing.Places.{is_line_feed}
use Rattle.justfile_model.specs.Trees.Tree.{shape_of}
use Rattle.justfile_round_trip.specs.RoundTrip.{TextDerives}
use Rattle.justfile_chunks.specs.Chunks.{joined}
use Rattle.justfile_chunks.specs.Parts.{AreRead, ParsedChunk, features_in_text, items_in_text}
use Rattle.justfile_chunks.proofs.ManyParts.{parts_law}
use Rattle.justfile_chunks.proofs.MovedPlaces.{feeds_append}
use Rattle.justfile_chunks.proofs.MovedTrees.{joined_shapes}
use Rattle.justfile_analysis.specs.RightParts.{AreRight, IsReadFurther, Read, RightPartsLaw, chunks_from, chunks_of, end_of, last, left_after, more, part_text}

-- ---- a list that goes on after a line feed

module _ (xs : List ℕ) (n next : ℕ) (above : 0 < n) (feed : slice_index xs (n - 1) ≡ 10) (further : take (n + 1) xs ≡ take n xs ++ (next ∷ [])) where
  within : n < length xs
  within = omega (arith, length-take n xs, length-take (n + 1) xs, ap length further, length-append (take n xs) (next ∷ []))

  next_is : slice_index xs n ≡ next
  next_is = (same_from_push (take n xs) (take n xs) (slice_index xs n) next (sym (take_more xs n 0 within) ∙ further)).1

  back : suc (n - 1) ≡ n
  back = omega (arith, above)

  before_within : n - 1 < length xs
  before_within = omega (arith, above, within)

  from_next : drop n xs ≡ next ∷ drop (suc n) xs
  from_next = drop-cons xs n 0 within ∙ (λ i. next_is i ∷ drop (suc n) xs)

  from_feed : drop (n - 1) xs ≡ 10 ∷ (next ∷ drop (suc n) xs)
  from_feed = drop-cons xs (n - 1) 0 before_within ∙ (λ i. feed i ∷ drop (back i) xs) ∙ ap (λ l. 10 ∷ l) from_next

  after_feed : drop 1 (drop (n - 1) xs) ≡ drop n xs
  after_feed = ap (drop 1) from_feed ∙ sym from_next

  own_size : length (take n xs) ≡ n
  own_size = length-take-le n xs (omega (arith, within))

  feeds : count_by is_line_feed (take n xs) ≡ count_by is_line_feed (take (n - 1) xs) + 1
  feeds =
      let place : n ≡ n - 1 + 1 = omega (arith, above) in
      ap (λ k. count_by is_line_feed (take k xs)) place ∙ ap (count_by is_line_feed) (take_more xs (n - 1) 0 before_within)
      ∙ ap (λ b. count_by is_line_feed (take (n - 1) xs ++ (b ∷ []))) feed ∙ feeds_append (take (n - 1) xs) (10 ∷ [])

drop_front : (xs ys : List ℕ) (x : ℕ) (others : List ℕ) → xs ≡ x ∷ others → drop 1 xs ++ ys ≡ drop 1 (xs ++ ys)
drop_front [] ys x others e = cc
drop_front (y ∷ xs) ys x others e = refl

-- ---- parts

abbrev texts_of : List ParsedChunk → List (List ℕ)
texts_of parts = map (λ (p : ParsedChunk). p.chunk.text) parts

module _ (conditions : Conditions) where
  -- A later part that has two bytes to begin with isn't empty.
  size_above : {rest : List ℕ} {s : Read} {ss : List Read} → AreRight conditions false rest (s ∷ ss) → 1 < length rest → 0 < s.size
  size_above (last d l) long = omega (arith, l, long)
  size_above (more f h) long = f.some

  module _ (text : List ℕ) where
    abbrev lines : ℕ → ℕ
    lines offset = count_by is_line_feed (take offset text)

    -- the parts from an offset on
    record From (is_first : Bool) (offset : ℕ) (rs : List Read) : Type 0 where
      are_read : AreRead conditions offset (lines offset) (chunks_from text is_first offset rs)
      texts : joined (texts_of (chunks_from text is_first offset rs)) ≡ drop offset text

    module _ (is_first : Bool) (offset : ℕ) (r : Read) (f : IsReadFurther conditions is_first (drop offset text) r) where
      abbrev rest : List ℕ
      rest = drop offset text

      abbrev n : ℕ
      n = end_of is_first r

      above : 0 < n
      above = omega (arith, f.some)

      abbrev later : ℕ
      later = offset + (n - 1)

      left_is : left_after is_first rest r ≡ drop later text
      left_is = drop-drop (n - 1) offset text

      offset_is : offset + (length (take n rest) - 1) ≡ later
      offset_is = ap (λ k. offset + (k - 1)) (own_size rest n f.next above f.feed f.further)

      lines_are : lines offset + (count_by is_line_feed (take n rest) - 1) ≡ lines later
      lines_are =
          let whole : lines later ≡ lines offset + count_by is_line_feed (take (n - 1) rest) =
          ap (count_by is_line_feed) (take-add offset (n - 1) text) ∙ feeds_append (take offset text) (take (n - 1) rest) in
          omega (arith, whole, feeds rest n f.next above f.feed f.further)

      -- the next part begins with the line feed and the byte that was read
      module _ (s : Read) (some : 0 < s.size) where
        abbrev others : List ℕ
        others = take (s.size - 1) (drop (suc n) rest)

        begins : part_text false (drop later text) s ≡ 10 ∷ (f.next ∷ others)
        begins =
            let count : 1 + s.size ≡ suc (suc (s.size - 1)) = omega (arith, some) in
            ap (take (1 + s.size)) (sym left_is ∙ from_feed rest n f.next above f.feed f.further)
            ∙ ap (λ k. take k (10 ∷ (f.next ∷ drop (suc n) rest))) count

      step : (rs : List Read) → AreRight conditions false (left_after is_first rest r) rs → From false later rs → From is_first offset (r ∷ rs)
      step [] h w = absurd w.are_read
      step (s ∷ ss) h w = record {
        are_read = (
          refl,
          refl,
          record { begins = record { first = f.next; others = others s some; are = begins s some; is_other = f.is_other }; read = f.read },
          subst (λ o. AreRead conditions o (lines offset + (count_by is_line_feed (take n rest) - 1)) qs) (sym offset_is)
              (subst (λ l. AreRead conditions later l qs) (sym lines_are) w.are_read),
        );
        texts =
            ap (λ l. take n rest ++ l)
            (drop_front (part_text false (drop later text) s) (flat_map (drop 1) (texts_of (chunks_from text false (later + (end_of false s - 1)) ss))) 10
            (f.next ∷ others s some) (begins s some)
            ∙ ap (drop 1) (w.texts ∙ sym left_is) ∙ after_feed rest n f.next above f.feed f.further)
            ∙ take-append-drop n rest;
      }
        where
          qs : List ParsedChunk
          qs = chunks_from text false later (s ∷ ss)

          long : 1 < length (left_after is_first rest r)
          long = omega (arith, ap length (from_feed rest n f.next above f.feed f.further))

          some : 0 < s.size
          some = size_above h long

    from : {is_first : Bool} {rest : List ℕ} {rs : List Read} → AreRight conditions is_first rest rs → (offset : ℕ) → rest ≡ drop offset text
        → From is_first offset rs
    from (last {is_first} {rest} {r} d l) offset e = record {
      are_read = (refl, refl, subst (λ t. TextDerives conditions t r.tree r.features) (e ∙ sym all) d);
      texts = append-nil (take (end_of is_first r) (drop offset text)) ∙ all;
    }
      where
        all : take (end_of is_first r) (drop offset text) ≡ drop offset text
        all = take_all (end_of is_first r) (drop offset text) (omega (arith, l, ap length e))
    from (more {is_first} {rest} {r} {rs} f h) offset e =
        step is_first offset r (subst (λ t. IsReadFurther conditions is_first t r) e f) rs
        (subst (λ t. AreRight conditions false (left_after is_first t r) rs) e h)
        (from h (offset + (end_of is_first r - 1)) (ap (drop (end_of is_first r - 1)) e ∙ drop-drop (end_of is_first r - 1) offset text))

-- ---- what the parts were read as

trees : (text : List ℕ) (is_first : Bool) (offset : ℕ) (rs : List Read)
    → map (λ (p : ParsedChunk). p.tree) (chunks_from text is_first offset rs) ≡ map (λ (r : Read). r.tree) rs
trees text is_first offset [] = refl
trees text is_first offset (r ∷ rs) = ap (λ l. r.tree ∷ l) (trees text false (offset + (end_of is_first r - 1)) rs)

features : (text : List ℕ) (is_first : Bool) (offset : ℕ) (rs : List Read)
    → map (λ (p : ParsedChunk). p.features) (chunks_from text is_first offset rs) ≡ map (λ (r : Read). r.features) rs
features text is_first offset [] = refl
features text is_first offset (r ∷ rs) = ap (λ l. r.features ∷ l) (features text false (offset + (end_of is_first r - 1)) rs)

shapes : (text : List ℕ) (is_first : Bool) (offset : ℕ) (rs : List Read)
    → map (λ (p : ParsedChunk). shape_of p.tree) (chunks_from text is_first offset rs) ≡ map (λ (r : Read). shape_of r.tree) rs
shapes text is_first offset [] = refl
shapes text is_first offset (r ∷ rs) = ap (λ l. shape_of r.tree ∷ l) (shapes text false (offset + (end_of is_first r - 1)) rs)

pub right_parts_law : RightPartsLaw
right_parts_law conditions text rs h =
    let w = from conditions text h 0 refl in
    let parts = chunks_of text rs in
    record {
      trees_are = trees text true 0 rs;
      features_are = features text true 0 rs;
      are_read = w.are_read;
      text_is = w.texts;
      derives = subst (λ t. TextDerives conditions t (joined (map items_in_text parts)) (flat_map features_in_text parts)) w.texts
          (parts_law conditions parts w.are_read);
      shape_is = joined_shapes parts ∙ ap joined (shapes text true 0 rs);
    }
