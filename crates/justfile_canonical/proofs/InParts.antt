-- A text that is read and printed in parts is formatted.
use Rattle.std.proofs.Common.{◌≡◌, ◌⊎◌, ◌∙◌, ℕ, suc, ◌+◌, ◌-◌, ◌<◌, Bool, true, false, List, [], ◌∷◌, ◌++◌, length, map, take, drop, get_or, inl, inr, Option, Some, None, codes, refl, sym, ap, subst, arith, append_assoc, append-nil, length-append}
use Rattle.std.specs.Prelude.{IfSome, nat_eq, slice_index, string_bytes}
use Rattle.std.specs.List.{count_by, flat_map}
use Rattle.std.proofs.Math.Seq.{drop-cons, take-add}
use Rattle.std.proofs.lemmas.Bool.Decides.{nat_tests}
use Rattle.std.proofs.lemmas.List.{drop-take, get_or-drop, length-drop, length-take-le, map-append, take-append-drop, take_more}
use Rattle.std.proofs.lemmas.List.Concat.{flat_map-append}
use Rattle.justfile_model.specs.Lexing.Places.{is_line_feed}
use Rattle.justfile_model.specs.Meanings.Enabled.{indentation_of}
use Rattle.justfile_model.specs.Printed.NormalShape.{normal}
use Rattle.justfile_model.specs.Printed.Printing.{printable, text}
use Rattle.justfile_model.specs.Trees.Tree.{Shape, shape_of}
use Rattle.justfile_ast.specs.declared.separator.Separator.TheVariants.{Start}
use Rattle.justfile_model.proofs.Printed.IndentedShapes.{indentation_shape}
use Rattle.justfile_round_trip.specs.RoundTrip.{TextDerives}
use Rattle.justfile_round_trip.proofs.LiteralTexts.FormatScans.{same_front}
use Rattle.justfile_chunks.specs.Chunks.{joined}
use Rattle.justfile_chunks.specs.Parts.{AreRead, IsRead, IsReadBefore, ParsedChunk, chunk, features_in_text, items_in_text}
use Rattle.justfile_chunks.proofs.ManyParts.{parts_law}
use Rattle.justfile_chunks.proofs.MovedPlaces.{feeds_append}
use Rattle.justfile_chunks.proofs.MovedTrees.{joined_shapes}
use Rattle.justfile_chunks.proofs.SameNext.{cons_parts}
use Rattle.justfile_chunks.specs.PartTables.{IsLineStart}
use Rattle.justfile_canonical.specs.Formatting.{IsFormatted}
use Rattle.justfile_canonical.specs.Parts.{HasPrinted, IsFinished, IsPartStart, IsPartText, IsPrintedBy, IsPrintedTo, IsRestPrinted, IsSetBy, indentation_in_use, own_items, text_to}
use Rattle.justfile_canonical.specs.Root.{conditions}
use Rattle.justfile_canonical.specs.declared.parts.Printer.{Printer}
use Rattle.justfile_canonical.proofs.Printed.{indented_by, whole_text}

-- ---- lists that are joined

abbrev is_nil : {X : Type 0} → List X → Bool
is_nil [] = true
is_nil (x ∷ xs) = false

nil_map : {X Y : Type 0} (f : X → Y) (xs : List X) → is_nil (map f xs) ≡ is_nil xs
nil_map f [] = refl
nil_map f (x ∷ xs) = refl

nil_last : {X : Type 0} (xs : List X) (x : X) → is_nil (xs ++ (x ∷ [])) ≡ false
nil_last [] x = refl
nil_last (y ∷ xs) x = refl

joined_more : {X : Type 0} (xs : List (List X)) (x : List X) → joined (xs ++ (x ∷ [])) ≡ joined xs ++ own_items (is_nil xs) x
joined_more [] x = append-nil x
joined_more (y ∷ ys) x =
    ap (λ l. y ++ l) (flat_map-append (drop 1) ys (x ∷ []) ∙ ap (λ l. flat_map (drop 1) ys ++ l) (append-nil (drop 1 x)))
    ∙ sym (append_assoc y (flat_map (drop 1) ys) (drop 1 x))

-- ---- a place in a text

-- the line of the line feed before a place
abbrev line_at : List ℕ → ℕ → ℕ
line_at source at = count_by is_line_feed (take at source) - 1

-- a part of a text between two places, from the line feed before it on
abbrev between : List ℕ → (at cut : ℕ) → List ℕ
between source at cut = take (cut - (at - 1)) (drop (at - 1) source)

module _ (source : List ℕ) (at : ℕ) (start : IsLineStart source at) where
  rest_is : drop (at - 1) source ≡ 10 ∷ drop at source
  rest_is =
      drop-cons source (at - 1) 0 (omega (arith, start.above, start.within))
      ∙ (λ i. start.feed i ∷ drop (back i) source)
    where
      back : suc (at - 1) ≡ at
      back = omega (arith, start.above)

  own_rest : drop 1 (drop (at - 1) source) ≡ drop at source
  own_rest = ap (drop 1) rest_is

  next_is : drop at source ≡ slice_index source at ∷ drop (suc at) source
  next_is = drop-cons source at 0 start.within

-- the text of a part, by the place at which it begins
module _ (source : List ℕ) (at cut : ℕ) (later : at < cut) (within : cut < length source) where
  size : length (between source at cut) ≡ cut - (at - 1)
  size = length-take-le (cut - (at - 1)) (drop (at - 1) source) (omega (arith, later, within, length-drop (at - 1) source))

  -- what was read one byte further
  pub further : text_to source at cut ≡ between source at cut ++ (slice_index source cut ∷ [])
  further =
      let n = cut - (at - 1) in
      let long : n < length (drop (at - 1) source) = omega (arith, later, within, length-drop (at - 1) source) in
      let count : cut + 1 - (at - 1) ≡ n + 1 = omega (arith, later) in
      let place : at - 1 + n ≡ cut = omega (arith, later) in
      ap (λ k. take k (drop (at - 1) source)) count ∙ take_more (drop (at - 1) source) n 0 long
      ∙ ap (λ b. between source at cut ++ (b ∷ [])) (get_or-drop (at - 1) source n 0 ∙ ap (λ k. get_or source k 0) place)

  -- the text up to the cut
  up_to_first : at ≡ 0 → take at source ++ between source at cut ≡ take cut source
  up_to_first e =
      (λ i. take (e i) source ++ take (cut - (e i - 1)) (drop (e i - 1) source))
      ∙ ap (λ n. take n source) less
    where
      less : cut - (0 - 1) ≡ cut
      less = omega arith

  module _ (start : IsLineStart source at) where
    back : cut - (at - 1) ≡ 1 + (cut - at)
    back = omega (arith, start.above, later)

    longer : cut - (at - 1) ≡ suc (cut - at)
    longer = omega (arith, start.above, later)

    own : drop 1 (between source at cut) ≡ take (cut - at) (drop at source)
    own =
        ap (λ n. drop 1 (take n (drop (at - 1) source))) back ∙ drop-take 1 (cut - at) (drop (at - 1) source)
        ∙ ap (take (cut - at)) (own_rest source at start)

    begins : between source at cut ≡ 10 ∷ take (cut - at) (drop at source)
    begins = ap (λ n. take n (drop (at - 1) source)) longer ∙ ap (take (suc (cut - at))) (rest_is source at start)

    up_to : take at source ++ drop 1 (between source at cut) ≡ take cut source
    up_to =
        ap (λ l. take at source ++ l) own ∙ sym (take-add at (cut - at) source)
        ∙ ap (λ n. take n source) (omega (arith, later))

    feeds : count_by is_line_feed (take cut source) ≡ count_by is_line_feed (take at source) + count_by is_line_feed (take (cut - at) (drop at source))
    feeds = ap (count_by is_line_feed) (sym up_to ∙ ap (λ l. take at source ++ l) own) ∙ feeds_append (take at source) (take (cut - at) (drop at source))

    some_feed : 0 < count_by is_line_feed (take at source)
    some_feed =
        let place : at - 1 + 1 ≡ at = omega (arith, start.above) in
        let last : take at source ≡ take (at - 1) source ++ (10 ∷ []) =
        ap (λ n. take n source) (sym place) ∙ take_more source (at - 1) 0 (omega (arith, start.above, start.within)) ∙ ap (λ b. take (at - 1) source ++ (b ∷ [])) start.feed in
        omega (arith, ap (count_by is_line_feed) last, feeds_append (take (at - 1) source) (10 ∷ []))

    line_later : line_at source at + (count_by is_line_feed (between source at cut) - 1) ≡ line_at source cut
    line_later =
        let rest = take (cut - at) (drop at source) in
        let first : count_by is_line_feed (10 ∷ rest) ≡ count_by is_line_feed (10 ∷ []) + count_by is_line_feed rest = feeds_append (10 ∷ []) rest in
        let one : count_by is_line_feed (10 ∷ []) ≡ 1 = refl in
        omega (arith, ap (count_by is_line_feed) begins, first, one, feeds, some_feed)

some_not_zero : (n : ℕ) → 0 < n → nat_eq n 0 ≡ false
some_not_zero n h = grind (arith, nat_tests, h)

-- ---- the texts of parts

module _ (source : List ℕ) (at cut : ℕ) (later : at < cut) (within : cut < length source) where
  begun : (s : IsLineStart source at) → between source at cut ≡ 10 ∷ (slice_index source at ∷ take (cut - at - 1) (drop (suc at) source))
  begun s =
      let one : cut - at ≡ suc (cut - at - 1) = omega (arith, later) in
      begins source at cut later within s
      ∙ ap (λ l. 10 ∷ l) (ap (λ n. take n (drop at source)) one ∙ ap (take (suc (cut - at - 1))) (next_is source at s))

  pub part_text : IsPartStart source at → IsPartText (nat_eq at 0) (text_to source at cut)
  part_text (inl e) = subst (λ b. IsPartText b (text_to source at cut)) (sym (ap (λ n. nat_eq n 0) e)) tt
  part_text (inr s) =
      subst (λ b. IsPartText b (text_to source at cut)) (sym (some_not_zero at s.above)) (record {
        first = slice_index source at;
        others = take (cut - at - 1) (drop (suc at) source) ++ (slice_index source cut ∷ []);
        are = further source at cut later within ∙ ap (λ l. l ++ (slice_index source cut ∷ [])) (begun s);
        is_other = s.is_other;
      })

-- ---- the parts so far

-- The part begins with the line feed before a place and the byte there, unless the text begins there.
abbrev IsHere : List ℕ → ℕ → ParsedChunk → Type 0
IsHere source at q = (at ≡ 0) ⊎ ((others : List ℕ) × (q.chunk.text ≡ 10 ∷ (slice_index source at ∷ others)))

-- the texts and the shapes of parts
abbrev texts_of : List ParsedChunk → List (List ℕ)
texts_of = map (λ p. p.chunk.text)

abbrev shapes_of : List ParsedChunk → List Shape
shapes_of = map (λ p. shape_of p.tree)

-- What is before this place was read in parts, and is printed.
pub record InParts (source : List ℕ) (at : ℕ) (printer : Printer) : Type 0 where
  pub start : IsPartStart source at
  done : List ParsedChunk
  first_is : nat_eq at 0 ≡ is_nil done
  -- with parts from here on they are parts of a text
  joins : (q : ParsedChunk) (rest : List ParsedChunk) → IsHere source at q → AreRead conditions (at - 1) (line_at source at) (q ∷ rest)
      → AreRead conditions 0 0 (done ++ (q ∷ rest))
  texts : joined (texts_of done) ≡ take at source
  printed : HasPrinted (joined (shapes_of done)) printer

pub at_first : (source : List ℕ) (printer : Printer) → HasPrinted [] printer → InParts source 0 printer
at_first source printer h = record { start = inl refl; done = []; first_is = refl; joins = λ q rest b r. r; texts = refl; printed = h }

-- the shapes with that of one more part
more_shapes : (done : List ParsedChunk) (p : ParsedChunk) (b : Bool) → b ≡ is_nil done
    → joined (shapes_of (done ++ (p ∷ []))) ≡ joined (shapes_of done) ++ own_items b (shape_of p.tree)
more_shapes done p b e =
    ap joined (map-append (λ (q : ParsedChunk). shape_of q.tree) done (p ∷ [])) ∙ joined_more (shapes_of done) (shape_of p.tree)
    ∙ ap (λ c. joined (shapes_of done) ++ own_items c (shape_of p.tree)) (nil_map (λ (q : ParsedChunk). shape_of q.tree) done ∙ sym e)

more_texts : (done : List ParsedChunk) (p : ParsedChunk) (b : Bool) → b ≡ is_nil done
    → joined (texts_of (done ++ (p ∷ []))) ≡ joined (texts_of done) ++ own_items b p.chunk.text
more_texts done p b e =
    ap joined (map-append (λ (q : ParsedChunk). q.chunk.text) done (p ∷ [])) ∙ joined_more (texts_of done) p.chunk.text
    ∙ ap (λ c. joined (texts_of done) ++ own_items c p.chunk.text) (nil_map (λ (q : ParsedChunk). q.chunk.text) done ∙ sym e)

module _ (source : List ℕ) (at cut : ℕ) (old new : Printer) (h : InParts source at old) (p : IsPrintedTo source at cut old new) where
  abbrev part : IsPrintedBy (text_to source at cut) (nat_eq at 0) old new
  part = p.printed

  abbrev own_text : List ℕ
  own_text = between source at cut

  abbrev next : ℕ
  next = slice_index source cut

  same : (part.text ≡ own_text) × (part.next ∷ [] ≡ next ∷ [])
  same =
      let e = sym part.part_is ∙ further source at cut p.later p.start.within in
      same_front part.text (part.next ∷ []) own_text (next ∷ []) e
      (omega (arith, ap length e, length-append part.text (part.next ∷ []), length-append own_text (next ∷ [])))

  abbrev here : ParsedChunk
  here = record { chunk = chunk own_text (at - 1) (line_at source at); tree = part.tree; features = part.features }

  read : IsRead conditions own_text next part.tree part.features
  read =
      let n : part.next ≡ next = (cons_parts part.next next [] [] same.1).0 in
      subst (λ t. IsRead conditions t next part.tree part.features) same.0
      (subst (λ b. IsRead conditions part.text b part.tree part.features) n part.read)

  is_here : IsPartStart source at → IsHere source at here
  is_here (inl e) = inl e
  is_here (inr s) = inr (take (cut - at - 1) (drop (suc at) source), begun source at cut p.later p.start.within s)

  line_is : IsPartStart source at → line_at source at + (count_by is_line_feed own_text - 1) ≡ line_at source cut
  line_is (inl e) =
      let none : take at source ≡ [] = ap (λ n. take n source) e in
      let all : own_text ≡ take cut source = ap (λ l. l ++ own_text) (sym none) ∙ up_to_first source at cut p.later p.start.within e in
      omega (arith, ap (count_by is_line_feed) none, ap (count_by is_line_feed) all)
  line_is (inr s) = line_later source at cut p.later p.start.within s

  offset_is : at - 1 + (length own_text - 1) ≡ cut - 1
  offset_is = omega (arith, size source at cut p.later p.start.within, p.later)

  before_next : (q : ParsedChunk) → IsHere source cut q → IsReadBefore conditions here q
  before_next q (inl e) = absurd (omega (arith, p.later, e))
  before_next q (inr b) = record { begins = record { first = next; others = b.0; are = b.1; is_other = p.start.is_other }; read = read }

  joins_more : (q : ParsedChunk) (rest : List ParsedChunk) → IsHere source cut q → AreRead conditions (cut - 1) (line_at source cut) (q ∷ rest)
      → AreRead conditions 0 0 ((h.done ++ (here ∷ [])) ++ (q ∷ rest))
  joins_more q rest b r =
      subst (AreRead conditions 0 0) (sym (append_assoc h.done (here ∷ []) (q ∷ rest)))
      (h.joins here (q ∷ rest) (is_here h.start) (
        refl,
        refl,
        before_next q b,
        subst (λ o. AreRead conditions o (line_at source at + (count_by is_line_feed own_text - 1)) (q ∷ rest)) (sym offset_is)
            (subst (λ l. AreRead conditions (cut - 1) l (q ∷ rest)) (sym (line_is h.start)) r),
      ))

  text_to_cut : IsPartStart source at → take at source ++ own_items (nat_eq at 0) own_text ≡ take cut source
  text_to_cut (inl e) = ap (λ b. take at source ++ own_items b own_text) (ap (λ n. nat_eq n 0) e) ∙ up_to_first source at cut p.later p.start.within e
  text_to_cut (inr s) = ap (λ b. take at source ++ own_items b own_text) (some_not_zero at s.above) ∙ up_to source at cut p.later p.start.within s

  pub more : InParts source cut new
  more = record {
    start = inr p.start;
    done = h.done ++ (here ∷ []);
    first_is = some_not_zero cut p.start.above ∙ sym (nil_last h.done here);
    joins = joins_more;
    texts = more_texts h.done here (nat_eq at 0) h.first_is ∙ ap (λ l. l ++ own_items (nat_eq at 0) own_text) h.texts ∙ text_to_cut h.start;
    printed = subst (λ s. HasPrinted s new) (sym (more_shapes h.done here (nat_eq at 0) h.first_is)) (part.printed (joined (shapes_of h.done)) h.printed);
  }

-- ---- all parts

module _ (source : List ℕ) (at : ℕ) (old new : Printer) (h : InParts source at old) (s : IsLineStart source at) (r : IsRestPrinted (drop (at - 1) source) old new) where
  abbrev last : ParsedChunk
  last = record { chunk = chunk (drop (at - 1) source) (at - 1) (line_at source at); tree = r.tree; features = r.features }

  abbrev all : List ParsedChunk
  all = h.done ++ (last ∷ [])

  all_read : AreRead conditions 0 0 all
  all_read =
      h.joins last [] (inr (drop (suc at) source, rest_is source at s ∙ ap (λ l. 10 ∷ l) (next_is source at s)))
      (refl, refl, r.derives)

  first_not : nat_eq at 0 ≡ false
  first_not = some_not_zero at s.above

  whole : joined (texts_of all) ≡ source
  whole =
      more_texts h.done last false (sym first_not ∙ h.first_is) ∙ (λ i. h.texts i ++ own_rest source at s i) ∙ take-append-drop at source

  shapes : shape_of (joined (map items_in_text all)) ≡ joined (shapes_of h.done) ++ own_items false (shape_of r.tree)
  shapes = joined_shapes all ∙ more_shapes h.done last false (sym first_not ∙ h.first_is)

  prints : HasPrinted (joined (shapes_of h.done) ++ own_items false (shape_of r.tree)) new
  prints = r.printed (joined (shapes_of h.done)) h.printed

  pub formatted : (new.separator ≡ Start → ⊥) → IsFormatted source (string_bytes new.printed ++ codes "\n")
  formatted begun = record {
    tree = joined (map items_in_text all);
    features = flat_map features_in_text all;
    derives =
        subst (λ t. TextDerives conditions t (joined (map items_in_text all)) (flat_map features_in_text all)) whole (parts_law conditions all all_read);
    can_be_printed = ap printable shapes ∙ prints.can_be_printed;
    indentation = indentation_in_use new.indentation;
    is_indented =
        indented_by (indentation_of (joined (map items_in_text all))) new.indentation
        (subst (λ o. IsSetBy o new.indentation) (sym (ap indentation_of shapes) ∙ indentation_shape (joined (map items_in_text all))) prints.indented);
    is = whole_text (joined (shapes_of h.done) ++ own_items false (shape_of r.tree)) new prints begun ∙ ap (λ t. text (normal t) (indentation_in_use new.indentation)) (sym shapes);
  }

-- what is returned
pub finished_if : {X : Type 0} (bytes : X → List ℕ) (result : Option X) (source rest : List ℕ) (at : ℕ) (old : Printer) → InParts source at old → 0 < at
    → rest ≡ drop (at - 1) source → IfSome result (λ x. IsFinished rest old (bytes x)) → IfSome result (λ x. IsFormatted source (bytes x))
finished_if bytes None source rest at old h above e f = tt
finished_if bytes (Some x) source rest at old h above e f =
    subst (IsFormatted source) (sym f.is)
    (formatted source at old f.new h (line_start h.start) (subst (λ t. IsRestPrinted t old f.new) e f.printed) f.begun)
  where
    line_start : IsPartStart source at → IsLineStart source at
    line_start (inl z) = absurd (omega (arith, above, z))
    line_start (inr s) = s
