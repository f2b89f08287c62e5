-- The place of an offset, by a place before it.
use Rattle.std.proofs.Common.{◌≡◌, ℕ, ◌+◌, ◌≤◌, List, ◌++◌, length, take, drop, refl, sym, ap, subst, ◌∙◌, arith}
use Rattle.std.proofs.lemmas.List.{length-take-le, take-append-drop, take-take}
use Rattle.justfile_lines.specs.declared.encoding.Encoding.{Encoding}
use Rattle.justfile_lines.specs.declared.position.Place.{Place}
use Rattle.justfile_lines.specs.Going.{IsInText, after_size, first_place, place_after}
use Rattle.justfile_lines.specs.Positions.{IsPlace, column_at, feeds, last_line, line_at, width}
use Rattle.justfile_lines.proofs.Ahead.{after_its_size, all_in_text, column_is, counted, first_in_text, line_is, offset_is, place-append}

-- a place in a text is the one after what is before it
by_front : (encoding : Encoding) (text : List ℕ) (p : Place) → IsPlace encoding text p → p ≡ place_after encoding first_place (take p.offset text)
by_front encoding text p is =
    (λ i. record { offset = sym (length-take-le p.offset text is.within) i; position = p.position })
    ∙ counted encoding (take p.offset text) (last_line (take p.offset text)) p.position.line p.position.column is.line_is refl is.column_is

-- and the other way round
of_front : (encoding : Encoding) (text : List ℕ) (p : Place) (offset : ℕ) → offset ≤ length text → p ≡ place_after encoding first_place (take offset text) → IsPlace encoding text p
of_front encoding text p offset within is =
    let at : p.offset ≡ offset = ap (λ (q : Place). q.offset) is ∙ omega (arith, offset_is encoding first_place (take offset text), length-take-le offset text within) in
    record {
      within = omega arith;
      line_is =
          ap (λ (q : Place). q.position.line) is
          ∙ omega (arith, line_is encoding first_place (take offset text))
          ∙ ap (line_at text) (sym at);
      column_is = ap (λ (q : Place). q.position.column) is ∙ column_is encoding (take offset text) ∙ ap (column_at encoding text) (sym at);
    }

-- a place is in its text
pub known_in_text : (encoding : Encoding) (text : List ℕ) (p : Place) → IsPlace encoding text p → IsInText p
known_in_text encoding text p is =
    subst IsInText (sym (by_front encoding text p is)) (all_in_text encoding first_place (take p.offset text) first_in_text)

-- so is the size of a text
pub size_in_text : (encoding : Encoding) (text last : List ℕ) (line column : ℕ) → line ≡ feeds text → last ≡ last_line text → column ≡ width encoding last
    → IsInText (record { offset = length text; position = record { line = line; column = column } })
size_in_text encoding text last line column number is wide =
    subst IsInText (sym (counted encoding text last line column number is wide)) (all_in_text encoding first_place text first_in_text)

module _ (encoding : Encoding) (text : List ℕ) (p : Place) (offset : ℕ) (order : p.offset ≤ offset) (within : offset ≤ length text) (is : IsPlace encoding text p)
    (between : List ℕ) (between_is : between ≡ drop p.offset (take offset text)) (last : List ℕ) (line column : ℕ) (number : line ≡ feeds between) (last_is : last ≡ last_line between)
    (wide : column ≡ width encoding last) where
  split : take p.offset text ++ between ≡ take offset text
  split =
      (λ i. sym (take-take p.offset offset text order) i ++ between_is i) ∙ take-append-drop p.offset (take offset text)

  after_is : after_size p (record { offset = length between; position = record { line = line; column = column } }) ≡ place_after encoding first_place (take offset text)
  after_is =
      ap (after_size p) (counted encoding between last line column number last_is wide)
      ∙ after_its_size encoding p between
      ∙ ap (λ q. place_after encoding q between) (by_front encoding text p is)
      ∙ sym (place-append encoding first_place (take p.offset text) between)
      ∙ ap (place_after encoding first_place) split

  pub made_place : (made : Place) → made ≡ after_size p (record { offset = length between; position = record { line = line; column = column } }) → IsPlace encoding text made
  made_place made made_is = of_front encoding text made offset within (made_is ∙ after_is)
