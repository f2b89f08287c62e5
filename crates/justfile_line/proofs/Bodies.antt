-- The texts of bodies, by their lines and fragments, and whether they are printable.
use native.Mathlib.Numerals.{unary_clauses}
use Rattle.std.proofs.Common.{slice_index, ◌==◌, ◌≡◌, ℕ, ◌-◌, Bool, true, not, ◌&&◌, List, [], ◌∷◌, ◌++◌, length, map, codes, Option, Some, None, refl, ap, ◌∙◌}
use Rattle.std.specs.List.{flat_map, list_all, slice_get}
use Rattle.std.specs.Option.{option_and_then}
use Rattle.std.proofs.lemmas.List.Folds.{flat_map-map}
use Rattle.justfile_model.specs.Trees.Tree.{over_fragment, over_line, lexeme, nothing}
use Rattle.justfile_model.specs.Printed.Printing.{fixed_text, fragment_text, body_line_text, body_text, ends_in_return, printable_fragments, printable_body}
use Rattle.justfile_line.specs.declared.fragment.Fragment.{Fragment}
use Rattle.justfile_line.specs.declared.fragment.Fragment.TheVariants.{Interpolation, Text}
use Rattle.justfile_line.specs.declared.line.Line.{Line}
use Rattle.justfile_line.specs.Body.{fragment_of, fragment_shape, fragment_shapes, fragments_text, body_line_of, line_shape, line_shapes}
use Rattle.justfile_line.specs.Line.{text_of_fragment}

pub fragments_parts : (fragments : List Fragment) → fragments_text fragments ≡ flat_map (λ f. fragment_text (fragment_shape f)) fragments
fragments_parts fragments = flat_map-map fragment_text (over_fragment lexeme nothing) (map fragment_of fragments) ∙ flat_map-map (λ f. fragment_text (over_fragment lexeme nothing f)) fragment_of fragments

pub body_parts : (indentation : List ℕ) (lines : List Line)
    → body_text indentation (line_shapes lines) ≡ flat_map (λ l. fixed_text (codes "\n") ++ body_line_text indentation (line_shape l)) lines
body_parts indentation lines =
    flat_map-map (λ l. fixed_text (codes "\n") ++ body_line_text indentation l) (over_line lexeme nothing nothing) (map body_line_of lines)
    ∙ flat_map-map (λ l. fixed_text (codes "\n") ++ body_line_text indentation (over_line lexeme nothing nothing l)) body_line_of lines

-- a text at the end of a line doesn't end in a carriage return
abbrev pub printable_end : Option (List ℕ) → Bool
printable_end None = true
printable_end (Some text) = not (ends_in_return text)

printable_from : (f : Fragment) (fragments : List Fragment)
    → printable_fragments (fragment_shapes (f ∷ fragments)) ≡ printable_end (option_and_then text_of_fragment (slice_get (f ∷ fragments) (length fragments)))
printable_from (Interpolation e) [] = refl
printable_from (Text t) [] = refl
printable_from (Interpolation e) (g ∷ fragments) = printable_from g fragments
printable_from (Text t) (g ∷ fragments) = printable_from g fragments

pub printable_last : (fragments : List Fragment) → printable_fragments (fragment_shapes fragments) ≡ printable_end (option_and_then text_of_fragment (slice_get fragments (length fragments - 1)))
printable_last [] = refl
printable_last (f ∷ fragments) = simp unary_clauses (printable_from f fragments)

return_from : (b : ℕ) (text : List ℕ) → ends_in_return (b ∷ text) ≡ (slice_index (b ∷ text) (length text) == 13)
return_from b [] = refl
return_from b (c ∷ text) = return_from c text

-- a text ends in a carriage return exactly if its last byte is one
pub return_last : (text : List ℕ) → ends_in_return text ≡ (slice_index text (length text - 1) == 13)
return_last [] = refl
return_last (b ∷ text) = simp unary_clauses (return_from b text)

pub printable_lines : (lines : List Line) → printable_body (line_shapes lines) ≡ list_all (λ l. printable_fragments (fragment_shapes l.fragments.items)) lines
printable_lines [] = refl
printable_lines (l ∷ lines) = ap (λ b. printable_fragments (fragment_shapes l.fragments.items) && b) (printable_lines lines)
