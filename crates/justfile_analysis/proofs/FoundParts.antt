-- A part that was read is found.
use Rattle.std.proofs.Common.{◌≡◌, ◌∙◌, ℕ, ◌+◌, ◌-◌, ◌<◌, ◌≤◌, true, false, List, [], length, take, drop, inl, inr, sym, ap, subst, arith, codes, Option, Some}
use Rattle.std.specs.Prelude.{IfSome, nat_eq, slice_index, slice_range}
use Rattle.std.specs.Str.{IsCharBoundary, IsUtf8}
use Rattle.std.proofs.lemmas.Str.{IsCharBoundary-after_ascii}
use Rattle.std.proofs.lemmas.Bool.Decides.{nat_tests}
use Rattle.std.proofs.lemmas.List.{length-drop, length-take-le, take_all}
use Rattle.text_parts.specs.Parts.{before, seen, sees_end}
use Rattle.text_parts.proofs.Fitting.{before_at}
use Rattle.text_parts.specs.Places.{IsLineStart, IsPartEnd, IsPartStart}
use Rattle.justfile_model.specs.Lexing.BlankLines.{is_blank_or_line_end}
use Rattle.editor_language.specs.declared.parts.Known.{Known}
use Rattle.justfile_ast.specs.declared.ast.Ast.{Ast}
use Rattle.justfile_canonical.specs.Root.{IsRoot, conditions}
use Rattle.justfile_canonical.specs.Parsing.{IsPart}
use Rattle.justfile_recovery.specs.Starts.{is_start}
use Rattle.justfile_analysis.specs.Ends.{IsEnd, IsStop}
use Rattle.justfile_analysis.specs.Parts as parts
use Rattle.justfile_analysis.specs.Parts.{IsFile, IsFound, IsRead, IsRight}
use Rattle.justfile_analysis.proofs.Starts.{Begins, begins, begins_line_at, byte_is}

-- a place in the text is the end of a part
pub part_end : (text : List ℕ) (start at : ℕ) → start < at → IsStop text at → IsPartEnd text start (at - start)
part_end text start at later (inl e) = inl (omega (arith, e, later))
part_end text start at later (inr e) =
    let here : start + (at - start) ≡ at = omega (arith, later) in
    inr (omega (arith, later), subst (IsLineStart text) (sym here) (begins_line_at text at (omega (arith, later)) e))

-- of so many bytes what is read is the text from the line feed before the part on
module _ (text : List ℕ) (start reach : ℕ) where
  count_is : before (nat_eq start 0) + reach ≡ start + reach - (start - 1)
  count_is = omega (arith, before_at start)

  pub seen_is : seen (nat_eq start 0) reach (drop (start - 1) text) ≡ slice_range text (start - 1) (start + reach)
  seen_is = ap (λ k. take k (drop (start - 1) text)) count_is

  pub not_end : start ≤ length text → start + reach ≤ length text → sees_end (nat_eq start 0) reach (drop (start - 1) text) ≡ false
  not_end within l = grind (arith, nat_tests, length-drop (start - 1) text, before_at start, within, l)

  pub at_end : start ≤ length text → length text < start + reach → sees_end (nat_eq start 0) reach (drop (start - 1) text) ≡ true
  at_end within l = grind (arith, nat_tests, length-drop (start - 1) text, before_at start, within, l)

-- up to the first byte of the next part
module _ (text : List ℕ) (start end : ℕ) (e : IsEnd text start end) (within : end < length text) where
  later : start < end
  later = e.later (omega (arith, e.forward, within))

  start_at : is_start text end ≡ true
  start_at = by e.stop
    where
      by : IsStop text end → is_start text end ≡ true
      by (inl l) = absurd (omega (arith, l, within))
      by (inr s) = s

  pub start_byte : Begins text end
  start_byte = begins text end start_at

  long : length (slice_range text (start - 1) (end + 1)) ≡ end + 1 - (start - 1)
  long = length-take-le (end + 1 - (start - 1)) (drop (start - 1) text) (omega (arith, length-drop (start - 1) text, within, later))

  seen_here : seen (nat_eq start 0) (end - start + 1) (drop (start - 1) text) ≡ slice_range text (start - 1) (end + 1)
  seen_here = seen_is text start (end - start + 1) ∙ ap (slice_range text (start - 1)) (omega (arith, later))

  pub found_read : (known : Known) → IsRead (slice_range text (start - 1) (end + 1)) known
      → IsFound text start (record { size = end - start; reach = end - start + 1; known = known })
  found_read known h =
      let n = end + 1 - (start - 1) in
      let size : before (nat_eq start 0) + (end - start) + 1 ≡ length (slice_range text (start - 1) (end + 1)) =
      omega (arith, before_at start, long, later) in
      let feed : slice_index (slice_range text (start - 1) (end + 1)) (length (slice_range text (start - 1) (end + 1)) - 2) ≡ 10 =
      ap (slice_index (slice_range text (start - 1) (end + 1))) (omega (arith, long, later)) ∙ byte_is text (start - 1) (end + 1) (end - 1) (omega (arith, later)) (omega (arith, later))
      ∙ start_byte.line (omega (arith, later)) in
      let other : is_blank_or_line_end (slice_index (slice_range text (start - 1) (end + 1)) (length (slice_range text (start - 1) (end + 1)) - 1)) ≡ false =
      ap is_blank_or_line_end (ap (slice_index (slice_range text (start - 1) (end + 1))) (omega (arith, long, later)) ∙ byte_is text (start - 1) (end + 1) end (omega (arith, later)) (omega (arith, later)))
      ∙ start_byte.is_other in
      record {
        next = subst (λ t. parts.IsPartOf (nat_eq start 0) t (sees_end (nat_eq start 0) (end - start + 1) (drop (start - 1) text)) (record { size = end - start; reach = end - start + 1; known = known })) (sym seen_here)
            (parts.read (not_end text start (end - start + 1) (omega (arith, e.forward, within)) (omega (arith, later, within))) h size feed other);
        ends = part_end text start end later e.stop;
      }

-- up to the end of the text
module _ (text : List ℕ) (start : ℕ) (known : Known) (within : start ≤ length text) where
  seen_rest : seen (nat_eq start 0) (length text - start + 1) (drop (start - 1) text) ≡ drop (start - 1) text
  seen_rest = take_all _ (drop (start - 1) text) (omega (arith, length-drop (start - 1) text, before_at start, within))

  pub found_rest : IsFile (drop (start - 1) text) known
      → IsFound text start (record { size = length text - start; reach = length text - start + 1; known = known })
  found_rest h =
      let size : before (nat_eq start 0) + (length text - start) ≡ length (drop (start - 1) text) = omega (arith, length-drop (start - 1) text, before_at start, within) in
      record {
        next = subst (λ t. parts.IsPartOf (nat_eq start 0) t (sees_end (nat_eq start 0) (length text - start + 1) (drop (start - 1) text)) (record { size = length text - start; reach = length text - start + 1; known = known })) (sym seen_rest)
            (parts.last (at_end text start (length text - start + 1) within (omega (arith, within))) h size);
        ends = inl (omega (arith, within));
      }

pub start_within : (text : List ℕ) (start : ℕ) → IsPartStart text start → start ≤ length text
start_within text start (inl e) = omega (arith, e)
start_within text start (inr s) = omega (arith, s.within)

pub file_is : (text rest : List ℕ) (start from : ℕ) (known : Known) → rest ≡ drop from text → from ≡ start - 1
    → (ast : Ast) × IsRoot (codes "justfile") rest ast × IsRight (length rest) ast known → IsFile (drop (start - 1) text) known
file_is text rest start from known e f h =
    subst (λ t. IsFile t known) (e ∙ ap (λ k. drop k text) f) (record { ast = h.0; root = h.1; right = h.2 })

pub read_is : (text read : List ℕ) (start end from : ℕ) (found : Option Known) (known : Known) → read ≡ slice_range text from (end + 1) → from ≡ start - 1
    → found ≡ Some known → IfSome found (IsRead read) → IsRead (slice_range text (start - 1) (end + 1)) known
read_is text read start end from found known e f g h =
    subst (λ t. IsRead t known) (e ∙ ap (λ k. slice_range text k (end + 1)) f) (subst (λ o. IfSome o (IsRead read)) g h)

-- the text can be cut after the first byte of an item
pub cut_after : (text : List ℕ) (start end : ℕ) → IsUtf8 text → IsEnd text start end → end < length text → IsCharBoundary text (end + 1)
cut_after text start end utf8 e within = IsCharBoundary-after_ascii text end utf8 within (start_byte text start end e within).small

pub read_by : (src : List ℕ) (size : ℕ) (ast : Ast) (known : Known) → size ≡ length src - 1 → IsPart conditions (codes "justfile") src 0 [] ast → IsRight size ast known → IsRead src known
read_by src size ast known e p r = record { ast = ast; part = p; right = subst (λ n. IsRight n ast known) e r }
