-- Parts that are rejected.
use Rattle.std.proofs.Common.{◌≡◌, inl, inr, ℕ, ◌+◌, ◌-◌, ◌<◌, ◌≤◌, true, List, length, take, drop, Some, ap, sym, subst, ◌∙◌, arith}
use Rattle.std.specs.Prelude.{Bool, codes, min, nat_eq}
use Rattle.std.specs.List.{slice_range}
use Rattle.std.proofs.lemmas.List.{length-drop, take-take, take_all}
use Rattle.text_parts.proofs.Fitting.{before_at}
use Rattle.text_parts.specs.Parts.{before, seen, sees_end}
use Rattle.text_parts.specs.Places.{IsLineStart, IsPartEnd}
use Rattle.text_parts.specs.declared.part.Part.{Part}
use Rattle.justfile_ast.specs.declared.ast.Ast.{Ast}
use Rattle.justfile_canonical.specs.Root.{IsRoot}
use Rattle.editor_language.specs.declared.mention.Mention.{Mention}
use Rattle.editor_language.specs.declared.parts.Item.{Item}
use Rattle.editor_language.specs.declared.parts.Known.{Known}
use Rattle.editor_language.specs.declared.parts.PartProblem.{PartProblem}
use Rattle.justfile_recovery.specs.Starts.{is_start}
use Rattle.justfile_analysis.specs.Ends.{IsEnd, IsStop}
use Rattle.justfile_analysis.specs.Parts.{AreBefore, AreOfFront, AreOfText, IsFound, IsPartOf, IsRight, IsWrong, MayEnd, TellsWhy, read_of}
use Rattle.justfile_analysis.proofs.FoundParts.{at_end, seen_is}
use Rattle.justfile_analysis.proofs.Starts.{begins, begins_line_at, start_in}

-- ---- what is read

-- the beginning of what is read is a part of the text
front : (text : List ℕ) (start to reach : ℕ) → to ≤ start + reach → take (to - (start - 1)) (seen (nat_eq start 0) reach (drop (start - 1) text)) ≡ read_of text start to
front text start to reach h =
    take-take (to - (start - 1)) (before (nat_eq start 0) + reach) (drop (start - 1) text) (omega (arith, before_at start, h))

abbrev Seen : (text : List ℕ) (start reach : ℕ) → List ℕ
Seen text start reach = seen (nat_eq start 0) reach (drop (start - 1) text)

abbrev SeesEnd : (text : List ℕ) (start reach : ℕ) → Bool
SeesEnd text start reach = sees_end (nat_eq start 0) reach (drop (start - 1) text)

-- the items of the lines before another one, in what is read
of_front : (text : List ℕ) (start reach line : ℕ) (items : List Item) (mentions : List Mention) → line ≤ start + reach → AreBefore text start line items mentions
    → AreOfFront (Seen text start reach) items mentions
of_front text start reach line items mentions h (inl none) = inl none
of_front text start reach line items mentions h (inr are) =
    inr (line - (start - 1), subst (λ src. AreOfText src items mentions) (sym (front text start line reach h)) are)

-- what is known of the file of the lines before another one
pub of_lines : (text read : List ℕ) (start from line : ℕ) (known : Known) (ast : Ast) → from ≡ start - 1 → read ≡ slice_range text from line → IsRoot (codes "justfile") read ast
    → IsRight (length read) ast known → AreBefore text start line known.items.items known.mentions.items
of_lines text read start from line known ast from_is read_is root right =
    let same : read ≡ read_of text start line = read_is ∙ ap (λ n. slice_range text n line) from_is in
    inr (subst (λ src. AreOfText src known.items.items known.mentions.items) same (ast, root, right.items_are, right.mentions_are))

-- ---- where a part ends

-- The next part begins where one may: after an error in this one, or at its end.
pub record IsAfter (text : List ℕ) (start end at next : ℕ) : Type 0 where
  pub in_part : at ≤ end
  pub after : min (start + 1) end ≤ next
  pub within : next ≤ end
  pub stop : IsStop text next

ends_at : (text : List ℕ) (start end at next size : ℕ) → IsEnd text start end → start ≤ at → IsAfter text start end at next → start + size ≡ next → IsPartEnd text start size
ends_at text start end at next size e from a is = by a.stop
  where
    by : IsStop text next → IsPartEnd text start size
    by (inl last) = inl (omega (arith, last, is))
    by (inr begin) =
        let b = begins text next begin in
        let later : start < next = omega (arith, b.within, e.later, a.after, a.within, a.in_part, from, is) in
        inr (omega (arith, later, is), subst (IsLineStart text) (sym is) (begins_line_at text next (omega (arith, later)) begin))

-- what was read may end where the part may
may_end : (text : List ℕ) (start reach end : ℕ) → IsEnd text start end → end < start + reach
    → MayEnd (Seen text start reach) (SeesEnd text start reach) (end - (start - 1))
may_end text start reach end e read = by e.stop
  where
    within : start ≤ length text
    within = omega (arith, e.forward, e.within)

    by : IsStop text end → MayEnd (Seen text start reach) (SeesEnd text start reach) (end - (start - 1))
    by (inl last) =
        let all : Seen text start reach ≡ drop (start - 1) text =
        take_all _ (drop (start - 1) text) (omega (arith, length-drop (start - 1) text, before_at start, within, last, read)) in
        inl (at_end text start reach within (omega (arith, last, read)), omega (arith, ap length all, length-drop (start - 1) text, last))
    by (inr begin) =
        inr (subst (λ read. is_start read (end - (start - 1)) ≡ true) (sym (seen_is text start reach))
        (start_in text (start - 1) (start + reach) end (omega (arith, e.forward)) read begin))

-- ---- a part

-- a part that is rejected up to an end is wrong
wrong : (text : List ℕ) (start end next line : ℕ) (p : Part Known) (problem : PartProblem) → IsEnd text start end → TellsWhy (read_of text start end) problem
    → next ≤ end → start + p.size ≡ next → p.known.problem ≡ Some problem → end < start + p.reach → line ≤ end → AreBefore text start line p.known.items.items p.known.mentions.items
    → IsWrong (nat_eq start 0) (Seen text start p.reach) (SeesEnd text start p.reach) p
wrong text start end next line p problem e why within size is read l items = record {
  problem = problem;
  problem_is = is;
  count = end - (start - 1);
  may_end = may_end text start p.reach end e read;
  tells = subst (λ src. TellsWhy src problem) (sym (front text start end p.reach (omega (arith, read)))) why;
  size_within = omega (arith, before_at start, within, size, e.forward);
  are_of_front = of_front text start p.reach line p.known.items.items p.known.mentions.items (omega (arith, read, l)) items;
}

-- a part that is rejected up to an end is the next one
pub found : (text : List ℕ) (start end at line next : ℕ) (p : Part Known) (problem : PartProblem) → IsEnd text start end → TellsWhy (read_of text start end) problem → start ≤ at
    → IsAfter text start end at next → start + p.size ≡ next → p.known.problem ≡ Some problem → end < start + p.reach → line ≤ at → AreBefore text start line p.known.items.items p.known.mentions.items → IsFound text start p
found text start end at line next p problem e why from a size is read l items = record {
  next = IsPartOf.wrong (wrong text start end next line p problem e why a.within size is read (omega (arith, l, a.in_part)) items);
  ends = ends_at text start end at next p.size e from a size;
}
