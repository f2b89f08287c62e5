-- A text in parts of which none is wrong is a justfile.
use Rattle.std.proofs.Common.{◌≡◌, ◌∙◌, ℕ, ◌+◌, ◌-◌, ◌<◌, Bool, true, false, List, [], ◌∷◌, ◌++◌, length, refl, sym, ap, subst, arith, Option, None, Some, length-append, true≢false}
use Rattle.std.specs.Prelude.{slice_index}
use Rattle.std.specs.List.{All}
use Rattle.std.proofs.lemmas.List.{get_or_append_left, get_or-append-add}
use Rattle.std.proofs.lemmas.List.Elements.{All-cons, All-nil}
use Rattle.justfile_model.specs.Lexing.BlankLines.{is_blank_or_line_end}
use Rattle.text_parts.specs.Parts.{before}
use Rattle.text_parts.specs.declared.part.Part.{Part}
use Rattle.justfile_ast.specs.declared.ast.Ast.{Ast}
use Rattle.justfile_canonical.specs.Root.{conditions}
use Rattle.editor_language.specs.declared.parts.Known.{Known}
use Rattle.editor_language.specs.declared.parts.PartProblem.{PartProblem}
use Rattle.editor_language.specs.Items.{moved_offset}
use Rattle.justfile_analysis.specs.InText.{AreToldAs, ProblemAt, problem_at, problems_from}
use Rattle.justfile_analysis.specs.Knowledge.{AreOfFiles, RightLaw, all_read_as, read_as}
use Rattle.justfile_analysis.specs.Parts as parts
use Rattle.justfile_analysis.specs.Parts.{IsPartOf, IsRight}
use Rattle.justfile_analysis.specs.RightParts.{IsJoined, Read, chunks_of}
use Rattle.justfile_analysis.specs.SeenParts.{AreAbout, IsAsRead, IsSeen}
use Rattle.justfile_analysis.proofs.RightParts.{right_parts_law}
use Rattle.justfile_analysis.proofs.SeenParts.{right_parts}

-- ---- parts of which none is wrong

IsNotWrong : Part Known → Type 0
IsNotWrong p = p.known.problem ≡ None

-- of no problem that is told the first one is none, and the others are none
first_right : (base : ℕ) (o : Option PartProblem) (others : List ProblemAt) → AreToldAs (problem_at base o ++ others) [] → (o ≡ None) × AreToldAs others []
first_right base None others told = (refl, told)
first_right base (Some problem) others told = absurd told

none_wrong : (start : ℕ) (ps : List (Part Known)) → AreToldAs (problems_from start ps) [] → All IsNotWrong ps
unfolding IsNotWrong
none_wrong start [] told = All-nil IsNotWrong
none_wrong start (p ∷ ps) told =
    let next = moved_offset start p.size in
    let all = first_right (start - 1) p.known.problem (problems_from next ps) told in
    All-cons IsNotWrong p ps all.0 (none_wrong next ps all.1)

-- ---- a part that was read up to the first byte of the next one

-- What was read has two bytes: a line feed, and the next one, which is another byte.
two_read : (seen : List ℕ) → slice_index seen (length seen - 2) ≡ 10 → is_blank_or_line_end (slice_index seen (length seen - 1)) ≡ false → 1 < length seen
two_read [] feed other = absurd (omega (arith, feed))
two_read (b ∷ []) feed other = absurd (true≢false (ap is_blank_or_line_end (sym feed) ∙ other))
two_read (b ∷ c ∷ seen) feed other = omega arith

module _ (seen text : List ℕ) (next : ℕ) (seen_is : seen ≡ text ++ (next ∷ [])) where
  long : length seen ≡ length text + 1
  long = ap length seen_is ∙ length-append text (next ∷ [])

  next_is_other : is_blank_or_line_end (slice_index seen (length seen - 1)) ≡ false → is_blank_or_line_end next ≡ false
  next_is_other other =
      let at : length text + 0 ≡ length seen - 1 = omega (arith, long) in
      ap is_blank_or_line_end (sym (get_or-append-add text (next ∷ []) 0 0) ∙ (λ i. slice_index (sym seen_is i) (at i))) ∙ other

  ends_in_feed : 1 < length seen → slice_index seen (length seen - 2) ≡ 10 → slice_index text (length text - 1) ≡ 10
  ends_in_feed two feed =
      let at : length text - 1 ≡ length seen - 2 = omega (arith, long) in
      sym (get_or_append_left text (next ∷ []) 0 (length text - 1) (omega (arith, two, long))) ∙ (λ i. slice_index (sym seen_is i) (at i)) ∙ feed

-- ---- what a part was read as

-- a part, and what was read of its file
record IsAbout (is_first : Bool) (p : Part Known) (r : Read) : Type 0 where
  ast : Ast
  read_is : r ≡ read_as ast p
  right : IsRight (before is_first + p.size) ast p.known

as_read : (is_first : Bool) (seen : List ℕ) (sees_end : Bool) (p : Part Known) → IsPartOf is_first seen sees_end p → IsNotWrong p
    → IsAsRead conditions IsAbout is_first seen sees_end p
unfolding IsNotWrong
as_read is_first seen sees_end p (parts.read e h size feed other) right =
    let text = h.part.text in
    let next = h.part.next in
    let seen_long = long seen text next h.part.src_is in
    let read_long : length seen - 1 ≡ before is_first + p.size = omega (arith, size) in
    record {
      r = read_as h.ast p;
      size_is = refl;
      is_seen = subst (λ b. IsSeen conditions is_first seen b (read_as h.ast p)) (sym e) (record {
        text = text;
        next = next;
        seen_is = h.part.src_is;
        read = h.part.read;
        size_is = omega (arith, size, seen_long);
        is_other = next_is_other seen text next h.part.src_is other;
        feed = ends_in_feed seen text next h.part.src_is (two_read seen feed other) feed;
      });
      about = record { ast = h.ast; read_is = refl; right = subst (λ n. IsRight n h.ast p.known) read_long h.right };
    }
as_read is_first seen sees_end p (parts.last e h size) right = record {
  r = read_as h.ast p;
  size_is = refl;
  is_seen = subst (λ b. IsSeen conditions is_first seen b (read_as h.ast p)) (sym e) (record { derives = h.root.from.parsed.derives; size_is = size });
  about = record { ast = h.ast; read_is = refl; right = subst (λ n. IsRight n h.ast p.known) (sym size) h.right };
}
as_read is_first seen sees_end p (parts.wrong h) right = let problem_is = h.problem_is in cc

-- ---- the files of the parts

record Files (is_first : Bool) (ps : List (Part Known)) (rs : List Read) : Type 0 where
  asts : List Ast
  are_of : AreOfFiles is_first asts ps
  are_read : rs ≡ all_read_as asts ps

files : (is_first : Bool) (ps : List (Part Known)) (rs : List Read) → AreAbout IsAbout is_first ps rs → Files is_first ps rs
files is_first [] [] about = record { asts = []; are_of = tt; are_read = refl }
files is_first [] (r ∷ rs) about = absurd about
files is_first (p ∷ ps) [] about = absurd about
files is_first (p ∷ ps) (r ∷ rs) about =
    let first = about.0 in
    let others = files false ps rs about.1 in
    record {
      asts = first.ast ∷ others.asts;
      are_of = (first.right, others.are_of);
      are_read = (λ i. first.read_is i ∷ others.are_read i);
    }

-- ---- the law

pub right_law : RightLaw
right_law text a knows none =
    let not_wrong = none_wrong 0 a.parts.items (subst (AreToldAs (problems_from 0 a.parts.items)) none knows.problems_are) in
    let read = right_parts conditions IsPartOf IsNotWrong IsAbout as_read knows.are_parts not_wrong in
    let found = files true a.parts.items read.rs read.about in
    record {
      asts = found.asts;
      are_of = found.are_of;
      is_joined = subst (λ rs. IsJoined conditions text rs (chunks_of text rs)) found.are_read (right_parts_law conditions text read.rs read.are_right);
    }
