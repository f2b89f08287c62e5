-- What a room that a text was put into says of the text.
use Rattle.std.proofs.Common.{◌∙◌, ◌≡◌, subst, ℕ, List, take, drop, length, arith}
use Rattle.std.proofs.Math.Seq.{take-append_seam}
use Rattle.std.specs.Prelude.{codes, string_bytes}
use Rattle.justfile_canonical.specs.Fault.{IsFormatFaultOf, IsRejectionOf}
use Rattle.justfile_canonical.specs.declared.fault.FormatFault.{FormatFault}
use Rattle.justfile_canonical.specs.declared.fault.FormatFault.TheVariants.{Rejected}
use Rattle.justfile_canonical.specs.declared.fault.Rejection.{Rejection}
use Rattle.justfile_c.specs.Answers.{Gives, IsAt, IsLaid, IsRejected, laid, longer, rejected}
use Rattle.justfile_c.specs.declared.JustfileAnswer.{JustfileAnswer}

pub given : (Holds : List ℕ → Type 0) (text old new : List ℕ) (answer : JustfileAnswer) → Holds text → IsLaid text old new answer
    → Gives Holds answer new
given Holds text old new answer holds (laid same fits most is) = record {
  text = text;
  holds = holds;
  length_is = same;
  begins = λ one. (λ k. take (same k) (is k)) ∙ take-append_seam text (drop (length text) old);
}
given Holds text old new answer holds (longer same fits short is) = record {
  text = text;
  holds = holds;
  length_is = same;
  begins = λ one. let never : ⊥ = omega arith in absurd never;
}

-- The answer tells the place of the rejection's token.
rejection_told : (source : List ℕ) (rejection : Rejection) (answer : JustfileAnswer) → IsRejectionOf (codes "justfile") source rejection
    → IsAt rejection.offset rejection.length rejection.line rejection.column answer → IsRejected source answer (string_bytes rejection.lines)
rejection_told source rejection answer of at = rejected of.told (record {
  offset_is = at.offset_is ∙ of.place.offset;
  width_is = at.width_is ∙ of.place.length;
  line_is = at.line_is ∙ of.place.line;
  column_is = at.column_is ∙ of.place.column;
})

-- the same for the fault of a text that the bytes are
pub rejected_text : (bytes text : List ℕ) (fault : FormatFault) (rejection : Rejection) (answer : JustfileAnswer) → text ≡ bytes → fault ≡ Rejected rejection
    → IsFormatFaultOf (codes "justfile") text fault → IsAt rejection.offset rejection.length rejection.line rejection.column answer
    → IsRejected bytes answer (string_bytes rejection.lines)
rejected_text bytes text fault rejection answer same is of at =
    let found : IsFormatFaultOf (codes "justfile") text (Rejected rejection) = subst (λ (it : FormatFault). IsFormatFaultOf (codes "justfile") text it) is of
    in rejection_told bytes rejection answer (subst (λ (it : List ℕ). IsRejectionOf (codes "justfile") it rejection) same found) at
