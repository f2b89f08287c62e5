use Rattle.std.proofs.Common.{◌≡◌, ◌∙◌, [], List, ℕ, false, true, arith, subst, sym}
use Rattle.message_stream.specs.Field.{ends_header, length_in}
use Rattle.message_stream.specs.Header.{later}
use Rattle.message_stream.proofs.Headers.{is_some, passed_all, passed_more}
use Rattle.message_stream.proofs.header.read_header.Goals as goal

pub lines-preserved : goal.lines-preserved
lines-preserved g c = (
  passed_more _ _ _ _ _ _ c.in_ok-read.read.items c.lines.invariant.0 c.in_ok-read.ensures
      (subst (λ (l : List ℕ). l ≡ [] → ⊥) c.as_slice-line.ensures.value (is_some c.as_slice-line.result.now c.is_empty.result c.is_empty.ensures c.if-is_empty.false))
      (subst (λ (l : List ℕ). ends_header l ≡ false) c.as_slice-line.ensures.value (sym c.is_last.ensures ∙ c.if-is_last.false))
      (subst (λ (l : List ℕ). c.latest-length.result ≡ later c.lines.length (length_in l)) c.as_slice-line.ensures.value c.latest-length.ensures),
  omega (arith, c.lines-test.true),
)

pub returns-then-is_last : goal.returns-then-is_last
returns-then-is_last g c =
    passed_all _ _ _ _ _ c.in_ok-read.read.items _ c.lines.invariant.0 c.in_ok-read.ensures
    (subst (λ (l : List ℕ). l ≡ [] → ⊥) c.as_slice-line.ensures.value (is_some c.as_slice-line.result.now c.is_empty.result c.is_empty.ensures c.if-is_empty.false))
    (subst (λ (l : List ℕ). ends_header l ≡ true) c.as_slice-line.ensures.value (sym c.is_last.ensures ∙ c.if-is_last.true)) c.ended.ensures
