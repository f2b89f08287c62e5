use Rattle.std.proofs.Common.{◌≡◌, ◌∙◌, ◌-◌, ℕ, List, ap, sym, subst, take, arith, inl, inr, true}
use Rattle.std.proofs.lemmas.Bool.{cases_lt}
use Rattle.std.specs.Str.{IsCharBoundary}
use Rattle.justfile_lines.specs.Going.{IsInText, is_past, place_after}
use Rattle.justfile_lines.proofs.Ahead.{all_in_text, count_is, ended, next_in_text, next_offset, next_place, not_a_bound, not_past_before, stopped}
use Rattle.justfile_lines.proofs.position.Place.up_to.Goals as goal

pub bytes-init : goal.bytes-init
bytes-init c =
    let line = c.to_line-here in
    let text = c.args.text.now in
    let same = c.as_bytes-bytes.ensures.value in
    let at = line.result.offset - c.args.self.offset in
    let boundary : IsCharBoundary text at = subst (λ (t : List ℕ). IsCharBoundary t at) same line.ensures.boundary in
    let is : line.result ≡ place_after c.args.encoding c.args.self (take at text) =
    line.ensures.is c.args.encoding ∙ ap (λ (t : List ℕ). place_after c.args.encoding c.args.self (take at t)) same in
    let not_past = not_past_before c.args.position c.args.self line.result c.requires.up_to line.ensures.before in
    record {
      within = boundary.0;
      kept = omega arith;
      boundary = boundary;
      latest = λ other _ le. le;
      last_is = is;
      here_is = is;
      last_up_to = not_past;
      here_up_to = not_past;
      in_text = subst IsInText (sym is) (all_in_text c.args.encoding c.args.self (take at text) c.requires.place);
      offset = omega (arith, line.ensures.from);
    }

pub returns : goal.returns
returns c =
    let i = c.bytes.invariant in (
      c.bytes.count,
      ended c.args.encoding c.args.self c.bytes.last c.args.text.now c.args.position c.bytes.count c.bytes.at i.boundary i.last_up_to i.last_is i.latest
          (omega (arith, c.bytes-test.false, c.as_bytes-bytes.ensures.len)),
      i.last_is,
      count_is c.args.encoding c.args.self c.bytes.last c.args.text.now c.bytes.count i.boundary.0 i.last_is,
    )

pub returns-then-is_past : goal.returns-then-is_past
returns-then-is_past c =
    let i = c.bytes.invariant in
    let lt = c.bytes-test.true in
    let e = next_place c.args.encoding c.args.self c.bytes.here c.after_byte-here.result c.args.text.now c.as_bytes-bytes.result.now c.bytes.at (omega (arith, lt, c.as_bytes-bytes.ensures.len)) c.as_bytes-bytes.ensures.value i.here_is c.after_byte-here.ensures in (
      c.bytes.count,
      stopped c.args.encoding c.args.self c.bytes.last c.args.text.now c.args.position c.bytes.count c.bytes.at i.boundary i.last_up_to i.last_is i.latest
          (subst (λ q. is_past c.args.position q ≡ true) e (sym c.is_past.ensures ∙ c.if-is_past.true)),
      i.last_is,
      count_is c.args.encoding c.args.self c.bytes.last c.args.text.now c.bytes.count i.boundary.0 i.last_is,
    )

pub bytes-preserved-then-is_char_boundary : goal.bytes-preserved-then-is_char_boundary
bytes-preserved-then-is_char_boundary c =
    let i = c.bytes.invariant in
    let lt = c.bytes-test.true in
    let e = next_place c.args.encoding c.args.self c.bytes.here c.after_byte-here.result c.args.text.now c.as_bytes-bytes.result.now c.bytes.at (omega (arith, lt, c.as_bytes-bytes.ensures.len)) c.as_bytes-bytes.ensures.value i.here_is c.after_byte-here.ensures in
    let not_past = sym c.is_past.ensures ∙ c.if-is_past.false in
    record {
      within = omega (arith, lt, c.as_bytes-bytes.ensures.len);
      kept = omega arith;
      boundary = c.is_char_boundary.ensures.test.0 c.if-is_char_boundary.true;
      latest = λ other _ le. le;
      last_is = e;
      here_is = e;
      last_up_to = not_past;
      here_up_to = not_past;
      in_text = next_in_text c.args.encoding c.bytes.here c.after_byte-here.result _ i.in_text c.after_byte-here.ensures;
      offset = next_offset c.args.encoding c.bytes.here c.after_byte-here.result _ c.args.self.offset c.bytes.at c.after_byte-here.ensures i.offset;
    }

pub bytes-preserved : goal.bytes-preserved
bytes-preserved c =
    let i = c.bytes.invariant in
    let lt = c.bytes-test.true in
    let e = next_place c.args.encoding c.args.self c.bytes.here c.after_byte-here.result c.args.text.now c.as_bytes-bytes.result.now c.bytes.at (omega (arith, lt, c.as_bytes-bytes.ensures.len)) c.as_bytes-bytes.ensures.value i.here_is c.after_byte-here.ensures in
    let not_past = sym c.is_past.ensures ∙ c.if-is_past.false in
    record {
      within = omega (arith, lt, c.as_bytes-bytes.ensures.len);
      kept = omega (arith, i.kept);
      boundary = i.boundary;
      latest = λ other bound le. elim (cases_lt c.bytes.at other) [
        | inl after ↦ not_a_bound c.is_char_boundary.result c.args.text.now other c.bytes.at c.is_char_boundary.ensures.test c.if-is_char_boundary.false bound (omega (arith, after, le)) c.bytes.count
        | inr before ↦ i.latest other bound before
      ];
      last_is = i.last_is;
      here_is = e;
      last_up_to = i.last_up_to;
      here_up_to = not_past;
      in_text = next_in_text c.args.encoding c.bytes.here c.after_byte-here.result _ i.in_text c.after_byte-here.ensures;
      offset = next_offset c.args.encoding c.bytes.here c.after_byte-here.result _ c.args.self.offset c.bytes.at c.after_byte-here.ensures i.offset;
    }
