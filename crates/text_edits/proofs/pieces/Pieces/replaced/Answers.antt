use Rattle.std.proofs.Common.{◌≡◌, ◌∙◌, ◌++◌, ◌-◌, ℕ, List, drop, sym, ap, subst, arith}
use Rattle.std.specs.Str.{IsCharBoundary}
use Rattle.justfile_lines.specs.Positions.{IsOffset}
use Rattle.text_edits.specs.Pieces.{text_after, text_before}
use Rattle.text_edits.proofs.Cut.{cut_bound, put_in, put_length, put_utf8}
use Rattle.text_edits.proofs.pieces.Pieces.replaced.Goals as goal

pub skip-requires : goal.skip-requires
skip-requires c =
    let split = c.in_ok-here.ensures.same ∙ c.in_ok-end.ensures.same in
    let begins = (subst (λ (t : List ℕ). IsOffset c.args.self.encoding t c.args.range.start c.in_ok-here.here.offset) c.in_ok-end.ensures.same c.in_ok-here.ensures.offset).boundary in
    subst (IsCharBoundary (text_after c.seek-2.new.after.items)) (sym c.saturating_sub-taken.ensures)
    (cut_bound (text_before c.seek-2.new.before.items) (text_after c.seek-2.new.after.items) _ c.in_ok-here.here.offset c.in_ok-end.end.offset split (sym c.in_ok-here.ensures.count) begins
    c.in_ok-end.ensures.offset.boundary)

pub invariant_of-result : goal.invariant_of-result
invariant_of-result c =
    let front = text_before c.seek-2.new.before.items in
    let back = text_after c.seek-2.new.after.items in
    let next = text_after c.push_parts.new.after.items in
    let s = c.in_ok-here.here.offset in
    let e = c.in_ok-end.end.offset in
    let split = c.in_ok-here.ensures.same ∙ c.in_ok-end.ensures.same in
    let begins = (subst (λ (t : List ℕ). IsOffset c.args.self.encoding t c.args.range.start s) c.in_ok-end.ensures.same c.in_ok-here.ensures.offset).boundary in
    let ends = c.in_ok-end.ensures.offset.boundary in
    let put : next ≡ c.args.new.now ++ drop (e - s) back =
    c.in_ok-push_parts.ensures.text ∙ ap (λ (l : List ℕ). c.args.new.now ++ l) (c.in_ok-skip.ensures.text ∙ ap (λ (n : ℕ). drop n back) c.saturating_sub-taken.ensures)
    in
    let is = sym c.in_ok-here.ensures.count in
    let bound = cut_bound front back _ s e split is begins ends in
    record {
      are_pieces = record {
        leads = c.in_ok-here.ensures.leads;
        sized = c.in_ok-push_parts.ensures.sized c.args.self.encoding (c.in_ok-skip.ensures.sized c.args.self.encoding c.in_ok-here.ensures.sized);
        utf8 = put_utf8 front back _ s e split is c.args.new.now next put c.args.self.are_pieces.utf8 c.utf8.new begins ends;
        len_is = omega (
          arith,
          put_length front back _ s e split is c.args.new.now next put c.args.self.len c.args.self.are_pieces.len_is bound,
          c.in_ok-len.ensures.is,
          c.saturating_sub-taken.ensures,
        );
        short = c.in_ok-len.ensures.short;
      };
    }

pub returns-clause-text : goal.returns-clause-text
returns-clause-text c =
    let back = text_after c.seek-2.new.after.items in
    let s = c.in_ok-here.here.offset in
    let e = c.in_ok-end.end.offset in
    let put : text_after c.push_parts.new.after.items ≡ c.args.new.now ++ drop (e - s) back =
    c.in_ok-push_parts.ensures.text ∙ ap (λ (l : List ℕ). c.args.new.now ++ l) (c.in_ok-skip.ensures.text ∙ ap (λ (n : ℕ). drop n back) c.saturating_sub-taken.ensures)
    in
    record {
      start = s;
      end = e;
      starts = subst (λ (t : List ℕ). IsOffset c.args.self.encoding t c.args.range.start s) c.in_ok-end.ensures.same c.in_ok-here.ensures.offset;
      ends = c.in_ok-end.ensures.offset;
      is =
          put_in (text_before c.seek-2.new.before.items) back _ s e (c.in_ok-here.ensures.same ∙ c.in_ok-end.ensures.same) (sym c.in_ok-here.ensures.count) c.args.new.now
          (text_after c.push_parts.new.after.items) put;
    }
