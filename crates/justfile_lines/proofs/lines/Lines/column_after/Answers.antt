use Rattle.std.proofs.Common.{◌≡◌, ◌+◌, ◌∙◌, ℕ, drop, take, ap, arith}
use Rattle.justfile_lines.specs.Positions.{column_at, width}
use Rattle.justfile_lines.proofs.Places.{column_bound, column_more}
use Rattle.justfile_lines.proofs.lines.Lines.column_after.Goals as goal

pub overflow_add-result : goal.overflow_add-result
overflow_add-result c =
    let text = c.args.self.now.text.now in
    let between : c.width.result ≡ width c.args.encoding (drop c.args.known.offset (take c.args.offset text)) =
    c.width.ensures
    ∙ ap (width c.args.encoding) (c.split_at-2.ensures.back ∙ ap (drop c.args.known.offset) (c.split_at.ensures.front ∙ ap (take c.args.offset) c.as_bytes.ensures.value))
    in
    omega (
      arith,
      between,
      c.as_bytes.ensures.len,
      column_bound c.args.encoding text c.args.self.now.starts.items c.args.known.offset c.args.offset c.args.self.now.are_starts c.requires.order c.requires.within
          (c.requires.line ∙ c.requires.place.line_is),
    )

pub returns : goal.returns
returns c =
    let text = c.args.self.now.text.now in
    let between : c.width.result ≡ width c.args.encoding (drop c.args.known.offset (take c.args.offset text)) =
    c.width.ensures
    ∙ ap (width c.args.encoding) (c.split_at-2.ensures.back ∙ ap (drop c.args.known.offset) (c.split_at.ensures.front ∙ ap (take c.args.offset) c.as_bytes.ensures.value))
    in
    ap (λ (n : ℕ). n + c.width.result) c.requires.place.column_is
    ∙ ap (λ (n : ℕ). column_at c.args.encoding text c.args.known.offset + n) between
    ∙ column_more c.args.encoding text c.args.self.now.starts.items c.args.known.offset c.args.offset c.args.self.now.are_starts c.requires.order c.requires.within
    (c.requires.line ∙ c.requires.place.line_is)
