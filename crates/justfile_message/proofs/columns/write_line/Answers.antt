use Rattle.std.proofs.Common.{◌++◌, append_assoc, arith, codes, refl, sym, ap, subst, ◌∙◌}
use Rattle.std.proofs.Output.{has_written_append, has_written_of_eq}
use Rattle.std.specs.Str.{NoCharPasses}
use Rattle.justfile_message.specs.Columns.{is_tab, shown_line}
use Rattle.justfile_message.proofs.ColumnLemmas.{after_tab, shown_plain, shown_tab}
use Rattle.justfile_message.proofs.columns.write_line.Goals as goal

pub loop-text-smaller : goal.loop-text-smaller
loop-text-smaller g c =
    let (n, m, found, front, back, _, _, size) = c.in-Some.ensures.cases in
    omega (arith, found.1.ends, size, c.in_ok-text.ensures.rest.1)

pub loop-text-preserved : goal.loop-text-preserved
loop-text-preserved g c =
    let text = c.in_ok-text.text.now in
    let before = c.in-Some.before.now in
    let after = c.in-Some.after.now in
    let utf8 = c.in_ok-text.ensures.rest.0 in
    let (n, m, found, front, back, _, _, _) = c.in-Some.ensures.cases in
    let (none, at) = found in
    let later = after_tab text before after n m utf8 at front back in
    let shown = shown_tab text before after utf8 later.0 (subst (NoCharPasses is_tab) (sym front) none) later.1 in (
      later.0,
      λ plain.
          let (start, started, whole) = c.loop-text.invariant.1 plain in
          let (tabs, tabbed, rest) = c.in_ok-text.ensures.front started.plain in
          let so_far = has_written_append _ _ _ _ _ _ started tabbed in
          let both = has_written_append _ _ _ _ _ _ so_far (c.in_ok-write_str.ensures.writes so_far.plain refl) in
          let all = has_written_append _ _ _ _ _ _ both (c.in_ok-write_str-2.ensures.writes both.plain refl) in (
            ((start ++ tabs) ++ before) ++ codes "    ",
            all,
            append_assoc ((start ++ tabs) ++ before) (codes "    ") (shown_line after)
                ∙ append_assoc (start ++ tabs) before (codes "    " ++ shown_line after)
                ∙ ap (λ l. (start ++ tabs) ++ l) (sym shown)
                ∙ append_assoc start tabs (shown_line text)
                ∙ ap (λ l. start ++ l) rest
                ∙ whole,
          ),
    )

pub returns-in_default : goal.returns-in_default
returns-in_default g c = λ plain ok.
    let text = c.in_ok-text.text.now in
    let (start, started, whole) = c.loop-text.invariant.1 plain in
    let (tabs, tabbed, rest) = c.in_ok-text.ensures.front started.plain in
    let so_far = has_written_append _ _ _ _ _ _ started tabbed in
    let last = has_written_append _ _ _ _ _ _ so_far (c.write_str.ensures.writes so_far.plain ok) in
    has_written_of_eq _ _ _ _ _
    (append_assoc start tabs text
    ∙ ap (λ l. start ++ (tabs ++ l)) (sym (shown_plain text c.in_ok-text.ensures.rest.0 c.in_default.ensures.cases))
    ∙ ap (λ l. start ++ l) rest
    ∙ whole)
    last
