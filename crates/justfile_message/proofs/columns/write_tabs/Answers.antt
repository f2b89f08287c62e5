use Rattle.std.proofs.Common.{◌≡◌, [], ◌++◌, ◌+◌, append-nil, arith, codes, refl, rules, sym, ap, ◌∙◌}
use Rattle.std.proofs.Output.{has_written_append}
use Rattle.std.specs.List.{repeat}
use Rattle.justfile_message.specs.Columns.{shown_line}
use Rattle.justfile_message.proofs.ColumnLemmas.{after_tab, has_written_from_styled, more_tabs, shown_front_tab}
use Rattle.justfile_message.proofs.columns.write_tabs.Goals as goal

pub loop-after-smaller-then-tabs-eq-TABS_AT_ONCE : goal.loop-after-smaller-then-tabs-eq-TABS_AT_ONCE
loop-after-smaller-then-tabs-eq-TABS_AT_ONCE g c = let (n, at, back, size) = c.in-Some.ensures.cases in omega (arith, at.ends, size)

pub loop-after-smaller : goal.loop-after-smaller
loop-after-smaller g c = let (n, at, back, size) = c.in-Some.ensures.cases in omega (arith, at.ends, size)

pub loop-after-preserved-then-tabs-eq-TABS_AT_ONCE : goal.loop-after-preserved-then-tabs-eq-TABS_AT_ONCE
loop-after-preserved-then-tabs-eq-TABS_AT_ONCE g c =
    let i = c.loop-after.invariant in
    let rest = c.loop-after.rest.now in
    let after = c.in-Some.after.now in
    let (n, at, back, size) = c.in-Some.ensures.cases in
    let later = after_tab rest [] after 0 n i.is_text at refl back in
    let shown = shown_front_tab rest after i.is_text later.0 later.1 in
    let full : c.loop-after.tabs + 1 ≡ 8 = search (rules, c.if-tabs-eq-TABS_AT_ONCE.true) in
    record {
      is_text = later.0;
      shorter = omega (arith, i.shorter, at.ends, size);
      text = i.text ++ codes "                                ";
      few = omega arith;
      all =
          ap (λ l. l ++ shown_line after) (append-nil _) ∙ ap (λ k. (i.text ++ repeat k (codes "    ")) ++ shown_line after) (sym full)
          ∙ more_tabs i.text c.loop-after.tabs (shown_line after) _ (ap (λ l. (i.text ++ repeat c.loop-after.tabs (codes "    ")) ++ l) (sym shown) ∙ i.all);
      written = λ plain.
          let before = i.written plain in
          has_written_append _ _ _ _ _ _ before (c.in_ok-write_str.ensures.writes before.plain refl);
    }

pub loop-after-preserved : goal.loop-after-preserved
loop-after-preserved g c =
    let i = c.loop-after.invariant in
    let rest = c.loop-after.rest.now in
    let after = c.in-Some.after.now in
    let (n, at, back, size) = c.in-Some.ensures.cases in
    let later = after_tab rest [] after 0 n i.is_text at refl back in
    let shown = shown_front_tab rest after i.is_text later.0 later.1 in
    record {
      is_text = later.0;
      shorter = omega (arith, i.shorter, at.ends, size);
      text = i.text;
      few = omega (arith, i.few, c.if-tabs-eq-TABS_AT_ONCE.false);
      all = more_tabs i.text c.loop-after.tabs (shown_line after) _ (ap (λ l. (i.text ++ repeat c.loop-after.tabs (codes "    ")) ++ l) (sym shown) ∙ i.all);
      written = i.written;
    }

pub returns-clause-rest : goal.returns-clause-rest
returns-clause-rest g c = (c.loop-after.invariant.is_text, c.loop-after.invariant.shorter)

pub returns-clause-front : goal.returns-clause-front
returns-clause-front g c = λ plain.
    let i = c.loop-after.invariant in
    let before = i.written plain in
    let spaces = has_written_from_styled _ _ _ _ before.plain (c.in_ok-write_repeated.ensures.styled before.plain.flush refl) in
    (i.text ++ repeat c.loop-after.tabs (codes "    "), has_written_append _ _ _ _ _ _ before spaces, i.all)
