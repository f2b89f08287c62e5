use Rattle.std.proofs.Common.{rules, ◌≡◌, ◌<◌, sym, subst, arith}
use Rattle.std.specs.Prelude.{nat_eq}
use Rattle.std.proofs.lemmas.Str.{IsCharBoundary-after_ascii}
use Rattle.justfile_chunks.specs.PartTables.{IsLineStart}
use Rattle.justfile_canonical.specs.Parts.{IsPartText, text_to}
use Rattle.justfile_canonical.proofs.InParts.{part_text}
use Rattle.justfile_canonical.proofs.parts.print_next.Goals as goal

pub range_inclusive-requires-clause-end_boundary : goal.range_inclusive-requires-clause-end_boundary
range_inclusive-requires-clause-end_boundary c =
    let cut = c.in-Some-find_cut.cut in
    let s = subst (λ t. IsLineStart t cut) c.as_bytes.ensures.value c.in-Some-find_cut.ensures.start in
    IsCharBoundary-after_ascii c.args.source.now cut c.utf8.source s.within s.small

pub print_before-requires : goal.print_before-requires
print_before-requires c =
    let cut = c.in-Some-find_cut.cut in
    let s = subst (λ t. IsLineStart t cut) c.as_bytes.ensures.value c.in-Some-find_cut.ensures.start in
    let kept = c.loop-attempt.invariant in
    let later : c.args.at < cut = omega (arith, kept.1, kept.2, c.in-Some.ensures, c.in-Some-find_cut.ensures.later) in
    let is : c.range_inclusive.result.now ≡ text_to c.args.source.now c.args.at cut = search rules in
    subst (IsPartText (nat_eq c.args.at 0)) (sym is) (part_text c.args.source.now c.args.at cut later s.within c.requires)
