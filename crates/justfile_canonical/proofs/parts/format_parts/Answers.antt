use Rattle.std.proofs.Common.{rules, ◌≡◌, ◌<◌, None, Some, refl, subst, sym, arith}
use Rattle.std.specs.Prelude.{IfNone, IfSome, string_bytes}
use Rattle.justfile_canonical.specs.Parts.{IsPrintedTo}
use Rattle.justfile_canonical.proofs.InParts.{InParts, at_first, finished_if, more}
use Rattle.justfile_canonical.proofs.parts.format_parts.Goals as goal

pub parts-init : goal.parts-init
parts-init c = at_first c.args.source.now _ (record { text = c.in-Ok.ensures.bytes; separator = refl; can_be_printed = refl; indented = tt })

pub parts-preserved : goal.parts-preserved
parts-preserved c =
    let found : c.in-Ok-Some.field-0 ≡ Some c.in-Ok-Some.cut = search (rules, c.in-Ok-Some.field-0-is) in
    more c.args.source.now c.parts.at c.in-Ok-Some.cut c.parts.printer c.print_next.new.printer c.parts.invariant
    (subst (λ o. IfSome o (λ cut. IsPrintedTo c.args.source.now c.parts.at cut c.parts.printer c.print_next.new.printer)) found c.in-Ok-Some.ensures.printed)

pub returns : goal.returns
returns c =
    let above : 0 < c.parts.at = omega (arith, c.if-at-eq0.false) in
    let none : c.in-Ok-None.field-0 ≡ None = search (rules, c.in-Ok-None.field-0-is) in
    let same : c.print_next.new.printer ≡ c.parts.printer = subst (λ o. IfNone o (c.print_next.new.printer ≡ c.parts.printer)) none c.in-Ok-None.ensures.same in
    finished_if string_bytes c.finish.result c.args.source.now c.range_from.result.now c.parts.at c.print_next.new.printer
    (subst (InParts c.args.source.now c.parts.at) (sym same) c.parts.invariant) above c.range_from.ensures.value c.finish.ensures
