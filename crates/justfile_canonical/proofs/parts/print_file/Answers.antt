use Rattle.std.proofs.Common.{◌≡◌, ◌∙◌, ◌++◌, drop, refl, sym}
use Rattle.std.specs.Prelude.{string_bytes}
use Rattle.justfile_ast.specs.Ast.{ast_shape}
use Rattle.justfile_ast.specs.Separator.{front_text, last_separator}
use Rattle.justfile_canonical.specs.Parts.{own_items}
use Rattle.justfile_canonical.proofs.Printed.{adds, first_own, later_own, set_by}
use Rattle.justfile_canonical.proofs.parts.print_file.Goals as goal
use Rattle.justfile_canonical.proofs.parts.print_file.Goals.{then-is_first, else-is_first}

pub returns-in-Ok : goal.returns-in-Ok
returns-in-Ok c before h =
    let shape = ast_shape c.args.ast.now in
    let mid = c.set_indentation.ensures in
    let own : drop c.if-is_first.first shape ≡ own_items c.args.is_first shape = elim c.if-is_first.branch [
      | then-is_first w ↦ first_own shape c.args.is_first c.if-is_first.first w.if-is_first.true w.first-is
      | else-is_first w ↦ later_own shape c.args.is_first c.if-is_first.first w.if-is_first.false w.first-is
    ] in
    adds c.args.printer.now (record { printed = c.print_part.new.printed; separator = c.in-Ok.separator; indentation = c.set_indentation.new.self.indentation })
    c.args.is_first shape c.requires.line_end (sym c.printable.ensures ∙ c.if-not-printable.false) c.indentation.result c.set_indentation.new.self.indentation
    (set_by c.args.ast.now c.indentation.result c.requires.cooked c.indentation.ensures.first c.indentation.ensures.literal)
    c.in_ok-set_indentation.ensures.chosen refl
    (c.in-Ok.ensures.appends ∙ (λ i. string_bytes (mid.printed i) ++ front_text (c.indentation_in_use-indentation.ensures i) (mid.separator i) (own i)))
    (c.in-Ok.ensures.separator ∙ (λ i. last_separator (mid.separator i) (own i)))
    before h
