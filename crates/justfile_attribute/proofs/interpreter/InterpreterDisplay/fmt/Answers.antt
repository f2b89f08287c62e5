use Rattle.std.proofs.Common.{rules, arith}
use Rattle.justfile_attribute.specs.Interpreter.{interpreter_output}
use Rattle.justfile_attribute.proofs.Shown.{shown, shown_on}
use Rattle.justfile_attribute.proofs.interpreter.InterpreterDisplay.fmt.Goals as goal

pub loop-argument-preserved : goal.loop-argument-preserved
loop-argument-preserved g c =
    shown_on g.W.Write.write_str_gives g.T.Display.output c.args.self.now.arguments.items c.args.f.now c.loop-argument.f (interpreter_output g.T.Display.output c.args.self.now)
    c.loop-argument.argument-index c.argument-item.result (omega arith) (search rules) c.loop-argument.invariant c.write_later.new.f
    (shown g.W.Write.write_str_gives c.loop-argument.f c.write_later.new.f _ c.in_ok-write_later.ensures)
