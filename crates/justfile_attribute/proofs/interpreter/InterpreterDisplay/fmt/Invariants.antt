use Rattle.std.proofs.Common.{drop}
use Rattle.justfile_attribute.specs.Interpreter.{interpreter_output, later_output}
use Rattle.justfile_attribute.proofs.Shown.{ShownBut}
use Rattle.justfile_attribute.proofs.interpreter.InterpreterDisplay.fmt.Given as goal

abbrev pub invariant-loop-argument : goal.invariant-loop-argument
invariant-loop-argument g l =
    ShownBut g.W.Write.write_str_gives l.fn.f l.f (interpreter_output g.T.Display.output l.self)
    (later_output g.T.Display.output (drop l.argument-index l.self.arguments.items))
