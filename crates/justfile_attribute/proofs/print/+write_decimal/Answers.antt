use Rattle.std.proofs.Common.{rules, arith}
use Rattle.std.proofs.lemmas.Fmt.{decimal_digit, decimal_step}
use Rattle.justfile_attribute.proofs.print.+write_decimal.Goals as goal

pub returns-then-number-lt10 : goal.returns-then-number-lt10
returns-then-number-lt10 g t c = rw (decimal_digit c.args.number (omega arith)) (search rules)

pub returns-in_err-write_decimal : goal.returns-in_err-write_decimal
returns-in_err-write_decimal g t c = rw (decimal_step c.args.number (omega arith) (omega arith)) (search rules)

pub returns : goal.returns
returns g t c = rw (decimal_step c.args.number (omega arith) (omega arith)) (search rules)
