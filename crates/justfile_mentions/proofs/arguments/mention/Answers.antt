use Rattle.std.proofs.Common.{arith}
use Rattle.justfile_mentions.proofs.Plain.{has_quotes}
use Rattle.justfile_mentions.proofs.arguments.mention.Goals as goal

pub overflow_add-result : goal.overflow_add-result
overflow_add-result c = omega (arith, c.end-end.ensures, c.delimiter_len-quotes.ensures, has_quotes c.args.literal.now c.requires)

pub overflow_sub-result : goal.overflow_sub-result
overflow_sub-result c = omega (arith, c.end-end.ensures, c.delimiter_len-quotes.ensures, has_quotes c.args.literal.now c.requires)
