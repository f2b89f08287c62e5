use Rattle.justfile_parse_attribute.proofs.repeated.repeated_label_fault.Goals as goal

pub returns-then-is_arg : goal.returns-then-is_arg
returns-then-is_arg c = λ first same. rw c.if-is_arg.true (c.repeated_argument_fault.ensures first same)

pub returns-else-is_arg : goal.returns-else-is_arg
returns-else-is_arg c = λ first same. rw c.if-is_arg.false (c.repeated_group_fault.ensures first same)
