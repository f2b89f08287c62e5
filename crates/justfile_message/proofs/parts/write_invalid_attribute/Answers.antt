use Rattle.justfile_message.proofs.parts.write_invalid_attribute.Goals as goal

pub returns : goal.returns
returns g c = rw c.name-attribute.ensures at c.write.ensures.writes
