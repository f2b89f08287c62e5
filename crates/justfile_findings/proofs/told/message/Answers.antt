use Rattle.justfile_token.specs.Messages.{message_text}
use Rattle.justfile_findings.proofs.Asked.{with, without}
use Rattle.justfile_findings.proofs.told.message.Goals as goal

pub returns-in-None : goal.returns-in-None
returns-in-None c = without c.plain_message.result (message_text c.args.error.now) c.args.suggestion c.in-None.is c.plain_message.ensures

pub returns-in-Some : goal.returns-in-Some
returns-in-Some c = with c.asking_message.result (message_text c.args.error.now) c.args.suggestion c.in-Some.name c.in-Some.is c.asking_message.ensures
