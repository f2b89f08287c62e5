use Rattle.std.proofs.Common.{ap, ◌∙◌}
use Rattle.std.specs.Str.{trim_end}
use Rattle.justfile_token.specs.Token.{lexeme_of}
use Rattle.justfile_parse_item.proofs.Hashes.{still_hash}
use Rattle.justfile_parse_item.proofs.items.make_comment.Goals as goal

pub returns-clause-fields : goal.returns-clause-fields
returns-clause-fields c = still_hash (lexeme_of c.args.comment) c.trim_end.result.now (c.trim_end.ensures.trim ∙ ap trim_end c.lexeme.ensures) c.requires
