use Rattle.std.proofs.Common.{rules, ◌≡◌}
use Rattle.std.proofs.lemmas.Iterator.{YieldsList-from_slice, first_from_find}
use Rattle.std.proofs.lemmas.Iterator.Consumers.{YieldsList-from_copied}
use Rattle.justfile_vocabulary.specs.Keyword.{keyword_text}
use Rattle.justfile_vocabulary.specs.declared.keyword.Keyword.{Keyword}
use Rattle.justfile_vocabulary.specs.declared.keyword.TheConstants.{KEYWORDS}
use Rattle.justfile_vocabulary.proofs.KeywordTable.{either_way}
use Rattle.justfile_vocabulary.proofs.keyword.Keyword.from_lexeme.Goals as goal

pub returns : goal.returns
returns c =
    let spelled : Keyword → Type 0 = λ k. c.args.lexeme.now ≡ keyword_text k in
    either_way c.find.result spelled
    (first_from_find _ _ c.find.result spelled (λ k. ¬ spelled k) c.find.ensures.ran
    (YieldsList-from_copied (YieldsList-from_slice KEYWORDS cc)) (λ x q k. search rules) (λ x q k. search rules))
