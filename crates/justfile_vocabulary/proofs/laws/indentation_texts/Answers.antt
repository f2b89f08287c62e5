use Rattle.std.proofs.Common.{length, slice_index}
use Rattle.justfile_vocabulary.proofs.IndentationLemmas.{all_equal, indentation_read, indentation_taken, replicate_all}
use Rattle.justfile_vocabulary.proofs.laws.indentation_texts.Goals as goal

pub returns-clause-complete : goal.returns-clause-complete
returns-clause-complete c = λ text is. (
  record { character = slice_index text 0; count = length text; is_blank = is.blank; is_positive = is.nonempty },
  replicate_all (slice_index text 0) text (all_equal text is),
)

pub returns-clause-refused : goal.returns-clause-refused
returns-clause-refused c = λ text. (indentation_read text, indentation_taken text)
