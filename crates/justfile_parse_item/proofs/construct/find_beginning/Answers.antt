use Rattle.std.proofs.Common.{rules, tests, ◌∙◌, sym}
use Rattle.std.proofs.lemmas.Iterator.{YieldsList-from_slice}
use Rattle.std.proofs.lemmas.Iterator.Adapters.{option_map_id}
use Rattle.std.proofs.lemmas.Iterator.Consumers.{YieldsList-from_copied}
use Rattle.std.proofs.lemmas.Iterator.Search.{find_from_yields_List}
use Rattle.std.specs.Str.{bytes_eq}
use Rattle.justfile_vocabulary.specs.Keyword.{keyword_text}
use Rattle.justfile_parse_item.specs.declared.construct.TheConstants.{BEGINNINGS}
use Rattle.justfile_parse_item.proofs.construct.find_beginning.Goals as goal

pub returns : goal.returns
returns c =
    sym (option_map_id c.find.result)
    ∙ find_from_yields_List (λ row. bytes_eq c.args.word.now (keyword_text row.1)) _ _ c.find.result c.find.ensures.ran
    (YieldsList-from_copied (YieldsList-from_slice BEGINNINGS cc)) (λ x b q k. search (rules, tests))
