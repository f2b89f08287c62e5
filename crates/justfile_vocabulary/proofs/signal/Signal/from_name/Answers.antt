use Rattle.std.proofs.Common.{rules, tests, ◌∙◌, sym}
use Rattle.std.proofs.lemmas.Iterator.{YieldsList-from_slice}
use Rattle.std.proofs.lemmas.Iterator.Adapters.{option_map_id}
use Rattle.std.proofs.lemmas.Iterator.Consumers.{YieldsList-from_copied}
use Rattle.std.proofs.lemmas.Iterator.Search.{find_from_yields_List}
use Rattle.std.specs.Str.{bytes_eq}
use Rattle.justfile_vocabulary.specs.Signal.{signal_name, signal_named}
use Rattle.justfile_vocabulary.specs.declared.signal.TheConstants.{SIGNALS}
use Rattle.justfile_vocabulary.proofs.signal.Signal.from_name.Goals as goal

pub returns : goal.returns
unfolding signal_named
returns c =
    sym (option_map_id c.find.result)
    ∙ find_from_yields_List (λ k. bytes_eq (signal_name k) c.args.name.now) _ _ c.find.result c.find.ensures.ran
    (YieldsList-from_copied (YieldsList-from_slice SIGNALS cc)) (λ x b q k. search (rules, tests))
