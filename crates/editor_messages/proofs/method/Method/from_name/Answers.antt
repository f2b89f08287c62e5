use Rattle.std.proofs.Common.{◌∙◌, rules, sym, tests}
use Rattle.std.specs.Str.{bytes_eq}
use Rattle.std.proofs.lemmas.Iterator.{YieldsList-from_slice}
use Rattle.std.proofs.lemmas.Iterator.Adapters.{option_map_id}
use Rattle.std.proofs.lemmas.Iterator.Consumers.{YieldsList-from_copied}
use Rattle.std.proofs.lemmas.Iterator.Search.{find_from_yields_List}
use Rattle.editor_messages.specs.Methods.{method_name, method_named}
use Rattle.editor_messages.specs.declared.method.TheConstants.{METHODS}
use Rattle.editor_messages.proofs.method.Method.from_name.Goals as goal

pub returns : goal.returns
unfolding method_named
returns c =
    sym (option_map_id c.find.result)
    ∙ find_from_yields_List (λ method. bytes_eq (method_name method) c.args.name.now) _ _ c.find.result c.find.ensures.ran
    (YieldsList-from_copied (YieldsList-from_slice METHODS cc)) (λ x b q k. search (rules, tests))
