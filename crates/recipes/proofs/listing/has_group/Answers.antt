use Rattle.std.proofs.Common.{◌∙◌, ap, string_bytes}
use Rattle.std.specs.List.{list_any}
use Rattle.std.specs.Str.{bytes_eq}
use Rattle.recipes.proofs.Loops.{any_map}
use Rattle.recipes.proofs.listing.has_group.Goals as goal

pub returns : goal.returns
returns c =
    c.is_text.ensures ∙ ap (list_any (λ text. bytes_eq c.args.name.now (string_bytes text))) c.deref.ensures.value
    ∙ any_map string_bytes (bytes_eq c.args.name.now) c.args.symbol.now.groups.items
