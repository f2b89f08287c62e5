use Rattle.std.proofs.Common.{◌≡◌, eqb, false, length, ap, ◌∙◌, rules}
use Rattle.std.specs.List.{list_any}
use Rattle.std.specs.Str.{bytes_eq}
use Rattle.justfile_scan.proofs.StackLemmas.{level_is}
use Rattle.justfile_scan.proofs.mode.Mode.is_level.Goals as goal

pub returns-else-is_empty : goal.returns-else-is_empty
returns-else-is_empty c =
    let some : eqb (length c.args.text.now) 0 ≡ false = search (rules, c.if-is_empty.ensures) in
    c.contains.ensures ∙ ap (list_any (λ t. bytes_eq t.now c.args.text.now)) c.deref.ensures.value ∙ level_is c.args.self.now.levels.items c.args.text.now some
