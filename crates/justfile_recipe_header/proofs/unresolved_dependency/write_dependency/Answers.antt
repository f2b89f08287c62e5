use Rattle.std.proofs.Common.{◌≡◌, List, [], ℕ, rules, subst}
use Rattle.justfile_token.specs.Sink.{Puts}
use Rattle.justfile_recipe_header.proofs.Parts.{bare_parts, emptied}
use Rattle.justfile_recipe_header.proofs.unresolved_dependency.write_dependency.Goals as goal

pub returns-then-is_empty : goal.returns-then-is_empty
returns-then-is_empty g c =
    let none : c.args.dependency.now.arguments.items ≡ [] = emptied _ (grind (rules, c.is_empty.ensures, c.if-is_empty.true)) in
    subst (λ (t : List ℕ). Puts g.S.Sink.took g.S.Sink.failed c.args.sink.now c.write_namepath.result t c.write_namepath.new.sink) (bare_parts c.args.dependency.now none) c.write_namepath.ensures
