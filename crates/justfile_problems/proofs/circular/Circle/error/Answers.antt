use Rattle.std.proofs.Common.{◌∙◌, ap, rules}
use Rattle.justfile_problems.specs.declared.facts.Use.{Use}
use Rattle.justfile_problems.proofs.Rings.{tells_recipe, tells_variable}
use Rattle.justfile_problems.proofs.circular.Circle.error.Goals as goal

pub returns-in-Dependency : goal.returns-in-Dependency
returns-in-Dependency c =
    tells_recipe c.args.self.now.first.role c.in-Dependency.field-0 c.args.self.now _ c.in-Dependency.is
    (record {
      recipe = c.lexeme-recipe.result;
      circle = c.in_ok-circle.circle;
      at = c.error.ensures.token ∙ ap (λ (u : Use). u.name.token) c.last-last.ensures;
      is = c.error.ensures.kind;
      has = search rules;
      names = c.in_ok-circle.ensures;
    })

pub returns-in_default : goal.returns-in_default
returns-in_default c =
    tells_variable c.args.self.now.first.role c.args.self.now _ c.in_default.not-Dependency
    (record {
      variable = c.lexeme-variable.result;
      circle = c.in_ok-circle.circle;
      at = c.error-in_default.ensures.token;
      is = c.error-in_default.ensures.kind;
      has = search rules;
      names = c.in_ok-circle.ensures;
    })
