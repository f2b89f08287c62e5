use Rattle.std.proofs.Common.{◌∙◌, ap, sym}
use Rattle.justfile_parse_docs.specs.Docs.{item_can_take_doc}
use Rattle.justfile_parse_item.specs.Tree.{item_tree}
use Rattle.justfile_parse_docs.proofs.DocSteps.{lacks_is}
use Rattle.justfile_parse_docs.proofs.docs.can_take_doc.Goals as goal

pub returns-in-Module : goal.returns-in-Module
returns-in-Module c = c.lacks_doc.ensures ∙ lacks_is c.in-Module.attributes c.in-Module.doc ∙ ap (λ i. item_can_take_doc (item_tree i)) (sym c.in-Module.is)

pub returns-in-Recipe : goal.returns-in-Recipe
returns-in-Recipe c = c.lacks_doc-in-Recipe.ensures ∙ lacks_is c.in-Recipe.recipe.attributes c.in-Recipe.recipe.doc ∙ ap (λ i. item_can_take_doc (item_tree i)) (sym c.in-Recipe.is)
