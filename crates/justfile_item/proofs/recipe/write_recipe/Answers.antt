use Rattle.std.proofs.Common.{◌≡◌, ℕ, List, ◌++◌, ap, subst}
use Rattle.std.specs.Option.{option_copied}
use Rattle.justfile_vocabulary.specs.Indentation.{indentation_text}
use Rattle.justfile_model.specs.Printed.Printing.{body_text, after_line_text, header_text}
use Rattle.justfile_line.specs.Body.{line_shapes}
use Rattle.justfile_line.specs.declared.line.Line.{Line}
use Rattle.justfile_token.proofs.PutLemmas.{failed_at}
use Rattle.justfile_item.specs.Item.{header_shape}
use Rattle.justfile_item.specs.Recipe.{unresolved_recipe_text}
use Rattle.justfile_item.specs.declared.recipe.UnresolvedRecipe.{UnresolvedRecipe}
use Rattle.justfile_item.proofs.recipe.write_recipe.Goals as goal

-- the written pieces are the text of the recipe
written : (r : UnresolvedRecipe) (indentation : List ℕ) (lines : List Line) → lines ≡ r.body.items
    → header_text (header_shape r) ++ after_line_text (option_copied r.comment) ++ body_text indentation (line_shapes lines) ≡ unresolved_recipe_text r indentation
written r indentation lines e =
    ap (λ (l : List Line). header_text (header_shape r) ++ after_line_text (option_copied r.comment) ++ body_text indentation (line_shapes l)) e

pub returns-in_err-write_body : goal.returns-in_err-write_body
returns-in_err-write_body g c =
    let s = g.met.S.Sink in
    failed_at g.S.Sink.took g.S.Sink.failed _ c.from_residual-in_err-write_body.ensures.0 (subst (λ (t : List ℕ). g.S.Sink.failed c.args.sink.now t c.write_body.new.sink)
    (written c.args.recipe.now (indentation_text c.args.indentation) c.deref.result.now c.deref.ensures.value)
    (s.failed_later _ _ _ _ _ (s.took_more _ _ _ _ _ c.in_ok-write_header.ensures c.in_ok-write_comment.ensures) c.in_err-write_body.ensures))

pub returns : goal.returns
returns g c =
    let s = g.met.S.Sink in
    subst (λ (t : List ℕ). g.S.Sink.took c.args.sink.now t c.write_body.new.sink)
    (written c.args.recipe.now (indentation_text c.args.indentation) c.deref.result.now c.deref.ensures.value)
    (s.took_more _ _ _ _ _ (s.took_more _ _ _ _ _ c.in_ok-write_header.ensures c.in_ok-write_comment.ensures) c.in_ok-write_body.ensures)
