use Rattle.std.proofs.Common.{rules, ◌≡◌, ◌∙◌, ◌++◌, ℕ, List, drop, map, sym, ap, subst}
use Rattle.std.specs.Prelude.{IfOk, OnOk, string_bytes}
use Rattle.std.proofs.lemmas.List.{drop-map}
use Rattle.std.proofs.lemmas.Simd.{map-map}
use Rattle.justfile_vocabulary.specs.Indentation.{indentation_text}
use Rattle.justfile_model.specs.Trees.Tree.{Shape, item_shape_of}
use Rattle.justfile_item.specs.Item.{item_of, item_shape}
use Rattle.justfile_item.specs.declared.item.Item.{Item}
use Rattle.justfile_ast.specs.Separator.{front_text, last_separator}
use Rattle.justfile_ast.proofs.ast.Ast.print_part.Goals as goal

-- the shape of the items from the first one on
rest_shape : (first : ℕ) (items all : List Item) → items ≡ all → map item_shape (drop first items) ≡ drop first (map item_shape_of (map item_of all))
rest_shape first items all e =
    sym (drop-map item_shape first items) ∙ ap (λ l. drop first (map item_shape l)) e ∙ ap (drop first) (sym (map-map item_shape_of item_of all))

pub returns-clause-separator : goal.returns-clause-separator
returns-clause-separator c =
    subst (λ (s : Shape). IfOk c.write_items.result (λ following. following ≡ last_separator c.args.separator s))
    (rest_shape c.args.first c.deref.result.now c.args.self.now.items.items c.deref.ensures.value) c.write_items.ensures.separator

pub returns-clause-appends : goal.returns-clause-appends
returns-clause-appends c =
    subst (λ (s : Shape). OnOk c.write_items.result (string_bytes c.write_items.new.sink ≡ string_bytes c.args.printed.now ++ front_text (indentation_text c.args.indentation) c.args.separator s))
    (rest_shape c.args.first c.deref.result.now c.args.self.now.items.items c.deref.ensures.value) (search (rules, c.write_items.ensures.puts))
