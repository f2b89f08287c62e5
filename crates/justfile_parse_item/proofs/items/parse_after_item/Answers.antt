use Rattle.std.proofs.Common.{ℕ, ◌≡◌, ap, sym, ◌∙◌, List, [], ◌∷◌, ◌++◌, map}
use Rattle.justfile_token.specs.declared.token.Token.{Token}
use Rattle.justfile_model.specs.Trees.Tree.{OrderedItem}
use Rattle.justfile_model.specs.Readers.ReaderState.{prepend}
use Rattle.justfile_parse_expression.specs.TableReader.{leaves}
use Rattle.justfile_parse_item.specs.ItemTable.{line_end}
use Rattle.justfile_parse_item.specs.Tree.{item_tree}
use Rattle.justfile_expression.specs.LeafTree.{Leaf}
use Rattle.justfile_parse_expression.specs.View.{state_of}
use Rattle.justfile_parse_item.proofs.Hashes.{begins_hash}
use Rattle.justfile_parse_item.proofs.Lines.{after_comment}
use Rattle.justfile_parse_item.proofs.ReadEquations.{reads_alike}
use Rattle.justfile_parse_item.proofs.DerivedItemFields.{after_ok, pushed_fields}
use Rattle.justfile_parse_item.proofs.items.parse_after_item.Goals as goal

pub make_comment-requires : goal.make_comment-requires
make_comment-requires g c = begins_hash c.in-Some.field-0.now c.in-Some.ensures.table_token

pub returns-in_ok-push_item-in-Some-clause-reads : goal.returns-in_ok-push_item-in-Some-clause-reads
unfolding leaves
returns-in_ok-push_item-in-Some-clause-reads g c =
    let A = g.X.Expander.answer in
    let done : List (OrderedItem Leaf Token ℕ) = map item_tree c.args.items.now.items in
    let rest = state_of A c.accept.new.self in
    let more : map item_tree c.push_item.new.items.items ≡ done ++ item_tree c.make_comment.result ∷ [] = c.in_ok-push_item-in-Some.ensures.trees in
    reads_alike _ _ _ _ _
    (ap (λ (l : List (OrderedItem Leaf Token ℕ)). prepend l (line_end rest)) (more ∙ ap (λ (i : OrderedItem Leaf Token ℕ). done ++ i ∷ []) c.make_comment.ensures.tree)
    ∙ sym (after_comment done (state_of A c.args.parser.now) c.in-Some.field-0.now rest c.in-Some.ensures.takes))
    c.parse_line_end.ensures.reads

pub returns-in_ok-push_item-in-Some-clause-fields : goal.returns-in_ok-push_item-in-Some-clause-fields
returns-in_ok-push_item-in-Some-clause-fields g c =
    after_ok c.parse_line_end.result c.args.items.now.items c.push_item.new.items.items c.parse_line_end.new.items.items
    (pushed_fields c.args.items.now.items c.push_item.new.items.items c.make_comment.result c.in_ok-push_item-in-Some.ensures.pushed c.make_comment.ensures.fields)
    c.parse_line_end.ensures.fields
