use Rattle.std.proofs.Common.{◌≡◌, OnOk, map, subst}
use Rattle.std.specs.Prelude.{Bool, List}
use Rattle.justfile_item.specs.declared.item.Item.{Item}
use Rattle.justfile_model.specs.Readers.ReaderState.{prepend}
use Rattle.justfile_parse_expression.specs.ParsedResults.{Parses}
use Rattle.justfile_parse_item.specs.DerivedFields.{KeepsDerivedFields}
use Rattle.justfile_parse_item.specs.ItemTable as reader
use Rattle.justfile_parse_item.specs.Tree.{item_tree}
use Rattle.justfile_parse_item.proofs.items.end_item.Goals as goal

pub returns-clause-reads : goal.returns-clause-reads
returns-clause-reads g c =
    let P : Bool → Type 0 = λ b. Parses g.X.Expander.answer (λ _. map item_tree c.parse_item_end.new.items.items) c.parse_item_end.result c.args.parser.now
    c.parse_item_end.new.parser (λ s. prepend (map item_tree c.args.items.now.items) (reader.item_end b s)) in
    let Q : List Item → Type 0 = λ l. Parses g.X.Expander.answer (λ _. map item_tree c.parse_item_end.new.items.items) c.parse_item_end.result c.args.parser.now
    c.parse_item_end.new.parser (λ s. prepend (map item_tree l) (reader.item_end c.ends_in_body-has_body.result s)) in
    subst P c.ends_in_body-has_body.ensures.body (subst Q c.ends_in_body-has_body.ensures.unchanged c.parse_item_end.ensures.reads)

pub returns-clause-fields : goal.returns-clause-fields
returns-clause-fields g c =
    let P : List Item → Type 0 = λ l. OnOk c.parse_item_end.result (KeepsDerivedFields l c.parse_item_end.new.items.items) in
    subst P c.ends_in_body-has_body.ensures.unchanged c.parse_item_end.ensures.fields
