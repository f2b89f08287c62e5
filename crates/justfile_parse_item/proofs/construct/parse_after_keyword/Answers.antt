use Rattle.std.proofs.Common.{map}
use Rattle.justfile_parse_item.specs.ItemTable as reader
use Rattle.justfile_parse_item.specs.Pushes.{last_tree}
use Rattle.justfile_parse_attribute.specs.Attributes.{entry_of_pair}
use Rattle.justfile_parse_item.proofs.ConstructKeywords.{uncounted}
use Rattle.justfile_parse_item.proofs.construct.parse_after_keyword.Goals as goal

pub returns-in-Alias-clause-reads : goal.returns-in-Alias-clause-reads
returns-in-Alias-clause-reads g c =
    let A = g.X.Expander.answer in
    rw c.in-Alias.is
    (uncounted A (λ _. last_tree c.parse_alias.new.items.items) c.parse_alias.result c.args.numerator.now c.args.parser.now c.parse_alias.new.parser (reader.alias (map entry_of_pair c.args.attributes.items)) c.parse_alias.ensures.reads)

pub returns-in-Import-clause-reads : goal.returns-in-Import-clause-reads
returns-in-Import-clause-reads g c =
    let A = g.X.Expander.answer in
    rw c.in-Import.is
    (uncounted A (λ _. last_tree c.parse_import.new.items.items) c.parse_import.result c.args.numerator.now c.args.parser.now c.parse_import.new.parser (reader.import (map entry_of_pair c.args.attributes.items)) c.parse_import.ensures.reads)

pub returns-in-Mod-clause-reads : goal.returns-in-Mod-clause-reads
returns-in-Mod-clause-reads g c =
    let A = g.X.Expander.answer in
    rw c.in-Mod.is
    (uncounted A (λ _. last_tree c.parse_module.new.items.items) c.parse_module.result c.args.numerator.now c.args.parser.now c.parse_module.new.parser (reader.any_module (map entry_of_pair c.args.attributes.items)) c.parse_module.ensures.reads)

pub returns-in-Set-clause-reads : goal.returns-in-Set-clause-reads
returns-in-Set-clause-reads g c =
    let A = g.X.Expander.answer in
    rw c.in-Set.is
    (uncounted A (λ _. last_tree c.parse_set.new.items.items) c.parse_set.result c.args.numerator.now c.args.parser.now c.parse_set.new.parser (reader.setting (map entry_of_pair c.args.attributes.items)) c.parse_set.ensures.reads)

pub returns-in-Unexport-clause-reads : goal.returns-in-Unexport-clause-reads
returns-in-Unexport-clause-reads g c =
    let A = g.X.Expander.answer in
    rw c.in-Unexport.is
    (uncounted A (λ _. last_tree c.parse_unexport.new.items.items) c.parse_unexport.result c.args.numerator.now c.args.parser.now c.parse_unexport.new.parser (reader.unexport (map entry_of_pair c.args.attributes.items)) c.parse_unexport.ensures.reads)
