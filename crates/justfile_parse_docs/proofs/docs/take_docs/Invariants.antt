use Rattle.std.proofs.Common.{◌≡◌, ◌≤◌, length}
use Rattle.justfile_parse_docs.specs.Docs.{taken_docs}
use Rattle.justfile_parse_item.specs.DerivedFields.{HaveDerivedFields}
use Rattle.justfile_parse_docs.proofs.docs.take_docs.Given as goal

abbrev pub invariant-loop-index : goal.invariant-loop-index
invariant-loop-index l = record {
  trees : taken_docs l.kept l.index l.items.items ≡ taken_docs l.count l.count l.initial.items.items;
  order : l.kept ≤ l.index;
  len : length l.items.items ≡ length l.initial.items.items;
  fields : HaveDerivedFields l.items.items;
}
