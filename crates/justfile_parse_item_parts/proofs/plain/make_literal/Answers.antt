use Rattle.std.proofs.Common.{sym, subst}
use Rattle.justfile_vocabulary.specs.declared.keyword.Keyword.{Keyword}
use Rattle.justfile_model.specs.Meanings.Versions.{version_numbers}
use Rattle.justfile_parse_base.specs.ParseErrors.{ReadsRuled}
use Rattle.justfile_parse_item_parts.specs.PartTable.{literal_made}
use Rattle.justfile_parse_item_parts.proofs.plain.make_literal.Goals as goal
use Rattle.justfile_setting.specs.LeafSetting.{leaf_value_of}

pub returns-in-Indentation-clause-reads : goal.returns-in-Indentation-clause-reads
returns-in-Indentation-clause-reads c =
    let v = version_numbers c.args.current in
    λ s. subst (λ (k : Keyword). ReadsRuled leaf_value_of c.make_indentation.result s (literal_made v k c.args.literal s)) (sym c.in-Indentation.is) (c.make_indentation.ensures.reads v s)
