use Rattle.std.proofs.Common.{◌≡◌, ◌∙◌, ap, string_bytes, sym}
use Rattle.std.specs.Cmp.{on_total}
use Rattle.std.specs.Cmp.Derive.Mapped.{lex_map}
use Rattle.std.specs.Cmp.Lexicographic.{nat_list_cmp_total, lists_total}
use Rattle.std.specs.Ordering.{is_eq}
use Rattle.justfile_token.specs.Modulepath.{names_of}
use Rattle.justfile_token.specs.contracts.modulepath.ModulepathOrd.TheImpl as modulepath_order
use Rattle.justfile_token.specs.contracts.modulepath.ModulepathOrd.TheImpl.Laws.{matches_eq-law}
use Rattle.justfile_token.specs.declared.modulepath.Modulepath.{Modulepath}
use Rattle.justfile_model.specs.Trees.ContentLeaf.{text_cmp}
use Rattle.justfile_expression.specs.Orders.{modulepath_cmp}
use Rattle.justfile_expression.proofs.laws.modulepaths_ordered.Goals as goal

by_texts : (x y : Modulepath) → modulepath_order.cmp-value.it x y ≡ modulepath_cmp x y
by_texts x y = sym (lex_map string_bytes text_cmp x.names.items y.names.items)

pub returns : goal.returns
returns c = record {
  is = by_texts;
  total = on_total names_of (lists_total nat_list_cmp_total);
  ties = λ x y. matches_eq-law x y ∙ ap is_eq (by_texts x y);
}
