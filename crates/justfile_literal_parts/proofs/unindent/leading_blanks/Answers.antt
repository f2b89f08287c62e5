use Rattle.std.proofs.Common.{◌∙◌, ap, sym, subst, take}
use Rattle.std.specs.Str.{IsCharBoundary}
use Rattle.std.specs.List.{list_all}
use Rattle.justfile_vocabulary.specs.Indentation.{is_space_or_tab}
use Rattle.justfile_literal_parts.proofs.SharedFronts.{blanks_cut, leading_blank}
use Rattle.justfile_literal_parts.proofs.unindent.leading_blanks.Goals as goal

pub split_at-requires : goal.split_at-requires
split_at-requires c = subst (IsCharBoundary c.args.line.now) (sym c.blank_len.ensures) (blanks_cut c.args.line.now c.utf8.line)

pub returns-clause-blank : goal.returns-clause-blank
returns-clause-blank c = ap (list_all is_space_or_tab) (c.split_at.ensures.front ∙ ap (λ n. take n c.args.line.now) c.blank_len.ensures) ∙ leading_blank c.args.line.now
