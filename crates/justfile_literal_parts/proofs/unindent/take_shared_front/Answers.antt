use Rattle.std.proofs.Common.{◌∙◌, ap, sym, take, [], ◌∷◌, nat_eq, arith}
use Rattle.std.specs.List.{list_all}
use Rattle.std.proofs.lemmas.List.Sums.{common_prefix_len-le}
use Rattle.justfile_vocabulary.specs.Indentation.{is_space_or_tab}
use Rattle.justfile_literal_parts.proofs.SharedFronts.{run_cut, shared_blank, shared_two}
use Rattle.justfile_literal_parts.proofs.unindent.take_shared_front.Goals as goal

pub split_at-requires : goal.split_at-requires
split_at-requires c = run_cut c.args.run.now c.shared_len.result c.requires (omega (arith, c.shared_len.ensures, (common_prefix_len-le nat_eq c.args.run.now c.args.other.now).0))

front : goal.returns-clause-front
front c = c.split_at.ensures.front ∙ ap (λ n. take n c.args.run.now) c.shared_len.ensures ∙ sym (shared_two c.args.run.now c.args.other.now)

pub returns-clause-front : goal.returns-clause-front
returns-clause-front c = front c

pub returns-clause-blank : goal.returns-clause-blank
returns-clause-blank c = ap (list_all is_space_or_tab) (front c) ∙ shared_blank c.args.run.now (c.args.other.now ∷ []) c.requires
