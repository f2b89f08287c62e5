use Rattle.std.proofs.Common.{List, Bor, ℕ}
use Rattle.std.proofs.lemmas.List.Elements.{All-rest}
use Rattle.justfile_model.specs.LiteralTexts.Unindent.{IsIndented}
use Rattle.justfile_literal_parts.proofs.unindent.join_lines.Goals as goal

pub push_later_lines-requires : goal.push_later_lines-requires
push_later_lines-requires c = All-rest (λ (line : Bor (List ℕ)). IsIndented c.args.run.now line.now) _ _ _ c.in-Some.ensures.cases.0 c.requires
