use Rattle.justfile_expression.specs.ContentLaws.{expression_content_total}
use Rattle.justfile_expression.proofs.ContentTies.{expression_content_ties}
use Rattle.justfile_expression.proofs.laws.expression_contents_ordered.Goals as goal

pub returns : goal.returns
returns c = record { total = expression_content_total; ties = expression_content_ties }
