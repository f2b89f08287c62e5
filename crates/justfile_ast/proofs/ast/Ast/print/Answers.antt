use Rattle.std.proofs.Common.{◌∙◌}
use Rattle.std.proofs.lemmas.Result.{IfOk-weaker}
use Rattle.justfile_vocabulary.specs.Indentation.{indentation_text}
use Rattle.justfile_vocabulary.proofs.IndentationLemmas.{indentation_text_is}
use Rattle.justfile_ast.specs.Ast.{ast_shape}
use Rattle.justfile_ast.proofs.PrintedBack.{prints_back}
use Rattle.justfile_model.proofs.Printed.UncommentedText.{without_comments}
use Rattle.justfile_ast.proofs.ast.Ast.print.Goals as goal

pub returns-clause-reads_back : goal.returns-clause-reads_back
returns-clause-reads_back c =
    IfOk-weaker c.printed_text.result _ _
    (λ printed is. prints_back (ast_shape c.args.self.now) (indentation_text c.args.indentation) _ (indentation_text_is c.args.indentation) is)
    c.printed_text.ensures

pub returns-clause-uncommented : goal.returns-clause-uncommented
returns-clause-uncommented c =
    IfOk-weaker c.printed_text.result _ _
    (λ printed is none. is ∙ without_comments (ast_shape c.args.self.now) (indentation_text c.args.indentation) none)
    c.printed_text.ensures
