-- What is told of a file.
use Rattle.std.proofs.Common.{◌≡◌, ◌∙◌, ℕ, Bool, true, List, [], Result, Ok, Err, IfOk, subst}
use Rattle.std.specs.Global.{Vec}
use Rattle.std.specs.List.{flat_map}
use Rattle.justfile_ast.specs.declared.ast.Ast.{Ast}
use Rattle.justfile_problems.specs.declared.circular.Circle.{Circle}
use Rattle.justfile_problems.specs.declared.facts.Definition.{Definition}
use Rattle.justfile_problems.specs.declared.facts.Use.{Use}
use Rattle.justfile_problems.specs.declared.problem.Problem.{Problem}
use Rattle.justfile_facts.specs.Uses.{item_uses}
use Rattle.justfile_lint.specs.Lint.{AreFindingsOf as AreLinted}
use Rattle.justfile_lint.specs.declared.file.Findings.{Findings}
use Rattle.justfile_findings.specs.Findings.{AreFindings}
use Rattle.editor_language.specs.declared.parts.Finding.{Finding}
use Rattle.justfile_analysis.specs.Parts.{IsNone}
use Rattle.justfile_server.specs.Findings.{AreBeside, AreFindingsOf, AreInText, of_none, of_rest}

-- what is told of what was found
pub of_file : {E : Type 0} (imported : Bool) (ast : Ast) (linted : Findings) (ps : List Problem) (cs : List Circle) (ds : List Definition) (us : List Use) (r : Result (Vec Finding) E)
    → AreLinted imported ast linted → ps ≡ linted.problems.items → cs ≡ linted.circles.items → ds ≡ linted.facts.definitions.items → us ≡ linted.facts.uses.items
    → IfOk r (λ found. AreFindings ds us ps cs found.items) → IfOk r (λ found. AreFindingsOf imported ast found.items)
of_file imported ast linted ps cs ds us (Err e) are ps_are cs_are ds_are us_are told = tt
of_file imported ast linted ps cs ds us (Ok found) are ps_are cs_are ds_are us_are told = record {
  problems = linted.problems.items;
  all = are.all;
  in_order = are.in_order;
  circles = linted.circles.items;
  are = are.circles;
  told =
      subst (λ (it : List Definition). AreFindings it (flat_map item_uses ast.items.items) linted.problems.items linted.circles.items found.items) (ds_are ∙ are.facts.definitions)
      (subst (λ (it : List Use). AreFindings ds it linted.problems.items linted.circles.items found.items) (us_are ∙ are.facts.uses)
      (subst (λ (it : List Circle). AreFindings ds us linted.problems.items it found.items) cs_are
      (subst (λ (it : List Problem). AreFindings ds us it cs found.items) ps_are told)));
}

-- what is told of a text without a tree
pub without_tree : {E : Type 0} (r : Result (Vec Finding) E) (imported : Bool) (text : List ℕ) → IsNone text → IfOk r (λ found. found.items ≡ []) → IfOk r (λ found. AreInText imported text found.items)
without_tree (Ok found) imported text none h = of_none none h
without_tree (Err e) imported text none h = tt

-- what is told beside what is wrong
pub beside : {E : Type 0} (r : Result (Vec Finding) E) (text rest : List ℕ) → text ≡ rest → IfOk r (λ found. AreInText true text found.items) → IfOk r (λ found. AreBeside rest found.items)
beside (Ok found) text rest same are = of_rest (subst (λ t. AreInText true t found.items) same are)
beside (Err e) text rest same are = tt
