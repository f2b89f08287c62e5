use Rattle.std.proofs.Common.{rules, refl, ap}
use Rattle.justfile_token.specs.declared.compile_error_kind.CompileErrorKind.TheVariants as kinds
use Rattle.justfile_problems.proofs.error.kind_of.Goals as goal

pub returns-in-Ok : goal.returns-in-Ok
returns-in-Ok c =
    rw c.in-DependencyCount.is (record {
      path = c.in-Ok.dependency;
      is = ap (λ most. kinds.DependencyArgumentCountMismatch c.in-Ok.dependency c.in-DependencyCount.found c.in-DependencyCount.takes.least most) c.unwrap_or.ensures;
      has = search rules;
    })

pub returns-in-DuplicateDefault : goal.returns-in-DuplicateDefault
returns-in-DuplicateDefault c = rw c.in-DuplicateDefault.is (record { said = c.lexeme-text.result; is = refl; has = search rules })

pub returns-in-DuplicateFunctionParameter : goal.returns-in-DuplicateFunctionParameter
returns-in-DuplicateFunctionParameter c =
    rw c.in-DuplicateFunctionParameter.is (record { said = c.lexeme.result; other = c.lexeme-text.result; is = refl; has_first = search rules; has_second = search rules })

pub returns-in-DuplicateParameter : goal.returns-in-DuplicateParameter
returns-in-DuplicateParameter c =
    rw c.in-DuplicateParameter.is (record { said = c.lexeme-in-DuplicateParameter.result; other = c.lexeme-text.result; is = refl; has_first = search rules; has_second = search rules })

pub returns-in-DuplicateSet : goal.returns-in-DuplicateSet
returns-in-DuplicateSet c = rw c.in-DuplicateSet.is (record { said = c.lexeme-text.result; is = refl; has = search rules })

pub returns-in-DuplicateUnexport : goal.returns-in-DuplicateUnexport
returns-in-DuplicateUnexport c = rw c.in-DuplicateUnexport.is (record { said = c.lexeme-text.result; is = refl; has = search rules })

pub returns-in-DuplicateVariable : goal.returns-in-DuplicateVariable
returns-in-DuplicateVariable c = rw c.in-DuplicateVariable.is (record { said = c.lexeme-text.result; is = refl; has = search rules })

pub returns-in-ExportUnexported : goal.returns-in-ExportUnexported
returns-in-ExportUnexported c = rw c.in-ExportUnexported.is (record { said = c.lexeme-text.result; is = refl; has = search rules })

pub returns-in-FunctionCount : goal.returns-in-FunctionCount
returns-in-FunctionCount c =
    rw c.in-FunctionCount.is (record { said = c.lexeme-text.result; range = c.new.result; is = refl; start = search rules; end = search rules; has = search rules })

pub returns-in-Redefinition : goal.returns-in-Redefinition
returns-in-Redefinition c = rw c.in-Redefinition.is (record { said = c.lexeme-text.result; is = refl; has = search rules })

pub returns-in-RequiredParameter : goal.returns-in-RequiredParameter
returns-in-RequiredParameter c = rw c.in-RequiredParameter.is (record { said = c.lexeme-text.result; is = refl; has = search rules })

pub returns-in-UndefinedFunction : goal.returns-in-UndefinedFunction
returns-in-UndefinedFunction c = rw c.in-UndefinedFunction.is (record { said = c.lexeme-text.result; is = refl; has = search rules })

pub returns-in-UndefinedVariable : goal.returns-in-UndefinedVariable
returns-in-UndefinedVariable c = rw c.in-UndefinedVariable.is (record { said = c.lexeme-text.result; is = refl; has = search rules })

pub returns-in-Ok-path_to : goal.returns-in-Ok-path_to
returns-in-Ok-path_to c =
    rw c.in-UnknownAliasTarget.is (record { said = c.lexeme-text.result; path = c.in-Ok-path_to.target; is = refl; has_text = search rules; has_path = search rules })

pub returns-in-Ok-path_to-2 : goal.returns-in-Ok-path_to-2
returns-in-Ok-path_to-2 c =
    rw c.in-UnknownDependency.is (record { said = c.lexeme-in-Ok-path_to-2.result; path = c.in-Ok-path_to-2.unknown; is = refl; has_text = search rules; has_path = search rules })

pub returns-in-InvalidShellRecipeAttribute : goal.returns-in-InvalidShellRecipeAttribute
returns-in-InvalidShellRecipeAttribute c = rw c.in-InvalidShellRecipeAttribute.is (record { said = c.lexeme-text.result; is = refl; has = search rules })
