-- Settings after resolution.
use Rattle.std.specs.Prelude.{◌≡◌, ℕ, List, Option}
use Rattle.std.specs.List.{AllZip}
use Rattle.justfile_numbers.specs.declared.number.Number.{Number}
use Rattle.justfile_attribute.specs.declared.interpreter.Interpreter.{Interpreter}
use Rattle.justfile_expression.specs.Resolved.{IsResolved}
use Rattle.justfile_expression.specs.declared.expression.Expression.{Expression}
use Rattle.justfile_setting.specs.Setting.{Content, ExpressionContent, IndentationContent, InterpreterContent, PlainContent, TruthContent, content_of, keyword_of}
use Rattle.justfile_setting.specs.declared.setting.Setting.{Setting}

module _ (numbers : (name : List ℕ) → Option Number) where
  -- an interpreter: its command and its arguments are resolved
  pub record IsResolvedInterpreter (resolved original : Interpreter Expression) : Type 0 where
    pub command : IsResolved numbers resolved.command original.command
    pub arguments : AllZip (IsResolved numbers) resolved.arguments.items original.arguments.items

  -- what a setting has beside its name: its expressions are resolved, and the rest is the same
  abbrev pub IsResolvedContent : (resolved original : Content) → Type 0
  IsResolvedContent (TruthContent resolved) (TruthContent original) = resolved ≡ original
  IsResolvedContent (ExpressionContent resolved) (ExpressionContent original) = IsResolved numbers resolved original
  IsResolvedContent (InterpreterContent resolved) (InterpreterContent original) = IsResolvedInterpreter resolved original
  IsResolvedContent (PlainContent resolved) (PlainContent original) = resolved ≡ original
  IsResolvedContent (IndentationContent resolved indentation) (IndentationContent original indentation') = (resolved ≡ original) × (indentation ≡ indentation')
  IsResolvedContent _ _ = ⊥

  -- a setting of the same name: what it has is resolved
  abbrev pub IsResolvedSetting : (resolved original : Setting) → Type 0
  IsResolvedSetting resolved original = (keyword_of resolved ≡ keyword_of original) × IsResolvedContent (content_of resolved) (content_of original)
