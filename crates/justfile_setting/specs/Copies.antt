-- Copies of settings.
use Rattle.std.specs.Prelude.{◌≡◌}
use Rattle.justfile_attribute.specs.Interpreters.{IsSameExpressionInterpreter}
use Rattle.justfile_token.specs.StringLiteral.{IsSameLiteral}
use Rattle.justfile_expression.specs.Copies.{IsSameExpression}
use Rattle.justfile_setting.specs.Setting.{Content, ExpressionContent, IndentationContent, InterpreterContent, PlainContent, TruthContent, content_of, keyword_of}
use Rattle.justfile_setting.specs.declared.setting.Setting.{Setting}

-- a copy of what a setting has beside its name: the same form, and all fields are the same
abbrev pub IsSameContent : (copy original : Content) → Type 0
IsSameContent (TruthContent copy) (TruthContent original) = copy ≡ original
IsSameContent (ExpressionContent copy) (ExpressionContent original) = IsSameExpression copy original
IsSameContent (InterpreterContent copy) (InterpreterContent original) = IsSameExpressionInterpreter copy original
IsSameContent (PlainContent copy) (PlainContent original) = IsSameLiteral copy original
IsSameContent (IndentationContent copy indentation) (IndentationContent original indentation') = IsSameLiteral copy original × (indentation ≡ indentation')
IsSameContent _ _ = ⊥

-- a copy of a setting: the same name, and what it has is the same
abbrev pub IsSameSetting : (copy original : Setting) → Type 0
IsSameSetting copy original = (keyword_of copy ≡ keyword_of original) × IsSameContent (content_of copy) (content_of original)
