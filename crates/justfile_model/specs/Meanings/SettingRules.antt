-- The rules that the value of a setting breaks, each at a token.
use Rattle.std.specs.Prelude.{ℕ, true, false, List, [], Option, Some, None, if◌then◌else◌}
use Rattle.justfile_vocabulary.specs.Indentation.{indentation_refusal}
use Rattle.justfile_token.specs.StringKind.{kind_of}
use Rattle.justfile_vocabulary.specs.declared.keyword.Keyword.{Keyword}
use Rattle.justfile_vocabulary.specs.declared.keyword.Keyword.TheVariants as words
use Rattle.justfile_model.specs.Meanings.AttributeRules.{of_some}
use Rattle.justfile_model.specs.Grammars.Conditions.{VersionNumbers}
use Rattle.justfile_model.specs.Meanings.Meaning.{quoted_text}
use Rattle.justfile_model.specs.Meanings.Rules.{Broken, InvalidIndentation, InvalidMinimumVersion, MinimumVersion, SettingExpression, broken_if}
use Rattle.justfile_model.specs.Grammars.Settings.{ExpressionForm, InterpreterForm, PlainForm, SettingForm, TruthForm, setting_form}
use Rattle.justfile_model.specs.Trees.LeafView.{LeafView}
use Rattle.justfile_model.specs.Trees.Tree as tree
use Rattle.justfile_model.specs.Trees.Tree.{Expr, Quoted, SettingParts, SettingValue}
use Rattle.justfile_model.specs.Meanings.Versions.{is_above, version_of}

-- `current` is the current version
module _ {B : Type 0} (current : VersionNumbers) where
  -- the text isn't a version, or is a later version than the current one
  abbrev pub version_broken : (place : B) → List ℕ → Option VersionNumbers → List (Broken B)
  version_broken place text None = broken_if true (InvalidMinimumVersion text) place
  version_broken place text (Some minimum) = broken_if (is_above minimum current) (MinimumVersion minimum current) place

  -- the rules of the text of a plain literal; only `indentation` and `minimum-version` take one
  abbrev pub text_broken : Keyword → (place : B) → List ℕ → List (Broken B)
  text_broken words.Indentation place text = of_some (λ message. broken_if true (InvalidIndentation message) place) (indentation_refusal text)
  text_broken words.MinimumVersion place text = version_broken place text (version_of text)
  text_broken keyword place text = []

module _ {A B : Type 0} (current : VersionNumbers) (view : LeafView A B) where
  -- the literal, if it is neither expanded nor tripled, and isn't a format string
  abbrev pub plain_literal : Expr A B → Option (Quoted A)
  plain_literal (tree.StringLiteral false token) = if (kind_of (view.bytes token)).indented then None else Some (record { expanded = false; token = token })
  plain_literal e = None

  -- the rules of a setting that takes a plain literal
  abbrev pub literal_broken : Keyword → (name : B) → Option (Quoted A) → List (Broken B)
  literal_broken keyword name None = broken_if true (SettingExpression keyword) name
  literal_broken keyword name (Some literal) = of_some (text_broken current keyword (view.place literal.token)) (quoted_text view literal)

  -- the rules of a value, by the form of the setting; values of the other forms have none
  abbrev pub value_broken : Option SettingForm → Keyword → (name : B) → SettingValue A B → List (Broken B)
  value_broken (Some PlainForm) keyword name (tree.Value value) = literal_broken keyword name (plain_literal value)
  value_broken (Some PlainForm) keyword name (tree.Truth value) = []
  value_broken (Some PlainForm) keyword name (tree.Interpreter command arguments) = []
  value_broken (Some TruthForm) keyword name value = []
  value_broken (Some ExpressionForm) keyword name value = []
  value_broken (Some InterpreterForm) keyword name value = []
  value_broken None keyword name value = []

  abbrev pub setting_broken : SettingParts A B → List (Broken B)
  setting_broken parts = value_broken (setting_form parts.keyword) parts.keyword (view.place parts.name) parts.value
