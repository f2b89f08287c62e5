-- The forms of attributes: what an attribute holds besides its kind.
use Rattle.std.specs.Prelude.{ℕ, List, Option, String}
use Rattle.std.specs.Global.{Box, Global}
use Rattle.justfile_vocabulary.specs.declared.attribute_kind.AttributeKind.{AttributeKind}
use Rattle.justfile_vocabulary.specs.declared.attribute_kind.AttributeKind.TheVariants as kinds
use Rattle.justfile_vocabulary.specs.declared.signal.Signal.{Signal}
use Rattle.justfile_token.specs.declared.name.Name.{Name}
use Rattle.justfile_token.specs.declared.string_literal.StringLiteral.{StringLiteral}
use Rattle.justfile_token.specs.declared.token.Token.{Token}
use Rattle.justfile_expression.specs.declared.expression.Expression.{Expression}
use Rattle.justfile_attribute.specs.declared.attribute.Attribute.{Attribute}
use Rattle.justfile_attribute.specs.declared.attribute.Attribute.TheVariants as attributes
use Rattle.justfile_attribute.specs.declared.interpreter.Interpreter.{Interpreter}

pub data Form : Type 0 where
  -- nothing
  Plain : Form
  -- an expression, or none
  Optional : Option (Box Expression) → Form
  Single : Box Expression → Form
  Literal : StringLiteral → Form
  Literals : List StringLiteral → Form
  Env : (name value : Box Expression) → Form
  Signals : List Signal → Form
  Cache : (extra inputs outputs : Option (Box Expression)) → Form
  Script : Option (Interpreter StringLiteral) → Form
  -- the fields of `arg`, in declared order
  Arg : (flag : Option Token) (help : Option (String Global)) (property : Option (Name × Box Expression)) (long : Option StringLiteral) (long_key : Option Name)
      (max : Option ℕ) (max_key : Option Name) (min : Option ℕ) (min_key : Option Name) (multiple : Option Token) (name : StringLiteral)
      (pattern : Option (Name × Box Expression)) (short : Option StringLiteral) (short_key : Option Name) (value : Option (Box Expression)) → Form

-- the kind of an attribute, from its case
abbrev pub case_kind : Attribute → AttributeKind
case_kind attributes.Android = kinds.Android
case_kind (attributes.Arg flag help property long long_key max max_key min min_key multiple name pattern short short_key value) = kinds.Arg
case_kind (attributes.Cache extra inputs outputs) = kinds.Cache
case_kind (attributes.Confirm prompt) = kinds.Confirm
case_kind (attributes.Continue signals) = kinds.Continue
case_kind attributes.Default = kinds.Default
case_kind (attributes.Doc doc) = kinds.Doc
case_kind attributes.Dragonfly = kinds.Dragonfly
case_kind (attributes.Env name value) = kinds.Env
case_kind attributes.ExitMessage = kinds.ExitMessage
case_kind (attributes.Extension extension) = kinds.Extension
case_kind attributes.Freebsd = kinds.Freebsd
case_kind (attributes.Group group) = kinds.Group
case_kind attributes.Linux = kinds.Linux
case_kind attributes.Macos = kinds.Macos
case_kind (attributes.Metadata texts) = kinds.Metadata
case_kind attributes.Netbsd = kinds.Netbsd
case_kind attributes.NoCd = kinds.NoCd
case_kind attributes.NoExitMessage = kinds.NoExitMessage
case_kind attributes.NoQuiet = kinds.NoQuiet
case_kind attributes.Openbsd = kinds.Openbsd
case_kind attributes.Parallel = kinds.Parallel
case_kind attributes.PositionalArguments = kinds.PositionalArguments
case_kind attributes.Private = kinds.Private
case_kind (attributes.Script interpreter) = kinds.Script
case_kind attributes.Shell = kinds.Shell
case_kind (attributes.Timestamp format) = kinds.Timestamp
case_kind attributes.Unix = kinds.Unix
case_kind attributes.Windows = kinds.Windows
case_kind (attributes.WorkingDirectory path) = kinds.WorkingDirectory

abbrev pub form_of : Attribute → Form
form_of attributes.Android = Plain
form_of (attributes.Arg flag help property long long_key max max_key min min_key multiple name pattern short short_key value) =
    Arg flag help property long long_key max max_key min min_key multiple name pattern short short_key value
form_of (attributes.Cache extra inputs outputs) = Cache extra inputs outputs
form_of (attributes.Confirm prompt) = Optional prompt
form_of (attributes.Continue signals) = Signals signals.keys
form_of attributes.Default = Plain
form_of (attributes.Doc doc) = Optional doc
form_of attributes.Dragonfly = Plain
form_of (attributes.Env name value) = Env name value
form_of attributes.ExitMessage = Plain
form_of (attributes.Extension extension) = Literal extension
form_of attributes.Freebsd = Plain
form_of (attributes.Group group) = Literal group
form_of attributes.Linux = Plain
form_of attributes.Macos = Plain
form_of (attributes.Metadata texts) = Literals texts.items
form_of attributes.Netbsd = Plain
form_of attributes.NoCd = Plain
form_of attributes.NoExitMessage = Plain
form_of attributes.NoQuiet = Plain
form_of attributes.Openbsd = Plain
form_of attributes.Parallel = Plain
form_of attributes.PositionalArguments = Plain
form_of attributes.Private = Plain
form_of (attributes.Script interpreter) = Script interpreter
form_of attributes.Shell = Plain
form_of (attributes.Timestamp format) = Optional format
form_of attributes.Unix = Plain
form_of attributes.Windows = Plain
form_of (attributes.WorkingDirectory path) = Single path
