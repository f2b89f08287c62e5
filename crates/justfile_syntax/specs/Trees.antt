-- Trees and shapes of files.
pub use Rattle.justfile_model.specs.Trees.Tree.{Expr, Or, And, Comparison, Concatenation, ListConcatenation, Join, Root, If, IfElse, Not, StringLiteral, FormatLiteral, FormatString, Backtick, Assert, AssertMessage, Variable, Call, Group, ListOf, Exprs, none, more, Parts, Last, Continue, Fragment, Text, Interpolation, BodyLine, Line, Quoted, OptionName, NoOption, OwnName, Named, Property, Bound, ArgumentRules, Attribute, Plain, Single, Texts, Env, Signals, Cache, Arg, Entry, Parameter, DependencyArgument, Dependency, Header, AliasParts, AssignmentParts, FunctionParts, ImportParts, ModuleParts, RecipeParts, SettingValue, Truth, Value, Interpreter, SettingParts, Content, Alias, Assignment, Function, Import, Module, Recipe, Setting, Unexport, Item, Newline, Comment, Construct, OrderedItem, Tree, Shape, lexeme, nothing, shape_of, item_shape_of}
pub use Rattle.justfile_model.specs.Grammars.Docs.{doc_of}
pub use Rattle.justfile_model.specs.Meanings.Enabled.{indentation_of, is_enabled}
pub use Rattle.justfile_model.specs.Grammars.Files.{bindings, literals, recipes}
pub use Rattle.justfile_model.specs.Meanings.UnstableFeatures.{unstable_features}
