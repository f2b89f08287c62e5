-- The kinds of items.
pub use Rattle.justfile_vocabulary.specs.declared.item_kind.ItemKind.TheVariants.{Alias, Assignment, Comment, Function, Import, Module, Newline, Recipe, Setting, Unexport}
