-- Names of the kinds of items, in kebab case, and their articles.
use Rattle.std.specs.Prelude.{ℕ, List, codes}
use Rattle.justfile_vocabulary.specs.declared.item_kind.ItemKind.{ItemKind}
use Rattle.justfile_vocabulary.specs.declared.item_kind.ItemKind.TheVariants.{Alias, Assignment, Comment, Function, Import, Module, Newline, Recipe, Setting, Unexport}

abbrev pub item_kind_text : ItemKind → List ℕ
item_kind_text Alias = codes "alias"
item_kind_text Assignment = codes "assignment"
item_kind_text Comment = codes "comment"
item_kind_text Function = codes "function"
item_kind_text Import = codes "import"
item_kind_text Module = codes "module"
item_kind_text Newline = codes "newline"
item_kind_text Recipe = codes "recipe"
item_kind_text Setting = codes "setting"
item_kind_text Unexport = codes "unexport"

abbrev pub item_kind_article : ItemKind → List ℕ
item_kind_article Alias = codes "an"
item_kind_article Assignment = codes "an"
item_kind_article Comment = codes "a"
item_kind_article Function = codes "a"
item_kind_article Import = codes "an"
item_kind_article Module = codes "a"
item_kind_article Newline = codes "a"
item_kind_article Recipe = codes "a"
item_kind_article Setting = codes "a"
item_kind_article Unexport = codes "an"
