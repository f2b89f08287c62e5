-- The trees of names and paths.
use Rattle.std.specs.Prelude.{List, map, None}
use Rattle.justfile_token.specs.Namepath.{names_in}
use Rattle.justfile_token.specs.declared.name.Name.{Name}
use Rattle.justfile_token.specs.declared.namepath.Namepath.{Namepath}
use Rattle.justfile_expression.specs.LeafTree.{Leaf, Named}

-- a name of a path
abbrev pub name_tree : Name → Leaf
name_tree name = Named name.token None

-- the names of a path
abbrev pub path_tree : Namepath → List Leaf
path_tree path = map name_tree (names_in path)
