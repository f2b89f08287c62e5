-- Names.
use Rattle.std.specs.Prelude.{ℕ, List}
use Rattle.justfile_token.specs.Token.{lexeme_of}
use Rattle.justfile_token.specs.declared.name.Name.{Name}

abbrev pub name_text : Name → List ℕ
name_text name = lexeme_of name.token
