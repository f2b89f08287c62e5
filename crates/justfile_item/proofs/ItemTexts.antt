-- The texts of items, from those of their parts.
use Rattle.std.proofs.Common.{◌≡◌, Bool, true, false, List, [], ◌∷◌, ◌++◌, map, codes, Option, Some, None, refl, sym, ap, ◌∙◌, append_assoc, append-nil}
use Rattle.std.specs.Option.{option_map}
use Rattle.justfile_token.specs.Name.{name_text}
use Rattle.justfile_token.specs.Namepath.{names_in, namepath_text}
use Rattle.justfile_token.specs.Path.{path_text}
use Rattle.justfile_token.specs.StringLiteral.{format_mark}
use Rattle.justfile_token.specs.Token.{lexeme_of}
use Rattle.justfile_token.specs.declared.name.Name.{Name}
use Rattle.justfile_token.specs.declared.namepath.Namepath.{Namepath}
use Rattle.justfile_numbers.specs.declared.number.Number.{Number}
use Rattle.justfile_token.specs.declared.string_literal.StringLiteral.{StringLiteral}
use Rattle.justfile_model.specs.Printed.Printing.{fixed_text, if_some, if_true, file_path_text, mark_text, setting_value_text}
use Rattle.justfile_model.specs.Lexing.Tok.{Tok}
use Rattle.justfile_model.specs.Trees.Tree as tree
use Rattle.justfile_model.specs.Trees.Tree.{SettingValue, lexeme, nothing, over_quoted, over_setting_value}
use Rattle.justfile_setting.specs.Print.{setting_output, value_text}
use Rattle.justfile_setting.specs.Setting.{is_default, value_of}
use Rattle.justfile_setting.specs.declared.setting.Setting.{Setting}
use Rattle.justfile_recipe_header.specs.Header.{name_of}
use Rattle.justfile_item.specs.Item.{quoted_of}
use Rattle.justfile_item.specs.ItemText.{alias_text_of, later_names_text, later_path_text, later_value_text, module_text_of, parameter_names_text, path_text_of}
use Rattle.justfile_item.specs.declared.alias.Alias.{Alias}

lexemes : (names : List Name) → map lexeme (map name_of names) ≡ map name_text names
lexemes [] = refl
lexemes (n ∷ names) = ap (λ ns. name_text n ∷ ns) (lexemes names)

pub alias_parts : (a : Alias Namepath) → fixed_text (codes "alias ") ++ lexeme_of a.name.token ++ fixed_text (codes " := ") ++ namepath_text a.target ≡ alias_text_of a
alias_parts a = ap (λ t. fixed_text (codes "alias ") ++ lexeme_of a.name.token ++ fixed_text (codes " := ") ++ path_text t) (sym (lexemes (names_in a.target)))

names_from : (p : Name × Number) (parameters : List (Name × Number)) → lexeme_of p.0.token ++ later_names_text parameters ≡ parameter_names_text (p ∷ parameters)
names_from p [] = append-nil (lexeme_of p.0.token)
names_from p (q ∷ parameters) =
    ap (λ t. lexeme_of p.0.token ++ t) (append_assoc (fixed_text (codes ", ")) (lexeme_of q.0.token) (later_names_text parameters))
    ∙ sym (append_assoc (lexeme_of p.0.token) (fixed_text (codes ", ")) (lexeme_of q.0.token ++ later_names_text parameters))
    ∙ ap (λ t. lexeme_of p.0.token ++ fixed_text (codes ", ") ++ t) (names_from q parameters)

pub names_some : (parameters : List (Name × Number)) (first : Name × Number) (rest : List (Name × Number)) → parameters ≡ first ∷ rest
    → lexeme_of first.0.token ++ later_names_text rest ≡ parameter_names_text parameters
names_some parameters first rest e = names_from first rest ∙ ap parameter_names_text (sym e)

pub names_none : (parameters : List (Name × Number)) → parameters ≡ [] → [] ≡ parameter_names_text parameters
names_none parameters e = ap parameter_names_text (sym e)

-- the path of a file, from its marks and its token
pub path_parts : (relative : StringLiteral) → mark_text relative.expand ++ format_mark relative ++ lexeme_of relative.token ≡ path_text_of relative
path_parts relative = append_assoc (mark_text relative.expand) (format_mark relative) (lexeme_of relative.token)

-- the optional path of a module
pub later_path : (relative : Option StringLiteral)
    → later_path_text relative ≡ if_some (λ path. fixed_text (codes " ") ++ file_path_text path) (option_map (over_quoted {B = Tok} lexeme nothing) (option_map quoted_of relative))
later_path None = refl
later_path (Some relative) = refl

pub module_parts : (name : Name) (optional : Bool) (relative : Option StringLiteral)
    → fixed_text (codes "mod") ++ if_true optional (fixed_text (codes "?")) ++ fixed_text (codes " ") ++ lexeme_of name.token ++ later_path_text relative ≡ module_text_of name optional relative
module_parts name optional relative =
    ap (λ t. fixed_text (codes "mod") ++ if_true optional (fixed_text (codes "?")) ++ fixed_text (codes " ") ++ lexeme_of name.token ++ t) (later_path relative)

-- `:=` and the value of a setting
later_value : (value : SettingValue Tok Tok) → is_default value ≡ false
    → fixed_text (codes " := ") ++ value_text (over_setting_value lexeme nothing value) ≡ setting_value_text (over_setting_value lexeme nothing value)
unfolding fixed_text
later_value (tree.Truth true) e = absurd cc
later_value (tree.Truth false) e = refl
later_value (tree.Value value) e = refl
later_value (tree.Interpreter command arguments) e = refl

no_value : (value : SettingValue Tok Tok) → is_default value ≡ true → [] ≡ setting_value_text (over_setting_value lexeme nothing value)
no_value (tree.Truth true) e = refl
no_value (tree.Truth false) e = absurd cc
no_value (tree.Value value) e = absurd cc
no_value (tree.Interpreter command arguments) e = absurd cc

pub value_other : (s : Setting) → is_default (value_of s) ≡ false → fixed_text (codes " := ") ++ setting_output s ≡ later_value_text s
value_other s e = later_value (value_of s) e

-- the default value isn't printed
pub value_default : (s : Setting) → is_default (value_of s) ≡ true → [] ≡ later_value_text s
value_default s e = no_value (value_of s) e
