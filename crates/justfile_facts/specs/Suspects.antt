-- Where an item is wrong under some settings.
use Rattle.std.specs.Prelude.{ℕ, ◌-◌, ◌||◌, Bool, true, false, List, [], ◌∷◌, ◌++◌, length, codes, Option, Some, None, cond, nat_eq}
use Rattle.std.specs.List.{flat_map, ends_with, slice_get, starts_with}
use Rattle.std.specs.Option.{option_and_then}
use Rattle.justfile_vocabulary.specs.declared.attribute_kind.AttributeKind.TheVariants as attributes
use Rattle.justfile_vocabulary.specs.declared.list_feature.ListFeature.{ListFeature}
use Rattle.justfile_token.specs.Namepath.{names_in}
use Rattle.justfile_token.specs.Token.{lexeme_of}
use Rattle.justfile_token.specs.declared.name.Name.{Name}
use Rattle.justfile_token.specs.declared.token.Token.{Token}
use Rattle.justfile_problems.specs.declared.facts.Suspect.{Suspect}
use Rattle.justfile_problems.specs.declared.facts.SuspectKind.{SuspectKind}
use Rattle.justfile_problems.specs.declared.facts.SuspectKind.TheVariants as suspects
use Rattle.justfile_attribute_set.specs.AttributeSet.{attributes_of}
use Rattle.justfile_attribute_set.specs.Attributes.{has_kind}
use Rattle.justfile_recipe_header.specs.Header.{is_starred}
use Rattle.justfile_recipe_header.specs.declared.unresolved_dependency.UnresolvedDependency.{UnresolvedDependency}
use Rattle.justfile_line.specs.declared.fragment.Fragment.{Fragment}
use Rattle.justfile_line.specs.declared.fragment.Fragment.TheVariants.{Interpolation, Text}
use Rattle.justfile_line.specs.declared.line.Line.{Line}
use Rattle.justfile_item.specs.Item.{is_item_enabled}
use Rattle.justfile_item.specs.declared.item.Item.{Item}
use Rattle.justfile_item.specs.declared.item.Item.TheVariants as items
use Rattle.justfile_item.specs.declared.recipe.UnresolvedRecipe.{UnresolvedRecipe}

abbrev pub suspect : Token → SuspectKind → Suspect
suspect token kind = record { token = token; kind = kind }

-- the token of a fragment that is a text
abbrev pub token_in : Fragment → Option Token
token_in (Interpolation expression) = None
token_in (Text token) = Some token

-- the text at the front of a line, if its first fragment is a text
abbrev pub first_token : Line → Option Token
first_token line = option_and_then token_in (slice_get line.fragments.items 0)

-- the text at the end of a line, if its last fragment is a text
abbrev pub last_token : Line → Option Token
last_token line = option_and_then token_in (slice_get line.fragments.items (length line.fragments.items - 1))

abbrev pub ends_in_backslash : Option Token → Bool
ends_in_backslash None = false
ends_in_backslash (Some t) = ends_with nat_eq (lexeme_of t) (codes "\\")

-- whether the line after this one continues it
abbrev pub is_continued : Line → Bool
is_continued line = ends_in_backslash (last_token line)

abbrev pub begins_with : (text front : List ℕ) → Bool
begins_with = starts_with nat_eq

abbrev pub begins_with_blank : List ℕ → Bool
begins_with_blank text = begins_with text (codes " ") || begins_with text (codes "\t")

-- whether a text has `?` and `-` among its sigils, which are at its front and different, and may have `@` before, between or behind them
abbrev pub has_both_sigils : List ℕ → Bool
has_both_sigils text =
    begins_with text (codes "?-")
    || (begins_with text (codes "-?") || (begins_with text (codes "?@-") || (begins_with text (codes "-@?") || (begins_with text (codes "@?-") || begins_with text (codes "@-?")))))

module _ (shell : Bool) where
  abbrev pub token_suspects : Option Token → List Suspect
  token_suspects None = []
  token_suspects (Some t) =
      cond (begins_with_blank (lexeme_of t)) (suspect t (suspects.Blanks shell) ∷ []) [] ++ cond (has_both_sigils (lexeme_of t)) (suspect t (suspects.Sigils shell) ∷ []) []

  -- what continues another line isn't judged
  abbrev pub line_suspects : (continues : Bool) → Line → List Suspect
  line_suspects continues line = cond continues [] (token_suspects (first_token line))

  -- those of lines, the first of which may continue another one
  abbrev pub body_suspects : (continues : Bool) → List Line → List Suspect
  body_suspects continues [] = []
  body_suspects continues (line ∷ lines) = line_suspects continues line ++ body_suspects (is_continued line) lines

abbrev pub is_for_shell : UnresolvedRecipe → Bool
is_for_shell r = has_kind attributes.Shell (attributes_of r.attributes)

-- the attribute `extension`, which is for scripts
abbrev pub attribute_suspects : UnresolvedRecipe → List Suspect
attribute_suspects r = cond (has_kind attributes.Extension (attributes_of r.attributes)) (suspect r.name.token (suspects.ScriptAttribute attributes.Extension (is_for_shell r)) ∷ []) []

-- those of a recipe, which may be a script by itself
abbrev pub script_suspects : (script : Bool) → UnresolvedRecipe → List Suspect
script_suspects true r = []
script_suspects false r = attribute_suspects r ++ body_suspects (is_for_shell r) false r.body.items

-- the last name of a path
abbrev pub mapped : List Name → List Suspect
mapped [] = []
mapped (name ∷ []) = suspect name.token suspects.MappedDependency ∷ []
mapped (name ∷ other ∷ others) = mapped (other ∷ others)

abbrev pub dependency_suspects : UnresolvedDependency → List Suspect
dependency_suspects d = cond (is_starred d) (mapped (names_in d.recipe)) []

abbrev pub enabled_suspects : Item → List Suspect
enabled_suspects (items.Recipe r) = flat_map dependency_suspects r.dependencies.items ++ script_suspects r.shebang r
enabled_suspects other = []

-- those of an item, if it is for this system
abbrev pub item_suspects : Item → List Suspect
item_suspects i = cond (is_item_enabled i) (enabled_suspects i) []

-- what needs the setting `lists`, as it is noted
abbrev pub noted : ListFeature × Token → List Suspect
noted note = suspect note.1 (suspects.ListFeature note.0) ∷ []
