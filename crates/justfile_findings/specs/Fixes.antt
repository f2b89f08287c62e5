-- How problems are set right.
use Rattle.std.specs.Prelude.{◌≡◌, ◌++◌, ◌&&◌, ℕ, Bool, true, false, List, [], ◌∷◌, Option, None, Some, codes, cond, length, map, nat_eq, option_to_list, string_bytes, take}
use Rattle.std.specs.List.{AllZip, ends_with, flat_map, list_any}
use Rattle.std.specs.Option.{option_or}
use Rattle.std.specs.Str.{bytes_eq}
use Rattle.justfile_token.specs.Name.{name_text}
use Rattle.justfile_token.specs.Token.{lexeme_of}
use Rattle.justfile_token.specs.declared.token.Token.{Token}
use Rattle.justfile_problems.specs.declared.facts.Definition.{Definition}
use Rattle.justfile_problems.specs.declared.facts.Space.{Space}
use Rattle.justfile_problems.specs.declared.facts.Space.TheVariants as spaces
use Rattle.justfile_problems.specs.declared.facts.Use.{Use}
use Rattle.justfile_problems.specs.declared.problem.Problem.{Problem}
use Rattle.justfile_problems.specs.declared.problem.What.{What}
use Rattle.justfile_problems.specs.declared.problem.What.TheVariants as whats
use Rattle.editor_language.specs.declared.parts.QuickFix.{QuickFix}
use Rattle.editor_language.specs.declared.parts.Replacement.{Replacement}
use Rattle.editor_language.specs.declared.parts.Span.{Span}
use Rattle.justfile_findings.specs.Codes.{span_of}
use Rattle.justfile_findings.specs.Findings.{most_suggested}
use Rattle.justfile_findings.specs.Settings.{setting_place}
use Rattle.justfile_findings.specs.Suggestions.{suggestion}

-- what is done where something is wrong: a text takes the place of a part
pub record Fix : Type 0 where
  pub span : Span
  pub title : List ℕ
  pub at : Span
  pub text : List ℕ

abbrev pub replaced : Replacement → Span × List ℕ
replaced r = (r.span, string_bytes r.text)

pub record Does (fix : Fix) (f : QuickFix) : Type 0 where
  pub span : f.span ≡ fix.span
  pub title : string_bytes f.title ≡ fix.title
  pub is : map replaced f.replacements.items ≡ (fix.at, fix.text) ∷ []

-- the token of the name that is unknown
abbrev pub unknown_token : Token → What → Option Token
unknown_token t whats.UndefinedFunction = Some t
unknown_token t whats.UndefinedVariable = Some t
unknown_token t (whats.UnknownAliasTarget target) = Some target.token
unknown_token t (whats.UnknownDependency item name) = Some name.token
unknown_token t other = None

abbrev pub renaming_title : (old new : List ℕ) → List ℕ
renaming_title old new = codes "Replace `" ++ (old ++ (codes "` with `" ++ (new ++ codes "`")))

-- the name that may be meant is put in the place of the unknown one
abbrev pub renaming : Token → (unknown : Token) → (name : List ℕ) → Fix
renaming t unknown name = record { span = span_of t; title = renaming_title (lexeme_of unknown) name; at = span_of unknown; text = name }

abbrev pub renaming_if : Token → Option Token → Option (List ℕ) → Option Fix
renaming_if t (Some unknown) (Some name) = Some (renaming t unknown name)
renaming_if t None name = None
renaming_if t (Some unknown) None = None

abbrev pub empty_at : (offset : ℕ) → Span
empty_at offset = record { start = offset; end = offset }

-- lists are allowed by a setting, where one can be added to the file
abbrev pub allowing_lists : Token → Fix
allowing_lists t = record { span = span_of t; title = codes "Add `set lists`"; at = empty_at (setting_place t.src.now); text = codes "set lists\n" }

abbrev pub lists_by : Token → What → Option Fix
lists_by t (whats.ListFeature feature) = Some (allowing_lists t)
lists_by t whats.MappedDependency = Some (allowing_lists t)
lists_by t other = None

-- by the setting, or by the name that may be meant, if it can be
abbrev pub fix_of : List Definition → List Use → Problem → Option Fix
fix_of ds us p = option_or (lists_by p.token p.what) (renaming_if p.token (unknown_token p.token p.what) (suggestion ds us p))

-- the token of the name that no recipe has: it is that of a recipe of the same file, so no path
abbrev pub unknown_recipe : What → Option Token
unknown_recipe (whats.UnknownAliasTarget target) = Some target.token
unknown_recipe (whats.UnknownDependency item name) = Some name.token
unknown_recipe other = None

-- a recipe without a body, after a blank line, and after a line end if the text has none at its end
abbrev pub new_recipe : (text name : List ℕ) → List ℕ
new_recipe text name = cond (ends_with nat_eq text (codes "\n")) (codes "\n") (codes "\n\n") ++ (name ++ codes ":\n")

-- the recipe is added at the end of the text
abbrev pub creating : Token → (unknown : Token) → Fix
creating t unknown =
    record {
      span = span_of t;
      title = codes "Create the recipe `" ++ (lexeme_of unknown ++ codes "`");
      at = empty_at (length t.src.now);
      text = new_recipe t.src.now (lexeme_of unknown);
    }

abbrev pub is_command : Space → Bool
is_command spaces.Commands = true
is_command other = false

-- a definition is of what is run, and has this name
abbrev pub is_run_as : (name : List ℕ) → Definition → Bool
is_run_as name d = is_command d.space && bytes_eq (name_text d.name) name

-- it is added if nothing that is run has its name
abbrev pub creating_if : List Definition → Token → Option Token → Option Fix
creating_if ds t None = None
creating_if ds t (Some unknown) = cond (list_any (is_run_as (lexeme_of unknown)) ds) None (Some (creating t unknown))

-- how a problem is set right: in these ways, as far as they can be
abbrev pub fixes_for : List Definition → List Use → Problem → List Fix
fixes_for ds us p = option_to_list (fix_of ds us p) ++ option_to_list (creating_if ds p.token (unknown_recipe p.what))

abbrev pub DoesIf : Option Fix → Option QuickFix → Type 0
DoesIf None None = Unit {0}
DoesIf (Some fix) (Some f) = Does fix f
DoesIf None (Some f) = ⊥
DoesIf (Some fix) None = ⊥

-- The first problems are set right, as far as they can be.
abbrev pub AreFixes : List Definition → List Use → List Problem → List QuickFix → Type 0
AreFixes ds us problems found = AllZip Does (flat_map (fixes_for ds us) (take most_suggested problems)) found
