-- The printer's tokens for a good construct on one line derive it, and its text is UTF-8.
use Rattle.std.proofs.Common.{◌≡◌, ℕ, Bool, true, false, ◌&&◌, List, [], ◌∷◌, Option, Some, None, refl, ap, codes}
use Rattle.justfile_round_trip.proofs.Headers.BackHeaders.{path_rest_back}
use Rattle.justfile_vocabulary.specs.declared.token_kind.TokenKind.TheVariants as kinds
use Rattle.justfile_model.specs.Grammars.Expressions.{Tokens, NotNext, BelowLimit}
use Rattle.justfile_model.specs.Grammars.Files.{to_lexemes}
use Rattle.justfile_model.specs.Grammars.Grammar as g
use Rattle.justfile_model.specs.Grammars.Grammar.{OnLine}
use Rattle.justfile_model.specs.Grammars.Headers as header
use Rattle.justfile_model.specs.Grammars.Headers.{PathOf}
use Rattle.justfile_model.specs.Grammars.ItemParts as parts
use Rattle.justfile_model.specs.Grammars.ItemParts.{EndsLine, FilePath, Names, NoPath, NotNamedString, ValueOf}
use Rattle.justfile_model.specs.Grammars.Settings.{ExpressionForm, InterpreterForm, PlainForm, SettingForm, TruthForm}
use Rattle.justfile_model.specs.Lexing.SignificantTokens.{SignificantToken}
use Rattle.justfile_model.specs.Trees.Tree as tree
use Rattle.justfile_model.specs.Trees.Tree.{assignment_of, bare_module, lexeme, nothing}
use Rattle.justfile_round_trip.proofs.LiteralTexts.LexedModes.{Sign}
use Rattle.justfile_round_trip.proofs.Back.{none_but_closing, is_word}
use Rattle.justfile_round_trip.proofs.Canon.{Shown, Value, ShapeContent, paren_right, word, flag_signs}
use Rattle.justfile_round_trip.proofs.Headers.CanonHeaders.{path_signs, header_rest_signs, at_sign}
use Rattle.justfile_round_trip.proofs.Items.CanonItems.{content_signs}
use Rattle.justfile_round_trip.proofs.Items.CanonParts.{ShapeQuoted, ShapeSetting, other_names_signs, names_signs, file_path_signs, setting_value_signs}
use Rattle.justfile_round_trip.proofs.Good.{GoodExpression, closes, ends_value, significant, GoodPath}
use Rattle.justfile_round_trip.proofs.Items.GoodContents as good
use Rattle.justfile_round_trip.proofs.Items.GoodContents.{GoodContent, GoodSettingValue}

-- ---- the tokens that follow: the end of a line

line_closes : {ts : Tokens} → EndsLine ts → ends_value ts ≡ true
line_closes (parts.at_comment kind) = ap closes kind
line_closes (parts.at_line_end kind) = ap closes kind
line_closes (parts.at_file_end kind) = ap closes kind

no_named_string : (t : SignificantToken) (ts : Tokens) → NotNext kinds.Identifier (t ∷ ts) → NotNamedString (t ∷ ts)
no_named_string t [] h = tt
no_named_string t (u ∷ ts) h = λ e f. h e

line_no_path : (ts : Tokens) → EndsLine ts → NoPath ts
line_no_path [] h = record { unmarked = tt; marked = tt }
line_no_path (t ∷ ts) h = record {
  unmarked = none_but_closing kinds.StringToken (t ∷ ts) refl (line_closes h);
  marked = no_named_string t ts (none_but_closing kinds.Identifier (t ∷ ts) refl (line_closes h));
}

-- ---- parts

path_back : (names : List (List ℕ)) (glued : Bool) (on : List Sign) → GoodPath names → NotNext kinds.ColonColon (significant true on)
    → PathOf lexeme names (significant glued (path_signs names on)) (significant true on)
path_back [] glued on h next = absurd h
path_back (n ∷ names) glued on h next = header.path refl (path_rest_back names on next)

some_names_back : (name : List ℕ) (names : List (List ℕ)) (glued : Bool) (on : List Sign)
    → Names lexeme (name ∷ names) (significant glued (word name ∷ other_names_signs names (paren_right ∷ on))) (significant true on)
some_names_back name [] glued on = parts.last refl refl
some_names_back name (other ∷ names) glued on = parts.more refl refl (some_names_back other names false on)

names_back : (names : List (List ℕ)) (glued : Bool) (on : List Sign)
    → Names lexeme names (significant glued (names_signs names (paren_right ∷ on))) (significant true on)
names_back [] glued on = parts.none refl
names_back (name ∷ names) glued on = some_names_back name names glued on

file_path_back : (q : ShapeQuoted) (glued : Bool) (on : List Sign) → FilePath lexeme q (significant glued (file_path_signs q on)) (significant true on)
file_path_back q glued on = by q.expanded
  where
    by : (b : Bool) → FilePath lexeme (record { expanded = b; token = q.token })
        (significant glued (file_path_signs (record { expanded = b; token = q.token }) on)) (significant true on)
    by true = parts.expanded (is_word (codes "x")) refl
    by false = parts.plain refl

module _ (limit : ℕ) where
  -- the value of a setting, with its features
  abbrev ValueBack : SettingForm → ShapeSetting → List Sign → Type 0
  ValueBack form v on = (fs : Shown) × ValueOf lexeme nothing (BelowLimit limit) form v fs (significant true (setting_value_signs v on)) (significant true on)

  setting_value_back : (form : SettingForm) (v : ShapeSetting) (on : List Sign) → GoodSettingValue limit form v → EndsLine (significant true on) → ValueBack form v on
  setting_value_back TruthForm (tree.Truth true) on h ends = ([], parts.bare ends)
  setting_value_back TruthForm (tree.Truth false) on h ends = ([], parts.no refl (is_word (codes "false")))
  setting_value_back ExpressionForm (tree.Value value) on h ends = (h.features, parts.expression refl (h.derives false on (line_closes ends)))
  setting_value_back PlainForm (tree.Value value) on h ends = (h.features, parts.plain refl (h.derives false on (line_closes ends)))
  setting_value_back InterpreterForm (tree.Interpreter command arguments) on h ends = (h.features, parts.interpreter refl refl (h.derives true on))
  setting_value_back form v on h ends = absurd h

  -- ---- contents

  -- a construct on one line, with its features
  abbrev pub ContentBack : ShapeContent → Bool → List Sign → Type 0
  ContentBack content glued on = (fs : Shown) × OnLine to_lexemes (BelowLimit limit) content fs (significant glued (content_signs content on)) (significant true on)

  assignment_back : (eager export : Bool) (name : List ℕ) (value : Value) (glued : Bool) (on : List Sign) → (eager && export) ≡ false
      → GoodExpression limit value → EndsLine (significant true on)
      → ContentBack (tree.Assignment (assignment_of eager export name value)) glued on
  assignment_back false false name value glued on one h ends = (h.features, g.assignment refl refl (h.derives false on (line_closes ends)))
  assignment_back true false name value glued on one h ends = (h.features, g.eager (is_word (codes "eager")) refl refl (h.derives false on (line_closes ends)))
  assignment_back false true name value glued on one h ends = (h.features, g.export (is_word (codes "export")) refl refl (h.derives false on (line_closes ends)))
  assignment_back true true name value glued on one h ends = cc

  import_back : (optional : Bool) (path : ShapeQuoted) (glued : Bool) (on : List Sign)
      → ContentBack (tree.Import (record { optional = optional; path = path })) glued on
  import_back true path glued on = ([], g.optional_import (is_word (codes "import")) refl (file_path_back path false on))
  import_back false path glued on = ([], g.import (is_word (codes "import")) (file_path_back path false on))

  module_back : (optional : Bool) (name : List ℕ) (path : Option ShapeQuoted) (glued : Bool) (on : List Sign) → EndsLine (significant true on)
      → ContentBack (tree.Module (bare_module optional name path)) glued on
  module_back true name None glued on ends = ([], g.optional_module_alone (is_word (codes "mod")) refl refl (line_no_path (significant true on) ends))
  module_back true name (Some path) glued on ends = ([], g.optional_module_at (is_word (codes "mod")) refl refl (file_path_back path false on))
  module_back false name None glued on ends = ([], g.module_alone (is_word (codes "mod")) refl ends)
  module_back false name (Some path) glued on ends = ([], g.module_at (is_word (codes "mod")) refl (file_path_back path false on))

  pub content_back : {content : ShapeContent} → GoodContent limit content → (glued : Bool) (on : List Sign) → EndsLine (significant true on) → ContentBack content glued on
  content_back (good.alias {target = target} named path) glued on ends =
      ([], g.alias (is_word (codes "alias")) refl refl (path_back target false on path (none_but_closing kinds.ColonColon (significant true on) refl (line_closes ends))))
  content_back (good.assignment {eager = eager} {export = export} {name = name} {value = value} one named h) glued on ends =
      assignment_back eager export name value glued on one h ends
  content_back (good.function {parameters = parameters} named names h) glued on ends =
      (h.features, g.function refl refl (names_back parameters true _) refl (h.derives false on (line_closes ends)))
  content_back (good.import {optional = optional} {path = path} h) glued on ends = import_back optional path glued on
  content_back (good.module_named {optional = optional} {name = name} {path = path} named h) glued on ends = module_back optional name path glued on ends
  content_back (good.header h) glued on ends = (h.features, g.header (h.derives glued on (line_closes ends)))
  content_back (good.setting {form = form} {value = value} named spelled formed h) glued on ends =
      let v = setting_value_back form value on h ends in
      (v.0, g.setting (is_word (codes "set")) (record { is_name = refl; spelled = spelled }) formed v.1)
  content_back (good.unexport named) glued on ends = ([], g.unexport (is_word (codes "unexport")) refl ends)

  -- the tokens of a header don't begin a line of attributes

  pub header_no_bracket : (quiet : Bool) (name : List ℕ) (glued : Bool) (on : List Sign) → NotNext kinds.BracketL (significant glued (flag_signs quiet at_sign (word name ∷ on)))
  header_no_bracket true name glued on = λ e. cc
  header_no_bracket false name glued on = λ e. cc

  assignment_no_bracket : (eager export : Bool) (name : List ℕ) (value : Value) (glued : Bool) (on : List Sign)
      → NotNext kinds.BracketL (significant glued (content_signs (tree.Assignment (assignment_of eager export name value)) on))
  assignment_no_bracket false true name value glued on = λ e. cc
  assignment_no_bracket _ _ name value glued on = λ e. cc

  pub content_no_bracket : {content : ShapeContent} → GoodContent limit content → (glued : Bool) (on : List Sign)
      → NotNext kinds.BracketL (significant glued (content_signs content on))
  content_no_bracket (good.assignment {eager = eager} {export = export} {name = name} {value = value} one named h) glued on = assignment_no_bracket eager export name value glued on
  content_no_bracket (good.header {h = h} head) glued on = header_no_bracket h.quiet h.name glued (header_rest_signs h on)
  content_no_bracket _ glued on = λ e. cc
