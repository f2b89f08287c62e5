-- The text of a good construct on one line lexes to the printer's tokens.
use Rattle.std.proofs.Common.{◌≡◌, ℕ, Bool, true, false, ◌&&◌, List, [], ◌∷◌, Option, Some, None, refl, codes}
use Rattle.justfile_token.specs.declared.delimiter.Delimiter.TheVariants.{Bracket, Paren}
use Rattle.justfile_vocabulary.specs.ByteClass.{class_of}
use Rattle.justfile_model.specs.Lexing.Modes.{opener}
use Rattle.justfile_model.specs.Grammars.Settings.{ExpressionForm, InterpreterForm, PlainForm, SettingForm, TruthForm}
use Rattle.justfile_model.specs.Trees.Tree as tree
use Rattle.justfile_model.specs.Trees.Tree.{assignment_of}
use Rattle.justfile_round_trip.proofs.LiteralTexts.LexedModes.{Sign, space, Lexes}
use Rattle.justfile_round_trip.proofs.LiteralTexts.Inline.{Goes, goes, name_then, amid, IsName, word_name, space_step}
use Rattle.justfile_round_trip.proofs.Fixed as fixed
use Rattle.justfile_round_trip.proofs.Fixed.{close_step, open_step, token_step}
use Rattle.justfile_round_trip.proofs.RecipeBodies.Lines.{ItemLexes, item_name, item_word}
use Rattle.justfile_round_trip.proofs.Canon.{Value, ShapeContent, expr_signs, paren_right, word, flag_signs}
use Rattle.justfile_round_trip.proofs.Items.CanonItems.{content_signs}
use Rattle.justfile_round_trip.proofs.Items.CanonParts.{ShapeQuoted, ShapeSetting, path_value, colon_equals, other_names_signs, names_signs, file_path_signs, optional_path_signs, setting_value_signs, question_mark}
use Rattle.justfile_round_trip.proofs.Good.{GoodExpression, GoodValue, GoodNames}
use Rattle.justfile_round_trip.proofs.Items.GoodContents as good
use Rattle.justfile_round_trip.proofs.Items.GoodContents.{GoodContent, GoodFilePath, GoodOptionalPath, GoodSettingValue}
use Rattle.justfile_round_trip.proofs.Headers.LexesHeaders.{StopsHeader, lex_header, lex_path}
use Rattle.justfile_round_trip.proofs.Values.LexesValues.{lex_spaced, lex_values, named, spaced}

module _ (c : Bool) where
  -- ---- parts

  lex_question : (b : Bool) {ts : List Sign} → Goes [] [] c None ts → Goes [] [] c None (flag_signs b question_mark ts)
  unfolding class_of
  lex_question true k = goes refl (λ f. token_step fixed.question_mark (k.lexes false))
  lex_question false k = k

  lex_other_names : (line : ℕ) (names : List (List ℕ)) {ts : List Sign} → GoodNames names → Lexes (amid [] [] c None false) ts
      → Goes (opener Paren line ∷ []) [] c None (other_names_signs names (paren_right ∷ ts))
  unfolding class_of
  lex_other_names line [] h k = goes refl (λ f. close_step fixed.end_paren k)
  lex_other_names line (n ∷ names) h k = goes refl (λ f. token_step fixed.comma (spaced (named n h.0 (lex_other_names line names h.1 k))))

  lex_names : (line : ℕ) (names : List (List ℕ)) {ts : List Sign} → GoodNames names → Lexes (amid [] [] c None false) ts
      → Lexes (amid (opener Paren line ∷ []) [] c None false) (names_signs names (paren_right ∷ ts))
  lex_names line [] h k = close_step fixed.end_paren k
  lex_names line (n ∷ names) h k = name_then n h.0 (lex_other_names line names h.1 k)

  -- the path of a file, after a space
  lex_file_path : (q : ShapeQuoted) {ts : List Sign} → GoodFilePath q → Goes [] [] c None ts → Goes [] [] c None (space ∷ file_path_signs q ts)
  lex_file_path q h k = lex_spaced [] c None [] (path_value q) h k

  lex_optional_path : (o : Option ShapeQuoted) {ts : List Sign} → GoodOptionalPath o → Goes [] [] c None ts → Goes [] [] c None (optional_path_signs o ts)
  lex_optional_path None h k = k
  lex_optional_path (Some q) h k = lex_file_path q h k

  -- `:=` and a value, after a space
  lex_assigned : (value : Value) {ts : List Sign} → GoodValue value → Goes [] [] c None ts → Goes [] [] c None (space ∷ colon_equals ∷ space ∷ expr_signs value ts)
  unfolding class_of
  lex_assigned value h k = goes refl (λ f. space_step refl (token_step fixed.colon_equals ((lex_spaced [] c None [] value h k).lexes false)))

  -- a name after a space
  spaced_name : (name : List ℕ) {ts : List Sign} → IsName name → Goes [] [] c None ts → Goes [] [] c None (space ∷ word name ∷ ts)
  unfolding class_of
  spaced_name name h k = goes refl (λ f. spaced (named name h k))

  module _ (limit : ℕ) where
    lex_setting_value : (form : SettingForm) (v : ShapeSetting) {ts : List Sign} → GoodSettingValue limit form v → Goes [] [] c None ts → Goes [] [] c None (setting_value_signs v ts)
    unfolding class_of
    lex_setting_value TruthForm (tree.Truth true) h k = k
    lex_setting_value TruthForm (tree.Truth false) h k =
        goes refl (λ f. space_step refl (token_step fixed.colon_equals ((spaced_name (codes "false") (word_name (codes "false") refl) k).lexes false)))
    lex_setting_value ExpressionForm (tree.Value value) h k = lex_assigned value h.lexes k
    lex_setting_value PlainForm (tree.Value value) h k = lex_assigned value h.lexes k
    lex_setting_value InterpreterForm (tree.Interpreter command arguments) h k =
        goes refl (λ f. space_step refl (token_step fixed.colon_equals (space_step refl (open_step fixed.bracket
        (λ line. lex_values [] c None (opener Bracket line ∷ []) (tree.more command arguments) h.lexes (goes refl (λ f. close_step fixed.end_bracket (k.lexes false))))))))
    lex_setting_value form v h k = absurd h

    -- a name and its value, at the start of a line or after a word
    lex_assignment : (eager export : Bool) (name : List ℕ) (value : Value) {ts : List Sign} → (eager && export) ≡ false → IsName name → GoodExpression limit value
        → Goes [] [] c None ts → ItemLexes c (content_signs (tree.Assignment (assignment_of eager export name value)) ts)
    unfolding class_of
    lex_assignment false false name value one named h k = item_name c name named (lex_assigned value h.lexes k)
    lex_assignment true false name value one named h k = item_word c (codes "eager") refl (spaced_name name named (lex_assigned value h.lexes k))
    lex_assignment false true name value one named h k = item_word c (codes "export") refl (spaced_name name named (lex_assigned value h.lexes k))
    lex_assignment true true name value one named h k = cc

    -- a construct on one line, before its line end or the space before a comment
    pub lex_content : {content : ShapeContent} → GoodContent limit content → {ts : List Sign} → StopsHeader ts → ((c : Bool) → Goes [] [] c None ts)
        → ItemLexes c (content_signs content ts)
    unfolding class_of
    lex_content (good.alias {name = name} {target = target} named path) stop k =
        item_word c (codes "alias") refl
        (spaced_name name named
        (goes refl (λ f. space_step refl (token_step fixed.colon_equals (spaced (lex_path c [] target path (k c)))))))
    lex_content (good.assignment {eager = eager} {export = export} {name = name} {value = value} one named h) stop k =
        lex_assignment eager export name value one named h (k c)
    lex_content (good.function {name = name} {parameters = parameters} {body = body} named names h) stop k =
        item_name c name named (goes refl (λ f. open_step fixed.paren (λ line. lex_names line parameters names ((lex_assigned body h.lexes (k c)).lexes false))))
    lex_content (good.import {optional = optional} {path = path} h) stop k =
        item_word c (codes "import") refl (lex_question optional (lex_file_path path h (k c)))
    lex_content (good.module_named {optional = optional} {name = name} {path = path} named h) stop k =
        item_word c (codes "mod") refl (lex_question optional (spaced_name name named (lex_optional_path path h (k c))))
    lex_content (good.header {h = header} h) stop k = lex_header c header h.lexes stop (k true)
    lex_content (good.setting {form = form} {name = name} {value = value} named spelled formed h) stop k =
        item_word c (codes "set") refl (spaced_name name named (lex_setting_value form value h (k c)))
    lex_content (good.unexport {name = name} named) stop k = item_word c (codes "unexport") refl (spaced_name name named (k c))
