-- The printer's tokens of the parts of items other than headers, before other tokens, and their text.
use Rattle.std.proofs.Common.{◌≡◌, ℕ, Bool, true, false, List, [], ◌∷◌, ◌++◌, Option, Some, None, refl, ap, codes}
use Rattle.justfile_vocabulary.specs.declared.token_kind.TokenKind.TheVariants as kinds
use Rattle.justfile_model.specs.Printed.Printing.{fixed_text, if_some, if_true, exprs_text, names_text, file_path_text, setting_value_text}
use Rattle.justfile_model.specs.Trees.Tree.{Quoted, SettingValue, Truth, Value, Interpreter}
use Rattle.justfile_model.specs.Trees.Tree as tree
use Rattle.justfile_round_trip.proofs.LiteralTexts.LexedModes.{Sign, sign, space, text_of}
use Rattle.justfile_round_trip.proofs.Canon as canon
use Rattle.justfile_round_trip.proofs.Canon.{comma, word, expr_signs, exprs_signs, then, joined, expr_is, exprs_is}

abbrev pub ShapeQuoted : Type 0
ShapeQuoted = Quoted (List ℕ)

abbrev pub ShapeSetting : Type 0
ShapeSetting = SettingValue (List ℕ) (Unit {0})

-- the path of a file, as an expression
abbrev pub path_value : ShapeQuoted → canon.Value
path_value q = tree.StringLiteral q.expanded q.token

abbrev pub colon_equals : Sign
colon_equals = sign kinds.ColonEquals (58 ∷ 61 ∷ [])

abbrev pub question_mark : Sign
question_mark = sign kinds.QuestionMark (63 ∷ [])

abbrev pub word_signs : Bool → List ℕ → List Sign → List Sign
word_signs true w ts = word w ∷ space ∷ ts
word_signs false w ts = ts

abbrev pub other_names_signs : List (List ℕ) → List Sign → List Sign
other_names_signs [] ts = ts
other_names_signs (name ∷ names) ts = comma ∷ space ∷ word name ∷ other_names_signs names ts

abbrev pub names_signs : List (List ℕ) → List Sign → List Sign
names_signs [] ts = ts
names_signs (name ∷ names) ts = word name ∷ other_names_signs names ts

abbrev pub file_path_signs : ShapeQuoted → List Sign → List Sign
file_path_signs q ts = expr_signs (path_value q) ts

abbrev pub optional_path_signs : Option ShapeQuoted → List Sign → List Sign
optional_path_signs None ts = ts
optional_path_signs (Some q) ts = space ∷ file_path_signs q ts

abbrev pub setting_value_signs : ShapeSetting → List Sign → List Sign
setting_value_signs (Truth true) ts = ts
setting_value_signs (Truth false) ts = space ∷ colon_equals ∷ space ∷ word (codes "false") ∷ ts
setting_value_signs (Value value) ts = space ∷ colon_equals ∷ space ∷ expr_signs value ts
setting_value_signs (Interpreter command arguments) ts =
    space ∷ colon_equals ∷ space ∷ sign kinds.BracketL (codes "[") ∷ exprs_signs (tree.more command arguments) (sign kinds.BracketR (codes "]") ∷ ts)

-- ---- their text is the text of the definitions

pub word_is : (b : Bool) (w : List ℕ) (ts : List Sign) → if_true b (fixed_text (w ++ (32 ∷ []))) ++ text_of ts ≡ text_of (word_signs b w ts)
unfolding fixed_text
word_is true w ts = then w (32 ∷ []) (text_of ts) refl refl
word_is false w ts = refl

pub names_are : (names : List (List ℕ)) (ts : List Sign) → names_text names ++ text_of ts ≡ text_of (names_signs names ts)
unfolding fixed_text
names_are [] ts = refl
names_are (name ∷ []) ts = refl
names_are (name ∷ other ∷ names) ts = joined name (codes ", ") (names_text (other ∷ names)) _ (names_are (other ∷ names) ts) refl

pub optional_path_is : (o : Option ShapeQuoted) (ts : List Sign)
    → if_some (λ path. fixed_text (codes " ") ++ file_path_text path) o ++ text_of ts ≡ text_of (optional_path_signs o ts)
unfolding fixed_text
optional_path_is None ts = refl
optional_path_is (Some q) ts = ap (λ t. 32 ∷ t) (expr_is (path_value q) ts)

pub setting_value_is : (v : ShapeSetting) (ts : List Sign) → setting_value_text v ++ text_of ts ≡ text_of (setting_value_signs v ts)
unfolding fixed_text
setting_value_is (Truth true) ts = refl
setting_value_is (Truth false) ts = refl
setting_value_is (Value value) ts = ap (λ t. codes " := " ++ t) (expr_is value ts)
setting_value_is (Interpreter command arguments) ts =
    let values = tree.more command arguments in
    then (codes " := [" ++ exprs_text values) (codes "]") (text_of ts) refl (ap (λ t. codes " := [" ++ t) (exprs_is values _))
