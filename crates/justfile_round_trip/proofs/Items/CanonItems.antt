-- The printer's tokens of items, before other tokens, and their text.
use Rattle.std.proofs.Common.{◌≡◌, ℕ, List, [], ◌∷◌, ◌++◌, Option, refl, ap, ◌∙◌, codes}
use Rattle.justfile_model.proofs.Printed.PlainFiles.{IsPlain}
use Rattle.justfile_token.specs.Path.{path_text}
use Rattle.justfile_vocabulary.specs.declared.token_kind.TokenKind.TheVariants as kinds
use Rattle.justfile_model.specs.Trees.Tree.{Alias, Assignment, Function, Import, Module, Recipe, Setting, Unexport, Comment, Newline, Construct, Shape, bare_recipe}
use Rattle.justfile_model.specs.Printed.Printing.{after_line_text, fixed_text, expr_text, body_text, doc_line, if_some, if_true, header_text, names_text, file_path_text, setting_value_text, entries_text, content_text, item_text, item_end}
use Rattle.justfile_model.proofs.Printed.DocsText.{none_shown}
use Rattle.justfile_round_trip.proofs.LiteralTexts.LexedModes.{Sign, sign, space, newline, text_of}
use Rattle.justfile_round_trip.proofs.Canon.{ShapeLine, ShapeContent, ShapeItem, paren_left, paren_right, word, expr_signs, body_signs, then, expr_is, flag_signs, flag_is}
use Rattle.justfile_round_trip.proofs.Attributes.CanonAttributes.{ShapeEntry, comment_signs, entries_signs, comment_is, entries_are}
use Rattle.justfile_round_trip.proofs.Headers.CanonHeaders.{ShapeHeader, path_signs, path_is, header_signs, header_is}
use Rattle.justfile_round_trip.proofs.Items.CanonParts.{path_value, colon_equals, word_signs, names_signs, file_path_signs, optional_path_signs, setting_value_signs, word_is, names_are, optional_path_is, setting_value_is, question_mark}

-- a recipe without a doc, after attributes
abbrev pub recipe_item : List ShapeEntry → ShapeHeader → (comment : Option (List ℕ)) → List ShapeLine → ShapeItem
recipe_item entries header comment body = Construct entries (Recipe (bare_recipe header comment body))

-- of a recipe the header, with the comment after it
abbrev pub content_signs : ShapeContent → List Sign → List Sign
content_signs (Alias parts) ts = word (codes "alias") ∷ space ∷ word parts.name ∷ space ∷ colon_equals ∷ space ∷ path_signs parts.target ts
content_signs (Assignment parts) ts =
    word_signs parts.eager (codes "eager") (word_signs parts.export (codes "export") (word parts.name ∷ space ∷ colon_equals ∷ space ∷ expr_signs parts.value ts))
content_signs (Function parts) ts =
    word parts.name ∷ paren_left ∷ names_signs parts.parameters (paren_right ∷ space ∷ colon_equals ∷ space ∷ expr_signs parts.body ts)
content_signs (Import parts) ts = word (codes "import") ∷ flag_signs parts.optional question_mark (space ∷ file_path_signs parts.path ts)
content_signs (Module parts) ts = word (codes "mod") ∷ flag_signs parts.optional question_mark (space ∷ word parts.name ∷ optional_path_signs parts.path ts)
content_signs (Recipe parts) ts = header_signs parts.header (comment_signs parts.comment ts)
content_signs (Setting parts) ts = word (codes "set") ∷ space ∷ word parts.name ∷ setting_value_signs parts.value ts
content_signs (Unexport name) ts = word (codes "unexport") ∷ space ∷ word name ∷ ts

abbrev pub item_signs : ShapeItem → List Sign → List Sign
item_signs Newline ts = ts
item_signs (Comment t) ts = sign kinds.Comment t ∷ ts
item_signs (Construct entries content) ts = entries_signs entries (content_signs content ts)

-- the lines of the body of a recipe
abbrev pub body_in : ShapeContent → List ShapeLine
body_in (Recipe parts) = parts.body
body_in _ = []

abbrev pub body_of : ShapeItem → List ShapeLine
body_of (Construct entries content) = body_in content
body_of _ = []

abbrev pub end_signs : ShapeItem → Shape → List Sign → List Sign
end_signs Newline items ts = newline ∷ ts
end_signs i [] ts = ts
end_signs i (Newline ∷ items) ts = ts
end_signs i (j ∷ items) ts = space ∷ ts

-- Items after a header whose body has these lines. The line end after a body is that of its last line, and its Dedent comes after it.
abbrev pub signs_from : List ℕ → (body : List ShapeLine) → Shape → List Sign
signs_from ind body [] = []
signs_from ind body (Newline ∷ items) = newline ∷ body_signs ind body (signs_from ind [] items)
signs_from ind body (i ∷ items) = item_signs i (end_signs i items (signs_from ind (body_of i) items))

abbrev pub signs : List ℕ → Shape → List Sign
signs ind items = signs_from ind [] items

-- ---- their text is the text of the definitions

-- where the text of its body, if it has one, is that of other tokens with what follows
content_is : (ind : List ℕ) (c : ShapeContent) (more : List ℕ) (ts : List Sign) → body_text ind (body_in c) ++ more ≡ text_of ts → content_text c ind ++ more ≡ text_of (content_signs c ts)
unfolding fixed_text
content_is ind (Recipe parts) more ts e =
    then (header_text parts.header ++ after_line_text parts.comment) (body_text ind parts.body) more e
    (then (header_text parts.header) (after_line_text parts.comment) _ (comment_is parts.comment ts) (header_is parts.header _))
content_is ind (Alias a) more ts e =
    then ((codes "alias " ++ a.name) ++ codes " := ") (path_text a.target) more (ap (λ m. path_text a.target ++ m) e ∙ path_is a.target ts)
    (then (codes "alias " ++ a.name) (codes " := ") _ refl (then (codes "alias ") a.name _ refl refl))
content_is ind (Assignment a) more ts e =
    let eager = if_true a.eager (codes "eager ") in
    let export = if_true a.export (codes "export ") in
    then (((eager ++ export) ++ a.name) ++ codes " := ") (expr_text a.value) more (ap (λ m. expr_text a.value ++ m) e ∙ expr_is a.value ts)
    (then ((eager ++ export) ++ a.name) (codes " := ") _ refl
    (then (eager ++ export) a.name _ refl (then eager export _ (word_is a.export (codes "export") _) (word_is a.eager (codes "eager") _))))
content_is ind (Function f) more ts e =
    let names = names_text f.parameters in
    then (((f.name ++ codes "(") ++ names) ++ codes ") := ") (expr_text f.body) more (ap (λ m. expr_text f.body ++ m) e ∙ expr_is f.body ts)
    (then ((f.name ++ codes "(") ++ names) (codes ") := ") _ refl
    (then (f.name ++ codes "(") names _ (names_are f.parameters _) (then f.name (codes "(") _ refl refl)))
content_is ind (Import i) more ts e =
    let question = if_true i.optional (codes "?") in
    then ((codes "import" ++ question) ++ codes " ") (file_path_text i.path) more (ap (λ m. file_path_text i.path ++ m) e ∙ expr_is (path_value i.path) ts)
    (then (codes "import" ++ question) (codes " ") _ refl (then (codes "import") question _ (flag_is i.optional question_mark _) refl))
content_is ind (Module m) more ts e =
    let question = if_true m.optional (codes "?") in
    let path = if_some (λ path. codes " " ++ file_path_text path) m.path in
    then (((codes "mod" ++ question) ++ codes " ") ++ m.name) path more (ap (λ t. path ++ t) e ∙ optional_path_is m.path ts)
    (then ((codes "mod" ++ question) ++ codes " ") m.name _ refl
    (then (codes "mod" ++ question) (codes " ") _ refl (then (codes "mod") question _ (flag_is m.optional question_mark _) refl)))
content_is ind (Setting s) more ts e =
    then (codes "set " ++ s.name) (setting_value_text s.value) more (ap (λ m. setting_value_text s.value ++ m) e ∙ setting_value_is s.value ts) (then (codes "set ") s.name _ refl refl)
content_is ind (Unexport name) more ts e = then (codes "unexport ") name more refl (ap (λ m. codes "unexport " ++ (name ++ m)) e)

pub item_is : (ind : List ℕ) (i : ShapeItem) (more : List ℕ) (ts : List Sign) → IsPlain i → body_text ind (body_of i) ++ more ≡ text_of ts → item_text i ind ++ more ≡ text_of (item_signs i ts)
item_is ind Newline more ts h e = e
item_is ind (Comment t) more ts h e = ap (λ m. t ++ m) e
item_is ind (Construct entries content) more ts h e =
    ap (λ doc. ((if_some doc_line doc ++ entries_text entries) ++ content_text content ind) ++ more) (none_shown entries content h)
    ∙ then (entries_text entries) (content_text content ind) more (content_is ind content more ts e) (entries_are entries _)

pub end_is : (i : ShapeItem) (items : Shape) (ts : List Sign) → item_end i items ++ text_of ts ≡ text_of (end_signs i items ts)
unfolding fixed_text
end_is Newline items ts = refl
end_is i (Newline ∷ items) ts = refl
end_is i _ ts = refl
