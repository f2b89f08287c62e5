-- The text of good items lexes to the printer's tokens.
use Rattle.std.proofs.Common.{◌≡◌, ℕ, Bool, true, false, List, [], ◌∷◌, ◌++◌, Option, Some, None, refl, sym, ap, ◌∙◌, append_assoc, subst}
use Rattle.justfile_vocabulary.specs.declared.token_kind.TokenKind.TheVariants as kinds
use Rattle.justfile_vocabulary.specs.ByteClass.{class_of}
use Rattle.justfile_model.proofs.Printed.PlainFiles.{IsPlain}
use Rattle.justfile_model.specs.Printed.Printing.{body_text, fixed_text, item_end, item_text, text}
use Rattle.justfile_model.specs.Lexing.Modes.{is_empty}
use Rattle.justfile_model.specs.Trees.Tree as tree
use Rattle.justfile_model.specs.Trees.Tree.{Shape}
use Rattle.justfile_model.specs.Lexing.Next.{next}
use Rattle.justfile_round_trip.proofs.LiteralTexts.Inline.{goes}
use Rattle.justfile_round_trip.proofs.LiteralTexts.LexedModes.{Sign, sign, newline, Lexes, end, text_of}
use Rattle.justfile_round_trip.proofs.RecipeBodies.Lines.{ItemLexes, begins_item, at_item, item_comment, item_newline, line_end}
use Rattle.justfile_round_trip.proofs.Canon.{ShapeLine, ShapeContent, ShapeItem, body_signs, lines_are}
use Rattle.justfile_round_trip.proofs.Attributes.CanonAttributes.{ShapeEntry, comment_signs}
use Rattle.justfile_round_trip.proofs.Headers.CanonHeaders.{ShapeHeader}
use Rattle.justfile_round_trip.proofs.Items.CanonItems.{recipe_item, body_in, body_of, item_is, item_signs, end_is, end_signs, signs_from, signs}
use Rattle.justfile_round_trip.proofs.Good.{GoodBody, GoodComment, GoodOptionalComment, EndedBody}
use Rattle.justfile_round_trip.proofs.Attributes.GoodAttributes.{GoodEntries}
use Rattle.justfile_round_trip.proofs.Items.GoodContents.{GoodContent, content_no_body, content_no_doc}
use Rattle.justfile_round_trip.proofs.Headers.GoodHeaders.{GoodHeader}
use Rattle.justfile_round_trip.proofs.Items.GoodItems as good
use Rattle.justfile_round_trip.proofs.Items.GoodItems.{AtStart, ItemRest, AtEnd, AfterBody, follows_body}
use Rattle.justfile_round_trip.proofs.Attributes.LexesAttributes.{commented_end, lex_attributes, trailing}
use Rattle.justfile_round_trip.proofs.Items.LexesParts.{lex_content}
use Rattle.justfile_round_trip.proofs.Headers.LexesHeaders.{StopsHeader, lex_header}
use Rattle.justfile_round_trip.proofs.RecipeBodies.BodyLines.{IsLevel, ends_at_blank_line, ends_at_item, ends_body}
use Rattle.justfile_round_trip.proofs.RecipeBodies.Bodies.{lex_body}

-- ---- the printed text is that of the tokens

module _ (limit : ℕ) (ind : List ℕ) where
  -- a body, with the line end before it and that of its last line
  body_is : (ls : List ShapeLine) (ts : List Sign) → GoodBody limit ls → body_text ind ls ++ (10 ∷ text_of ts) ≡ 10 ∷ text_of (body_signs ind ls ts)
  body_is [] ts h = absurd h
  body_is (tree.Line n [] ∷ ls) ts h = absurd h.0
  body_is (tree.Line n (f ∷ fs) ∷ ls) ts h = lines_are ind (tree.Line n (f ∷ fs) ∷ ls) (sign kinds.Dedent [] ∷ ts)

  -- an item without a body, and the text after it
  unbodied_text : (i : ShapeItem) (items : Shape) (ts : List Sign) → IsPlain i → body_of i ≡ [] → text items ind ≡ text_of ts → text (i ∷ items) ind ≡ text_of (item_signs i (end_signs i items ts))
  unbodied_text i items ts plain none e =
      append_assoc (item_text i ind) (item_end i items) (text items ind)
      ∙ item_is ind i _ (end_signs i items ts) plain (ap (λ b. body_text ind b ++ (item_end i items ++ text items ind)) none ∙ ap (λ t. item_end i items ++ t) e ∙ end_is i items ts)

  mutual
    unfolding fixed_text

    pub text_is : {items : Shape} → AtStart limit items → text items ind ≡ text_of (signs ind items)
    text_is good.end = refl
    text_is (good.newline {items = items} more) = ap (λ t. 10 ∷ t) (text_is more)
    text_is (good.comment {t = t} {items = items} h more) = unbodied_text (tree.Comment t) items (signs ind items) tt refl (end_text more)
    text_is (good.on_line {entries = entries} {content = content} {items = items} attributes h more) =
        let none = content_no_body limit h in
        unbodied_text (tree.Construct entries content) items (signs_from ind (body_in content) items) (content_no_doc limit h) none
        (rest_text more ∙ ap (λ b. text_of (signs_from ind b items)) (sym none))
    text_is (good.recipe {entries = entries} {h = header} {comment = comment} {l = l} {ls = ls} attributes h commented body (good.body_end {items = items} follows last more)) =
        let i = recipe_item entries header comment (l ∷ ls) in
        append_assoc (item_text i ind) [] (10 ∷ text items ind)
        ∙ item_is ind i _ (newline ∷ body_signs ind (l ∷ ls) (signs ind items)) refl (ap (λ t. body_text ind (l ∷ ls) ++ (10 ∷ t)) (text_is more) ∙ body_is (l ∷ ls) (signs ind items) body.good)

    rest_text : {items : Shape} → ItemRest limit items → text items ind ≡ text_of (signs ind items)
    rest_text (good.trailing {t = t} {items = items} h more) = unbodied_text (tree.Comment t) items (signs ind items) tt refl (end_text more)
    rest_text (good.bare more) = end_text more

    end_text : {items : Shape} → AtEnd limit items → text items ind ≡ text_of (signs ind items)
    end_text (good.line_end more) = ap (λ t. 10 ∷ t) (text_is more)

-- ---- it lexes to them

at_end : (c : Bool) → Lexes (at_item c) []
unfolding next
at_end c = end (at_item c) refl

some_item : (t : List ℕ) → begins_item t ≡ true → is_empty t ≡ false
some_item [] h = cc
some_item (x ∷ xs) h = refl

module _ (limit : ℕ) (ind : List ℕ) (level : IsLevel ind) where
  -- items from the start of a line on: their text is lexed, and can follow a body where they can
  pub record Started (c : Bool) (items : Shape) : Type 0 where
    pub lexes : Lexes (at_item c) (signs ind items)
    pub some : is_empty (text_of (signs ind items)) ≡ is_empty items
    pub follows : follows_body items ≡ true → ends_body (text_of (signs ind items)) ≡ true

  with_item : {c : Bool} (i : ShapeItem) (items : Shape) → ItemLexes c (signs ind (i ∷ items)) → Started c (i ∷ items)
  with_item i items r = record { lexes = r.lexes; some = some_item _ r.begins; follows = λ _. ends_at_item _ r.begins }

  with_newline : {c : Bool} (items : Shape) → Started c items → Started c (tree.Newline ∷ items)
  with_newline [] r = record { lexes = item_newline _ r.lexes; some = refl; follows = λ h. cc }
  with_newline (j ∷ items) r = record { lexes = item_newline _ r.lexes; some = refl; follows = λ h. ends_at_blank_line _ r.some (r.follows h) }

  -- a construct has no body whose lines would come after it
  unbodied : (c : Bool) (entries : List ShapeEntry) (content : ShapeContent) → GoodContent limit content → (items : Shape)
      → ItemLexes c (item_signs (tree.Construct entries content) (end_signs (tree.Construct entries content) items (signs_from ind [] items)))
      → Started c (tree.Construct entries content ∷ items)
  unbodied c entries content h items r =
      let i = tree.Construct entries content in
      with_item i items (subst (λ body. ItemLexes c (item_signs i (end_signs i items (signs_from ind body items)))) (sym (content_no_body limit h)) r)

  mutual
    unfolding class_of

    -- a colon that came before changes nothing here: no blank begins a line
    pub lex_start : (c : Bool) {items : Shape} → AtStart limit items → Started c items
    lex_start c good.end = record { lexes = at_end c; some = refl; follows = λ h. refl }
    lex_start c (good.newline {items = items} more) = with_newline items (lex_start c more)
    lex_start c (good.comment {t = t} h more) = lex_end c t h more
    lex_start c (good.on_line {entries = entries} {content = content} attributes h more) = lex_after c entries content attributes h more
    lex_start c (good.recipe {entries = entries} {h = header} {comment = comment} {l = l} {ls = ls} attributes h commented body more) =
        lex_block c entries header comment l ls attributes h commented body more

    -- a construct on one line, and the items after it
    lex_after : (c : Bool) (entries : List ShapeEntry) (content : ShapeContent) {items : Shape} → GoodEntries limit entries → GoodContent limit content
        → ItemRest limit items → Started c (tree.Construct entries content ∷ items)
    lex_after c entries content attributes h (good.trailing {t = t} commented (good.line_end {items = items} more)) =
        unbodied c entries content h (tree.Comment t ∷ tree.Newline ∷ items)
        (lex_attributes limit c _ attributes (lex_content c limit h (record { no_equals = refl; no_colon = refl }) (λ d. goes refl (λ f. trailing d f t commented (lex_start d more).lexes))))
    lex_after c entries content attributes h (good.bare (good.line_end {items = items} more)) =
        unbodied c entries content h (tree.Newline ∷ items)
        (lex_attributes limit c _ attributes (lex_content c limit h (record { no_equals = refl; no_colon = refl }) (λ d. goes refl (λ f. line_end d f (lex_start d more).lexes))))

    -- a recipe with a body, the end of its last line, and the items after that
    lex_block : (c : Bool) (entries : List ShapeEntry) (header : ShapeHeader) (comment : Option (List ℕ)) (l : ShapeLine) (ls : List ShapeLine) {items : Shape}
        → GoodEntries limit entries → GoodHeader limit header → GoodOptionalComment comment → EndedBody limit (l ∷ ls) → AfterBody limit (l ∷ ls) items
        → Started c (recipe_item entries header comment (l ∷ ls) ∷ items)
    lex_block c entries header comment l ls attributes h commented body (good.body_end {items = items} follows last more) =
        let rest = lex_start false more in
        with_item _ (tree.Newline ∷ items)
        (lex_attributes limit c _ attributes
        (lex_header c header h.lexes (stops comment _)
        (commented_end true comment commented (lex_body limit ind (l ∷ ls) level body.good (rest.follows follows) (λ p. ap (λ items. text_of (signs ind items)) (last p)) rest.lexes))))
      where
        stops : (comment : Option (List ℕ)) (ts : List Sign) → StopsHeader (comment_signs comment (newline ∷ ts))
        stops None ts = record { no_equals = refl; no_colon = refl }
        stops (Some t) ts = record { no_equals = refl; no_colon = refl }

    -- a comment, and the items after it
    lex_end : (c : Bool) (t : List ℕ) {items : Shape} → GoodComment t → AtEnd limit items → Started c (tree.Comment t ∷ items)
    lex_end c t h (good.line_end {items = items} more) = with_item (tree.Comment t) (tree.Newline ∷ items) (item_comment c t h.comment h.utf8 (line_end c false (lex_start c more).lexes))
