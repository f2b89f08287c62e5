-- The normal shape of what any text derives is good.
use Rattle.std.proofs.Common.{◌≡◌, ℕ, Bool, true, false, ◌&&◌, List, [], ◌∷◌, ◌++◌, Option, Some, None, refl, sym, ap, ◌∙◌, subst}
use Rattle.std.specs.Str.{trim_end}
use Rattle.std.proofs.lemmas.Bool.{and_parts}
use Rattle.justfile_vocabulary.specs.declared.token_kind.TokenKind.TheVariants as kinds
use Rattle.justfile_model.specs.Lexing.SignificantTokens.{SignificantToken}
use Rattle.justfile_model.specs.Trees.Tree as tree
use Rattle.justfile_model.specs.Grammars.AttributeLines as attribute
use Rattle.justfile_model.specs.Grammars.AttributeLines.{AttributeLines}
use Rattle.justfile_model.specs.Meanings.AttributeRules.{attributes_broken, of_some}
use Rattle.justfile_model.specs.Grammars.Conditions.{VersionNumbers}
use Rattle.justfile_model.specs.Meanings.ConstructRules.{construct_broken, form_broken, meaning_broken}
use Rattle.justfile_model.specs.Grammars.Features.{ConstructFeatures}
use Rattle.justfile_model.specs.Grammars.Headers as header
use Rattle.justfile_model.specs.Grammars.Headers.{HeaderOf}
use Rattle.justfile_model.specs.Meanings.Meaning.{entries_of}
use Rattle.justfile_model.specs.Meanings.RecipeRules.{header_broken}
use Rattle.justfile_model.specs.Trees.LeafView.{LeafView}
use Rattle.justfile_model.specs.Trees.Tree.{Shape, WrittenShape, assignment_of, bare_recipe, lexeme, nothing, trimmed}
use Rattle.justfile_model.specs.Grammars.Grammar as g
use Rattle.justfile_model.specs.Grammars.Expressions.{IsKind, BelowLimit, Expression}
use Rattle.justfile_model.specs.Grammars.Grammar.{BeforeBody, NotEmpty, OnLine, Items, ItemRest, LineEnd, File}
use Rattle.justfile_model.specs.Grammars.Files.{broken, item_broken, to_lexemes}
use Rattle.justfile_model.specs.Printed.NormalShape.{after_newline, normal_rest, normal}
use Rattle.justfile_model.specs.Printed.Printing.{printable_body, printable_content, printable}
use Rattle.justfile_model.proofs.Lists.Binds.{nothing_in}
use Rattle.justfile_round_trip.proofs.Canon.{Shown, Value, ShapeLine, ShapeContent}
use Rattle.justfile_round_trip.proofs.Attributes.CanonAttributes.{Written, ShapeEntry}
use Rattle.justfile_round_trip.proofs.Headers.CanonHeaders.{ShapeHeader}
use Rattle.justfile_round_trip.proofs.Items.CanonItems.{recipe_item}
use Rattle.justfile_round_trip.proofs.Good.{EndedBody, GoodOptionalComment, pale_after}
use Rattle.justfile_round_trip.proofs.Attributes.GoodAttributes.{GoodEntries}
use Rattle.justfile_round_trip.proofs.Headers.GoodHeaders.{GoodHeader}
use Rattle.justfile_round_trip.proofs.Items.GoodContents as contents
use Rattle.justfile_round_trip.proofs.Items.GoodContents.{GoodContent}
use Rattle.justfile_round_trip.proofs.Items.GoodItems as good
use Rattle.justfile_round_trip.proofs.Items.GoodItems.{follows_body, AtStart, AtEnd, After, AfterBody, past_newline}
use Rattle.justfile_round_trip.proofs.Means.{ShapeWritten, entries_or_none, meant}
use Rattle.justfile_round_trip.proofs.Attributes.WrittenAttributes.{attributes_good}
use Rattle.justfile_round_trip.proofs.Values.TokenFacts.{outside, Known, Sound}
use Rattle.justfile_round_trip.proofs.RecipeBodies.BodyTokens.{First}
use Rattle.justfile_round_trip.proofs.RecipeBodies.BodyFacts.{situation_after, no_body, NextIs, BodySound}
use Rattle.justfile_round_trip.proofs.RecipeBodies.BodyGood.{LinesOf, inner, outside_first, indent_leads, Walked, body_read}
use Rattle.justfile_round_trip.proofs.Headers.WrittenHeaders.{IsHeader, header_after, header_at, outside_header}
use Rattle.justfile_round_trip.proofs.Items.WrittenParts.{file_path_good, names_good, setting_value_good}
use Rattle.justfile_round_trip.proofs.Ahead.{Ahead, AheadOf, Passed, lexed_comment, lexed_name, past_ahead, past_token, path_good, value_good}
use Rattle.justfile_round_trip.proofs.Attributes.MeantAttributes.{entries_good}
use Rattle.justfile_round_trip.proofs.RecipeBodies.BodyGood.{outside_after}
use Rattle.justfile_round_trip.proofs.RecipeBodies.Trimmed.{trimmed_twice, trimmed_printable}
use Rattle.justfile_round_trip.proofs.RecipeBodies.BodyFollows.{following, newline_follows}
use Rattle.justfile_round_trip.proofs.Values.WrittenValues.{past}

-- ---- bodies

past_indent : (t : SignificantToken) (ts : List SignificantToken) → IsKind kinds.Indent t → Walked IsHeader (t ∷ ts) → BodySound (inner First false true) ts
past_indent t ts e w =
    subst (λ o. BodySound o ts) (indent_leads t.tok.lexeme w.situation w.is.colon w.is.is_outside.interpolation w.is.is_outside.levels)
    (subst (λ k. BodySound (situation_after k t.tok.lexeme w.situation) ts) e w.sound.1)

-- the properties of the tokens at the first line of a body
record InBody (text : Option (List ℕ)) (ts : List SignificantToken) : Type 0 where
  comment : GoodOptionalComment text
  facts : Sound outside false ts
  body : BodySound (inner First false true) ts

before_body : {text : Option (List ℕ)} {ts rest : List SignificantToken} → BeforeBody text ts rest → AheadOf IsHeader outside false ts → InBody text rest
before_body (g.at_once {newline} {indent} {rest} kind kind2) a =
    let b = past_ahead header_after newline (indent ∷ rest) kinds.Eol kind refl a in
    record { comment = tt; facts = past outside indent rest kinds.Indent kind2 b.facts.2; body = past_indent indent rest kind2 b.bodies }
before_body (g.commented {comment} {newline} {indent} {rest} kind kind2 kind3) a =
    let b = past_ahead header_after newline (indent ∷ rest) kinds.Eol kind2 refl (past_ahead header_after comment (newline ∷ indent ∷ rest) kinds.Comment kind refl a) in
    record { comment = lexed_comment comment kind a.facts.0; facts = past outside indent rest kinds.Indent kind3 b.facts.2; body = past_indent indent rest kind3 b.bodies }

module _ (limit : ℕ) where
  -- a recipe with a body; where levels would close within it, the file ends after it
  record BlockGood (h : ShapeHeader) (comment : Option (List ℕ)) (body : List ShapeLine) (rest : List SignificantToken) : Type 0 where
    header : GoodHeader limit h
    commented : GoodOptionalComment comment
    good : EndedBody limit body
    some : NotEmpty body
    last : pale_after body ≡ true → NextIs (λ k. k ≡ kinds.Eof) rest
    following : Ahead outside false rest

  block_good : {fs ns : Shown} {h : ShapeHeader} {lines : List ShapeLine} {comment : Option (List ℕ)} {tokens next body rest : List SignificantToken}
      → HeaderOf lexeme nothing nothing (BelowLimit limit) h fs tokens next → header_broken h ≡ [] → BeforeBody comment next body → LinesOf limit lines ns body rest
      → NotEmpty (trimmed lines)
      → (c : Bool) → Ahead outside c tokens → printable_body (trimmed lines) ≡ true → BlockGood h comment (trimmed lines) rest
  block_good {lines = lines} head unbroken before read some c h p =
      let named = header_at limit head unbroken h in
      let start = before_body before named.following in
      let body = body_read limit true read start.facts start.body (sym (trimmed_printable lines) ∙ p) in
      record {
        header = named.good;
        commented = start.comment;
        good = record { good = body.good; ended = trimmed_twice lines };
        some = some;
        last = body.last;
        following = record { facts = body.facts; bodies = record { situation = no_body; is = outside_first; sound = body.sound } };
      }

  -- an assignment, after the word before it
  assigned : (eager export : Bool) → (eager && export) ≡ false → {e : Value} {ns : Shown} (name operator : SignificantToken) (ts : List SignificantToken) {rest : List SignificantToken}
      → IsKind kinds.Identifier name → IsKind kinds.ColonEquals operator → Expression lexeme nothing (BelowLimit limit) false 0 e ns ts rest
      → Ahead outside false (name ∷ operator ∷ ts) → Passed (GoodContent limit (tree.Assignment (assignment_of eager export name.tok.lexeme e))) rest
  assigned eager export one name operator ts kind kind2 x h =
      let v = value_good limit x (past_token operator ts kinds.ColonEquals kind2 refl (past_token name (operator ∷ ts) kinds.Identifier kind refl h)) in
      record { good = contents.assignment one (lexed_name name kind h.facts.0) v.good; following = v.following }

  -- ---- line ends of the normal shape

  start_after_newline : (r : Shape) → AtStart limit r → AtStart limit (after_newline r)
  start_after_newline (tree.Newline ∷ []) h = h
  start_after_newline (tree.Newline ∷ tree.Newline ∷ r) h = h
  start_after_newline _ h = good.newline h

  end_after_newline : (r : Shape) → AtStart limit r → AtEnd limit (after_newline r)
  end_after_newline (tree.Newline ∷ []) h = good.line_end (past_newline limit h)
  end_after_newline (tree.Newline ∷ tree.Newline ∷ r) h = good.line_end (past_newline limit h)
  end_after_newline _ h = good.line_end h

  after_end : (c : Bool) (r : Shape) → AtEnd limit r → After limit c r
  after_end true r h = h
  after_end false r h = good.bare h

  -- the line end that is made after a body
  optional_body_newline : (body : List ShapeLine) (items : Shape) → (pale_after body ≡ true → items ≡ []) → AtStart limit (normal_rest items) → AfterBody limit body (after_newline (normal_rest items))
  optional_body_newline body items last h = by (normal_rest items) (newline_follows items) (λ p. ap (λ i. following (after_newline (normal_rest i))) (last p)) h
    where
      by : (r : Shape) → follows_body (following (after_newline r)) ≡ true → (pale_after body ≡ true → following (after_newline r) ≡ []) → AtStart limit r → AfterBody limit body (after_newline r)
      by (tree.Newline ∷ []) f l h = good.body_end f l (past_newline limit h)
      by (tree.Newline ∷ tree.Newline ∷ r) f l h = good.body_end f l (past_newline limit h)
      by _ f l h = good.body_end f l h

  start_block : (entries : List ShapeEntry) (h : ShapeHeader) (comment : Option (List ℕ)) (body : List ShapeLine) (items : Shape) → NotEmpty body
      → GoodEntries limit entries → GoodHeader limit h → GoodOptionalComment comment → EndedBody limit body → AfterBody limit body items
      → AtStart limit (recipe_item entries h comment body ∷ items)
  start_block entries h comment [] items some attributes head commented b more = absurd some
  start_block entries h comment (l ∷ ls) items some attributes head commented b more = good.recipe attributes head commented b more

  -- no construct begins with the end of the file: it begins with a bracket, or with the first token of its content
  no_construct : {P : Type 0} {ws : List Written} {ns : Shown} {ts rest : List SignificantToken}
      → AttributeLines lexeme nothing (BelowLimit limit) ws ns ts rest → (NextIs (λ k. k ≡ kinds.Eof) rest → P) → NextIs (λ k. k ≡ kinds.Eof) ts → P
  no_construct (attribute.none next) other e = other e
  no_construct (attribute.line kind2 inside end after) other e = let bad : kinds.BracketL ≡ kinds.Eof = sym kind2 ∙ e in cc

  no_name : {P : Type 0} (name : SignificantToken) → IsKind kinds.Identifier name → name.tok.kind ≡ kinds.Eof → P
  no_name name kind e = let bad : kinds.Identifier ≡ kinds.Eof = sym kind ∙ e in cc

  no_header : {P : Type 0} {h : ShapeHeader} {fs : Shown} {ts rest : List SignificantToken} → HeaderOf lexeme nothing nothing (BelowLimit limit) h fs ts rest
      → NextIs (λ k. k ≡ kinds.Eof) ts → P
  no_header (header.quiet kind named) e = let bad : kinds.At ≡ kinds.Eof = sym kind ∙ e in cc
  no_header (header.loud (header.header {name = name} kind parameters all)) e = no_name name kind e

  no_content : {P : Type 0} {c : ShapeContent} {fs : Shown} {ts rest : List SignificantToken} → OnLine to_lexemes (BelowLimit limit) c fs ts rest
      → NextIs (λ k. k ≡ kinds.Eof) ts → P
  no_content (g.alias {word = word} is kind kind2 to) e = no_name word is.is_name e
  no_content (g.assignment {name = name} kind kind2 x) e = no_name name kind e
  no_content (g.eager {word = word} is kind kind2 x) e = no_name word is.is_name e
  no_content (g.export {word = word} is kind kind2 x) e = no_name word is.is_name e
  no_content (g.function {name = name} kind kind2 names kind3 x) e = no_name name kind e
  no_content (g.import {word = word} is at) e = no_name word is.is_name e
  no_content (g.optional_import {word = word} is kind at) e = no_name word is.is_name e
  no_content (g.module_alone {word = word} is kind next) e = no_name word is.is_name e
  no_content (g.module_at {word = word} is kind at) e = no_name word is.is_name e
  no_content (g.optional_module_alone {word = word} is kind kind2 next) e = no_name word is.is_name e
  no_content (g.optional_module_at {word = word} is kind kind2 at) e = no_name word is.is_name e
  no_content (g.setting {word = word} is named form v) e = no_name word is.is_name e
  no_content (g.unexport {word = word} is kind next) e = no_name word is.is_name e
  no_content (g.header head) e = no_header head e

  file_ended : {items : WrittenShape} {ns : List (ConstructFeatures (Unit {0}))} {ts : List SignificantToken} → Items to_lexemes (BelowLimit limit) items ns ts → NextIs (λ k. k ≡ kinds.Eof) ts → items ≡ []
  file_ended (g.end kind) e = refl
  file_ended (g.blank kind more) e = let bad : kinds.Eol ≡ kinds.Eof = sym kind ∙ e in cc
  file_ended (g.comment kind more) e = let bad : kinds.Comment ≡ kinds.Eof = sym kind ∙ e in cc
  file_ended (g.on_line a x more) e = no_construct a (no_content x) e
  file_ended (g.block a (g.recipe head before read some) more) e = no_construct a (no_header head) e

  -- ---- items

  -- where this is the running version
  module _ (current : VersionNumbers) (view : LeafView (List ℕ) (Unit {0})) where
    -- the normal shape of the meaning of written items
    abbrev rest_of : WrittenShape → Shape
    rest_of items = normal_rest (meant view items)

    -- a construct on one line that breaks no rule with any attributes
    content_good : {content : ShapeContent} {ns : Shown} {ts rest : List SignificantToken} → OnLine to_lexemes (BelowLimit limit) content ns ts rest
        → form_broken current view content ≡ [] → Ahead outside false ts → Passed (GoodContent limit content) rest
    content_good (g.alias {word = word} {name = name} {operator = operator} {tokens = ts} is kind kind2 to) u h =
        let named = past_token word (name ∷ operator ∷ ts) kinds.Identifier is.is_name refl h in
        let x = path_good outside_after to (past_token operator ts kinds.ColonEquals kind2 refl (past_token name (operator ∷ ts) kinds.Identifier kind refl named)) in
        record { good = contents.alias (lexed_name name kind named.facts.0) x.good; following = x.following }
    content_good (g.assignment {name = name} {operator = operator} {tokens = ts} kind kind2 x) u h = assigned false false refl name operator ts kind kind2 x h
    content_good (g.eager {word = word} {name = name} {operator = operator} {tokens = ts} is kind kind2 x) u h =
        assigned true false refl name operator ts kind kind2 x (past_token word (name ∷ operator ∷ ts) kinds.Identifier is.is_name refl h)
    content_good (g.export {word = word} {name = name} {operator = operator} {tokens = ts} is kind kind2 x) u h =
        assigned false true refl name operator ts kind kind2 x (past_token word (name ∷ operator ∷ ts) kinds.Identifier is.is_name refl h)
    content_good (g.function {name = name} {opener = opener} {operator = operator} {tokens = ts} {next = next} kind kind2 names kind3 x) u h =
        let inside = names_good names (past_token opener ts kinds.ParenL kind2 refl (past_token name (opener ∷ ts) kinds.Identifier kind refl h)) in
        let v = value_good limit x (past_token operator next kinds.ColonEquals kind3 refl inside.following) in
        record { good = contents.function (lexed_name name kind h.facts.0) inside.good v.good; following = v.following }
    content_good (g.import {word = word} {tokens = ts} is at) u h =
        let x = file_path_good at (past_token word ts kinds.Identifier is.is_name refl h) in
        record { good = contents.import x.good; following = x.following }
    content_good (g.optional_import {word = word} {question_mark = mark} {tokens = ts} is kind at) u h =
        let x = file_path_good at (past_token mark ts kinds.QuestionMark kind refl (past_token word (mark ∷ ts) kinds.Identifier is.is_name refl h)) in
        record { good = contents.import x.good; following = x.following }
    content_good (g.module_alone {word = word} {name = name} {rest = rest} is kind next) u h =
        let named = past_token word (name ∷ rest) kinds.Identifier is.is_name refl h in
        record { good = contents.module_named (lexed_name name kind named.facts.0) tt; following = past_token name rest kinds.Identifier kind refl named }
    content_good (g.module_at {word = word} {name = name} {tokens = ts} is kind at) u h =
        let named = past_token word (name ∷ ts) kinds.Identifier is.is_name refl h in
        let x = file_path_good at (past_token name ts kinds.Identifier kind refl named) in
        record { good = contents.module_named (lexed_name name kind named.facts.0) x.good; following = x.following }
    content_good (g.optional_module_alone {word = word} {question_mark = mark} {name = name} {rest = rest} is kind kind2 next) u h =
        let named = past_token mark (name ∷ rest) kinds.QuestionMark kind refl (past_token word (mark ∷ name ∷ rest) kinds.Identifier is.is_name refl h) in
        record { good = contents.module_named (lexed_name name kind2 named.facts.0) tt; following = past_token name rest kinds.Identifier kind2 refl named }
    content_good (g.optional_module_at {word = word} {question_mark = mark} {name = name} {tokens = ts} is kind kind2 at) u h =
        let named = past_token mark (name ∷ ts) kinds.QuestionMark kind refl (past_token word (mark ∷ name ∷ ts) kinds.Identifier is.is_name refl h) in
        let x = file_path_good at (past_token name ts kinds.Identifier kind2 refl named) in
        record { good = contents.module_named (lexed_name name kind2 named.facts.0) x.good; following = x.following }
    content_good (g.setting {word = word} {name = name} {tokens = ts} is named form v) u h =
        let on = past_token word (name ∷ ts) kinds.Identifier is.is_name refl h in
        let x = setting_value_good limit v (past_token name ts kinds.Identifier named.is_name refl on) in
        record { good = contents.setting (lexed_name name named.is_name on.facts.0) named.spelled form x.good; following = x.following }
    content_good (g.unexport {word = word} {name = name} {rest = rest} is kind next) u h =
        let named = past_token word (name ∷ rest) kinds.Identifier is.is_name refl h in
        record { good = contents.unexport (lexed_name name kind named.facts.0); following = past_token name rest kinds.Identifier kind refl named }
    content_good (g.header head) u h =
        let found = header_at limit head u h in record { good = contents.header found.good; following = outside_header found.following }

    -- attributes before a construct, and the properties of the tokens after them
    record AttributesAhead (ws : List Written) (rest : List SignificantToken) : Type 0 where
      entries : GoodEntries limit (entries_or_none (entries_of view ws))
      following : Ahead outside false rest

    attributes_ahead : {ws : List Written} {ns : Shown} {ts rest : List SignificantToken} → AttributeLines lexeme nothing (BelowLimit limit) ws ns ts rest
        → (c : Bool) → Ahead outside c ts → AttributesAhead ws rest
    attributes_ahead {ws} a c h =
        let x = attributes_good limit a h in
        record { entries = by (λ es e. entries_good limit view ws es e x.good) (entries_of view ws) refl; following = x.following }
      where
        by : ((es : List ShapeEntry) → entries_of view ws ≡ Some es → GoodEntries limit es) → (o : Option (List ShapeEntry)) → entries_of view ws ≡ o
            → GoodEntries limit (entries_or_none o)
        by known None e = tt
        by known (Some es) e = known es e

    -- a comment trails an item that is none
    trailing_good : (t : SignificantToken) (items : WrittenShape) (c : Bool) → IsKind kinds.Comment t → Known outside c t.tok → AtEnd limit (rest_of items) → After limit c (rest_of (tree.Comment (trim_end t.tok.lexeme) ∷ items))
    trailing_good t items true kind h e = absurd (h.apart refl refl kind)
    trailing_good t items false kind h e = good.trailing (lexed_comment t kind h) e

    -- a construct that breaks no rule breaks none with any other attributes: the stars of a recipe are at allowed places
    form_unbroken : (ws : List Written) (content : ShapeContent) (items : WrittenShape) → broken current view (tree.Construct ws content ∷ items) ≡ []
        → form_broken current view content ≡ []
    form_unbroken ws content items unbroken =
        let here = nothing_in (construct_broken current view ws content) (broken current view items) unbroken in
        let attributed = attributes_broken view ws ++ of_some (meaning_broken view content) (entries_of view ws) in
        (nothing_in attributed (form_broken current view content) here.0).1

    -- others break no rule either
    others_unbroken : (i : ShapeWritten) (items : WrittenShape) → broken current view (i ∷ items) ≡ [] → broken current view items ≡ []
    others_unbroken i items unbroken = (nothing_in (item_broken current view i) (broken current view items) unbroken).1

    mutual
      items_good : {items : WrittenShape} {ns : List (ConstructFeatures (Unit {0}))} {ts : List SignificantToken} → Items to_lexemes (BelowLimit limit) items ns ts
          → broken current view items ≡ [] → (c : Bool) → Ahead outside c ts → printable (meant view items) ≡ true → AtStart limit (rest_of items)
      items_good (g.end kind) u c h p = good.newline good.end
      items_good (g.blank {items = items} {token = t} {rest = rest} kind more) u c h p = start_after_newline (rest_of items) (items_good more u false (past_token t rest kinds.Eol kind refl h) p)
      items_good (g.comment {token = t} {rest = rest} kind more) u c h p = good.comment (lexed_comment t kind h.facts.0) (after_good more u true (past_token t rest kinds.Comment kind refl h) p)
      items_good (g.on_line {ws = ws} {c = content} {items = items} a x more) u c h p =
          let before = attributes_ahead a c h in
          let found = content_good x (form_unbroken ws content items u) before.following in
          good.on_line before.entries found.good
          (after_good more (others_unbroken (tree.Construct ws content) items u) false found.following (and_parts (printable_content content) (printable (meant view items)) p).1)
      items_good (g.block {ws = ws} {items = items} {rest = rest} a (g.recipe {h = header} {lines = lines} {comment = comment} head before read some) more) u c h p =
          let parts = and_parts (printable_body (trimmed lines)) (printable (meant view items)) p in
          let attributes = attributes_ahead a c h in
          let b = block_good head (form_unbroken ws (tree.Recipe (bare_recipe header comment (trimmed lines))) (tree.Newline ∷ items) u) before read some false attributes.following parts.0 in
          let others : broken current view items ≡ [] = others_unbroken (tree.Construct ws (tree.Recipe (bare_recipe header comment (trimmed lines)))) (tree.Newline ∷ items) u in
          start_block (entries_or_none (entries_of view ws)) header comment (trimmed lines) (after_newline (rest_of items)) b.some attributes.entries b.header b.commented
          b.good
          (optional_body_newline (trimmed lines) (meant view items) (λ pale. ap (meant view) (file_ended more (b.last pale))) (items_good more others false b.following parts.1))

      after_good : {items : WrittenShape} {ns : List (ConstructFeatures (Unit {0}))} {ts : List SignificantToken} → ItemRest to_lexemes (BelowLimit limit) items ns ts
          → broken current view items ≡ [] → (c : Bool) → Ahead outside c ts → printable (meant view items) ≡ true → After limit c (rest_of items)
      after_good (g.trailing {items = items} {token = t} {rest = rest} kind e) u c h p = trailing_good t items c kind h.facts.0 (line_end_good e u true (past_token t rest kinds.Comment kind refl h) p)
      after_good (g.bare {items = items} e) u c h p = after_end c (rest_of items) (line_end_good e u c h p)

      line_end_good : {items : WrittenShape} {ns : List (ConstructFeatures (Unit {0}))} {ts : List SignificantToken} → LineEnd to_lexemes (BelowLimit limit) items ns ts
          → broken current view items ≡ [] → (c : Bool) → Ahead outside c ts → printable (meant view items) ≡ true → AtEnd limit (rest_of items)
      line_end_good (g.line_end {items = items} {token = t} {rest = rest} kind more) u c h p = end_after_newline (rest_of items) (items_good more u false (past_token t rest kinds.Eol kind refl h) p)
      line_end_good (g.file_end kind) u c h p = good.line_end good.end

    normal_good : (shape : Shape) → AtStart limit (normal_rest shape) → AtStart limit (normal shape)
    normal_good [] h = good.end
    normal_good (i ∷ shape) h = h

    -- the normal shape of a file that breaks no rule, before its docs are taken
    pub file_good : {items : WrittenShape} {ns : List (ConstructFeatures (Unit {0}))} {ts : List SignificantToken} → File to_lexemes (BelowLimit limit) items ns ts
        → broken current view items ≡ [] → Sound outside false ts → BodySound no_body ts → printable (meant view items) ≡ true → AtStart limit (normal (meant view items))
    file_good {items} {ts = ts} file u s b p = normal_good (meant view items) (by file u (record { facts = s; bodies = record { situation = no_body; is = outside_first; sound = b } }) p)
      where
        by : {items : WrittenShape} {ns : List (ConstructFeatures (Unit {0}))} {ts : List SignificantToken} → File to_lexemes (BelowLimit limit) items ns ts → broken current view items ≡ []
            → Ahead outside false ts → printable (meant view items) ≡ true → AtStart limit (rest_of items)
        by (g.with_byte_order_mark {token = t} {rest = rest} kind more) u h p = items_good more u false (past_token t rest kinds.ByteOrderMark kind refl h) p
        by (g.without_byte_order_mark more) u h p = items_good more u false h p
