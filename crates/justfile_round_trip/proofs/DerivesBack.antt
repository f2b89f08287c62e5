-- The printer's tokens for a good shape derive it, and its text is UTF-8.
use Rattle.std.proofs.Common.{ℕ, Bool, true, List, [], ◌∷◌, ◌++◌, Option, Some, None, map, refl, sym, subst}
use Rattle.justfile_vocabulary.specs.declared.token_kind.TokenKind.TheVariants as kinds
use Rattle.justfile_model.specs.Lexing.SignificantTokens.{SignificantToken}
use Rattle.justfile_model.specs.Trees.Tree as tree
use Rattle.justfile_model.specs.Trees.Tree.{Shape, Construct, bare_recipe, lexeme, nothing, trimmed}
use Rattle.justfile_model.specs.Grammars.AttributeLines.{AttributeLines}
use Rattle.justfile_model.specs.Grammars.Grammar as g
use Rattle.justfile_model.specs.Grammars.Expressions.{BelowLimit}
use Rattle.justfile_model.specs.Grammars.Features.{ConstructFeatures}
use Rattle.justfile_model.specs.Grammars.Files.{to_lexemes}
use Rattle.justfile_model.specs.Grammars.Grammar.{Items, LineEnd, Block, NotEmpty}
use Rattle.justfile_model.specs.Grammars.ItemParts.{EndsLine, at_comment, at_line_end}
use Rattle.justfile_model.specs.Printed.PrintedAttributes.{rewritten_entries, rewritten_item}
use Rattle.justfile_round_trip.proofs.LiteralTexts.LexedModes.{Sign, sign, space, newline}
use Rattle.justfile_round_trip.proofs.Attributes.BackAttributes.{glued_after, entries_back}
use Rattle.justfile_round_trip.proofs.Items.BackContents.{content_back, content_no_bracket, header_no_bracket}
use Rattle.justfile_round_trip.proofs.Canon.{Shown, ShapeLine, ShapeContent, body_signs}
use Rattle.justfile_round_trip.proofs.Attributes.CanonAttributes.{ShapeEntry, comment_signs, entries_signs}
use Rattle.justfile_round_trip.proofs.Headers.CanonHeaders.{ShapeHeader, header_rest_signs, header_signs}
use Rattle.justfile_round_trip.proofs.Items.CanonItems.{content_signs, item_signs, end_signs, signs_from, signs}
use Rattle.justfile_round_trip.proofs.Good.{significant, GoodComment, GoodOptionalComment, EndedBody}
use Rattle.justfile_round_trip.proofs.Attributes.GoodAttributes.{GoodEntries}
use Rattle.justfile_round_trip.proofs.Items.GoodContents.{GoodContent, content_no_body}
use Rattle.justfile_round_trip.proofs.Headers.GoodHeaders.{GoodHeader}
use Rattle.justfile_round_trip.proofs.Items.GoodItems as good
use Rattle.justfile_round_trip.proofs.Items.GoodItems.{AtStart, ItemRest, AtEnd}
use Rattle.justfile_round_trip.proofs.RecipeBodies.BodyDerives.{body_back}

-- ---- derivations

module _ (limit : ℕ) where
  -- what derives, with its features
  abbrev Derived : Shape → List SignificantToken → Type 0
  Derived items ts = (ns : List (ConstructFeatures (Unit {0}))) × Items to_lexemes (BelowLimit limit) (map rewritten_item items) ns ts

  abbrev AfterItem : Shape → List SignificantToken → Type 0
  AfterItem items ts = (ns : List (ConstructFeatures (Unit {0}))) × g.ItemRest to_lexemes (BelowLimit limit) (map rewritten_item items) ns ts

  abbrev Ended : Shape → List SignificantToken → Type 0
  Ended items ts = (ns : List (ConstructFeatures (Unit {0}))) × LineEnd to_lexemes (BelowLimit limit) (map rewritten_item items) ns ts

  comment_back : (t : List ℕ) (items : Shape) (glued : Bool) (on : List Sign) → GoodComment t → AfterItem items (significant true on) → Derived (tree.Comment t ∷ items) (significant glued (sign kinds.Comment t ∷ on))
  comment_back t items glued on h e = subst (λ x. Derived (tree.Comment x ∷ items) (significant glued (sign kinds.Comment t ∷ on))) h.trimmed (e.0, g.comment refl e.1)

  trailing_back : (t : List ℕ) (items : Shape) (on : List Sign) → GoodComment t → Ended items (significant true on) → AfterItem (tree.Comment t ∷ items) (significant true (space ∷ sign kinds.Comment t ∷ on))
  trailing_back t items on h e = subst (λ x. AfterItem (tree.Comment x ∷ items) (significant true (space ∷ sign kinds.Comment t ∷ on))) h.trimmed (e.0, g.trailing refl e.1)

  -- a recipe with a body, up to the Dedent
  block_back : (ind : List ℕ) (header : ShapeHeader) (comment : Option (List ℕ)) (l : ShapeLine) (ls : List ShapeLine) (glued : Bool) (on : List Sign) → GoodHeader limit header
      → GoodOptionalComment comment → EndedBody limit (l ∷ ls)
      → (ns : Shown) × Block to_lexemes (BelowLimit limit) (tree.Recipe (bare_recipe header comment (l ∷ ls))) ns (significant glued (header_signs header (comment_signs comment (newline ∷ body_signs ind (l ∷ ls) on)))) (significant true on)
  block_back ind header None (tree.Line n fs) ls glued on h c b =
      let body : List ShapeLine = tree.Line n fs ∷ ls in
      let read = body_back limit ind n fs ls on b.good in (
        h.features ++ read.0,
        subst (λ x. Block to_lexemes (BelowLimit limit) (tree.Recipe (bare_recipe header None x)) (h.features ++ read.0) (significant glued (header_signs header (newline ∷ body_signs ind body on))) (significant true on)) b.ended
            (g.recipe {lines = body} (h.derives glued (newline ∷ body_signs ind body on) refl) (g.at_once refl refl) read.1 (subst NotEmpty (sym b.ended) tt)),
      )
  block_back ind header (Some t) (tree.Line n fs) ls glued on h c b =
      let body : List ShapeLine = tree.Line n fs ∷ ls in
      let after : List Sign = comment_signs (Some t) (newline ∷ body_signs ind body on) in
      let read = body_back limit ind n fs ls on b.good in (
        h.features ++ read.0,
        subst (λ x. Block to_lexemes (BelowLimit limit) (tree.Recipe (bare_recipe header (Some t) x)) (h.features ++ read.0) (significant glued (header_signs header after)) (significant true on)) b.ended
            (subst (λ x. Block to_lexemes (BelowLimit limit) (tree.Recipe (bare_recipe header (Some x) (trimmed body))) (h.features ++ read.0) (significant glued (header_signs header after)) (significant true on)) c.trimmed
            (g.recipe {lines = body} (h.derives glued after refl) (g.commented refl refl refl) read.1 (subst NotEmpty (sym b.ended) tt))),
      )

  -- lines of attributes before a header
  attributes_before_header : (entries : List ShapeEntry) (header : ShapeHeader) (glued : Bool) (on : List Sign) → GoodEntries limit entries
      → (ns : Shown) × AttributeLines lexeme nothing (BelowLimit limit) (rewritten_entries entries) ns
      (significant glued (entries_signs entries (header_signs header on)))
      (significant (glued_after (rewritten_entries entries) glued) (header_signs header on))
  attributes_before_header entries header glued on h =
      entries_back limit entries glued (header_signs header on) h
      (header_no_bracket limit header.quiet header.name (glued_after (rewritten_entries entries) glued) (header_rest_signs header on))

module _ (limit : ℕ) (ind : List ℕ) where
  -- a line ends after a construct on one line
  line_ends : (entries : List ShapeEntry) (content : ShapeContent) {items : Shape} → ItemRest limit items
      → EndsLine (significant true (end_signs (Construct entries content) items (signs ind items)))
  line_ends entries content (good.trailing h more) = at_comment refl
  line_ends entries content (good.bare (good.line_end more)) = at_line_end refl

  -- it has no body whose lines would come after it
  unbodied : {content : ShapeContent} → GoodContent limit content → (entries : List ShapeEntry) (items : Shape) (glued : Bool)
      → Derived limit (Construct entries content ∷ items) (significant glued (item_signs (Construct entries content) (end_signs (Construct entries content) items (signs ind items))))
      → Derived limit (Construct entries content ∷ items) (significant glued (signs ind (Construct entries content ∷ items)))
  unbodied {content} h entries items glued d =
      let i = Construct entries content in
      subst (λ body. Derived limit (i ∷ items) (significant glued (item_signs i (end_signs i items (signs_from ind body items))))) (sym (content_no_body limit h)) d

  mutual
    pub derive_start : {items : Shape} → AtStart limit items → (glued : Bool) → Derived limit items (significant glued (signs ind items))
    derive_start good.end glued = ([], g.end refl)
    derive_start (good.newline more) glued = let r = derive_start more true in (r.0, g.blank refl r.1)
    derive_start (good.comment {t = t} {items = items} h more) glued =
        let r = derive_end t more in
        comment_back limit t items glued (end_signs (tree.Comment t) items (signs ind items)) h (r.0, g.bare r.1)
    derive_start (good.on_line {entries = entries} {content = content} {items = items} attributes h more) glued =
        let on = end_signs (Construct entries content) items (signs ind items) in
        let after = glued_after (rewritten_entries entries) glued in
        let a = entries_back limit entries glued (content_signs content on) attributes (content_no_bracket limit h after on) in
        let x = content_back limit h after on (line_ends entries content more) in
        let r = derive_after entries content more in
        unbodied h entries items glued (record { attributes = a.0; content = x.0 } ∷ r.0, g.on_line a.1 x.1 r.1)
    derive_start (good.recipe {entries = entries} {h = header} {comment = comment} {l = l} {ls = ls} attributes h commented body (good.body_end {items = items} follows last more)) glued =
        let a = attributes_before_header limit entries header glued (comment_signs comment (newline ∷ body_signs ind (l ∷ ls) (signs ind items))) attributes in
        let b = block_back limit ind header comment l ls (glued_after (rewritten_entries entries) glued) (signs ind items) h commented body in
        let r = derive_start more true in
        (record { attributes = a.0; content = b.0 } ∷ r.0, g.block a.1 b.1 r.1)

    derive_after : (entries : List ShapeEntry) (content : ShapeContent) {items : Shape} → ItemRest limit items
        → AfterItem limit items (significant true (end_signs (Construct entries content) items (signs ind items)))
    derive_after entries content (good.trailing {t = t} {items = items} h more) =
        trailing_back limit t items (end_signs (tree.Comment t) items (signs ind items)) h (derive_end t more)
    derive_after entries content (good.bare (good.line_end more)) = let r = derive_start more true in (r.0, g.bare (g.line_end refl r.1))

    derive_end : (t : List ℕ) {items : Shape} → AtEnd limit items → Ended limit items (significant true (end_signs (tree.Comment t) items (signs ind items)))
    derive_end t (good.line_end more) = let r = derive_start more true in (r.0, g.line_end refl r.1)
