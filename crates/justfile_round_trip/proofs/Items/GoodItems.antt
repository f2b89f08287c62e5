-- Good items of shapes: they are arranged in lines, and their attributes and contents are good.
use Rattle.std.proofs.Common.{◌≡◌, ℕ, Bool, true, false, List, [], ◌∷◌, Option, None, refl}
use Rattle.std.specs.Prelude.{◌||◌, not}
use Rattle.std.specs.List.{AllByRecursion}
use Rattle.justfile_model.specs.Grammars.Docs.{doc_of}
use Rattle.justfile_model.proofs.Printed.PlainFiles.{IsPlain}
use Rattle.justfile_model.specs.Lexing.Modes.{is_empty}
use Rattle.justfile_model.specs.Trees.Tree as tree
use Rattle.justfile_model.specs.Trees.Tree.{Shape}
use Rattle.justfile_round_trip.proofs.Canon.{ShapeLine, ShapeContent, ShapeItem}
use Rattle.justfile_round_trip.proofs.Attributes.CanonAttributes.{ShapeEntry}
use Rattle.justfile_round_trip.proofs.Headers.CanonHeaders.{ShapeHeader}
use Rattle.justfile_round_trip.proofs.Items.CanonItems.{recipe_item}
use Rattle.justfile_round_trip.proofs.Good.{GoodComment, GoodOptionalComment, EndedBody, pale_after}
use Rattle.justfile_round_trip.proofs.Attributes.GoodAttributes.{GoodEntries}
use Rattle.justfile_round_trip.proofs.Items.GoodContents.{GoodContent, content_no_doc}
use Rattle.justfile_round_trip.proofs.Headers.GoodHeaders.{GoodHeader}

-- line ends alone
abbrev pub blank_only : Shape → Bool
blank_only [] = true
blank_only (tree.Newline ∷ items) = blank_only items
blank_only (i ∷ items) = false

-- nothing, or not line ends alone
abbrev pub follows_body : Shape → Bool
follows_body items = is_empty items || not (blank_only items)

module _ (limit : ℕ) where
  mutual
    -- items from the start of a line on
    pub data AtStart : Shape → Type 0 where
      end : AtStart []
      newline : {items : Shape} → AtStart items → AtStart (tree.Newline ∷ items)
      comment : {t : List ℕ} {items : Shape} → GoodComment t → AtEnd items → AtStart (tree.Comment t ∷ items)
      on_line : {entries : List ShapeEntry} {content : ShapeContent} {items : Shape} → GoodEntries limit entries → GoodContent limit content → ItemRest items
          → AtStart (tree.Construct entries content ∷ items)
      recipe : {entries : List ShapeEntry} {h : ShapeHeader} {comment : Option (List ℕ)} {l : ShapeLine} {ls : List ShapeLine} {items : Shape} → GoodEntries limit entries → GoodHeader limit h
          → GoodOptionalComment comment → EndedBody limit (l ∷ ls) → AfterBody (l ∷ ls) items
          → AtStart (recipe_item entries h comment (l ∷ ls) ∷ items)

    -- after an item a comment may trail it
    pub data ItemRest : Shape → Type 0 where
      trailing : {t : List ℕ} {items : Shape} → GoodComment t → AtEnd items → ItemRest (tree.Comment t ∷ items)
      bare : {items : Shape} → AtEnd items → ItemRest items

    -- then the line ends, and after the last line too
    pub data AtEnd : Shape → Type 0 where
      line_end : {items : Shape} → AtStart items → AtEnd (tree.Newline ∷ items)

    -- after a body its last line ends; then levels close, and if they would close before that, nothing follows
    pub data AfterBody : List ShapeLine → Shape → Type 0 where
      body_end : {body : List ShapeLine} {items : Shape} → follows_body items ≡ true → (pale_after body ≡ true → items ≡ []) → AtStart items
          → AfterBody body (tree.Newline ∷ items)

  -- after a comment, or after another item
  abbrev pub After : Bool → Shape → Type 0
  After true items = AtEnd items
  After false items = ItemRest items

  -- what line ends, good comments and constructs without a doc have, each of the items has
  module _ (P : ShapeItem → Type 0) (of_newline : P tree.Newline) (of_comment : (t : List ℕ) → GoodComment t → P (tree.Comment t))
      (of_construct : (entries : List ShapeEntry) (content : ShapeContent) → doc_of content ≡ None → P (tree.Construct entries content)) where
    mutual
      pub start_has : {items : Shape} → AtStart items → AllByRecursion P items
      start_has end = tt
      start_has (newline more) = (of_newline, start_has more)
      start_has (comment {t} c more) = (of_comment t c, end_has more)
      start_has (on_line {entries} {content} attributes h more) = (of_construct entries content (content_no_doc limit h), rest_has more)
      start_has (recipe attributes h c body (body_end follows last more)) = (of_construct _ _ refl, (of_newline, start_has more))

      rest_has : {items : Shape} → ItemRest items → AllByRecursion P items
      rest_has (trailing {t} c more) = (of_comment t c, end_has more)
      rest_has (bare more) = end_has more

      end_has : {items : Shape} → AtEnd items → AllByRecursion P items
      end_has (line_end more) = (of_newline, start_has more)

  -- they have no docs: what they are printed with are comments
  pub start_plain : {items : Shape} → AtStart items → AllByRecursion IsPlain items
  start_plain = start_has IsPlain tt (λ t c. tt) (λ entries content e. e)

  pub past_newline : {items : Shape} → AtStart (tree.Newline ∷ items) → AtStart items
  past_newline (newline h) = h
