-- The text of a shape is the text of the shape in which docs are comments.
use Rattle.std.proofs.Common.{◌≡◌, ℕ, Bool, true, false, cond, List, [], ◌∷◌, ◌++◌, Option, Some, None, codes, refl, sym, ap, ◌∙◌}
use Rattle.justfile_vocabulary.specs.declared.attribute_kind.AttributeKind.TheVariants.{Doc}
use Rattle.justfile_model.specs.Trees.ContentKeys.{has_attribute}
use Rattle.justfile_model.specs.Grammars.Docs.{doc_of, redocumented}
use Rattle.justfile_model.specs.Printed.Printing.{content_text, doc_comment, doc_line, entries_text, fixed_text, if_some, item_end, item_text, shown_doc, text}
use Rattle.justfile_model.specs.Printed.PrintedAttributes.{after_doc, docs_written}
use Rattle.justfile_model.specs.Trees.Tree.{Assignment, Comment, Construct, Content, Entry, Newline, OrderedItem, Shape}

abbrev ShapeContent : Type 0
ShapeContent = Content (List ℕ) (Unit {0}) (Unit {0}) (Unit {0})

abbrev ShapeItem : Type 0
ShapeItem = OrderedItem (List ℕ) (Unit {0}) (Unit {0})

-- ---- a construct without its doc

undocumented_text : (content : ShapeContent) (indentation : List ℕ) → content_text (redocumented None content) indentation ≡ content_text content indentation
undocumented_text (Assignment parts) indentation = refl
undocumented_text _ indentation = refl

unshown : (b : Bool) (doc : Option (List ℕ)) → doc ≡ None → cond b None doc ≡ None
unshown true doc e = refl
unshown false doc e = e

-- no doc is shown where there is none
pub none_shown : {A B C S : Type 0} (entries : List (Entry A B)) (content : Content A B C S) → doc_of content ≡ None → shown_doc entries content ≡ None
none_shown entries content e = unshown (has_attribute Doc entries) (doc_of content) e

none_left : {A B C S : Type 0} (content : Content A B C S) → doc_of (redocumented None content) ≡ None
none_left (Assignment parts) = refl
none_left _ = refl

bare_text : (entries : List (Entry (List ℕ) (Unit {0}))) (content : ShapeContent) (indentation : List ℕ)
    → item_text (Construct entries (redocumented None content)) indentation ≡ entries_text entries ++ content_text content indentation
bare_text entries content indentation =
    λ i. if_some doc_line (none_shown entries (redocumented None content) (none_left content) i) ++ entries_text entries ++ undocumented_text content indentation i

-- ---- the text after an item

after_any : (i : ShapeItem) (o : Option (List ℕ)) (entries : List (Entry (List ℕ) (Unit {0}))) (content : ShapeContent) (items more : Shape)
    → item_end i (after_doc o (Construct entries content ∷ items)) ≡ item_end i (Construct entries content ∷ more)
after_any Newline o entries content items more = refl
after_any _ None entries content items more = refl
after_any _ (Some doc) entries content items more = refl

any_end : (i : ShapeItem) (es : List (Entry (List ℕ) (Unit {0}))) (c d : ShapeContent) (items : Shape)
    → item_end i (Construct es c ∷ items) ≡ item_end i (Construct es d ∷ items)
any_end Newline es c d items = refl
any_end _ es c d items = refl

end_written : (i : ShapeItem) (items : Shape) → item_end i (docs_written items) ≡ item_end i items
end_written i (Construct entries content ∷ items) =
    after_any i (shown_doc entries content) entries (redocumented None content) (docs_written items) items ∙ any_end i entries (redocumented None content) content items
end_written Newline _ = refl
end_written _ _ = refl

-- ---- the text

-- pieces in a row, with other parentheses
pieces : (a n e c z t : List ℕ) → a ++ n ++ e ++ c ++ z ++ t ≡ (a ++ []) ++ (n ++ (e ++ c ++ z ++ t))
pieces [] [] e c z t = refl
pieces [] (x ∷ n) e c z t = ap (λ l. x ∷ l) (pieces [] n e c z t)
pieces (x ∷ a) n e c z t = ap (λ l. x ∷ l) (pieces a n e c z t)

module _ (indentation : List ℕ) where
  bare_end : (entries : List (Entry (List ℕ) (Unit {0}))) (content : ShapeContent) (items : Shape)
      → item_end (Construct entries (redocumented None content)) items ≡ item_end (Construct entries content) items
  bare_end entries content (Newline ∷ items) = refl
  bare_end entries content _ = refl

  -- a construct without its doc, before items with theirs as comments
  bare_construct : (entries : List (Entry (List ℕ) (Unit {0}))) (content : ShapeContent) (items : Shape)
      → text items indentation ≡ text (docs_written items) indentation
      → entries_text entries ++ content_text content indentation ++ item_end (Construct entries content) items ++ text items indentation
      ≡ text (Construct entries (redocumented None content) ∷ docs_written items) indentation
  bare_construct entries content items same =
      let end_is = end_written (Construct entries (redocumented None content)) items ∙ bare_end entries content items in
      λ i. sym (bare_text entries content indentation) i ++ sym end_is i ++ same i

  construct_text : (entries : List (Entry (List ℕ) (Unit {0}))) (content : ShapeContent) (items : Shape) (o : Option (List ℕ))
      → text items indentation ≡ text (docs_written items) indentation
      → if_some doc_line o ++ entries_text entries ++ content_text content indentation ++ item_end (Construct entries content) items ++ text items indentation
      ≡ text (after_doc o (Construct entries (redocumented None content) ∷ docs_written items)) indentation
  construct_text entries content items None same = bare_construct entries content items same
  construct_text entries content items (Some doc) same =
      pieces (doc_comment doc) (fixed_text (codes "\n")) (entries_text entries) (content_text content indentation) (item_end (Construct entries content) items) (text items indentation)
      ∙ ap (λ t. (doc_comment doc ++ []) ++ (fixed_text (codes "\n") ++ t)) (bare_construct entries content items same)

  pub text_written : (s : Shape) → text s indentation ≡ text (docs_written s) indentation
  text_written [] = refl
  text_written (Newline ∷ s) = ap (λ t. fixed_text (codes "\n") ++ t) (text_written s)
  text_written (Comment t ∷ s) = λ i. t ++ sym (end_written (Comment t) s) i ++ text_written s i
  text_written (Construct entries content ∷ s) = construct_text entries content s (shown_doc entries content) (text_written s)
