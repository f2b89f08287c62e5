-- If no attribute and no recipe has a comment, the printed text is the one that ignores comments.
use Rattle.std.proofs.Common.{◌≡◌, ◌∙◌, ℕ, List, [], ◌∷◌, ◌++◌, None, append-nil, append_assoc, codes, refl, ap}
use Rattle.justfile_model.specs.Printed.NormalShape.{after_newline, normal, normal_rest}
use Rattle.justfile_model.specs.Printed.Printing.{attribute_text, body_text, after_line_text, content_text, doc_line, entries_text, entry_text, fixed_text, header_text, if_some, item_end, item_text, shown_doc, text}
use Rattle.justfile_model.specs.Trees.Tree.{Alias, Comment, Construct, Content, Entry, Newline, OrderedItem, Recipe, Shape}
use Rattle.justfile_model.specs.Printed.Uncommented.{HasNoBodyComment, HasNoComments, HasNoEntryComments, HasNoItemComments, uncommented_content, uncommented_entries, uncommented_entry, uncommented_item, uncommented_text}

entry_same : (e : Entry (List ℕ) (Unit {0})) → e.comment ≡ None → entry_text e ≡ uncommented_entry e
unfolding fixed_text
entry_same e none =
    let a = attribute_text e.attribute in
    ap (λ o. fixed_text (codes "[") ++ a ++ fixed_text (codes "]") ++ after_line_text o ++ fixed_text (codes "\n")) none
    ∙ ap (λ t. 91 ∷ t) (ap (λ t. t ++ codes "\n") (append-nil (a ++ codes "]")) ∙ append_assoc a (codes "]") (codes "\n"))

entries_same : (entries : List (Entry (List ℕ) (Unit {0}))) → HasNoEntryComments entries → entries_text entries ≡ uncommented_entries entries
entries_same [] none = refl
entries_same (e ∷ entries) none = λ i. entry_same e none.0 i ++ entries_same entries none.1 i

content_same : (c : Content (List ℕ) (Unit {0}) (Unit {0}) (Unit {0})) (indentation : List ℕ) → HasNoBodyComment c
    → content_text c indentation ≡ uncommented_content c indentation
content_same (Alias parts) indentation none = refl
content_same (Recipe parts) indentation none =
    ap (λ o. header_text parts.header ++ after_line_text o ++ body_text indentation parts.body) none
    ∙ ap (λ t. t ++ body_text indentation parts.body) (append-nil (header_text parts.header))
content_same _ indentation none = refl

item_same : (i : OrderedItem (List ℕ) (Unit {0}) (Unit {0})) (indentation : List ℕ) → HasNoItemComments i → item_text i indentation ≡ uncommented_item i indentation
item_same Newline indentation none = refl
item_same (Comment text) indentation none = refl
item_same (Construct entries content) indentation none =
    λ i. if_some doc_line (shown_doc entries content) ++ entries_same entries none.0 i ++ content_same content indentation none.1 i

text_same : (s : Shape) (indentation : List ℕ) → HasNoComments s → text s indentation ≡ uncommented_text s indentation
text_same [] indentation none = refl
text_same (i ∷ items) indentation none = λ j. item_same i indentation none.0 j ++ item_end i items ++ text_same items indentation none.1 j

-- ---- the normal shape has no comments either

newline_none : (s : Shape) → HasNoComments s → HasNoComments (after_newline s)
newline_none (Newline ∷ []) none = none
newline_none (Newline ∷ Newline ∷ items) none = none
newline_none _ none = (tt, none)

rest_none : (s : Shape) → HasNoComments s → HasNoComments (normal_rest s)
rest_none [] none = (tt, tt)
rest_none (Newline ∷ items) none = newline_none (normal_rest items) (rest_none items none.1)
rest_none (i ∷ items) none = (none.0, rest_none items none.1)

normal_none : (s : Shape) → HasNoComments s → HasNoComments (normal s)
normal_none [] none = tt
normal_none (i ∷ items) none = rest_none (i ∷ items) none

pub without_comments : (s : Shape) (indentation : List ℕ) → HasNoComments s → text (normal s) indentation ≡ uncommented_text (normal s) indentation
without_comments s indentation none = text_same (normal s) indentation (normal_none s none)
