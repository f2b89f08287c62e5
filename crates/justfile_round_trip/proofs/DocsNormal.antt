-- The docs of a normal form are those of the shape itself.
use Rattle.std.proofs.Common.{◌≡◌, ℕ, Bool, true, false, cond, List, [], ◌∷◌, Option, Some, None, refl, sym, ap, ◌∙◌}
use Rattle.justfile_model.specs.Grammars.Docs.{Before, LineEnd, Other, comment_taken, doc_in, doc_or_comment, documented, redocumented, taken, can_take_doc}
use Rattle.justfile_model.specs.Grammars.Files.{sets_doc}
use Rattle.justfile_model.specs.Printed.NormalShape.{after_newline, normal, normal_rest}
use Rattle.justfile_model.specs.Trees.Tree.{Comment, Construct, Newline, Shape}
use Rattle.justfile_round_trip.proofs.Canon.{ShapeContent, ShapeItem}
use Rattle.justfile_round_trip.proofs.Attributes.CanonAttributes.{ShapeEntry}

-- ---- shapes that don't begin with a line end

pub data Begun : Shape → Type 0 where
  comment : {t : List ℕ} {items : Shape} → Begun (Comment t ∷ items)
  construct : {entries : List ShapeEntry} {content : ShapeContent} {items : Shape} → Begun (Construct entries content ∷ items)

begun_newline : {s : Shape} → Begun s → after_newline s ≡ Newline ∷ s
begun_newline comment = refl
begun_newline construct = refl

begun_newlines : {s : Shape} → Begun s → after_newline (Newline ∷ s) ≡ Newline ∷ Newline ∷ s
begun_newlines comment = refl
begun_newlines construct = refl

begun_wanted : (b : Bool) (t : List ℕ) (entries : List ShapeEntry) (content other : ShapeContent) (items : Shape)
    → Begun (doc_or_comment sets_doc t (Construct entries content) items (cond b (Some (Construct entries other)) None))
begun_wanted true t entries content other items = construct
begun_wanted false t entries content other items = comment

begun_taken : (t : List ℕ) (i : ShapeItem) (items : Shape) (o : Option (List ℕ)) → Begun (comment_taken sets_doc t i items o)
begun_taken t i items None = comment
begun_taken t (Construct entries content) items (Some doc) =
    begun_wanted (can_take_doc sets_doc entries content) t entries content (redocumented (Some doc) content) items
begun_taken t _ items (Some doc) = comment

pub begun_comment : (before : Before) (t : List ℕ) (items : Shape) → Begun (taken sets_doc before (Comment t) items)
begun_comment before t [] = comment
begun_comment before t (Newline ∷ []) = comment
begun_comment before t (Newline ∷ i ∷ items) = begun_taken t i items (doc_in before t)
begun_comment before t _ = comment

-- ---- a comment before a normal form

comment_kept : (before : Before) (t : List ℕ) (items : Shape) → taken sets_doc before (Comment t) (Newline ∷ Newline ∷ items) ≡ Comment t ∷ Newline ∷ Newline ∷ items
comment_kept before t items = by (doc_in before t)
  where
    by : (o : Option (List ℕ)) → comment_taken sets_doc t Newline items o ≡ Comment t ∷ Newline ∷ Newline ∷ items
    by None = refl
    by (Some doc) = refl

-- before two line ends, or before the last one
comment_apart : (before : Before) (t : List ℕ) (s : Shape) → taken sets_doc before (Comment t) (after_newline (after_newline s)) ≡ Comment t ∷ after_newline (after_newline s)
comment_apart before t [] = refl
comment_apart before t (Newline ∷ []) = refl
comment_apart before t (Newline ∷ Newline ∷ s) = comment_kept before t s
comment_apart before t (Newline ∷ i ∷ s) = comment_kept before t (i ∷ s)
comment_apart before t (i ∷ s) = comment_kept before t (i ∷ s)

wanted_normal : (b : Bool) (t : List ℕ) (entries : List ShapeEntry) (content other : ShapeContent) (s : Shape)
    → doc_or_comment sets_doc t (Construct entries content) (normal_rest s) (cond b (Some (Construct entries other)) None)
    ≡ normal_rest (doc_or_comment sets_doc t (Construct entries content) s (cond b (Some (Construct entries other)) None))
wanted_normal true t entries content other s = refl
wanted_normal false t entries content other s = refl

comment_normal : (before : Before) (t : List ℕ) (s : Shape) → taken sets_doc before (Comment t) (normal_rest s) ≡ normal_rest (taken sets_doc before (Comment t) s)
comment_normal before t (Newline ∷ Newline ∷ s) = comment_apart before t (normal_rest s) ∙ ap normal_rest (sym (comment_kept before t s))
comment_normal before t (Newline ∷ Comment u ∷ s) = by (doc_in before t)
  where
    by : (o : Option (List ℕ)) → comment_taken sets_doc t (Comment u) (normal_rest s) o ≡ normal_rest (comment_taken sets_doc t (Comment u) s o)
    by None = refl
    by (Some doc) = refl
comment_normal before t (Newline ∷ Construct entries content ∷ s) = by (doc_in before t)
  where
    by : (o : Option (List ℕ))
        → comment_taken sets_doc t (Construct entries content) (normal_rest s) o ≡ normal_rest (comment_taken sets_doc t (Construct entries content) s o)
    by None = refl
    by (Some doc) = wanted_normal (can_take_doc sets_doc entries content) t entries content (redocumented (Some doc) content) s
comment_normal before t _ = refl

-- ---- a line end before a normal form

newline_documented : (before : Before) (s : Shape) → documented sets_doc before (after_newline s) ≡ after_newline (documented sets_doc LineEnd s)
newline_documented before (Newline ∷ Comment t ∷ s) = sym (begun_newlines (begun_comment LineEnd t (documented sets_doc Other s)))
newline_documented before (Comment t ∷ s) = sym (begun_newline (begun_comment LineEnd t (documented sets_doc Other s)))
newline_documented before _ = refl

rest_documented : (before : Before) (s : Shape) → documented sets_doc before (normal_rest s) ≡ normal_rest (documented sets_doc before s)
rest_documented before [] = refl
rest_documented before (Newline ∷ s) = newline_documented before (normal_rest s) ∙ ap after_newline (rest_documented LineEnd s)
rest_documented before (Comment t ∷ s) = ap (taken sets_doc before (Comment t)) (rest_documented Other s) ∙ comment_normal before t (documented sets_doc Other s)
rest_documented before (Construct entries content ∷ s) = ap (λ x. Construct entries content ∷ x) (rest_documented Other s)

begun_normal : {s : Shape} → Begun s → normal_rest s ≡ normal s
begun_normal comment = refl
begun_normal construct = refl

pub normal_documented : (before : Before) (s : Shape) → documented sets_doc before (normal s) ≡ normal (documented sets_doc before s)
normal_documented before [] = refl
normal_documented before (Newline ∷ s) = rest_documented before (Newline ∷ s)
normal_documented before (Comment t ∷ s) = rest_documented before (Comment t ∷ s) ∙ begun_normal (begun_comment before t (documented sets_doc Other s))
normal_documented before (Construct entries content ∷ s) = rest_documented before (Construct entries content ∷ s)
