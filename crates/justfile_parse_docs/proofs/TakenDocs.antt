-- Taking docs from the first item to the last has the same result as taking them from the last to the first.
use Rattle.std.proofs.Common.{◌≡◌, ◌∙◌, ℕ, Bool, true, false, cond, not, ◌&&◌, ◌-◌, arith, List, [], ◌∷◌, ◌++◌, length, take, Option, Some, None, reverse, refl, sym, ap}
use Rattle.std.proofs.lemmas.List.{append-nil, append_assoc, length-append, reverse-append}
use Rattle.std.proofs.Math.Seq.{take-append_seam}
use Rattle.justfile_token.specs.declared.token.Token.{Token}
use Rattle.justfile_model.specs.Grammars.Docs.{Before, LineEnd, Nothing, Other, after, comment_taken, doc_in, doc_or_comment, documented, item_with_doc, redocumented, taken, can_take_doc}
use Rattle.justfile_model.specs.Grammars.Files.{sets_doc}
use Rattle.justfile_model.specs.Trees.Tree as tree
use Rattle.justfile_model.specs.Trees.Tree.{Content, Entry, Comment, Construct, Newline}
use Rattle.justfile_parse_docs.specs.Docs.{LeafItem, doc_before, doc_first, doc_taken, with_doc, with_item, with_items}
use Rattle.justfile_parse_docs.proofs.KeptItems.{takes_no_doc}
use Rattle.justfile_expression.specs.LeafTree.{Leaf}

abbrev Items : Type 0
Items = List LeafItem

abbrev docs_from : Before → Items → Items
docs_from = documented sets_doc

-- ---- from the last item to the first

-- after another item a comment stays
comment_stays : (text : List ℕ) (items : Items) → docs_from Other (Comment text ∷ items) ≡ Comment text ∷ docs_from Other items
comment_stays text items = go (docs_from Other items)
  where
    go : (l : Items) → taken sets_doc Other (Comment text) l ≡ Comment text ∷ l
    go (Newline ∷ []) = refl
    go _ = refl

before_comment : (b : Before) (text next : List ℕ) (items : Items) → docs_from b (Comment text ∷ Comment next ∷ items) ≡ Comment text ∷ docs_from Other (Comment next ∷ items)
before_comment b text next items =
    ap (taken sets_doc b (Comment text)) (comment_stays next items) ∙ ap (λ (l : Items). Comment text ∷ l) (sym (comment_stays next items))

-- nothing but a construct that can take a doc takes one
before_newline : (b : Before) (text : List ℕ) (items : Items) → docs_from b (Comment text ∷ Newline ∷ Newline ∷ items) ≡ Comment text ∷ Newline ∷ Newline ∷ docs_from LineEnd items
before_newline b text items = go (doc_in b text)
  where
    go : (o : Option (List ℕ)) → comment_taken sets_doc text Newline (docs_from LineEnd items) o ≡ Comment text ∷ Newline ∷ Newline ∷ docs_from LineEnd items
    go None = refl
    go (Some doc) = refl

-- items that begin with none that takes a doc
TakesNone : Items → Type 0
TakesNone [] = Unit {0}
TakesNone (i ∷ items) = (doc : List ℕ) → item_with_doc sets_doc doc i ≡ None

stays_before : (b : Before) (text : List ℕ) (items : Items) → TakesNone items → taken sets_doc b (Comment text) (Newline ∷ items) ≡ Comment text ∷ Newline ∷ items
unfolding TakesNone
stays_before b text [] none = refl
stays_before b text (i ∷ items) none = go (doc_in b text)
  where
    go : (o : Option (List ℕ)) → comment_taken sets_doc text i items o ≡ Comment text ∷ Newline ∷ i ∷ items
    go None = refl
    go (Some doc) = ap (doc_or_comment sets_doc text i items) (none doc)

not_twice : (entries : List (Entry Leaf Token)) (content : Content Leaf Token ℕ (Unit {0})) (doc : List ℕ) (b : Bool)
    → cond (true && not b && not true) (Some (Construct entries (redocumented (Some doc) content))) None ≡ None
not_twice entries content doc true = refl
not_twice entries content doc false = refl

has_doc_already : (entries : List (Entry Leaf Token)) (content : Content Leaf Token ℕ (Unit {0})) (doc other : List ℕ)
    → item_with_doc sets_doc other (Construct entries (redocumented (Some doc) content)) ≡ None
has_doc_already entries (tree.Module parts) doc other = not_twice entries (redocumented (Some doc) (tree.Module parts)) other (sets_doc entries)
has_doc_already entries (tree.Recipe parts) doc other = not_twice entries (redocumented (Some doc) (tree.Recipe parts)) other (sets_doc entries)
has_doc_already entries _ doc other = refl

-- what begins with a comment takes no doc
comment_takes_none : (b : Before) (text : List ℕ) (items : Items) → TakesNone (taken sets_doc b (Comment text) items)
unfolding TakesNone
comment_takes_none b text (Newline ∷ i ∷ items) = go i (doc_in b text)
  where
    go : (i : LeafItem) (o : Option (List ℕ)) → TakesNone (comment_taken sets_doc text i items o)
    go i None = λ doc. refl
    go (Construct entries content) (Some doc) = by (can_take_doc sets_doc entries content)
      where
        by : (w : Bool) → TakesNone (doc_or_comment sets_doc text (Construct entries content) items (cond w (Some (Construct entries (redocumented (Some doc) content))) None))
        by true = λ other. has_doc_already entries content doc other
        by false = λ other. refl
    go _ (Some doc) = λ other. refl
comment_takes_none b text _ = λ doc. refl

before_line : (b : Before) (text next : List ℕ) (items : Items)
    → docs_from b (Comment text ∷ Newline ∷ Comment next ∷ items) ≡ Comment text ∷ Newline ∷ docs_from LineEnd (Comment next ∷ items)
before_line b text next items = stays_before b text (docs_from LineEnd (Comment next ∷ items)) (comment_takes_none LineEnd next (docs_from Other items))

-- ---- from the first item to the last

-- what stands before an item, by those before it, of which the last comes first
abbrev before_of : Items → Before
before_of [] = Nothing
before_of (i ∷ others) = after sets_doc i

-- they end with no comment, nor with one and a line end
abbrev IsSettled : Items → Type 0
IsSettled (Comment text ∷ others) = ⊥
IsSettled (Newline ∷ Comment text ∷ others) = ⊥
IsSettled others = Unit {0}

no_doc_first : (others : Items) → IsSettled others → doc_first others ≡ None
no_doc_first (Comment text ∷ others) h = absurd h
no_doc_first (Newline ∷ Comment text ∷ others) h = absurd h
no_doc_first _ h = refl

then_newline : (others : Items) → IsSettled others → IsSettled (Newline ∷ others)
then_newline (Comment text ∷ others) h = absurd h
then_newline _ h = tt

-- the doc that a comment and a line end are
doc_here : (text : List ℕ) (others : Items) → doc_first (Newline ∷ Comment text ∷ others) ≡ doc_in (before_of others) text
doc_here text (Newline ∷ others) = refl
doc_here text _ = refl

-- an item that takes no doc
added : (before : Items) (i : LeafItem) → doc_taken i (doc_before before) ≡ None → with_item before i ≡ before ++ i ∷ []
added before i e = ap (with_doc before i) e

newline_added : (before : Items) → with_item before Newline ≡ before ++ Newline ∷ []
newline_added before = added before Newline (takes_no_doc Newline (doc_before before) refl)

comment_added : (before : Items) (text : List ℕ) → with_item before (Comment text) ≡ before ++ Comment text ∷ []
comment_added before text = added before (Comment text) (takes_no_doc (Comment text) (doc_before before) refl)

next_last : (before others : Items) (i : LeafItem) → reverse before ≡ others → reverse (before ++ i ∷ []) ≡ i ∷ others
next_last before others i e = reverse-append before (i ∷ []) ∙ ap (λ (l : Items). i ∷ l) e

item_added : (before others : Items) (i : LeafItem) → reverse before ≡ others → doc_first others ≡ None → with_item before i ≡ before ++ i ∷ []
item_added before others i e h = added before i (ap (doc_taken i) (ap doc_first e ∙ h))

line_last : (before others : Items) (text : List ℕ) → reverse before ≡ others → reverse (before ++ Comment text ∷ Newline ∷ []) ≡ Newline ∷ Comment text ∷ others
line_last before others text e = reverse-append before (Comment text ∷ Newline ∷ []) ∙ ap (λ (l : Items). Newline ∷ Comment text ∷ l) e

-- two items that were added last
two_last : (before : Items) (i j : LeafItem) → (before ++ i ∷ []) ++ j ∷ [] ≡ before ++ i ∷ j ∷ []
two_last before i j = append_assoc before (i ∷ []) (j ∷ [])

front_taken : (before : Items) (i j : LeafItem) → take (length (before ++ i ∷ j ∷ []) - 2) (before ++ i ∷ j ∷ []) ≡ before
front_taken before i j =
    let end : length (before ++ i ∷ j ∷ []) - 2 ≡ length before = omega (arith, length-append before (i ∷ j ∷ [])) in
    ap (λ (n : ℕ). take n (before ++ i ∷ j ∷ [])) end ∙ take-append_seam before (i ∷ j ∷ [])

then_with : (before last : Items) (i : LeafItem) (rest : Items) (all : Items) → with_item before i ≡ last → with_items last rest ≡ all → with_items before (i ∷ rest) ≡ all
then_with before last i rest all e h = ap (λ (l : Items). with_items l rest) e ∙ h

-- These items are added to others as the fold from the right has them, whatever those end with: no comment, one, or one and a line end.
record Adds (items : Items) : Type 0 where
  settled : (before others : Items) → reverse before ≡ others → IsSettled others → with_items before items ≡ before ++ docs_from (before_of others) items
  comment : (before others : Items) (text : List ℕ) → reverse before ≡ others
      → with_items (before ++ Comment text ∷ []) items ≡ before ++ docs_from (before_of others) (Comment text ∷ items)
  line : (before others : Items) (text : List ℕ) → reverse before ≡ others
      → with_items (before ++ Comment text ∷ Newline ∷ []) items ≡ before ++ docs_from (before_of others) (Comment text ∷ Newline ∷ items)

none_added : Adds []
none_added = record {
  settled = λ before others e h. sym (append-nil before);
  comment = λ before others text e. refl;
  line = λ before others text e. refl;
}

module _ (items : Items) (rest : Adds items) where
  -- an item that is added as it is, before the others
  alone : (before others : Items) (i : LeafItem) → reverse before ≡ others → IsSettled (i ∷ others) → with_item before i ≡ before ++ i ∷ []
      → with_items before (i ∷ items) ≡ before ++ i ∷ docs_from (after sets_doc i) items
  alone before others i e h last =
      then_with before (before ++ i ∷ []) i items _ last
      (rest.settled (before ++ i ∷ []) (i ∷ others) (next_last before others i e) h ∙ append_assoc before (i ∷ []) (docs_from (after sets_doc i) items))

  newline_first : Adds (Newline ∷ items)
  newline_first = record {
    settled = λ before others e h. alone before others Newline e (then_newline others h) (newline_added before);
    comment = λ before others text e.
        then_with (before ++ Comment text ∷ []) (before ++ Comment text ∷ Newline ∷ []) Newline items _
        (newline_added (before ++ Comment text ∷ []) ∙ two_last before (Comment text) Newline)
        (rest.line before others text e);
    line = λ before others text e.
        let all = before ++ Comment text ∷ Newline ∷ [] in
        alone all (Newline ∷ Comment text ∷ others) Newline (line_last before others text e) tt (newline_added all)
        ∙ append_assoc before (Comment text ∷ Newline ∷ []) (Newline ∷ docs_from LineEnd items)
        ∙ ap (λ (l : Items). before ++ l) (sym (before_newline (before_of others) text items));
  }

  comment_first : (next : List ℕ) → Adds (Comment next ∷ items)
  comment_first next = record {
    settled = λ before others e h. then_with before (before ++ Comment next ∷ []) (Comment next) items _ (comment_added before next) (rest.comment before others next e);
    comment = λ before others text e.
        let all = before ++ Comment text ∷ [] in
        then_with all (all ++ Comment next ∷ []) (Comment next) items _ (comment_added all next)
        (rest.comment all (Comment text ∷ others) next (next_last before others (Comment text) e)
        ∙ append_assoc before (Comment text ∷ []) (docs_from Other (Comment next ∷ items))
        ∙ ap (λ (l : Items). before ++ l) (sym (before_comment (before_of others) text next items)));
    line = λ before others text e.
        let all = before ++ Comment text ∷ Newline ∷ [] in
        then_with all (all ++ Comment next ∷ []) (Comment next) items _ (comment_added all next)
        (rest.comment all (Newline ∷ Comment text ∷ others) next (line_last before others text e)
        ∙ append_assoc before (Comment text ∷ Newline ∷ []) (docs_from LineEnd (Comment next ∷ items))
        ∙ ap (λ (l : Items). before ++ l) (sym (before_line (before_of others) text next items)));
  }

  module _ (entries : List (Entry Leaf Token)) (content : Content Leaf Token ℕ (Unit {0})) where
    abbrev first : LeafItem
    first = Construct entries content

    abbrev with_this : List ℕ → LeafItem
    with_this doc = Construct entries (redocumented (Some doc) content)

    module _ (before others : Items) (text doc : List ℕ) (e : reverse before ≡ others) (h : doc_in (before_of others) text ≡ Some doc) where
      abbrev all : Items
      all = before ++ Comment text ∷ Newline ∷ []

      doc_is : doc_taken first (doc_before all) ≡ item_with_doc sets_doc doc first
      doc_is = ap (doc_taken first) (ap doc_first (line_last before others text e) ∙ doc_here text others ∙ h)

      by_can_take : (w : Bool) → can_take_doc sets_doc entries content ≡ w
          → with_items all (first ∷ items) ≡ before ++ doc_or_comment sets_doc text first (docs_from Other items) (cond w (Some (with_this doc)) None)
      by_can_take true k =
          let by : doc_taken first (doc_before all) ≡ Some (with_this doc) = doc_is ∙ ap (λ w. cond w (Some (with_this doc)) None) k in
          then_with all (before ++ with_this doc ∷ []) first items _
          (ap (with_doc all first) by ∙ ap (λ (l : Items). l ++ with_this doc ∷ []) (front_taken before (Comment text) Newline))
          (rest.settled (before ++ with_this doc ∷ []) (with_this doc ∷ others) (next_last before others (with_this doc) e) tt
          ∙ append_assoc before (with_this doc ∷ []) (docs_from Other items))
      by_can_take false k =
          let by : doc_taken first (doc_before all) ≡ None = doc_is ∙ ap (λ w. cond w (Some (with_this doc)) None) k in
          alone all (Newline ∷ Comment text ∷ others) first (line_last before others text e) tt (added all first by)
          ∙ append_assoc before (Comment text ∷ Newline ∷ []) (first ∷ docs_from Other items)

    construct_first : Adds (first ∷ items)
    construct_first = record {
      settled = λ before others e h. alone before others first e tt (item_added before others first e (no_doc_first others h));
      comment = λ before others text e.
          let all = before ++ Comment text ∷ [] in
          let last = next_last before others (Comment text) e in
          alone all (Comment text ∷ others) first last tt (item_added all (Comment text ∷ others) first last refl)
          ∙ append_assoc before (Comment text ∷ []) (first ∷ docs_from Other items);
      line = λ before others text e. by_doc before others text e (doc_in (before_of others) text) refl;
    }
      where
        by_doc : (before others : Items) (text : List ℕ) → reverse before ≡ others → (o : Option (List ℕ)) → doc_in (before_of others) text ≡ o
            → with_items (before ++ Comment text ∷ Newline ∷ []) (first ∷ items) ≡ before ++ comment_taken sets_doc text first (docs_from Other items) o
        by_doc before others text e None h =
            let all = before ++ Comment text ∷ Newline ∷ [] in
            let last = line_last before others text e in
            alone all (Newline ∷ Comment text ∷ others) first last tt (item_added all (Newline ∷ Comment text ∷ others) first last (doc_here text others ∙ h))
            ∙ append_assoc before (Comment text ∷ Newline ∷ []) (first ∷ docs_from Other items)
        by_doc before others text e (Some doc) h = by_can_take before others text doc e h (can_take_doc sets_doc entries content) refl

all_added : (items : Items) → Adds items
all_added [] = none_added
all_added (Newline ∷ items) = newline_first items (all_added items)
all_added (Comment text ∷ items) = comment_first items (all_added items) text
all_added (Construct entries content ∷ items) = construct_first items (all_added items) entries content

-- all items, each with its doc, from the first on
pub from_first : (items : Items) → with_items [] items ≡ docs_from Nothing items
from_first items = (all_added items).settled [] [] refl tt
