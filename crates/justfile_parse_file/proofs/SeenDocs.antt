-- The items of the code with their docs correspond to those that the definitions read, with their docs taken from comments.
use Rattle.std.proofs.Common.{◌≡◌, ℕ, Bool, true, false, cond, not, ◌&&◌, ◌||◌, List, [], ◌∷◌, map, All, Option, Some, None, is_some, refl, sym, ap, subst, ◌∙◌}
use Rattle.std.specs.List.{flat_map}
use Rattle.std.specs.Option.{option_map}
use Rattle.std.proofs.lemmas.List.Elements.{All-cons, All-head, All-nil, All-tail}
use Rattle.justfile_attribute.proofs.Ordered.{kind_seen}
use Rattle.justfile_attribute_set.specs.AttributeSet as sets
use Rattle.justfile_attribute_set.specs.AttributeSet.{AttributeSet, leaf_entries_of, written_of}
use Rattle.justfile_attribute_set.specs.Pairs.{Pair, entry_of, leaf_entry_of}
use Rattle.justfile_vocabulary.specs.declared.attribute_kind.AttributeKind.TheVariants.{Doc}
use Rattle.justfile_token.specs.declared.token.Token.{Token}
use Rattle.justfile_item.specs.Item.{item_numbers, item_of, item_recipe_numbers}
use Rattle.justfile_item.specs.declared.item.Item.{Item}
use Rattle.justfile_item.specs.declared.item.Item.TheVariants as items
use Rattle.justfile_model.specs.Meanings.AttributeKinds.{same_attribute}
use Rattle.justfile_model.specs.Grammars.Conditions.{Conditions}
use Rattle.justfile_model.specs.Grammars.Docs.{Before, LineEnd, Nothing, Other, comment_taken, doc_in, doc_of, doc_or_comment, documented, redocumented, taken, takes_doc}
use Rattle.justfile_model.specs.Grammars.Files.{NumbersFrom, if_both, ordered, ordered_item, sets_doc, undocumented}
use Rattle.justfile_model.specs.Readers.ReaderState.{Counters}
use Rattle.justfile_model.specs.Trees.LeafView.{views_tokens}
use Rattle.justfile_model.specs.Lexing.Tok.{Tok}
use Rattle.justfile_model.specs.Trees.Tree as tree
use Rattle.justfile_model.specs.Trees.Tree.{Content, Entry, Item as AnyItem, OrderedItem, Tree, WrittenItem, WrittenTree}
use Rattle.justfile_model.proofs.Lists.Binds.{some_back}
use Rattle.justfile_model.proofs.Readers.Counters.{count, count_content}
use Rattle.justfile_model.proofs.Relations.Related as a
use Rattle.justfile_model.proofs.Relations.Related.{AlikeItem, AlikeItems}
use Rattle.justfile_parse_docs.specs.ParsedItems.{IsFilledItem}
use Rattle.justfile_parse_docs.specs.ParsedItems.{item_tree}
use Rattle.justfile_parse_docs.specs.ParsedItems.{HasDerivedItemFields}
use Rattle.justfile_parse_expression.proofs.Seen.{Relates}
use Rattle.justfile_expression.specs.LeafTree.{Leaf}
use Rattle.justfile_parse_docs.proofs.ParsedItems as seeing
use Rattle.justfile_parse_file.proofs.SeenItems.{SeenItem, item_seen, undoc}

-- an attribute sets the doc, whatever the view of leaves
pairs_say : (pairs : List Pair) → sets_doc (map leaf_entry_of pairs) ≡ sets_doc (map entry_of pairs)
pairs_say [] = refl
pairs_say (p ∷ ps) = λ i. same_attribute (sym (kind_seen p.0) i) Doc || pairs_say ps i

set_says : (set : AttributeSet) → sets_doc (leaf_entries_of set) ≡ sets_doc (sets.entries_of set)
set_says set = pairs_say (written_of set)

-- an item with this doc, if it may have one
abbrev redoc : {A B C S D : Type 0} → Option (List ℕ) → AnyItem A B C S D → AnyItem A B C S D
redoc doc tree.Newline = tree.Newline
redoc doc (tree.Comment text) = tree.Comment text
redoc doc (tree.Construct attributes content) = tree.Construct attributes (redocumented doc content)

abbrev doc_at : {A B C S D : Type 0} → AnyItem A B C S D → Option (List ℕ)
doc_at (tree.Construct attributes content) = doc_of content
doc_at _ = None

module _ {A B C S : Type 0} where
  -- with another doc, a construct takes a doc as before
  still_takes : (doc : Option (List ℕ)) (content : Content A B C S) → takes_doc (redocumented doc content) ≡ takes_doc content
  still_takes doc (tree.Alias parts) = refl
  still_takes doc _ = refl

  -- it has that doc, if it takes one
  doc_given : (doc : Option (List ℕ)) (content : Content A B C S) → doc_of (redocumented doc content) ≡ cond (takes_doc content) doc None
  doc_given doc (tree.Alias parts) = refl
  doc_given doc _ = refl

  -- the last doc counts
  given_again : (doc other : Option (List ℕ)) (content : Content A B C S) → redocumented doc (redocumented other content) ≡ redocumented doc content
  given_again doc other (tree.Alias parts) = refl
  given_again doc other _ = refl

  -- with its own doc it is as it was
  own_doc : (content : Content A B C S) → redocumented (doc_of content) content ≡ content
  own_doc (tree.Alias parts) = refl
  own_doc _ = refl

  -- a doc takes no number
  count_kept : (n : Counters) (doc : Option (List ℕ)) (content : Content A B C S) → count_content n (redocumented doc content) ≡ count_content n content
  count_kept n doc (tree.Alias parts) = refl
  count_kept n doc _ = refl

-- items, each with its doc or without
abbrev LeafItem : Type 0
LeafItem = OrderedItem Leaf Token ℕ

abbrev TreeItem : Type 0
TreeItem = OrderedItem Tok Tok ℕ

module _ (conditions : Conditions) (bound : ℕ) (IsToken : Token → Type 0) (file_depth : ℕ) (import_offsets : List ℕ) where
  abbrev seen : Relates
  seen = seeing.seen conditions bound IsToken file_depth import_offsets

  -- what a written item means
  abbrev meant : WrittenItem Tok Tok ℕ Tok → Option TreeItem
  meant = ordered_item (views_tokens conditions.expander)

  -- An item with its doc, where the counters stand before it, beside one with the same doc: without it, the one is read beside a written item, which
  -- means the other.
  data Docs (n : Counters) : LeafItem → TreeItem → Type 0 where
    newline : Docs n tree.Newline tree.Newline
    comment : {text : List ℕ} → Docs n (tree.Comment text) (tree.Comment text)
    construct : {entries : List (Entry Leaf Token)} {others : List (Entry Tok Tok)} {content : Content Leaf Token ℕ (Unit {0})}
        {other : Content Tok Tok ℕ (Unit {0})} {t : WrittenItem Tok Tok ℕ Tok}
        → sets_doc entries ≡ sets_doc others → takes_doc content ≡ takes_doc other → doc_of content ≡ doc_of other
        → AlikeItem seen n (tree.Construct entries (redocumented None content)) t → meant t ≡ Some (tree.Construct others (redocumented None other))
        → Docs n (tree.Construct entries content) (tree.Construct others other)

  -- items, where the counters stand before the first
  data AllDocs : Counters → List LeafItem → Tree → Type 0 where
    no_docs : {n : Counters} → AllDocs n [] []
    more_docs : {n : Counters} {l : LeafItem} {u : TreeItem} {ls : List LeafItem} {us : Tree} → Docs n l u → AllDocs (count n l) ls us → AllDocs n (l ∷ ls) (u ∷ us)

  -- ---- docs are taken on both sides

  -- a construct with the doc of the comment before it, if it may have it
  construct_alike : (text doc : List ℕ) (content : Content Leaf Token ℕ (Unit {0})) (other : Content Tok Tok ℕ (Unit {0})) {n : Counters} {entries : List (Entry Leaf Token)}
      {others : List (Entry Tok Tok)} {t : WrittenItem Tok Tok ℕ Tok} {ls : List LeafItem} {us : Tree}
      (b b' : Bool) → b ≡ b' → sets_doc entries ≡ sets_doc others → takes_doc content ≡ takes_doc other → doc_of content ≡ doc_of other
      → AlikeItem seen n (tree.Construct entries (redocumented None content)) t → meant t ≡ Some (tree.Construct others (redocumented None other))
      → AllDocs (count n (tree.Construct entries content)) ls us
      → AllDocs n (doc_or_comment sets_doc text (tree.Construct entries content) ls (cond b (Some (tree.Construct entries (redocumented (Some doc) content))) None))
      (doc_or_comment sets_doc text (tree.Construct others other) us (cond b' (Some (tree.Construct others (redocumented (Some doc) other))) None))
  construct_alike text doc content other {n} {entries} {others} {t} {ls} {us} true true same says takes docs h means hs =
      more_docs
      (construct says (still_takes (Some doc) content ∙ takes ∙ sym (still_takes (Some doc) other))
      (doc_given (Some doc) content ∙ ap (λ (b : Bool). cond b (Some doc) None) takes ∙ sym (doc_given (Some doc) other))
      (subst (λ (c : Content Leaf Token ℕ (Unit {0})). AlikeItem seen n (tree.Construct entries c) t) (sym (given_again None (Some doc) content)) h)
      (means ∙ ap (λ (c : Content Tok Tok ℕ (Unit {0})). Some (tree.Construct others c)) (sym (given_again None (Some doc) other))))
      (subst (λ (c : Counters). AllDocs c ls us) (sym (count_kept n (Some doc) content)) hs)
  construct_alike text doc content other false false same says takes docs h means hs = more_docs comment (more_docs newline (more_docs (construct says takes docs h means) hs))
  construct_alike text doc content other true false same says takes docs h means hs = cc
  construct_alike text doc content other false true same says takes docs h means hs = cc

  item_alike : (text doc : List ℕ) {n : Counters} {l : LeafItem} {u : TreeItem} {ls : List LeafItem} {us : Tree} → Docs n l u → AllDocs (count n l) ls us
      → AllDocs n (comment_taken sets_doc text l ls (Some doc)) (comment_taken sets_doc text u us (Some doc))
  item_alike text doc (construct {content = content} {other = other} says takes docs h means) hs =
      construct_alike text doc content other _ _ (λ i. takes i && not (says i) && not (is_some (docs i))) says takes docs h means hs
  item_alike text doc h hs = more_docs comment (more_docs newline (more_docs h hs))

  doc_alike : (text : List ℕ) (doc : Option (List ℕ)) {n : Counters} {l : LeafItem} {u : TreeItem} {ls : List LeafItem} {us : Tree} → Docs n l u → AllDocs (count n l) ls us
      → AllDocs n (comment_taken sets_doc text l ls doc) (comment_taken sets_doc text u us doc)
  doc_alike text None h hs = more_docs comment (more_docs newline (more_docs h hs))
  doc_alike text (Some doc) h hs = item_alike text doc h hs

  comment_alike : (before : Before) (text : List ℕ) {n : Counters} {ls : List LeafItem} {us : Tree} → AllDocs n ls us
      → AllDocs n (taken sets_doc before (tree.Comment text) ls) (taken sets_doc before (tree.Comment text) us)
  comment_alike before text (more_docs newline (more_docs h hs)) = doc_alike text (doc_in before text) h hs
  comment_alike before text hs = more_docs comment hs

  documented_alike : (before : Before) {n : Counters} {ls : List LeafItem} {us : Tree} → AllDocs n ls us → AllDocs n (documented sets_doc before ls) (documented sets_doc before us)
  documented_alike before no_docs = no_docs
  documented_alike before (more_docs newline hs) = more_docs newline (documented_alike LineEnd hs)
  documented_alike before (more_docs (comment {text = text}) hs) = comment_alike before text (documented_alike Other hs)
  documented_alike before (more_docs (construct says takes docs h means) hs) = more_docs (construct says takes docs h means) (documented_alike Other hs)

  -- ---- before docs are taken

  -- what is read has no doc
  bare_is : {n : Counters} {l : LeafItem} {t : WrittenItem Tok Tok ℕ Tok} → AlikeItem seen n l t → undoc l ≡ l
  bare_is a.newline = refl
  bare_is _ = refl

  -- what the definitions see of an item has the doc that the parser's tree has
  restored : (i : Item) → redoc (doc_at (item_tree i)) (undoc (item_of i)) ≡ item_of i
  restored (items.Alias b) = refl
  restored _ = refl

  -- without a doc in the tree there is none in what the definitions see
  without_doc : (i : Item) → undoc (item_tree i) ≡ item_tree i → undoc (item_of i) ≡ item_of i
  without_doc (items.Alias b) e = refl
  without_doc i e = ap (λ (doc : Option (List ℕ)). redoc doc (item_of i)) (ap doc_at e)

  docs_of : (n : Counters) (i : Item) {t : WrittenItem Tok Tok ℕ Tok} → AlikeItem seen n (undoc (item_tree i)) t → meant t ≡ Some (undoc (item_of i)) → Docs n (item_tree i) (item_of i)
  docs_of n (items.Alias b) h means = construct (set_says b.attributes) refl refl h means
  docs_of n (items.Assignment b) h means = construct (set_says b.attributes) refl refl h means
  docs_of n (items.Comment text) h means = comment
  docs_of n (items.Function f) h means = construct (set_says f.attributes) refl refl h means
  docs_of n (items.Import set optional relative) h means = construct (set_says set) refl refl h means
  docs_of n (items.Module set doc name optional relative) h means = construct (set_says set) refl refl h means
  docs_of n items.Newline h means = newline
  docs_of n (items.Recipe r) h means = construct (set_says r.attributes) refl refl h means
  docs_of n (items.Setting s) h means = construct (set_says s.attributes) refl refl h means
  docs_of n (items.Unexport set name) h means = construct (set_says set) refl refl h means

  -- what is read means these items
  record Begun (n : Counters) (is : List Item) (ts : WrittenTree) : Type 0 where
    same : undocumented (views_tokens conditions.expander) ts ≡ Some (map item_of is)
    docs : AllDocs n (map item_tree is) (map item_of is)

  begun : (n : Counters) (is : List Item) {ts : WrittenTree} → AlikeItems seen n (map item_tree is) ts → Begun n is ts
  begun n [] a.no_item = record { same = refl; docs = no_docs }
  begun n (i ∷ is) (a.an_item {i' = t} h hs) =
      let bare = bare_is h in
      let k : AlikeItem seen n (undoc (item_tree i)) t = subst (λ (l : LeafItem). AlikeItem seen n l t) (sym bare) h in
      let x = item_seen conditions bound IsToken file_depth import_offsets n i k in
      let y = begun (count n (item_tree i)) is hs in
      record {
        same = λ j. if_both ((x.same ∙ ap (λ (u : TreeItem). Some u) (without_doc i bare)) j) (y.same j);
        docs = more_docs (docs_of n i k x.same) y.docs;
      }

  -- ---- after docs are taken

  pub record Ended (n : Counters) (is : List Item) (us : Tree) : Type 0 where
    pub same : us ≡ map item_of is
    pub given : All HasDerivedItemFields is → All (IsFilledItem conditions.expander IsToken file_depth import_offsets) is
    pub numbered : NumbersFrom n.bindings (flat_map item_numbers is)
    pub recipes_numbered : NumbersFrom n.recipes (flat_map item_recipe_numbers is)

  -- an item with its doc
  record EndedItem (n : Counters) (i : Item) (u : TreeItem) : Type 0 where
    same : u ≡ item_of i
    written : WrittenItem Tok Tok ℕ Tok
    seen_is : SeenItem conditions bound IsToken file_depth import_offsets n i written

  -- an item that is a construct, of which the definitions see this
  ended_construct : (n : Counters) (i : Item) {others : List (Entry Tok Tok)} {other : Content Tok Tok ℕ (Unit {0})} {t : WrittenItem Tok Tok ℕ Tok}
      → doc_at (item_tree i) ≡ doc_of other → AlikeItem seen n (undoc (item_tree i)) t → meant t ≡ Some (tree.Construct others (redocumented None other))
      → EndedItem n i (tree.Construct others other)
  ended_construct n i {others} {other} {t} docs h means =
      let x = item_seen conditions bound IsToken file_depth import_offsets n i h in
      let bare : tree.Construct others (redocumented None other) ≡ undoc (item_of i)
      = some_back (tree.Construct others (redocumented None other)) (undoc (item_of i)) (sym means ∙ x.same) in
      record {
        same =
            ap (λ (c : Content Tok Tok ℕ (Unit {0})). tree.Construct others c) (sym (given_again (doc_of other) None other ∙ own_doc other))
            ∙ ap (λ (doc : Option (List ℕ)). redoc doc (tree.Construct others (redocumented None other))) (sym docs)
            ∙ ap (redoc (doc_at (item_tree i))) bare
            ∙ restored i;
        written = t;
        seen_is = x;
      }

  ended_item : (n : Counters) (i : Item) {u : TreeItem} → Docs n (item_tree i) u → EndedItem n i u
  ended_item n (items.Alias b) (construct says takes docs h means) = ended_construct n (items.Alias b) docs h means
  ended_item n (items.Assignment b) (construct says takes docs h means) = ended_construct n (items.Assignment b) docs h means
  ended_item n (items.Comment text) comment = record { same = refl; written = tree.Comment text.now; seen_is = item_seen conditions bound IsToken file_depth import_offsets n (items.Comment text) a.comment }
  ended_item n (items.Function f) (construct says takes docs h means) = ended_construct n (items.Function f) docs h means
  ended_item n (items.Import set optional relative) (construct says takes docs h means) = ended_construct n (items.Import set optional relative) docs h means
  ended_item n (items.Module set doc name optional relative) (construct says takes docs h means) = ended_construct n (items.Module set doc name optional relative) docs h means
  ended_item n items.Newline newline = record { same = refl; written = tree.Newline; seen_is = item_seen conditions bound IsToken file_depth import_offsets n items.Newline a.newline }
  ended_item n (items.Recipe r) (construct says takes docs h means) = ended_construct n (items.Recipe r) docs h means
  ended_item n (items.Setting s) (construct says takes docs h means) = ended_construct n (items.Setting s) docs h means
  ended_item n (items.Unexport set name) (construct says takes docs h means) = ended_construct n (items.Unexport set name) docs h means

  ended : (n : Counters) (is : List Item) {us : Tree} → AllDocs n (map item_tree is) us → Ended n is us
  ended n [] no_docs = record { same = refl; given = λ fields. All-nil (IsFilledItem conditions.expander IsToken file_depth import_offsets); numbered = tt; recipes_numbered = tt }
  ended n (i ∷ is) (more_docs h hs) =
      let x = ended_item n i h in
      let y = ended (count n (item_tree i)) is hs in
      record {
        same = λ j. x.same j ∷ y.same j;
        given = λ fields. All-cons (IsFilledItem conditions.expander IsToken file_depth import_offsets) i is (x.seen_is.given (All-head HasDerivedItemFields i is fields)) (y.given (All-tail HasDerivedItemFields i is fields));
        numbered = x.seen_is.numbers (flat_map item_numbers is) y.numbered;
        recipes_numbered = x.seen_is.recipe_numbers (flat_map item_recipe_numbers is) y.recipes_numbered;
      }

  -- ---- all items

  pub items_seen : (n : Counters) (is docs : List Item) {ts : WrittenTree} → AlikeItems seen n (map item_tree is) ts
      → map item_tree docs ≡ documented sets_doc Nothing (map item_tree is)
      → (ordered (views_tokens conditions.expander) ts ≡ Some (map item_of docs)) × Ended n docs (documented sets_doc Nothing (map item_of is))
  items_seen n is docs h documents =
      let x = begun n is h in
      let all : AllDocs n (map item_tree docs) (documented sets_doc Nothing (map item_of is)) =
      subst (λ (ls : List LeafItem). AllDocs n ls (documented sets_doc Nothing (map item_of is))) (sym documents) (documented_alike Nothing x.docs) in
      let y = ended n docs all in
      (ap (option_map (documented sets_doc Nothing)) x.same ∙ ap (λ (t : Tree). Some t) y.same, y)
