-- Written items and what they mean have the same form: constructs, comments and line ends in the same places. So docs are taken alike.
use Rattle.std.proofs.Common.{◌≡◌, ◌∙◌, ℕ, Bool, List, [], ◌∷◌, Some, refl, sym, ap, subst}
use Rattle.justfile_model.specs.Grammars.Docs.{Before, LineEnd, Other}
use Rattle.justfile_model.specs.Grammars.Files.{undocumented}
use Rattle.justfile_model.specs.Trees.LeafView.{LeafView}
use Rattle.justfile_model.specs.Trees.Tree.{Comment, Construct, Content, Item, Newline, OrderedItem, WrittenItem}
use Rattle.justfile_model.proofs.Lists.Binds.{some_back}
use Rattle.justfile_model.proofs.Meanings.Ordered.{construct_meant, meanings_of}
use Rattle.justfile_chunks.proofs.DocsAppend.{AreApart, BeginsNoConstruct, TakesNone, before_next}

-- what is before the items that follow these
abbrev pub before_after : {A B C S D : Type 0} → Before → List (Item A B C S D) → Before
before_after before [] = before
before_after before (Newline ∷ items) = before_after LineEnd items
before_after before (i ∷ items) = before_after Other items

pub before_next_is : {A B C S D : Type 0} (has_doc : D → Bool) (before : Before) (items : List (Item A B C S D))
    → before_next has_doc before items ≡ before_after before items
before_next_is has_doc before [] = refl
before_next_is has_doc before (Newline ∷ items) = before_next_is has_doc LineEnd items
before_next_is has_doc before (i ∷ items) = before_next_is has_doc Other items

-- the same form
pub data Alike {A B C S D A' B' C' S' D' : Type 0} : List (Item A B C S D) → List (Item A' B' C' S' D') → Type 0 where
  nil : Alike [] []
  newline : {items : List (Item A B C S D)} {others : List (Item A' B' C' S' D')} → Alike items others → Alike (Newline ∷ items) (Newline ∷ others)
  comment : {text : List ℕ} {items : List (Item A B C S D)} {others : List (Item A' B' C' S' D')} → Alike items others
      → Alike (Comment text ∷ items) (Comment text ∷ others)
  construct : {attributes : D} {attributes' : D'} {content : Content A B C S} {content' : Content A' B' C' S'} {items : List (Item A B C S D)}
      {others : List (Item A' B' C' S' D')} → Alike items others → Alike (Construct attributes content ∷ items) (Construct attributes' content' ∷ others)

module _ {A B C S : Type 0} (view : LeafView A B) where
  pub alike_of : (written : List (WrittenItem A B C S)) (all : List (OrderedItem A B C)) → undocumented view written ≡ Some all → Alike written all
  alike_of [] all h = subst (Alike []) (some_back [] all h) nil
  alike_of (Newline ∷ items) all h =
      let m = meanings_of view Newline items all h in
      subst (Alike (Newline ∷ items)) (ap (λ i. i ∷ m.others) (some_back Newline m.first m.first_is) ∙ sym m.all_are)
      (newline (alike_of items m.others m.others_are))
  alike_of (Comment text ∷ items) all h =
      let m = meanings_of view (Comment text) items all h in
      subst (Alike (Comment text ∷ items)) (ap (λ i. i ∷ m.others) (some_back (Comment text) m.first m.first_is) ∙ sym m.all_are)
      (comment (alike_of items m.others m.others_are))
  alike_of (Construct ws content ∷ items) all h =
      let m = meanings_of view (Construct ws content) items all h in
      let c = construct_meant view ws content m.first m.first_is in
      subst (Alike (Construct ws content ∷ items)) (ap (λ i. i ∷ m.others) (sym c.item_is) ∙ sym m.all_are) (construct (alike_of items m.others m.others_are))

module _ {A B C S D A' B' C' S' D' : Type 0} where
  pub alike_after : {items : List (Item A B C S D)} {others : List (Item A' B' C' S' D')} → Alike items others → (before : Before)
      → before_after before items ≡ before_after before others
  alike_after nil before = refl
  alike_after (newline a) before = alike_after a LineEnd
  alike_after (comment a) before = alike_after a Other
  alike_after (construct a) before = alike_after a Other

  begins_alike : {items : List (Item A B C S D)} {others : List (Item A' B' C' S' D')} → Alike items others → BeginsNoConstruct items → BeginsNoConstruct others
  begins_alike (construct a) h = h
  begins_alike _ h = tt

  takes_alike : {items : List (Item A B C S D)} {others : List (Item A' B' C' S' D')} → Alike items others → (before : Before) → TakesNone before items
      → TakesNone before others
  takes_alike a Other h = h
  takes_alike a _ h = begins_alike a h

  pub alike_apart : {items js : List (Item A B C S D)} {others ks : List (Item A' B' C' S' D')} → Alike items others → Alike js ks → (before : Before)
      → AreApart before items js → AreApart before others ks
  alike_apart nil b before h = tt
  alike_apart (newline a) b before h = alike_apart a b LineEnd h
  alike_apart (construct a) b before h = alike_apart a b Other h
  alike_apart (comment nil) b before h = h
  alike_apart (comment (newline nil)) b before h = takes_alike b before h
  alike_apart (comment (newline (newline a))) b before h = alike_apart (newline a) b LineEnd h
  alike_apart (comment (newline (comment {text = t} a))) b before h = alike_apart (comment {text = t} a) b LineEnd h
  alike_apart (comment (newline (construct a))) b before h = alike_apart a b Other h
  alike_apart (comment (comment {text = t} a)) b before h = alike_apart (comment {text = t} a) b Other h
  alike_apart (comment (construct a)) b before h = alike_apart a b Other h
