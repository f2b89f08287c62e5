-- Docs of items and of others after them: they are taken apart, unless the items end in the doc of the construct that begins the others.
use Rattle.std.proofs.Common.{◌≡◌, ◌∙◌, ℕ, Bool, true, false, cond, not, ◌&&◌, List, [], ◌∷◌, ◌++◌, Option, Some, None, refl, ap, arith}
use Rattle.std.proofs.lemmas.Bool.Decides.{nat_tests}
use Rattle.justfile_model.specs.Grammars.Docs.{Before, LineEnd, Nothing, Other, after, can_take_doc, comment_taken, doc_in, doc_or_comment, documented, item_with_doc, redocumented, taken}
use Rattle.justfile_model.specs.Trees.Tree.{Comment, Construct, Content, Item, Module, Newline, Recipe}

-- the items don't begin with a construct
abbrev pub BeginsNoConstruct : {A B C S D : Type 0} → List (Item A B C S D) → Type 0
BeginsNoConstruct (Construct attributes content ∷ items) = ⊥
BeginsNoConstruct _ = Unit {0}

-- a comment with this before it and a line end after it becomes no doc of the items after that
abbrev pub TakesNone : {A B C S D : Type 0} → Before → List (Item A B C S D) → Type 0
TakesNone Other items = Unit {0}
TakesNone _ items = BeginsNoConstruct items

-- Items and others, with this before them. The items don't end in a comment; and if they end in one and a line end, it becomes no doc of the
-- others: it isn't at the start of a line, or no construct comes next.
abbrev pub AreApart : {A B C S D : Type 0} → Before → (items others : List (Item A B C S D)) → Type 0
AreApart before [] others = Unit {0}
AreApart before (Newline ∷ items) others = AreApart LineEnd items others
AreApart before (Construct attributes content ∷ items) others = AreApart Other items others
AreApart before (Comment text ∷ []) others = ⊥
AreApart before (Comment text ∷ Newline ∷ []) others = TakesNone before others
AreApart before (Comment text ∷ Newline ∷ i ∷ items) others = AreApart LineEnd (i ∷ items) others
AreApart before (Comment text ∷ Comment more ∷ items) others = AreApart Other (Comment more ∷ items) others
AreApart before (Comment text ∷ Construct attributes content ∷ items) others = AreApart Other items others

module _ {A B C S D : Type 0} (has_doc : D → Bool) where
  -- what is before the items that follow these
  abbrev pub before_next : Before → List (Item A B C S D) → Before
  before_next before [] = before
  before_next before (i ∷ items) = before_next (after has_doc i) items

  -- ---- what refuses a doc

  abbrev Refuses : List (Item A B C S D) → Type 0
  Refuses [] = Unit {0}
  Refuses (i ∷ items) = (doc : List ℕ) → item_with_doc has_doc doc i ≡ None

  never : (b : Bool) (x : Item A B C S D) → cond (b && false) (Some x) None ≡ None
  never b x = grind (arith, nat_tests)

  -- a construct has one doc at most
  no_second : (attributes : D) (doc other : List ℕ) (content : Content A B C S)
      → item_with_doc has_doc doc (Construct attributes (redocumented (Some other) content)) ≡ None
  no_second attributes doc other (Module parts) = never (not (has_doc attributes)) _
  no_second attributes doc other (Recipe parts) = never (not (has_doc attributes)) _
  no_second attributes doc other _ = refl

  refuses_wanted : (t doc : List ℕ) (b : Bool) (attributes : D) (content : Content A B C S) (items : List (Item A B C S D))
      → Refuses (doc_or_comment has_doc t (Construct attributes content) items (cond b (Some (Construct attributes (redocumented (Some doc) content))) None))
  refuses_wanted t doc true attributes content items = λ other. no_second attributes other doc content
  refuses_wanted t doc false attributes content items = λ other. refl

  refuses_taken : (t : List ℕ) (i : Item A B C S D) (items : List (Item A B C S D)) (o : Option (List ℕ)) → Refuses (comment_taken has_doc t i items o)
  refuses_taken t (Construct attributes content) items (Some doc) = refuses_wanted t doc (can_take_doc has_doc attributes content) attributes content items
  refuses_taken t _ items None = λ other. refl
  refuses_taken t _ items (Some doc) = λ other. refl

  refuses_comment : (before : Before) (t : List ℕ) (items : List (Item A B C S D)) → Refuses (taken has_doc before (Comment t) items)
  refuses_comment before t (Newline ∷ i ∷ items) = refuses_taken t i items (doc_in before t)
  refuses_comment before t _ = λ other. refl

  refuses : (before : Before) (items : List (Item A B C S D)) → BeginsNoConstruct items → Refuses (documented has_doc before items)
  refuses before [] h = tt
  refuses before (Newline ∷ items) h = λ other. refl
  refuses before (Comment t ∷ items) h = refuses_comment before t (documented has_doc Other items)
  refuses before (Construct attributes content ∷ items) h = absurd h

  -- ---- a comment before items and others

  -- the comment looks at these items alone
  abbrev Suffices : List (Item A B C S D) → Type 0
  Suffices [] = ⊥
  Suffices (Newline ∷ []) = ⊥
  Suffices _ = Unit {0}

  wanted_front : (t doc : List ℕ) (i : Item A B C S D) (items others : List (Item A B C S D)) (o : Option (Item A B C S D))
      → doc_or_comment has_doc t i (items ++ others) o ≡ doc_or_comment has_doc t i items o ++ others
  wanted_front t doc i items others None = refl
  wanted_front t doc i items others (Some documented') = refl

  taken_front : (t : List ℕ) (i : Item A B C S D) (items others : List (Item A B C S D)) (o : Option (List ℕ))
      → comment_taken has_doc t i (items ++ others) o ≡ comment_taken has_doc t i items o ++ others
  taken_front t i items others None = refl
  taken_front t i items others (Some doc) = wanted_front t doc i items others (item_with_doc has_doc doc i)

  comment_front : (before : Before) (t : List ℕ) (items others : List (Item A B C S D)) → Suffices items
      → taken has_doc before (Comment t) (items ++ others) ≡ taken has_doc before (Comment t) items ++ others
  comment_front before t [] others h = absurd h
  comment_front before t (Newline ∷ []) others h = absurd h
  comment_front before t (Newline ∷ i ∷ items) others h = taken_front t i items others (doc_in before t)
  comment_front before t _ others h = refl

  -- before a line end and others that refuse a doc
  comment_by : (t : List ℕ) (others : List (Item A B C S D)) → Refuses others → (before : Before)
      → taken has_doc before (Comment t) (Newline ∷ others) ≡ Comment t ∷ Newline ∷ others
  comment_by t [] h before = refl
  comment_by t (i ∷ others) h before = by (doc_in before t)
    where
      by : (o : Option (List ℕ)) → comment_taken has_doc t i others o ≡ Comment t ∷ Newline ∷ i ∷ others
      by None = refl
      by (Some doc) = ap (doc_or_comment has_doc t i others) (h doc)

  comment_trailing : (t : List ℕ) (others : List (Item A B C S D)) → taken has_doc Other (Comment t) (Newline ∷ others) ≡ Comment t ∷ Newline ∷ others
  comment_trailing t [] = refl
  comment_trailing t (i ∷ others) = refl

  comment_last : (before : Before) (t : List ℕ) (others : List (Item A B C S D)) → TakesNone before others
      → taken has_doc before (Comment t) (Newline ∷ documented has_doc LineEnd others) ≡ Comment t ∷ Newline ∷ documented has_doc LineEnd others
  comment_last Nothing t others h = comment_by t (documented has_doc LineEnd others) (refuses LineEnd others h) Nothing
  comment_last LineEnd t others h = comment_by t (documented has_doc LineEnd others) (refuses LineEnd others h) LineEnd
  comment_last Other t others h = comment_trailing t (documented has_doc LineEnd others)

  -- ---- what begins documented items

  suffices_taken : (t : List ℕ) (i : Item A B C S D) (items : List (Item A B C S D)) (o : Option (List ℕ)) → Suffices (comment_taken has_doc t i items o)
  suffices_taken t (Construct attributes content) items (Some doc) = by (can_take_doc has_doc attributes content)
    where
      by : (b : Bool)
          → Suffices (doc_or_comment has_doc t (Construct attributes content) items (cond b (Some (Construct attributes (redocumented (Some doc) content))) None))
      by true = tt
      by false = tt
  suffices_taken t _ items None = tt
  suffices_taken t _ items (Some doc) = tt

  suffices_comment : (before : Before) (t : List ℕ) (items : List (Item A B C S D)) → Suffices (taken has_doc before (Comment t) items)
  suffices_comment before t (Newline ∷ i ∷ items) = suffices_taken t i items (doc_in before t)
  suffices_comment before t _ = tt

  suffices_after : (i : Item A B C S D) (items : List (Item A B C S D)) → Suffices (Newline ∷ documented has_doc LineEnd (i ∷ items))
  suffices_after Newline items = tt
  suffices_after (Comment t) items =
      some (taken has_doc LineEnd (Comment t) (documented has_doc Other items)) (suffices_comment LineEnd t (documented has_doc Other items))
    where
      some : (all : List (Item A B C S D)) → Suffices all → Suffices (Newline ∷ all)
      some [] h = absurd h
      some (j ∷ all) h = tt
  suffices_after (Construct attributes content) items = tt

  -- ---- the law

  -- a comment, where it is known of the items after it
  before_comment : (before : Before) (t : List ℕ) (items others : List (Item A B C S D)) → Suffices (documented has_doc Other items)
      → documented has_doc Other (items ++ others) ≡ documented has_doc Other items ++ documented has_doc (before_next Other items) others
      → documented has_doc before (Comment t ∷ items ++ others) ≡ documented has_doc before (Comment t ∷ items) ++ documented has_doc (before_next Other items) others
  before_comment before t items others h e =
      ap (taken has_doc before (Comment t)) e ∙ comment_front before t (documented has_doc Other items) (documented has_doc (before_next Other items) others) h

  pub documented_append : (before : Before) (items others : List (Item A B C S D)) → AreApart before items others
      → documented has_doc before (items ++ others) ≡ documented has_doc before items ++ documented has_doc (before_next before items) others
  documented_append before [] others h = refl
  documented_append before (Newline ∷ items) others h = ap (λ l. Newline ∷ l) (documented_append LineEnd items others h)
  documented_append before (Construct attributes content ∷ items) others h = ap (λ l. Construct attributes content ∷ l) (documented_append Other items others h)
  documented_append before (Comment t ∷ []) others h = absurd h
  documented_append before (Comment t ∷ Newline ∷ []) others h = comment_last before t others h
  documented_append before (Comment t ∷ Newline ∷ i ∷ items) others h =
      before_comment before t (Newline ∷ i ∷ items) others (suffices_after i items) (ap (λ l. Newline ∷ l) (documented_append LineEnd (i ∷ items) others h))
  documented_append before (Comment t ∷ Comment u ∷ items) others h =
      before_comment before t (Comment u ∷ items) others (suffices_comment Other u (documented has_doc Other items)) (documented_append Other (Comment u ∷ items) others h)
  documented_append before (Comment t ∷ Construct attributes content ∷ items) others h =
      before_comment before t (Construct attributes content ∷ items) others tt (ap (λ l. Construct attributes content ∷ l) (documented_append Other items others h))
