-- Doc comments: a comment directly before a recipe or a module, at the start of the file or after a line end, with a single line end after
-- it.
use Rattle.std.specs.Prelude.{ℕ, Bool, true, false, ◌&&◌, not, List, [], ◌∷◌, drop, Option, Some, None, codes, nat_eq, if◌then◌else◌}
use Rattle.std.specs.List.{starts_with}
use Rattle.std.specs.Option.{is_some}
use Rattle.std.specs.Str.{trim}
use Rattle.justfile_model.specs.Trees.Tree.{Content, Alias, Assignment, Function, Import, Module, Recipe, Setting, Unexport, Item, Comment, Construct, Newline}

-- what is before an item
pub data Before : Type 0 where
  Nothing : Before
  LineEnd : Before
  Other : Before

-- a text that is not empty
abbrev pub some_text : List ℕ → Option (List ℕ)
some_text [] = None
some_text (b ∷ bs) = Some (b ∷ bs)

-- the doc text of a comment: the text after `#`, without surrounding whitespace; a `#!` line at the start of a file has none
abbrev pub doc_in : Before → (comment : List ℕ) → Option (List ℕ)
doc_in Nothing comment = if starts_with nat_eq comment (codes "#!") then None else some_text (trim (drop 1 comment))
doc_in LineEnd comment = some_text (trim (drop 1 comment))
doc_in Other comment = None

-- the doc of a construct
abbrev pub doc_of : {A B C S : Type 0} → Content A B C S → Option (List ℕ)
doc_of (Alias parts) = None
doc_of (Assignment parts) = None
doc_of (Function parts) = None
doc_of (Import parts) = None
doc_of (Module parts) = parts.doc
doc_of (Recipe parts) = parts.doc
doc_of (Setting parts) = None
doc_of (Unexport name) = None

-- the construct with this doc instead of its own
abbrev pub redocumented : {A B C S : Type 0} → Option (List ℕ) → Content A B C S → Content A B C S
redocumented doc (Alias parts) = Alias parts
redocumented doc (Assignment parts) = Assignment parts
redocumented doc (Function parts) = Function parts
redocumented doc (Import parts) = Import parts
redocumented doc (Module parts) = Module (record { doc = doc; optional = parts.optional; name = parts.name; path = parts.path })
redocumented doc (Recipe parts) = Recipe (record { doc = doc; header = parts.header; comment = parts.comment; body = parts.body })
redocumented doc (Setting parts) = Setting parts
redocumented doc (Unexport name) = Unexport name

-- constructs of this kind can have a doc
abbrev pub takes_doc : {A B C S : Type 0} → Content A B C S → Bool
takes_doc (Alias parts) = false
takes_doc (Assignment parts) = false
takes_doc (Function parts) = false
takes_doc (Import parts) = false
takes_doc (Module parts) = true
takes_doc (Recipe parts) = true
takes_doc (Setting parts) = false
takes_doc (Unexport name) = false

module _ {A B C S D : Type 0} (has_doc : D → Bool) where
  abbrev pub after : Item A B C S D → Before
  after Newline = LineEnd
  after i = Other

  -- The construct can get a doc from a comment: it can have one, has none yet, and none of its attributes sets one.
  abbrev pub can_take_doc : D → Content A B C S → Bool
  can_take_doc attributes content = takes_doc content && not (has_doc attributes) && not (is_some (doc_of content))

  -- the item with this doc, if it can get one
  abbrev pub item_with_doc : List ℕ → Item A B C S D → Option (Item A B C S D)
  item_with_doc doc (Construct attributes content) =
      if can_take_doc attributes content then Some (Construct attributes (redocumented (Some doc) content)) else None
  item_with_doc doc i = None

  -- the item with its doc, or the comment and the item if it can't get the doc
  abbrev pub doc_or_comment : (comment : List ℕ) → Item A B C S D → List (Item A B C S D) → Option (Item A B C S D) → List (Item A B C S D)
  doc_or_comment comment i items None = Comment comment ∷ Newline ∷ i ∷ items
  doc_or_comment comment i items (Some documented) = documented ∷ items

  -- a comment and a line end before an item, where the comment becomes the item's doc if possible
  abbrev pub comment_taken : (comment : List ℕ) → Item A B C S D → List (Item A B C S D) → Option (List ℕ) → List (Item A B C S D)
  comment_taken comment i items None = Comment comment ∷ Newline ∷ i ∷ items
  comment_taken comment i items (Some doc) = doc_or_comment comment i items (item_with_doc doc i)

  -- an item before others, where it becomes the doc of the next item if possible
  abbrev pub taken : Before → Item A B C S D → List (Item A B C S D) → List (Item A B C S D)
  taken before (Comment comment) (Newline ∷ i ∷ items) = comment_taken comment i items (doc_in before comment)
  taken before i items = i ∷ items

  -- the items, where doc comments have become docs
  abbrev pub documented : Before → List (Item A B C S D) → List (Item A B C S D)
  documented before [] = []
  documented before (i ∷ items) = taken before i (documented (after i) items)
