-- Examples of doc comments and of printed docs, computed from the definitions.
use Rattle.std.proofs.Common.{◌≡◌, ℕ, false, List, [], ◌∷◌, Option, Some, None, codes, refl}
use Rattle.std.specs.Char.{encode_utf8}
use Rattle.std.specs.Str.{chars, trim_end, trim_start}
use Rattle.justfile_vocabulary.specs.declared.attribute_kind.AttributeKind.TheVariants as kinds
use Rattle.justfile_model.specs.Meanings.AttributeKinds.{same_attribute}
use Rattle.justfile_model.specs.Grammars.Docs.{Nothing, documented}
use Rattle.justfile_model.specs.Grammars.Files.{sets_doc}
use Rattle.justfile_model.specs.Printed.Printing.{fixed_text, text}
use Rattle.justfile_model.specs.Printed.PrintedAttributes.{docs_written}
use Rattle.justfile_model.specs.Trees.Tree as tree
use Rattle.justfile_model.specs.Trees.Tree.{Comment, Construct, Entry, Header, Newline, OrderedItem, Shape, assignment_of, bare_entry, commented_entry}
use Rattle.justfile_model.proofs.ComputedExamples.Tables.{Gives, pair}

abbrev with_docs : Shape → Shape
with_docs = documented sets_doc Nothing

abbrev foo : Header (List ℕ) (Unit {0}) (Unit {0})
foo = record { quiet = false; name = codes "foo"; parameters = []; priors = []; subsequents = [] }

-- `foo:`, with this doc
abbrev recipe_with : Option (List ℕ) → List (Entry (List ℕ) (Unit {0})) → OrderedItem (List ℕ) (Unit {0}) (Unit {0})
recipe_with doc entries = Construct entries (tree.Recipe (record { doc = doc; header = foo; comment = None; body = [] }))

abbrev recipe : OrderedItem (List ℕ) (Unit {0}) (Unit {0})
recipe = recipe_with None []

-- `x := y`
abbrev assignment : OrderedItem (List ℕ) (Unit {0}) (Unit {0})
assignment = Construct [] (tree.Assignment (assignment_of false false (codes "x") (tree.Variable (codes "y"))))

-- `[private]`, and `[doc]`
abbrev private : List (Entry (List ℕ) (Unit {0}))
private = bare_entry tt (tree.Plain kinds.Private) ∷ []

abbrev doc : List (Entry (List ℕ) (Unit {0}))
doc = bare_entry tt (tree.Plain kinds.Doc) ∷ []

-- ---- which comments are docs

-- ---- how docs are printed

as_comment : docs_written (recipe_with (Some (codes "x")) private ∷ []) ≡ Comment (codes "# x") ∷ Newline ∷ recipe_with None private ∷ []
unfolding fixed_text same_attribute
as_comment = refl

docs : Gives with_docs (
    (Comment (codes "#  a b") ∷ Newline ∷ recipe ∷ Newline ∷ [], recipe_with (Some (codes "a b")) [] ∷ Newline ∷ [])
    -- a `#!` line isn't a doc at the start of the file
    ∷ (Comment (codes "#!a") ∷ Newline ∷ recipe ∷ [], Comment (codes "#!a") ∷ Newline ∷ recipe ∷ [])
    -- and is one elsewhere
    ∷ (Newline ∷ Comment (codes "#!a") ∷ Newline ∷ recipe ∷ [], Newline ∷ recipe_with (Some (codes "!a")) [] ∷ [])
    -- of two comments the nearest
    ∷ (Comment (codes "# a") ∷ Newline ∷ Comment (codes "# b") ∷ Newline ∷ recipe ∷ [], Comment (codes "# a") ∷ Newline ∷ recipe_with (Some (codes "b")) [] ∷ [])
    -- a blank line is between
    ∷ (Comment (codes "# a") ∷ Newline ∷ Newline ∷ recipe ∷ [], Comment (codes "# a") ∷ Newline ∷ Newline ∷ recipe ∷ [])
    -- the comment is empty
    ∷ (Comment (codes "#") ∷ Newline ∷ recipe ∷ [], Comment (codes "#") ∷ Newline ∷ recipe ∷ [])
    -- a comment that trails an item isn't the doc of the next one
    ∷ (assignment ∷ Comment (codes "# a") ∷ Newline ∷ recipe ∷ [], assignment ∷ Comment (codes "# a") ∷ Newline ∷ recipe ∷ [])
    -- an assignment has none
    ∷ (Comment (codes "# a") ∷ Newline ∷ assignment ∷ [], Comment (codes "# a") ∷ Newline ∷ assignment ∷ [])
    -- an attribute sets the doc, or sets that there is none
    ∷ (Comment (codes "# a") ∷ Newline ∷ recipe_with None doc ∷ [], Comment (codes "# a") ∷ Newline ∷ recipe_with None doc ∷ [])
    -- a comment after an attribute isn't a doc
    ∷ pair (assignment ∷ Newline ∷ recipe_with None (commented_entry (codes "# x") (bare_entry tt (tree.Plain kinds.Private)) ∷ []) ∷ [])
    (assignment ∷ Newline ∷ recipe_with None (commented_entry (codes "# x") (bare_entry tt (tree.Plain kinds.Private)) ∷ []) ∷ [])
    ∷ [])
unfolding trim_start trim_end chars encode_utf8 same_attribute
docs = refl

printed_docs : Gives (λ (s : Shape). text s []) (
    -- on a line before the attributes
    (recipe_with (Some (codes "x")) private ∷ Newline ∷ [], codes "# x\n[private]\nfoo:\n")
    -- a doc that an attribute hides is not printed
    ∷ (recipe_with (Some (codes "x")) doc ∷ [], codes "[doc]\nfoo:")
    -- and a doc is printed before the attribute and its comment
    ∷ (recipe_with (Some (codes "d")) (commented_entry (codes "# x") (bare_entry tt (tree.Plain kinds.Private)) ∷ []) ∷ Newline ∷ [], codes "# d\n[private] # x\nfoo:\n")
    ∷ [])
unfolding fixed_text same_attribute
printed_docs = refl
