-- Examples of the meaning of attributes, of the rules that they break, and of their printed text, computed from the definitions.
use Rattle.std.proofs.Common.{ℕ, false, List, [], ◌∷◌, Option, Some, None, codes, refl}
use Rattle.justfile_vocabulary.specs.AttributeKind.{kind_named}
use Rattle.justfile_model.specs.LiteralTexts.Literals.{Expansions}
use Rattle.justfile_model.specs.Meanings.Meaning.{entries_of}
use Rattle.justfile_model.specs.Printed.Printing.{entries_text, fixed_text}
use Rattle.justfile_vocabulary.specs.Signal.{signal_named}
use Rattle.justfile_model.specs.Meanings.AttributeKinds.{same_attribute}
use Rattle.justfile_model.specs.Trees.LeafView.{LeafView, views_lexemes}
use Rattle.justfile_model.specs.Trees.Tree as tree
use Rattle.justfile_model.specs.Trees.Tree.{Argument, WrittenAttribute, Expr, Entry, bare_attribute, commented_attribute}
use Rattle.justfile_model.proofs.ComputedExamples.Tables.{Gives, pair}

abbrev unasked : Expansions
unasked text = None

abbrev sees : LeafView (List ℕ) (Unit {0})
sees = views_lexemes unasked

abbrev plain : List ℕ → WrittenAttribute (List ℕ) (Unit {0})
plain name = bare_attribute name []

abbrev string : List ℕ → Expr (List ℕ) (Unit {0})
string lexeme = tree.StringLiteral false lexeme

abbrev given : List ℕ → List (Argument (List ℕ) (Unit {0})) → WrittenAttribute (List ℕ) (Unit {0})
given name arguments = bare_attribute name arguments

abbrev at : Expr (List ℕ) (Unit {0}) → Argument (List ℕ) (Unit {0})
at value = tree.Positional tt value

-- the printed text of the meaning of the attributes, or `none` if they have none
abbrev printed : Option (List (Entry (List ℕ) (Unit {0}))) → List ℕ
printed None = codes "none"
printed (Some entries) = entries_text entries

in_order : Gives (λ (ws : List (WrittenAttribute (List ℕ) (Unit {0}))). printed (entries_of sees ws)) (
    -- by kind
    pair (plain (codes "private") ∷ plain (codes "linux") ∷ [])
    (codes "[linux]\n[private]\n")
    -- of one kind by the text
    ∷ pair (given (codes "env") (at (tree.Variable (codes "bb")) ∷ at (string (codes "'x'")) ∷ []) ∷ given (codes "env") (at (tree.Variable (codes "aaa")) ∷ at (string (codes "'y'")) ∷ []) ∷ [])
    (codes "[env(aaa, 'y')]\n[env(bb, 'x')]\n")
    -- by the group
    ∷ pair (given (codes "group") (at (string (codes "'a'")) ∷ []) ∷ given (codes "group") (at (string (codes "'b'")) ∷ []) ∷ plain (codes "doc") ∷ [])
    (codes "[doc]\n[group('a')]\n[group('b')]\n")
    -- keys in their order
    ∷ pair (given (codes "env") (at (string (codes "'k'")) ∷ at (tree.Variable (codes "v")) ∷ []) ∷ given (codes "metadata") (at (string (codes "'m'")) ∷ at (string (codes "'n'")) ∷ [])
    ∷ given (codes "cache") (tree.Keyed (codes "outputs") (tree.Variable (codes "o")) ∷ tree.Keyed (codes "inputs") (tree.Variable (codes "i")) ∷ []) ∷ [])
    (codes "[cache(inputs=i, outputs=o)]\n[env('k', v)]\n[metadata('m', 'n')]\n")
    -- each keeps its own comment
    ∷ pair (commented_attribute (codes "# b") (plain (codes "private")) ∷ commented_attribute (codes "# a") (plain (codes "linux")) ∷ [])
    (codes "[linux] # a\n[private] # b\n")
    ∷ [])
unfolding kind_named fixed_text signal_named same_attribute
in_order = refl
