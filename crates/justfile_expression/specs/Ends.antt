-- Expressions that end in a child.
use Rattle.std.specs.Prelude.{◌≡◌, ℕ, Option, None, Some, List, [], ◌++◌}
use Rattle.std.specs.Borrow.{Bor}
use Rattle.std.specs.List.{slice_get}
use Rattle.justfile_expression.specs.Children.{children}
use Rattle.justfile_expression.specs.Text.{text_of}
use Rattle.justfile_leaves.specs.Texts.{Texts, texts_joined}
use Rattle.justfile_expression.specs.declared.expression.Expression.{Expression}

-- a child with no text after it
abbrev pub IsEnd : (last e : Expression) → Type 0
IsEnd last e = (index : ℕ) × (after : Texts) × (slice_get (children e) index ≡ Some (last, after)) × (texts_joined after ≡ [])

-- a text is that of an expression, up to a child `last` that ends it
abbrev pub IsCompleted : (text : List ℕ) → (last : Option (Bor Expression)) → Expression → Type 0
IsCompleted text None e = text ≡ text_of e
IsCompleted text (Some last) e = (text ++ text_of last.now ≡ text_of e) × IsEnd last.now e
