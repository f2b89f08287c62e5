-- The reader of what attributes, headers and items share.
use Rattle.std.specs.Prelude.{ℕ, Bool, true, false, List, Ok}
use Rattle.justfile_token.specs.declared.token.Token.{Token}
use Rattle.justfile_vocabulary.specs.declared.token_kind.TokenKind.{TokenKind}
use Rattle.justfile_vocabulary.specs.declared.token_kind.TokenKind.TheVariants as kinds
use Rattle.justfile_model.specs.Readers.HeaderReader as headers
use Rattle.justfile_model.specs.Trees.LeafView.{LeafView}
use Rattle.justfile_model.specs.Readers.ReaderState as reading
use Rattle.justfile_model.specs.Readers.ReaderState.{◌>>=◌, Counters, choose}
use Rattle.justfile_parse_expression.specs.TableReader.{Read, Run, State, accept, expect, leaves}
use Rattle.justfile_parse_expression.specs.Significant.{TableToken}
use Rattle.justfile_expression.specs.LeafViews.{views_leaves}
use Rattle.justfile_expression.specs.LeafTree.{Leaf}

-- the view of leaves, which is the same for each file
abbrev pub view_of : Run → LeafView Leaf Token
view_of run = views_leaves

-- what follows an element of a list: a comma, or the closing delimiter; whether the list is closed
unfoldable pub separator : (closing : TokenKind) → State → Read Bool
separator closing s =
    choose (accept kinds.Comma s)
    (do
      closer ← expect closing s
      Ok (true, closer.1))
    (λ comma. Ok (false, comma.1))

-- the text of a comment without the whitespace at its end
abbrev pub comment_in : TableToken → List ℕ
comment_in = reading.comment_in leaves

-- the number of the next binding
abbrev pub next_binding_number : Counters → State → Read (ℕ × Counters)
next_binding_number = headers.next_binding_number leaves

-- the names of a path after the first, and all of them
abbrev pub path_rest : State → Read (List Leaf)
path_rest = headers.path_rest leaves

abbrev pub path : State → Read (List Leaf)
path = headers.path leaves
