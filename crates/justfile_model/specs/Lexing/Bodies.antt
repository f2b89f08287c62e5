-- The positions in a body, by the tokens before them in source order.
use Rattle.std.specs.Prelude.{◌≡◌, ◌≢◌, List, ◌∷◌, ◌++◌}
use Rattle.std.specs.List.{All}
use Rattle.justfile_vocabulary.specs.declared.token_kind.TokenKind.TheVariants.{Colon, Dedent, Indent}
use Rattle.justfile_model.specs.Lexing.Tok.{Tok}

-- There is a colon and no dedent after it.
pub record IsAfterColon (tokens : List Tok) : Type 0 where
  pub before : List Tok
  pub colon : Tok
  pub since : List Tok
  pub are : tokens ≡ before ++ (colon ∷ since)
  pub is_colon : colon.kind ≡ Colon
  pub no_dedent : All (λ t. t.kind ≢ Dedent) since

-- There is an indent after a colon with no dedent between them, and no dedent after the indent.
pub record IsInBody (tokens : List Tok) : Type 0 where
  pub before : List Tok
  pub indent : Tok
  pub since : List Tok
  pub are : tokens ≡ before ++ (indent ∷ since)
  pub after_colon : IsAfterColon before
  pub is_indent : indent.kind ≡ Indent
  pub no_dedent : All (λ t. t.kind ≢ Dedent) since
