-- The tokens that the reader and the parser read: all but whitespace.
use Rattle.std.specs.Prelude.{◌≡◌, ℕ, ◌+◌, Bool, true, false, cond, List, [], ◌∷◌, codes}
use Rattle.std.specs.List.{AllByRecursion}
use Rattle.justfile_vocabulary.specs.declared.token_kind.TokenKind.{TokenKind}
use Rattle.justfile_vocabulary.specs.declared.token_kind.TokenKind.TheVariants.{BangEquals, BangTilde, BracketL, EqualsEquals, EqualsTilde, Identifier, Plus, PlusPlus, Slash, Whitespace}
use Rattle.justfile_token.specs.declared.token.Token.{Token}
use Rattle.justfile_model.specs.Lexing.Tok.{Tok, tok_of}

-- a token, and whether it is glued to the one before, that is, directly follows it without whitespace
pub record SignificantToken : Type 0 where
  pub tok : Tok
  pub glued : Bool

abbrev pub is_whitespace : TokenKind → Bool
is_whitespace Whitespace = true
is_whitespace _ = false

-- the tokens without whitespace; the flag says whether the first one is glued
abbrev pub significant_from : Bool → List Tok → List SignificantToken
significant_from glued [] = []
significant_from glued (t ∷ ts) = cond (is_whitespace t.kind) (significant_from false ts) (record { tok = t; glued = glued } ∷ significant_from true ts)

-- the tokens of a file without whitespace; the first one isn't glued
abbrev pub significant_tokens : List Tok → List SignificantToken
significant_tokens = significant_from false

-- one of the table that the parser reads: a token, and whether it is glued to the one before
abbrev pub TableToken : Type 0
TableToken = Token × Bool

-- a token of the table as the definitions see it
abbrev pub significant_of : TableToken → SignificantToken
significant_of table_token = record { tok = tok_of table_token.0; glued = table_token.1 }

abbrev pub is_identifier : TokenKind → Bool
is_identifier Identifier = true
is_identifier _ = false

-- the number of identifiers
abbrev pub identifiers : List SignificantToken → ℕ
identifiers [] = 0
identifiers (t ∷ ts) = cond (is_identifier t.tok.kind) 1 0 + identifiers ts

-- A token of one of the kinds that trees keep and that have a single lexeme has that lexeme. Of the other kinds nothing is said.
abbrev pub Spelling : TokenKind → List ℕ → Type 0
Spelling EqualsEquals lexeme = lexeme ≡ codes "=="
Spelling BangEquals lexeme = lexeme ≡ codes "!="
Spelling EqualsTilde lexeme = lexeme ≡ codes "=~"
Spelling BangTilde lexeme = lexeme ≡ codes "!~"
Spelling Plus lexeme = lexeme ≡ codes "+"
Spelling PlusPlus lexeme = lexeme ≡ codes "++"
Spelling Slash lexeme = lexeme ≡ codes "/"
Spelling BracketL lexeme = lexeme ≡ codes "["
Spelling kind lexeme = Unit {0}

abbrev pub HasSpelling : SignificantToken → Type 0
HasSpelling t = Spelling t.tok.kind t.tok.lexeme

abbrev pub AllSpelled : List SignificantToken → Type 0
AllSpelled ts = AllByRecursion HasSpelling ts
