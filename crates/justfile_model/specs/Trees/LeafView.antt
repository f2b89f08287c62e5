-- The view of a tree's tokens: their bytes, the texts of literals, and the contents by which attributes are ordered.
use Rattle.std.specs.Prelude.{ℕ, Bool, true, false, List, [], Option, Some, None, Result, Ok, Err}
use Rattle.justfile_token.specs.StringKind.{kind_of}
use Rattle.justfile_vocabulary.specs.declared.format_string_part.FormatStringPart.{FormatStringPart}
use Rattle.justfile_vocabulary.specs.declared.format_string_part.FormatStringPart.TheVariants as parts
use Rattle.justfile_vocabulary.specs.declared.token_kind.TokenKind.{TokenKind}
use Rattle.justfile_vocabulary.specs.declared.token_kind.TokenKind.TheVariants as kinds
use Rattle.justfile_model.specs.Trees.ContentLeaf.{TokenContent, LiteralContent}
use Rattle.justfile_model.specs.LiteralTexts.Literals as literals
use Rattle.justfile_model.specs.LiteralTexts.Literals.{Literal, LiteralFault, Expansions, over_literal, cooked_text}
use Rattle.justfile_model.specs.Lexing.Tok.{Tok}
use Rattle.justfile_model.specs.Trees.Tree.{itself, lexeme, nothing}

pub record LeafView (A B : Type 0) : Type 0 where
  -- the bytes of a leaf
  pub bytes : A → List ℕ
  -- the position of a leaf
  pub place : A → B
  -- the text of a literal, if it has one
  pub cooked : Literal A → Option (List ℕ)
  -- the content of a leaf whose kind is determined by the grammar
  pub leaf_content : TokenKind → A → TokenContent
  -- the content of a token whose kind and lexeme are determined by the grammar
  pub position_content : TokenKind → List ℕ → B → TokenContent
  pub literal_content : Literal A → LiteralContent

abbrev pub text_or_none : Result (List ℕ) LiteralFault → Option (List ℕ)
text_or_none (Ok text) = Some text
text_or_none (Err fault) = None

-- the text of a literal with this expander
abbrev pub text_under : {A : Type 0} → Expansions → (A → List ℕ) → Literal A → Option (List ℕ)
text_under expander bytes l = text_or_none (cooked_text expander (over_literal bytes l))

abbrev pub or_empty : Option (List ℕ) → List ℕ
or_empty None = []
or_empty (Some text) = text

-- the content of a literal: its text, whether it is expanded, its delimiter, its part of a format string, and its token
module _ {A : Type 0} (bytes : A → List ℕ) (cooked : Literal A → Option (List ℕ)) (leaf_content : TokenKind → A → TokenContent) where
  abbrev pub content_by : Literal A → (expand : Bool) → (start : A) → Option FormatStringPart → TokenContent → LiteralContent
  content_by l expand start part token = record { cooked = or_empty (cooked l); expand = expand; kind = kind_of (bytes start); part = part; token = token }

  abbrev pub content_as_read : Literal A → LiteralContent
  content_as_read (literals.Plain token) = content_by (literals.Plain token) false token None (leaf_content kinds.StringToken token)
  content_as_read (literals.Expanded token) = content_by (literals.Expanded token) true token None (leaf_content kinds.StringToken token)
  content_as_read (literals.Command token) = content_by (literals.Command token) false token None (leaf_content kinds.Backtick token)
  content_as_read (literals.Single token) = content_by (literals.Single token) false token (Some parts.Single) (leaf_content kinds.StringToken token)
  content_as_read (literals.Start token) = content_by (literals.Start token) false token (Some parts.Start) (leaf_content kinds.FormatStringStart token)
  content_as_read (literals.Continue start token) = content_by (literals.Continue start token) false start (Some parts.Continue) (leaf_content kinds.FormatStringContinue token)
  content_as_read (literals.End start token) = content_by (literals.End start token) false start (Some parts.End) (leaf_content kinds.FormatStringEnd token)

abbrev pub tok_content : Tok → TokenContent
tok_content t = record { kind = t.kind; lexeme = t.lexeme }

-- the view of a tree of tokens
abbrev pub views_tokens : Expansions → LeafView Tok Tok
views_tokens expander = record {
  bytes = lexeme;
  place = itself;
  cooked = text_under expander lexeme;
  leaf_content = λ kind t. tok_content t;
  position_content = λ kind spelled t. tok_content t;
  literal_content = content_as_read lexeme (text_under expander lexeme) (λ kind t. tok_content t);
}

-- the view of a shape, which has lexemes only; the kinds of tokens are those of the grammar
abbrev pub views_lexemes : Expansions → LeafView (List ℕ) (Unit {0})
views_lexemes expander = record {
  bytes = λ l. l;
  place = nothing;
  cooked = text_under expander (λ l. l);
  leaf_content = λ kind l. record { kind = kind; lexeme = l };
  position_content = λ kind spelled position. record { kind = kind; lexeme = spelled };
  literal_content = content_as_read (λ l. l) (text_under expander (λ l. l)) (λ kind l. record { kind = kind; lexeme = l });
}
