-- Texts that are written one after another.
use Rattle.std.specs.Prelude.{ℕ, List, [], ◌++◌, codes}
use Rattle.justfile_token.specs.StringLiteral.{literal_marks}
use Rattle.justfile_token.specs.Token.{lexeme_of}
use Rattle.justfile_token.specs.declared.string_literal.StringLiteral.{StringLiteral}
use Rattle.justfile_leaves.specs.declared.words.Words.{Words}

-- the text of a token, with the texts before and after it
pub record Texts : Type 0 where
  pub before : List ℕ
  pub marks : List ℕ
  pub lexeme : List ℕ
  pub after : List ℕ

abbrev pub texts_of : Words → Texts
texts_of words = record { before = words.before.now; marks = words.marks.now; lexeme = words.lexeme.now; after = words.after.now }

abbrev pub text_alone : List ℕ → Texts
text_alone text = record { before = []; marks = []; lexeme = []; after = text }

abbrev pub lexeme_alone : List ℕ → Texts
lexeme_alone lexeme = record { before = []; marks = []; lexeme = lexeme; after = [] }

abbrev pub literal_texts : StringLiteral → Texts
literal_texts literal = record { before = []; marks = literal_marks literal; lexeme = lexeme_of literal.token; after = [] }

-- a later part of a format string, with the text after it
abbrev pub part_texts : StringLiteral → (after : List ℕ) → Texts
part_texts part after = record { before = codes " "; marks = literal_marks part; lexeme = lexeme_of part.token; after = after }

abbrev pub texts_joined : Texts → List ℕ
texts_joined texts = texts.before ++ (texts.marks ++ (texts.lexeme ++ texts.after))
