-- The representation of attributes when significant tokens are parsed: their written form and their meaning.
use Rattle.std.specs.Prelude.{ℕ, List}
use Rattle.justfile_model.specs.Grammars.Conditions.{Conditions}
use Rattle.justfile_model.specs.Trees.LeafView.{LeafView, views_tokens}
use Rattle.justfile_model.specs.Lexing.Tok.{Tok}
use Rattle.justfile_model.specs.Trees.Tree.{Entry, WrittenAttribute, commented_attribute, commented_entry}

-- an attribute as it is written, and its meaning
pub record ReadAttribute : Type 0 where
  pub written : WrittenAttribute Tok Tok
  pub entry : Entry Tok Tok

-- the view of tokens when a file is parsed under these conditions
abbrev pub token_view : Conditions → LeafView Tok Tok
token_view conditions = views_tokens conditions.expander

abbrev pub keep_both : WrittenAttribute Tok Tok → Entry Tok Tok → ReadAttribute
keep_both written entry = record { written = written; entry = entry }

abbrev pub entry_read : ReadAttribute → Entry Tok Tok
entry_read x = x.entry

abbrev pub commented_both : (comment : List ℕ) → ReadAttribute → ReadAttribute
commented_both comment x = record { written = commented_attribute comment x.written; entry = commented_entry comment x.entry }
