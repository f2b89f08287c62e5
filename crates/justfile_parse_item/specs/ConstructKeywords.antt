-- The keyword that a construct begins with, and what is read after it.
use Rattle.std.specs.Prelude.{ℕ, true, false, List, [], ◌∷◌, Option, Some, None}
use Rattle.std.specs.List.{find}
use Rattle.std.specs.Str.{bytes_eq}
use Rattle.justfile_vocabulary.specs.Keyword.{keyword_text}
use Rattle.justfile_vocabulary.specs.declared.keyword.Keyword.{Keyword}
use Rattle.justfile_model.specs.Readers.ReaderState.{Counters}
use Rattle.justfile_parse_item.specs.ItemTable.{ReadItem, alias, any_module, assignment, import, setting, unexport, without_keyword}
use Rattle.justfile_parse_item.specs.declared.construct.TheConstants.{BEGINNINGS}
use Rattle.justfile_parse_item.specs.declared.construct.ConstructKeyword.{ConstructKeyword}
use Rattle.justfile_parse_item.specs.declared.construct.ConstructKeyword.TheVariants.{Alias, Eager, Export, Import, Mod, Set, Unexport}
use Rattle.justfile_parse_attribute.specs.AttributeTable.{Entries}
use Rattle.justfile_parse_expression.specs.TableReader.{State}
use Rattle.justfile_parse_expression.specs.Significant.{TableToken}
use Rattle.justfile_parse_item_parts.specs.PartTable.{accept_keyword_before, follows}
use Rattle.justfile_parse_item_parts.specs.declared.lookahead.Lookahead.{Lookahead}

-- the keyword that was taken, and the state after it; or none
abbrev pub KeywordTaken : Type 0
KeywordTaken = Option (ConstructKeyword × State)

-- this keyword if its token was taken, or else another result
abbrev pub taken_as : ConstructKeyword → Option (TableToken × State) → KeywordTaken → KeywordTaken
taken_as word None otherwise = otherwise
taken_as word (Some x) otherwise = Some (word, x.1)

-- a keyword that a construct begins with, and what has to follow it
abbrev pub Beginning : Type 0
Beginning = ConstructKeyword × Keyword × Lookahead

-- the row of a word, if it is one of these keywords
abbrev pub beginning_of : List ℕ → Option Beginning
beginning_of word = find (λ row. bytes_eq word (keyword_text row.1)) BEGINNINGS

-- the token of this keyword, if it comes next and is followed as it has to be
abbrev pub one_taken : Beginning → State → Option (TableToken × State)
one_taken row s = accept_keyword_before (keyword_text row.1) (follows row.2) s

abbrev pub first_taken : List Beginning → State → KeywordTaken
first_taken [] s = None
first_taken (row ∷ rows) s = taken_as row.0 (one_taken row s) (first_taken rows s)

-- the keyword that the construct begins with, if it begins with one: the first that fits what follows
unfoldable pub keyword_taken : State → KeywordTaken
keyword_taken = first_taken BEGINNINGS

-- a construct after its attributes and its keyword
abbrev pub after_keyword : ConstructKeyword → Entries → Counters → State → ReadItem
after_keyword Alias = alias
after_keyword Eager = assignment true false
after_keyword Export = assignment false true
after_keyword Import = import
after_keyword Mod = any_module
after_keyword Set = setting
after_keyword Unexport = unexport

-- a construct by the keyword that it begins with
abbrev pub by_keyword : KeywordTaken → Entries → Counters → State → ReadItem
by_keyword None ws n s = without_keyword ws n s
by_keyword (Some x) ws n s = after_keyword x.0 ws n x.1
