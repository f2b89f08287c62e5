-- Parses significant tokens to a written tree of tokens.
use Rattle.std.specs.Prelude.{true, List, [], map, Result, Ok}
use Rattle.justfile_model.specs.Grammars.Features.{Noted}
use Rattle.justfile_model.specs.Grammars.Conditions.{Conditions}
use Rattle.justfile_model.specs.Readers.AttributeReader as attribute_reader
use Rattle.justfile_model.specs.Readers.AttributeReader.{AttributeLeaves}
use Rattle.justfile_model.specs.Meanings.ReadAttribute.{ReadAttribute, commented_both, entry_read, keep_both, token_view}
use Rattle.justfile_model.specs.Readers.Reader as reader
use Rattle.justfile_model.specs.Readers.ReaderState as reading
use Rattle.justfile_model.specs.Readers.ReaderState.{Counters, ◌>>=◌, Leaves}
use Rattle.justfile_model.specs.Lexing.SignificantTokens.{SignificantToken}
use Rattle.justfile_model.specs.Lexing.Tok.{Tok}
use Rattle.justfile_model.specs.Trees.Tree.{WrittenAttribute, WrittenTree}

-- A written tree keeps its tokens, but no numbers. So the counters never run out, and whether tokens derive a tree doesn't depend on them.
abbrev pub token_leaves : Leaves Conditions SignificantToken Tok Tok Tok
token_leaves = record {
  conditions = λ conditions. conditions;
  see = λ t. t;
  position = λ t. t.tok;
  name = λ t. t.tok;
  literal = λ t literal text. t.tok;
  text = λ t. t.tok;
  star = λ t. t.tok;
  parameter = λ conditions t rules number. t.tok;
  function_parameter = λ conditions t number. t.tok;
  assignment = λ conditions t number. t.tok;
  recipe = λ conditions t number body. t.tok;
  has_number = λ number. true;
}

-- the attributes of its constructs are kept as they are written
abbrev pub token_attributes : AttributeLeaves Conditions Tok Tok (List (WrittenAttribute Tok Tok)) ReadAttribute
token_attributes = record {
  view = token_view;
  keep = keep_both;
  entry = entry_read;
  comment = commented_both;
  attributes = λ conditions xs. map (λ (x : ReadAttribute). x.written) xs;
}

-- the state of the reader, which keeps the conditions of the file
abbrev pub State : Type 0
State = reading.State Conditions SignificantToken Tok

abbrev pub ReadError : Type 0
ReadError = reading.ReadError SignificantToken Tok

abbrev pub Read : Type 0 → Type 0
Read X = reading.Read Conditions SignificantToken Tok X

abbrev pub Taken : Type 0
Taken = reading.Taken Conditions SignificantToken Tok

-- the lines of attributes before a construct
abbrev pub read_attributes : State → Read (List ReadAttribute)
read_attributes = attribute_reader.attribute_lines token_leaves token_view keep_both entry_read commented_both

-- the counters before the first number
abbrev pub unnumbered : Counters
unnumbered = record { bindings = 0; constants = 0; recipes = 0 }

-- the state before the first token
abbrev pub start_state : Conditions → List SignificantToken → State
start_state conditions tokens = record { run = conditions; depth = 0; left = tokens; noted = [] }

-- the written tree of a file and its features, or the error
unfoldable pub tree_of_tokens : Conditions → List SignificantToken → Result (WrittenTree × List (Noted Tok)) ReadError
tree_of_tokens conditions tokens = do
  x ← reader.file token_leaves token_attributes unnumbered (start_state conditions tokens)
  Ok (x.0.0, x.1.noted)
