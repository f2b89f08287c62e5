-- What is called where an argument is written, by the words before it, the last one first.
use Rattle.std.specs.Prelude.{◌&&◌, ◌||◌, ◌+◌, ◌++◌, ◌-◌, ◌==◌, ℕ, Bool, false, true, not, List, [], ◌∷◌, Option, None, Some, codes, cond, filter, length, nat_le, option_map, reverse, string_bytes}
use Rattle.std.specs.List.{take_while}
use Rattle.justfile_vocabulary.specs.declared.token_kind.TokenKind.{TokenKind}
use Rattle.justfile_vocabulary.specs.declared.token_kind.TokenKind.TheVariants.{Backtick, BraceR, BracketR, FormatStringEnd, Identifier, ParenR, StringToken}
use Rattle.justfile_token.specs.Token.{lexeme_of}
use Rattle.justfile_token.specs.declared.token.Token.{Token}
use Rattle.justfile_completion.specs.Kinds.{is_bracket, is_comma, is_identifier, is_parenthesis, opens}
use Rattle.justfile_completion.specs.Places.{is_header}
use Rattle.justfile_completion.specs.Words.{from_opener, is_spelled, line_of, outline}
use Rattle.justfile_completion.specs.declared.call.Call.{Call}
use Rattle.justfile_completion.specs.declared.call.Called.{Called}

-- ---- arguments of a dependency, which stand side by side

-- a value can begin with it, or with the bracket that it closes, of which the outline has nothing else
abbrev pub begins_value : TokenKind → Bool
begins_value Backtick = true
begins_value BracketR = true
begins_value Identifier = true
begins_value ParenR = true
begins_value StringToken = true
begins_value other = false

abbrev pub ends_value : TokenKind → Bool
ends_value BraceR = true
ends_value FormatStringEnd = true
ends_value kind = begins_value kind

abbrev pub closes_parenthesis : TokenKind → Bool
closes_parenthesis ParenR = true
closes_parenthesis other = false

-- a word goes on with the value of the name before it: it is a call's, or a marked string
abbrev pub is_joined : (before w : Token) → Bool
is_joined before w = is_identifier before.kind && (closes_parenthesis w.kind || before.offset + before.length == w.offset)

-- an argument begins with a word: the one before it ends a value, and isn't a part of the same
abbrev pub begins_argument : (before w : Token) → Bool
begins_argument before w =
    ends_value before.kind && begins_value w.kind && not (is_joined before w) && not (is_spelled (codes "if") before) && not (is_spelled (codes "else") w)

-- those of the words after a word, in the order of the text
abbrev pub begun_after : Token → List Token → List Token
begun_after before [] = []
begun_after before (w ∷ ws) = cond (begins_argument before w) (w ∷ begun_after w ws) (begun_after w ws)

-- those of the words after the name: the first one comes last. A parenthesis after the name is no call's.
abbrev pub begun : List Token → List Token
begun [] = []
begun (w ∷ ws) = begun_after w ws ++ cond (begins_value w.kind) (w ∷ []) []

-- how many are before the cursor: unless a value ends there, the last one goes on
abbrev pub index_after : (last : TokenKind) → (words : List Token) → ℕ
index_after last words = cond (ends_value last) (length words) (length words - 1)

-- the recipe that the first word names
abbrev pub dependency_of : (last : TokenKind) → List Token → Option Called
dependency_of last [] = None
dependency_of last (name ∷ ws) = Some (record { name = name; is_recipe = true; index = index_after last (begun ws) })

abbrev pub dependency : List Token → Option Called
dependency [] = None
dependency (last ∷ ws) = dependency_of last.kind (reverse (last ∷ ws))

-- ---- arguments of a function

abbrev pub comma_count : List Token → ℕ
comma_count words = length (filter (λ w. is_comma w.kind) words)

-- the function that the word before the parenthesis names
abbrev pub function : (before words : List Token) → Option Called
function [] words = None
function (name ∷ ws) words = cond (is_identifier name.kind) (Some (record { name = name; is_recipe = false; index = comma_count words })) None

-- ---- parentheses

-- the words after the last bracket that is open
abbrev pub inside : List Token → List Token
inside words = take_while (λ w. not (opens w.kind)) words

-- In parentheses with these words, after those before them. `within` begins with the last bracket that is open there. The parameters of a function and the arguments of an attribute
-- are no call's.
abbrev pub called_after : (within before words : List Token) → Option Called
called_after [] [] words = None
called_after [] (name ∷ []) words = None
called_after [] (w ∷ v ∷ ws) words = cond (is_header (w ∷ v ∷ ws)) (dependency words) (function (w ∷ v ∷ ws) words)
called_after (opener ∷ []) before words = cond (is_bracket opener.kind) None (function before words)
called_after (opener ∷ next ∷ ws) before words = function before words

-- in the last bracket that is open, if it is a parenthesis
abbrev pub called_in : (opened words : List Token) → Option Called
called_in [] words = None
called_in (opener ∷ before) words = cond (is_parenthesis opener.kind) (called_after (from_opener before) before (inside words)) None

abbrev pub call_in : List Token → Option Called
call_in words = called_in (from_opener words) words

-- ---- the cursor

-- what is told of a call
pub record ToldCall : Type 0 where
  pub name : List ℕ
  pub is_recipe : Bool
  pub index : ℕ

abbrev pub told_called : Called → ToldCall
told_called c = record { name = lexeme_of c.name; is_recipe = c.is_recipe; index = c.index }

abbrev pub call_told : Call → ToldCall
call_told c = record { name = string_bytes c.name; is_recipe = c.is_recipe; index = c.index }

-- the token ends before the cursor, or at it
abbrev pub is_over : (cursor : ℕ) → Token → Bool
is_over cursor t = nat_le (t.offset + t.length) cursor

-- what is called at the cursor, by the tokens that begin before it; one that it is inside of is a part of the argument
abbrev pub called_by : (cursor : ℕ) → List Token → Option ToldCall
called_by cursor tokens = option_map told_called (call_in (outline (line_of (filter (is_over cursor) tokens))))
