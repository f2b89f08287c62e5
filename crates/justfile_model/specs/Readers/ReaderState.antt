-- The parts of the reader: its state, its errors, and how it takes tokens. It goes from left to right, up to the first error, and
-- collects features. It works on arbitrary tokens:
-- `Leaves` says what they are for the grammar, and what their projections to the tree are.
use Rattle.std.specs.Prelude.{ℕ, ◌+◌, ◌-◌, Bool, true, false, ◌&&◌, List, [], ◌∷◌, ◌++◌, Option, Some, None, Result, Ok, Err, if◌then◌else◌}
use Rattle.std.specs.Str.{bytes_eq, trim_end}
use denote.Enum.Bare.{sameb}
use Rattle.justfile_vocabulary.specs.declared.keyword.Keyword.{Keyword}
use Rattle.justfile_vocabulary.specs.contracts.token_kind.TokenKind.{the_type}
use Rattle.justfile_vocabulary.specs.declared.token_kind.TokenKind.{TokenKind}
use Rattle.justfile_vocabulary.specs.declared.token_kind.TokenKind.TheVariants as kinds
use Rattle.justfile_model.specs.Lexing.SignificantTokens.{SignificantToken}
use Rattle.justfile_vocabulary.specs.declared.list_feature.ListFeature.{ListFeature}
use Rattle.justfile_model.specs.Grammars.Expressions.{front}
use Rattle.justfile_model.specs.Grammars.Features.{Noted, noted}
use Rattle.justfile_model.specs.Grammars.Conditions.{Conditions}
use Rattle.justfile_model.specs.LiteralTexts.Literals.{Literal, LiteralFault}
use Rattle.justfile_model.specs.Meanings.Rules.{Broken}
use Rattle.justfile_model.specs.Trees.Tree.{ArgumentRules, BodyLine}

-- How tokens `T` are seen by the grammar, and their projections to the tree: `A` at its leaves, `B` for positions, and `S` for stars. `R`
-- is what stays fixed while a file is parsed.
pub record Leaves (R T A B S : Type 0) : Type 0 where
  -- the conditions under which the file is parsed
  pub conditions : R → Conditions
  -- a token as the grammar sees it
  pub see : T → SignificantToken
  -- an operator, a keyword or a delimiter, and a token at which a feature is noted
  pub position : T → B
  -- a variable, or the name in a call
  pub name : T → A
  -- a literal with its cooked text
  pub literal : T → Literal (List ℕ) → (text : List ℕ) → A
  -- a text in a body
  pub text : T → A
  -- the star of a dependency
  pub star : T → S
  -- the name of a parameter, with what an `arg` attribute sets for it, and its number
  pub parameter : R → T → Option (ArgumentRules A B) → (number : ℕ) → A
  -- the name of a parameter of a function, with its number
  pub function_parameter : R → T → (number : ℕ) → A
  -- the name of an assignment, with its number
  pub assignment : R → T → (number : ℕ) → A
  -- the name of a recipe, with its number and its body
  pub recipe : R → T → (number : ℕ) → List (BodyLine A B ℕ) → A
  -- a counter at this value has a number left
  pub has_number : ℕ → Bool

-- the state of the reader: what stays fixed, the number of open expressions, the remaining tokens, and the features so far
pub record State (R T B : Type 0) : Type 0 where
  pub run : R
  pub depth : ℕ
  pub left : List T
  pub noted : List (Noted B)

-- the counters that number bindings and recipes
pub record Counters : Type 0 where
  pub bindings : ℕ
  pub constants : ℕ
  pub recipes : ℕ

-- why the reader can't read tokens, and at which token; none at the end of the tokens
pub data ReadError (T B : Type 0) : Type 0 where
  -- no rule of the grammar continues with this token
  Unexpected : (token : Option T) → ReadError T B
  -- expressions are nested too deeply
  TooDeep : (token : Option T) → ReadError T B
  -- the literal has no text
  NotCooked : (fault : LiteralFault) (literal : B) → ReadError T B
  -- a rule is broken
  BreaksRule : (rule : Broken B) → ReadError T B
  -- attributes before a blank line or a comment: how many, and the bracket of the first one
  Extraneous : (count : ℕ) (opener : B) → ReadError T B
  -- a name after a variadic parameter
  AfterVariadic : (name : B) → ReadError T B
  -- the name of an unknown setting
  UnknownSetting : (name : B) → ReadError T B
  -- a word that isn't one of the expected keywords
  ExpectedKeyword : (expected : List Keyword) (found : B) → ReadError T B
  -- one of these counters has no number left for the next binding or recipe
  NoNumber : Counters → ReadError T B

infixl 10 ◌>>=◌
abbrev pub ◌>>=◌ : {X Y E : Type 0} → Result X E → (X → Result Y E) → Result Y E
(Ok x) >>= f = f x
(Err e) >>= f = Err e

-- the result of parsing: a value and the state after it, or an error
abbrev pub Read : (R T B X : Type 0) → Type 0
Read R T B X = Result (X × State R T B) (ReadError T B)

-- a token that was taken, and the state after it
abbrev pub Taken : (R T B : Type 0) → Type 0
Taken R T B = Option (T × State R T B)

-- equality of kinds
unfoldable pub same_kind : TokenKind → TokenKind → Bool
same_kind = sameb the_type

unfoldable pub is_word : List ℕ → SignificantToken → Bool
is_word word t = same_kind t.tok.kind kinds.Identifier && bytes_eq t.tok.lexeme word

-- the mark is this word, and the other token directly follows it and has this kind
abbrev pub marks : (word : List ℕ) → TokenKind → (mark token : SignificantToken) → Bool
marks word kind mark token = is_word word mark && same_kind token.tok.kind kind && token.glued

module _ {R T B : Type 0} where
  -- the state with these remaining tokens
  abbrev pub at : State R T B → List T → State R T B
  at s left = record { run = s.run; depth = s.depth; left = left; noted = s.noted }

  abbrev pub at_depth : ℕ → State R T B → State R T B
  at_depth depth s = record { run = s.run; depth = depth; left = s.left; noted = s.noted }

  -- the state inside of an expression; `shallower` is the state after it
  abbrev pub deeper : State R T B → State R T B
  deeper s = at_depth (s.depth + 1) s

  abbrev pub shallower : State R T B → State R T B
  shallower s = at_depth (s.depth - 1) s

  -- the state with more features
  abbrev pub with : List (Noted B) → State R T B → State R T B
  with features s = record { run = s.run; depth = s.depth; left = s.left; noted = s.noted ++ features }

  -- the state with this token before the remaining ones
  abbrev pub with_next : T → State R T B → State R T B
  with_next t s = at s (t ∷ s.left)

  -- an error at the next token
  unfoldable pub refused : (Option T → ReadError T B) → State R T B → ReadError T B
  refused at_token s = at_token (front s.left)

  -- whether a token was taken, and the state after it
  abbrev pub taken_or : State R T B → Taken R T B → Bool × State R T B
  taken_or s None = (false, s)
  taken_or s (Some x) = (true, x.1)

  -- a value by whether a token was taken
  abbrev pub choose : {X : Type 0} → Taken R T B → X → (T × State R T B → X) → X
  choose None otherwise taken = otherwise
  choose (Some x) otherwise taken = taken x

  -- these elements before the parsed ones
  unfoldable pub prepend : {X : Type 0} → List X → Read R T B (List X) → Read R T B (List X)
  prepend done found = do
    more ← found
    Ok (done ++ more.0, more.1)

module _ {R T A B S : Type 0} (leaves : Leaves R T A B S) where
  -- the text of a comment, without trailing whitespace
  abbrev pub comment_in : T → List ℕ
  comment_in t = trim_end (leaves.see t).tok.lexeme

  -- the state with a feature noted at a token
  abbrev pub note : ListFeature → T → State R T B → State R T B
  note feature t s = with (noted feature (leaves.position t)) s

  -- the next token if it passes the test
  abbrev pub accept_by : (SignificantToken → Bool) → State R T B → List T → Taken R T B
  accept_by test s [] = None
  accept_by test s (t ∷ ts) = if test (leaves.see t) then Some (t, at s ts) else None

  -- the next token if it is of this kind
  unfoldable pub accept : TokenKind → State R T B → Taken R T B
  accept kind s = accept_by (λ t. same_kind t.tok.kind kind) s s.left

  -- the next token if it is this word
  unfoldable pub accept_keyword : List ℕ → State R T B → Taken R T B
  accept_keyword word s = accept_by (is_word word) s s.left

  -- the string after the next token, if that token marks it; both are taken
  abbrev pub marked_by : List ℕ → TokenKind → State R T B → List T → Taken R T B
  marked_by word kind s [] = None
  marked_by word kind s (m ∷ []) = None
  marked_by word kind s (m ∷ t ∷ ts) = if marks word kind (leaves.see m) (leaves.see t) then Some (t, at s ts) else None

  unfoldable pub accept_marked : List ℕ → TokenKind → State R T B → Taken R T B
  accept_marked word kind s = marked_by word kind s s.left

  -- takes the next token if it is of this kind, and returns whether it is
  unfoldable pub accepted : TokenKind → State R T B → Bool × State R T B
  accepted kind s = taken_or s (accept kind s)

  unfoldable pub expect : TokenKind → State R T B → Read R T B T
  expect kind s = choose (accept kind s) (Err (refused Unexpected s)) (λ x. Ok x)

  -- the tokens begin with tokens of these kinds
  unfoldable pub begin_with : List TokenKind → List T → Bool
  begin_with [] tokens = true
  begin_with (kind ∷ kinds) [] = false
  begin_with (kind ∷ kinds) (t ∷ ts) = same_kind (leaves.see t).tok.kind kind && begin_with kinds ts

  -- the next tokens have these kinds
  abbrev pub next_are : List TokenKind → State R T B → Bool
  next_are kinds s = begin_with kinds s.left
