-- Where a number is needed and there is none: what was read before, and which counter has reached its maximum.
use Rattle.std.specs.Prelude.{◌≡◌, ℕ, ◌+◌, ◌-◌, ◌^◌, Bool, true, false, List, [], Some, Ok, IsOk, codes}
use Rattle.justfile_numbers.specs.declared.numerator.Numerator.{Numerator}
use Rattle.justfile_vocabulary.specs.declared.item_kind.ItemKind.TheVariants as item_kinds
use Rattle.justfile_vocabulary.specs.declared.token_kind.TokenKind.{TokenKind}
use Rattle.justfile_vocabulary.specs.declared.token_kind.TokenKind.TheVariants as kinds
use Rattle.justfile_model.specs.Grammars.Conditions.{Conditions}
use Rattle.justfile_model.specs.Readers.HeaderReader as headers
use Rattle.justfile_model.specs.Readers.PartReader as parts
use Rattle.justfile_model.specs.Meanings.ReadAttribute.{ReadAttribute, token_view}
use Rattle.justfile_model.specs.Readers.Reader as files
use Rattle.justfile_model.specs.Readers.Reader.{after_byte_order_mark, any_recipe, argument_rules, assignment, line, with_recipes}
use Rattle.justfile_model.specs.Readers.ReaderState as reading
use Rattle.justfile_model.specs.Readers.ReaderState.{Counters}
use Rattle.justfile_model.specs.Lexing.SignificantTokens.{SignificantToken}
use Rattle.justfile_model.specs.Lexing.Tok.{Tok}
use Rattle.justfile_model.specs.Trees.Tree.{ArgumentRules, WrittenItem, WrittenTree}
use Rattle.justfile_model.specs.Readers.TreeReader.{Read, State, Taken, start_state, token_attributes, token_leaves}
use Rattle.justfile_model.specs.declared.parameter_kind.ParameterKind.{ParameterKind}
use Rattle.justfile_model.specs.declared.parameter_kind.ParameterKind.TheVariants.{Plus, Singular, Star}
use Rattle.justfile_parse_base.specs.Counting.{counters_of}

-- the attributes before a construct
abbrev pub attributes_at : State → Read (List ReadAttribute)
attributes_at = files.attributes token_leaves token_attributes

-- the next token, if it is of this kind
abbrev pub next : TokenKind → State → Taken
next = reading.accept token_leaves

-- ---- of an assignment

-- this keyword, if it comes next and a name and `:=` follow it
abbrev pub word_before : List ℕ → State → Taken
word_before word = parts.accept_keyword_before token_leaves word (parts.peek_assignment token_leaves)

-- where an assignment begins: after `eager`, after `export`, or here
pub data BeginsAssignment (s : State) : (eager export : Bool) → State → Type 0 where
  at_name : BeginsAssignment s false false s
  eager : {word : SignificantToken × State} → word_before (codes "eager") s ≡ Some word → BeginsAssignment s true false word.1
  export : {word : SignificantToken × State} → word_before (codes "export") s ≡ Some word → BeginsAssignment s false true word.1

-- An assignment comes next, after its attributes and its keyword, if it has one. It is complete up to the end of its value, but the counter
-- of bindings has reached its maximum, so the assignment gets no number.
pub record LacksBinding (s : State) (n : Counters) : Type 0 where
  pub attributes : List ReadAttribute
  pub header : State
  pub attributes_read : attributes_at s ≡ Ok (attributes, header)
  pub is_eager : Bool
  pub is_export : Bool
  pub begin : State
  pub begins : BeginsAssignment header is_eager is_export begin
  pub assigns : IsOk (assignment token_leaves token_attributes is_eager is_export attributes n begin)
  pub at_end : n.bindings ≡ 2 ^ 32 - 1

-- ---- of a parameter of a function

-- where a name begins: the counters, and the state
abbrev pub NamePlace : Type 0
NamePlace = Counters × State

-- a name with its number
abbrev pub numbered_name : NamePlace → Read (Tok × Counters)
numbered_name x = parts.numbered_name token_leaves x.0 x.1

-- Names come next, with a comma after each, and each of them gets its number.
pub data AreNamed : (from to : NamePlace) → Type 0 where
  no_name : {x : NamePlace} → AreNamed x x
  a_name : {x y : NamePlace} {name : (Tok × Counters) × State} {comma : SignificantToken × State} → numbered_name x ≡ Ok name
      → next kinds.Comma name.1 ≡ Some comma → AreNamed (name.0.1, comma.1) y
      → AreNamed x y

-- A function comes next, after its attributes, which it may have. After names that got their numbers a name comes next, but the counter of
-- bindings has reached its maximum, so the name gets no number.
pub record LacksName (s : State) (old new : Counters) : Type 0 where
  pub attributes : List ReadAttribute
  pub header : State
  pub attributes_read : attributes_at s ≡ Ok (attributes, header)
  pub name : SignificantToken × State
  pub name_read : reading.expect token_leaves kinds.Identifier header ≡ Ok name
  pub checked : Unit {0} × State
  pub attributes_allowed : files.check_allowed token_leaves token_attributes item_kinds.Function attributes name.0 name.1 ≡ Ok checked
  pub opener : SignificantToken × State
  pub opener_read : reading.expect token_leaves kinds.ParenL checked.1 ≡ Ok opener
  pub place : NamePlace
  pub named : AreNamed (old, opener.1) place
  pub counters : place.0 ≡ new
  pub is_name : IsOk (numbered_name place)
  pub at_end : new.bindings ≡ 2 ^ 32 - 1

-- ---- of a parameter

-- what `arg` attributes set for parameters
abbrev pub RuleList : Type 0
RuleList = List (ArgumentRules Tok Tok)

-- parameters that got their numbers, the counters after them, and the state
abbrev pub Place : RuleList → Type 0
Place rules = headers.ParameterPlace token_leaves token_view rules

-- a parameter of this kind, after its `+` or `*`, with its default and its number
abbrev pub parameter : (rules : RuleList) → ParameterKind → Place rules → Read (headers.Parameters token_leaves token_view rules)
parameter rules = headers.parameter token_leaves token_view rules

-- Parameters that take one argument come next, and each of them gets its number.
pub data AreNumbered (rules : RuleList) : (from to : Place rules) → Type 0 where
  none : {x : Place rules} → AreNumbered rules x x
  more : {x y z : Place rules} → parameter rules Singular x ≡ Ok y → AreNumbered rules y z → AreNumbered rules x z

-- the place after the prefix of a parameter of this kind: `+`, `*` or nothing
pub data IsAfterPrefix (rules : RuleList) (x : Place rules) : ParameterKind → Place rules → Type 0 where
  nothing : IsAfterPrefix rules x Singular x
  plus : {prefix : SignificantToken × State} → next kinds.Plus x.1 ≡ Some prefix → IsAfterPrefix rules x Plus (x.0, prefix.1)
  star : {prefix : SignificantToken × State} → next kinds.Asterisk x.1 ≡ Some prefix → IsAfterPrefix rules x Star (x.0, prefix.1)

-- A header comes next. After its name, and after parameters that got their numbers, a parameter comes next, with its default and without
-- breaking a rule. But the counter of bindings has reached its maximum, so the parameter gets no number. The old counters are those before
-- the header, the new ones those at this parameter.
pub record HeaderLacks (rules : RuleList) (s : State) (old new : Counters) : Type 0 where
  pub name : SignificantToken × State
  pub name_read : reading.expect token_leaves kinds.Identifier s ≡ Ok name
  pub options : Unit {0} × State
  pub options_apart : headers.distinct_options token_leaves token_view rules name.0 name.1 ≡ Ok options
  pub place : Place rules
  pub numbered : AreNumbered rules (([], old), options.1) place
  pub counters : place.0.1 ≡ new
  pub kind : ParameterKind
  pub begin : Place rules
  pub prefixed : IsAfterPrefix rules place kind begin
  pub is_parameter : IsOk (parameter rules kind begin)
  pub at_end : new.bindings ≡ 2 ^ 32 - 1

-- where a header begins: after `@`, or here
pub data BeginsHeader (s : State) : State → Type 0 where
  at_once : BeginsHeader s s
  quiet : {mark : SignificantToken × State} → next kinds.At s ≡ Some mark → BeginsHeader s mark.1

-- A recipe comes next, after its attributes, and a parameter in its header gets no number.
pub record LacksParameter (s : State) (old new : Counters) : Type 0 where
  pub attributes : List ReadAttribute
  pub header : State
  pub attributes_read : attributes_at s ≡ Ok (attributes, header)
  pub begin : State
  pub begins : BeginsHeader header begin
  pub lacks : HeaderLacks (argument_rules token_leaves token_attributes begin.run attributes) begin old new

-- ---- of a recipe

-- A recipe comes next, after its attributes. It is complete up to its end, which is that of its body if it has one. The numbers of its
-- parameters move the counters from the old ones to the new. The counter of recipes has reached its maximum, so the recipe gets no number.
pub record LacksRecipe (s : State) (old new : Counters) : Type 0 where
  pub attributes : List ReadAttribute
  pub header : State
  pub attributes_read : attributes_at s ≡ Ok (attributes, header)
  pub recipe : WrittenItem Tok Tok ℕ Tok
  pub rest : State
  pub is_recipe : any_recipe token_leaves token_attributes attributes old header ≡ Ok ((recipe, with_recipes (new.recipes + 1) new), rest)
  pub at_end : new.recipes ≡ 2 ^ 32 - 1

-- ---- of a file

-- What comes next isn't a blank line, and lacks a number: its own, or that of a parameter. The old counters are those before it, the new
-- ones those where the number is needed.
pub data LacksNumber (s : State) (old : Counters) : (new : Counters) → Type 0 where
  binding : LacksBinding s old → LacksNumber s old old
  name_number : {new : Counters} → LacksName s old new → LacksNumber s old new
  parameter_number : {new : Counters} → LacksParameter s old new → LacksNumber s old new
  recipe_number : {new : Counters} → LacksRecipe s old new → LacksNumber s old new

-- Lines come next, which move the counters up. The last two arguments are what there is after them.
pub data AreLines : Counters → State → Counters → State → Type 0 where
  no_line : {n : Counters} {s : State} → AreLines n s n s
  a_line : {n m k : Counters} {s rest left : State} {items : WrittenTree} → line token_leaves token_attributes n s ≡ Ok ((items, m), rest) → AreLines m rest k left → AreLines n s k left

-- After lines whose bindings and recipes got their numbers, an assignment, a parameter of a function or of a recipe, or a recipe lacks its
-- number.
pub record LinesWantNumber (s : State) (old new : Numerator) : Type 0 where
  pub left : State
  pub counters : Counters
  pub lines : AreLines (counters_of old) s counters left
  pub lacks : LacksNumber left counters (counters_of new)

-- A number is needed in a file's tokens, and its counter, which counted up from the old numerator to the new, has reached its maximum.
abbrev pub WantsNumber : Conditions → List SignificantToken → (old new : Numerator) → Type 0
WantsNumber conditions tokens old new = LinesWantNumber (after_byte_order_mark token_leaves token_attributes (start_state conditions tokens)) old new
