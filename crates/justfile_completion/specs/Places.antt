-- What kind of place the cursor is at, by the words before it, the last one first.
use Rattle.std.specs.Prelude.{◌&&◌, ℕ, Bool, not, List, [], ◌∷◌, Option, Some, codes, cond}
use Rattle.std.specs.List.{list_any}
use Rattle.std.specs.Str.{bytes_eq}
use Rattle.justfile_vocabulary.specs.AttributeKind.{kind_named}
use Rattle.justfile_vocabulary.specs.declared.attribute_kind.AttributeKind.{AttributeKind}
use Rattle.justfile_vocabulary.specs.declared.attribute_kind.AttributeKind.TheVariants as attributes
use Rattle.justfile_vocabulary.specs.declared.token_kind.TokenKind.{TokenKind}
use Rattle.justfile_vocabulary.specs.declared.token_kind.TokenKind.TheVariants as tokens
use Rattle.justfile_token.specs.Token.{lexeme_of}
use Rattle.justfile_token.specs.declared.token.Token.{Token}
use Rattle.justfile_completion.specs.Kinds.{is_assign, is_blocking, is_bracket, is_colon, is_comma, is_equals, is_parenthesis}
use Rattle.justfile_completion.specs.Words.{from_opener, has, is_spelled, starts_line}
use Rattle.justfile_completion.specs.declared.place.Place.{Place}
use Rattle.justfile_completion.specs.declared.place.Place.TheVariants.{ArgKeys, Attributes, CacheKeys, Dependencies, Dependency, Else, Groups, If, LineStart, Nothing, Operand, Settings, Signals, Target, Truth}
use Rattle.justfile_completion.specs.declared.tables.attributes.TheConstants.{EXPRESSION_KEYS}
use Rattle.justfile_completion.specs.declared.tables.settings.TheConstants.{EXPRESSION_SETTINGS, SWITCHES}

-- ---- expressions

-- after a name an operator would follow, after a keyword an operand
abbrev pub after_word : (text : List ℕ) → Place
after_word text = cond (bytes_eq text (codes "if")) Operand (cond (bytes_eq text (codes "else")) If Nothing)

-- after an operand nothing can be offered, and after most other words an operand
abbrev pub after : TokenKind → (text : List ℕ) → Place
after tokens.Identifier text = after_word text
after tokens.BraceR text = Else
after tokens.Backtick text = Nothing
after tokens.BracketR text = Nothing
after tokens.ColonColon text = Nothing
after tokens.Comment text = Nothing
after tokens.FormatStringEnd text = Nothing
after tokens.InterpolationEnd text = Nothing
after tokens.ParenR text = Nothing
after tokens.StringToken text = Nothing
after tokens.Text text = Nothing
after other text = Operand

abbrev pub in_expression : List Token → Place
in_expression [] = Nothing
in_expression (w ∷ ws) = after w.kind (lexeme_of w)

-- ---- settings

abbrev pub value_of_setting : (name : List ℕ) → Place
value_of_setting name =
    cond (list_any (λ s. bytes_eq s.now name) SWITCHES) Truth (cond (list_any (λ s. bytes_eq s.now name) EXPRESSION_SETTINGS) Operand Nothing)

-- the value of what this word and a name begin
abbrev pub value_of : (name word : Token) → Place
value_of name word = cond (is_spelled (codes "set") word) (value_of_setting (lexeme_of name)) (cond (is_spelled (codes "alias") word) Target Operand)

-- ---- items, where no bracket is open

-- the line is an assignment, or the header of a recipe
abbrev pub is_header : List Token → Bool
is_header words = has is_colon words && not (has is_assign words)

abbrev pub in_parameters : List Token → Place
in_parameters [] = Nothing
in_parameters (w ∷ ws) = cond (is_equals w.kind) Operand Nothing

abbrev pub in_rest : List Token → Place
in_rest words = cond (has is_assign words) (in_expression words) (cond (has is_colon words) Dependencies (in_parameters words))

abbrev pub in_item : List Token → Place
in_item [] = Nothing
in_item (w ∷ []) = cond (is_spelled (codes "set") w) Settings Nothing
in_item (w ∷ v ∷ []) = in_rest (w ∷ v ∷ [])
in_item (assign ∷ name ∷ word ∷ []) = cond (is_assign assign.kind) (value_of name word) (in_rest (assign ∷ name ∷ word ∷ []))
in_item (w ∷ v ∷ u ∷ t ∷ ws) = in_rest (w ∷ v ∷ u ∷ t ∷ ws)

-- ---- attributes

-- what the first argument of an attribute begins with
abbrev pub argument_of : Option AttributeKind → Place
argument_of (Some attributes.Cache) = CacheKeys
argument_of (Some attributes.Confirm) = Operand
argument_of (Some attributes.Continue) = Signals
argument_of (Some attributes.Doc) = Operand
argument_of (Some attributes.Env) = Operand
argument_of (Some attributes.Group) = Groups
argument_of (Some attributes.Timestamp) = Operand
argument_of (Some attributes.WorkingDirectory) = Operand
argument_of other = Nothing

-- what a later argument begins with
abbrev pub later_argument_of : Option AttributeKind → Place
later_argument_of (Some attributes.Arg) = ArgKeys
later_argument_of (Some attributes.Cache) = CacheKeys
later_argument_of (Some attributes.Continue) = Signals
later_argument_of (Some attributes.Env) = Operand
later_argument_of other = Nothing

abbrev pub value_of_key : (key : List ℕ) → Place
value_of_key key = cond (list_any (λ s. bytes_eq s.now key) EXPRESSION_KEYS) Operand Nothing

-- after the words up to the `=` of a key
abbrev pub after_equals : List Token → Place
after_equals [] = Nothing
after_equals (w ∷ []) = Nothing
after_equals (w ∷ key ∷ ws) = value_of_key (lexeme_of key)

-- in the arguments of the attribute with this name
abbrev pub in_arguments : (name : List ℕ) → List Token → Place
in_arguments name [] = Nothing
in_arguments name (w ∷ ws) =
    cond (is_comma w.kind) (later_argument_of (kind_named name))
    (cond (is_parenthesis w.kind) (argument_of (kind_named name)) (cond (is_equals w.kind) (after_equals (w ∷ ws)) (in_expression (w ∷ ws))))

-- between the brackets around attributes
abbrev pub in_attributes : List Token → Place
in_attributes [] = Nothing
in_attributes (w ∷ []) = Attributes
in_attributes (w ∷ name ∷ ws) =
    cond (is_comma w.kind) Attributes (cond (is_colon w.kind) (argument_of (kind_named (lexeme_of name))) (in_expression (w ∷ name ∷ ws)))

-- ---- brackets

-- a dependency with arguments: its name comes first
abbrev pub in_dependency : List Token → Place
in_dependency [] = Nothing
in_dependency (w ∷ ws) = cond (is_parenthesis w.kind) Dependency Operand

-- In parentheses, after the words before them. `within` begins with the last bracket that is open there.
abbrev pub in_parentheses : (within before words : List Token) → Place
in_parentheses [] [] words = in_expression words
in_parentheses [] (name ∷ []) words = Nothing
in_parentheses [] (w ∷ v ∷ ws) words = cond (is_header (w ∷ v ∷ ws)) (in_dependency words) (in_expression words)
in_parentheses (opener ∷ []) (name ∷ ws) words = cond (is_bracket opener.kind) (in_arguments (lexeme_of name) words) (in_expression words)
in_parentheses within before words = in_expression words

abbrev pub in_brackets : TokenKind → (before words : List Token) → Place
in_brackets tokens.BracketL [] words = in_attributes words
in_brackets tokens.ParenL before words = in_parentheses (from_opener before) before words
in_brackets kind before words = in_expression words

-- by the last bracket that is open
abbrev pub in_open : (opened words : List Token) → Place
in_open [] words = in_item words
in_open (opener ∷ before) words = in_brackets opener.kind before words

abbrev pub in_line : List Token → Place
in_line [] = Nothing
in_line (w ∷ ws) = cond (is_blocking w.kind) Nothing (in_open (from_opener (w ∷ ws)) (w ∷ ws))

-- By the tokens before the cursor and the outline of its line. Nothing is written inside of a token.
abbrev pub place_of : (inside : Bool) → (tokens outline : List Token) → Place
place_of inside tokens words = cond inside Nothing (cond (starts_line tokens) LineStart (in_line words))
