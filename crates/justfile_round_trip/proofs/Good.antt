-- Good shapes, which print and parse back: each lexeme has the properties of its token, each value derives back, and the items are arranged
-- in lines.
use Rattle.std.proofs.Common.{◌≡◌, ℕ, Bool, true, false, List, [], ◌∷◌, ◌++◌, length, drop, Option, Some, None}
use Rattle.std.specs.Prelude.{◌&&◌, ◌||◌}
use Rattle.std.specs.Str.{IsUtf8, trim_end}
use Rattle.std.specs.List.{AllByRecursion}
use Rattle.justfile_token.specs.declared.string_kind.StringKind.{StringKind}
use Rattle.justfile_vocabulary.specs.declared.token_kind.TokenKind.{TokenKind}
use Rattle.justfile_vocabulary.specs.declared.token_kind.TokenKind.TheVariants as kinds
use Rattle.justfile_vocabulary.specs.ByteClass.{class_of}
use Rattle.justfile_token.specs.StringKind.{kind_of, token_kind_of}
use Rattle.justfile_model.specs.Lexing.Bytes.{blank, white, blank_len}
use Rattle.justfile_model.specs.declared.raw_text.RawText.TheVariants as raw_texts
use Rattle.justfile_model.specs.Lexing.LiteralText.{raw_len}
use Rattle.justfile_model.specs.Lexing.Modes.{is_empty}
use Rattle.justfile_model.specs.Lexing.Next.{is_backtick}
use Rattle.justfile_model.specs.Lexing.Tok.{Tok}
use Rattle.justfile_model.specs.Lexing.SignificantTokens.{SignificantToken, significant_from}
use Rattle.justfile_model.specs.Trees.Tree as tree
use Rattle.justfile_model.specs.Trees.Tree.{Or, And, Comparison, Concatenation, ListConcatenation, Join, Root, If, IfElse, Not, StringLiteral, FormatLiteral, FormatString, Backtick, Assert, AssertMessage, Variable, Call, Group, ListOf, Last, Continue, Text, Interpolation, Line, lexeme, nothing, trimmed}
use Rattle.justfile_model.specs.Grammars.Expressions.{BelowLimit, Expression}
use Rattle.justfile_round_trip.proofs.LiteralTexts.LexedModes.{Sign, sign, placed}
use Rattle.justfile_round_trip.proofs.LiteralTexts.Inline.{head_is, IsName, IsLiteral, IsPart, delimiter_of}
use Rattle.justfile_round_trip.proofs.RecipeBodies.Lines.{IsComment}
use Rattle.justfile_round_trip.proofs.RecipeBodies.BodyLines.{IsRaw}
use Rattle.justfile_round_trip.proofs.Canon.{Shown, Value, Values, ShapeParts, Fragment, ShapeLine, expr_signs}

-- the printer's tokens without places, and what the parser reads of them
abbrev pub unplaced : List Sign → List Tok
unplaced [] = placed (sign kinds.Eof []) 0 0 0 ∷ []
unplaced (t ∷ ts) = placed t 0 0 0 ∷ unplaced ts

abbrev pub significant : Bool → List Sign → List SignificantToken
significant glued ts = significant_from glued (unplaced ts)

-- ---- values

-- a literal of a token of this kind, which ends before the text that is printed after it
pub record IsDelimited (k : TokenKind) (l : List ℕ) : Type 0 where
  pub kind : StringKind
  pub literal : IsLiteral kind l
  pub is_token : token_kind_of kind.delimiter ≡ k

abbrev pub IsString : List ℕ → Type 0
IsString = IsDelimited kinds.StringToken

abbrev pub IsCommand : List ℕ → Type 0
IsCommand = IsDelimited kinds.Backtick

-- a string after an `f` with nothing to fill in: format mode ends where plain mode does
pub record IsFormatLiteral (l : List ℕ) : Type 0 where
  pub string : IsString l
  pub ends : (more : List ℕ) → raw_len (raw_texts.Literal string.kind true) (string.literal.inner ++ (delimiter_of string.kind ++ more)) ≡ length string.literal.inner

-- the start of a format string, up to `{{` and a space after it
pub record IsFormatStart (l : List ℕ) : Type 0 where
  pub part : IsPart (kind_of l) (delimiter_of (kind_of l)) false l
  pub quoted : is_backtick (kind_of l).delimiter ≡ false
  pub opens : (more : List ℕ) → kind_of (l ++ more) ≡ kind_of l

-- a later part of a format string: up to `{{` and a space after it, or to the string's end
abbrev pub IsPartOf : StringKind → Bool → List ℕ → Type 0
IsPartOf k fin = IsPart k (125 ∷ 125 ∷ []) fin

-- a later part of the innermost open delimiter, if that is a format string
abbrev pub IsPartOfOpen : Option StringKind → Bool → List ℕ → Type 0
IsPartOfOpen None fin l = ⊥
IsPartOfOpen (Some k) fin l = IsPartOf k fin l

abbrev mutual
  pub GoodValue : Value → Type 0
  GoodValue (Or l r) = GoodValue l × GoodValue r
  GoodValue (And l r) = GoodValue l × GoodValue r
  GoodValue (Comparison l operator token r) = GoodValue l × GoodValue r
  GoodValue (Concatenation l operator r) = GoodValue l × GoodValue r
  GoodValue (ListConcatenation l operator r) = GoodValue l × GoodValue r
  GoodValue (Join l operator r) = GoodValue l × GoodValue r
  GoodValue (Root operator r) = GoodValue r
  GoodValue (If c b) = GoodValue c × GoodValue b
  GoodValue (IfElse c b o) = GoodValue c × GoodValue b × GoodValue o
  GoodValue (Not e) = GoodValue e
  GoodValue (StringLiteral expanded l) = IsString l × IsUtf8 l
  GoodValue (FormatLiteral l) = IsFormatLiteral l × IsUtf8 l
  GoodValue (FormatString start e parts) = (IsFormatStart start × IsUtf8 start) × GoodValue e × GoodParts (kind_of start) parts
  GoodValue (Backtick l) = IsCommand l × IsUtf8 l
  GoodValue (Assert name c) = GoodValue c
  GoodValue (AssertMessage name c m) = GoodValue c × GoodValue m
  GoodValue (Variable n) = IsName n
  GoodValue (Call n arguments) = IsName n × GoodValues arguments
  GoodValue (Group e) = GoodValue e
  GoodValue (ListOf opener elements) = GoodValues elements

  pub GoodValues : Values → Type 0
  GoodValues tree.none = Unit {0}
  GoodValues (tree.more e es) = GoodValue e × GoodValues es

  pub GoodParts : StringKind → ShapeParts → Type 0
  GoodParts k (Last l) = IsPartOf k true l × IsUtf8 l
  GoodParts k (Continue l e parts) = (IsPartOf k false l × IsUtf8 l) × GoodValue e × GoodParts k parts

-- the tokens that end the form around an expression
abbrev pub closes : TokenKind → Bool
closes kinds.ParenR = true
closes kinds.BracketR = true
closes kinds.BraceL = true
closes kinds.BraceR = true
closes kinds.Comma = true
closes kinds.FormatStringContinue = true
closes kinds.FormatStringEnd = true
closes kinds.InterpolationEnd = true
closes kinds.Comment = true
closes kinds.Eol = true
closes kinds.Eof = true
closes _ = false

-- a token that closes is next, so an expression ends here
abbrev pub ends_value : List SignificantToken → Bool
ends_value [] = false
ends_value (t ∷ ts) = closes t.tok.kind

-- ---- bodies

-- no line is of blanks alone
abbrev pub IsShown : List Fragment → Type 0
IsShown (Text t ∷ []) = is_empty (drop (blank_len t) t) ≡ false
IsShown _ = Unit {0}

-- the first line has something, and no blank at its front
abbrev pub IsFirst : List Fragment → Type 0
IsFirst [] = ⊥
IsFirst (Text t ∷ fs) = head_is blank t ≡ false
IsFirst (Interpolation e ∷ fs) = Unit {0}

-- a line of space, tab and CR alone
abbrev pub pale : List ℕ → Bool
pale [] = true
pale (x ∷ xs) = white (class_of x) && pale xs

abbrev pub pale_line : List Fragment → Bool
pale_line [] = true
pale_line (Text t ∷ fs) = pale t && pale_line fs
pale_line (Interpolation e ∷ fs) = false

abbrev pub all_pale : List ShapeLine → Bool
all_pale [] = true
all_pale (Line number fs ∷ ls) = pale_line fs && all_pale ls

-- All lines after some empty one are pale. Levels close before that one if anything but line ends follows the body.
abbrev pub pale_after : List ShapeLine → Bool
pale_after [] = false
pale_after (Line number [] ∷ ls) = all_pale ls || pale_after ls
pale_after (Line number (f ∷ fs) ∷ ls) = pale_after ls

-- ---- items

abbrev pub GoodNames : List (List ℕ) → Type 0
GoodNames = AllByRecursion IsName

-- a path has a name at least
abbrev pub GoodPath : List (List ℕ) → Type 0
GoodPath [] = ⊥
GoodPath (name ∷ names) = IsName name × GoodNames names

pub record GoodComment (t : List ℕ) : Type 0 where
  pub comment : IsComment t
  pub trimmed : trim_end t ≡ t
  pub utf8 : IsUtf8 t

-- a comment at the end of a line, if there is one
abbrev pub GoodOptionalComment : Option (List ℕ) → Type 0
GoodOptionalComment None = Unit {0}
GoodOptionalComment (Some t) = GoodComment t

-- ---- the trees that derive back below this limit of open expressions

module _ (limit : ℕ) where
  -- a value that no other is open around: its tokens derive it, before any others that a value ends at
  pub record GoodExpression (e : Value) : Type 0 where
    pub lexes : GoodValue e
    pub features : Shown
    pub derives : (glued : Bool) (on : List Sign) → ends_value (significant true on) ≡ true → Expression lexeme nothing (BelowLimit limit) false 0 e features (significant glued (expr_signs e on)) (significant true on)

  -- each text ends before the text that is printed after it, and no two texts are adjacent
  abbrev pub GoodFragments : List Fragment → Type 0
  GoodFragments [] = Unit {0}
  GoodFragments (Text t ∷ []) = IsRaw t (10 ∷ []) × IsUtf8 t
  GoodFragments (Text t ∷ Text u ∷ fs) = ⊥
  GoodFragments (Text t ∷ Interpolation e ∷ fs) = IsRaw t (123 ∷ 123 ∷ 32 ∷ []) × IsUtf8 t × GoodFragments (Interpolation e ∷ fs)
  GoodFragments (Interpolation e ∷ fs) = GoodExpression e × GoodFragments fs

  abbrev pub GoodLines : List ShapeLine → Type 0
  GoodLines [] = Unit {0}
  GoodLines (Line number fs ∷ ls) = GoodFragments fs × IsShown fs × GoodLines ls

  abbrev pub GoodBody : List ShapeLine → Type 0
  GoodBody [] = ⊥
  GoodBody (Line number fs ∷ ls) = IsFirst fs × GoodFragments fs × GoodLines ls

  -- the body of a recipe, which has no empty line at its end
  pub record EndedBody (body : List ShapeLine) : Type 0 where
    pub good : GoodBody body
    pub ended : trimmed body ≡ body
