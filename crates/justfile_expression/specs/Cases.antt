-- The orders of enums without fields. Each list has the cases in declared order.
use Rattle.std.specs.Prelude.{◌≡◌, ◌↔◌, Bool, List, ◌∷◌, [], true}
use Rattle.std.specs.Cmp.{IsTotalOrder}
use Rattle.std.specs.List.{list_any}
use Rattle.std.specs.Ordering.{eq_by_cmp}
use Rattle.std.specs.declared.cmp.Ordering.{Ordering}
use Rattle.std.specs.declared.cmp.Ordering.TheVariants as orderings
use Rattle.justfile_token.specs.declared.string_kind.StringDelimiter.{StringDelimiter}
use Rattle.justfile_token.specs.declared.string_kind.StringDelimiter.TheVariants as delimiters
use Rattle.justfile_model.specs.declared.conditional_operator.ConditionalOperator.{ConditionalOperator}
use Rattle.justfile_model.specs.declared.conditional_operator.ConditionalOperator.TheVariants as operators
use Rattle.justfile_vocabulary.specs.declared.format_string_part.FormatStringPart.{FormatStringPart}
use Rattle.justfile_vocabulary.specs.declared.format_string_part.FormatStringPart.TheVariants as parts
use Rattle.justfile_vocabulary.specs.declared.signal.Signal.{Signal}
use Rattle.justfile_vocabulary.specs.declared.signal.Signal.TheVariants as signals
use Rattle.justfile_vocabulary.specs.declared.token_kind.TokenKind.{TokenKind}
use Rattle.justfile_vocabulary.specs.declared.token_kind.TokenKind.TheVariants as kinds
use Rattle.justfile_vocabulary.specs.declared.unstable_feature.UnstableFeature.{UnstableFeature}
use Rattle.justfile_vocabulary.specs.declared.unstable_feature.UnstableFeature.TheVariants as features

-- two values are equal exactly if they are identical
abbrev pub IsExact : {K : Type 0} → (K → K → Bool) → Type 0
IsExact eq = (x y : _) → (eq x y ≡ true) ↔ (x ≡ y)

-- each element is less than the next
abbrev pub IsRising : {K : Type 0} → (K → K → Ordering) → List K → Type 0
IsRising cmp (x ∷ y ∷ rest) = (cmp x y ≡ orderings.Less) × IsRising cmp (y ∷ rest)
IsRising cmp _ = Unit {0}

-- the order is total, two values are equal exactly if they compare as `Equal`, and `cases` lists all cases in rising order
pub record IsOrderOf {K : Type 0} (eq : K → K → Bool) (cmp : K → K → Ordering) (cases : List K) : Type 0 where
  pub total : IsTotalOrder cmp
  pub ties : (x y : K) → eq x y ≡ eq_by_cmp cmp x y
  pub rising : IsRising cmp cases
  pub whole : (x : K) → list_any (eq x) cases ≡ true

abbrev pub delimiters_in_order : List StringDelimiter
delimiters_in_order = delimiters.Backtick ∷ delimiters.QuoteDouble ∷ delimiters.QuoteSingle ∷ []

abbrev pub parts_in_order : List FormatStringPart
parts_in_order = parts.Continue ∷ parts.End ∷ parts.Single ∷ parts.Start ∷ []

abbrev pub operators_in_order : List ConditionalOperator
operators_in_order = operators.Equality ∷ operators.Inequality ∷ operators.RegexMatch ∷ operators.RegexMismatch ∷ []

abbrev pub kinds_in_order : List TokenKind
kinds_in_order = kinds.AmpersandAmpersand ∷ kinds.Asterisk ∷ kinds.At ∷ kinds.Backtick ∷ kinds.Bang ∷ kinds.BangEquals ∷ kinds.BangTilde ∷ kinds.BarBar ∷
    kinds.BraceL ∷ kinds.BraceR ∷ kinds.BracketL ∷ kinds.BracketR ∷ kinds.ByteOrderMark ∷ kinds.Colon ∷ kinds.ColonColon ∷ kinds.ColonEquals ∷
    kinds.Comma ∷ kinds.Comment ∷ kinds.Dedent ∷ kinds.Dollar ∷ kinds.Eof ∷ kinds.Eol ∷ kinds.Equals ∷ kinds.EqualsEquals ∷ kinds.EqualsTilde ∷
    kinds.FormatStringContinue ∷ kinds.FormatStringEnd ∷ kinds.FormatStringStart ∷ kinds.Identifier ∷ kinds.Indent ∷ kinds.InterpolationEnd ∷
    kinds.InterpolationStart ∷ kinds.ParenL ∷ kinds.ParenR ∷ kinds.Plus ∷ kinds.PlusPlus ∷ kinds.QuestionMark ∷ kinds.Slash ∷ kinds.StringToken ∷
    kinds.Text ∷ kinds.Unspecified ∷ kinds.Whitespace ∷ []

abbrev pub signals_in_order : List Signal
signals_in_order = signals.Hangup ∷ signals.Interrupt ∷ signals.Quit ∷ []

abbrev pub features_in_order : List UnstableFeature
features_in_order = features.CachedRecipes ∷ features.ListsSetting ∷ features.UserDefinedFunctions ∷ []
