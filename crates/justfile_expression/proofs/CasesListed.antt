-- Each case is in the list of its cases. Where two clauses stand for many cases, the first makes the checker go through all of them.
use Rattle.std.proofs.Common.{◌≡◌, refl, true}
use Rattle.std.specs.List.{list_any}
use Rattle.justfile_vocabulary.specs.AttributeKind.{attribute_kinds}
use Rattle.justfile_vocabulary.specs.contracts.token_kind.TokenKindPartialEq.TheImpl as kind_equality
use Rattle.justfile_vocabulary.specs.declared.token_kind.TokenKind.{TokenKind}
use Rattle.justfile_vocabulary.specs.declared.token_kind.TokenKind.TheVariants as kinds
use Rattle.justfile_token.specs.contracts.string_kind.StringDelimiterPartialEq.TheImpl as delimiter_equality
use Rattle.justfile_token.specs.declared.string_kind.StringDelimiter.{StringDelimiter}
use Rattle.justfile_token.specs.declared.string_kind.StringDelimiter.TheVariants as delimiters
use Rattle.justfile_vocabulary.specs.contracts.format_string_part.FormatStringPartPartialEq.TheImpl as part_equality
use Rattle.justfile_vocabulary.specs.declared.format_string_part.FormatStringPart.{FormatStringPart}
use Rattle.justfile_vocabulary.specs.declared.format_string_part.FormatStringPart.TheVariants as parts
use Rattle.justfile_model.specs.contracts.conditional_operator.ConditionalOperatorPartialEq.TheImpl as operator_equality
use Rattle.justfile_model.specs.declared.conditional_operator.ConditionalOperator.{ConditionalOperator}
use Rattle.justfile_model.specs.declared.conditional_operator.ConditionalOperator.TheVariants as operators
use Rattle.justfile_vocabulary.specs.contracts.attribute_kind.AttributeKindPartialEq.TheImpl as attribute_equality
use Rattle.justfile_vocabulary.specs.declared.attribute_kind.AttributeKind.{AttributeKind}
use Rattle.justfile_vocabulary.specs.declared.attribute_kind.AttributeKind.TheVariants as attributes
use Rattle.justfile_vocabulary.specs.contracts.signal.SignalPartialEq.TheImpl as signal_equality
use Rattle.justfile_vocabulary.specs.declared.signal.Signal.{Signal}
use Rattle.justfile_vocabulary.specs.declared.signal.Signal.TheVariants as signals
use Rattle.justfile_vocabulary.specs.contracts.unstable_feature.UnstableFeaturePartialEq.TheImpl as feature_equality
use Rattle.justfile_vocabulary.specs.declared.unstable_feature.UnstableFeature.{UnstableFeature}
use Rattle.justfile_vocabulary.specs.declared.unstable_feature.UnstableFeature.TheVariants as features
use Rattle.justfile_expression.specs.Cases.{delimiters_in_order, features_in_order, kinds_in_order, operators_in_order, parts_in_order, signals_in_order}

pub kinds_whole : (x : TokenKind) → list_any (kind_equality.eq-value.it x) kinds_in_order ≡ true
kinds_whole kinds.AmpersandAmpersand = refl
kinds_whole kind = refl

pub delimiters_whole : (x : StringDelimiter) → list_any (delimiter_equality.eq-value.it x) delimiters_in_order ≡ true
delimiters_whole delimiters.Backtick = refl
delimiters_whole delimiters.QuoteDouble = refl
delimiters_whole delimiters.QuoteSingle = refl

pub parts_whole : (x : FormatStringPart) → list_any (part_equality.eq-value.it x) parts_in_order ≡ true
parts_whole parts.Continue = refl
parts_whole parts.End = refl
parts_whole parts.Single = refl
parts_whole parts.Start = refl

pub operators_whole : (x : ConditionalOperator) → list_any (operator_equality.eq-value.it x) operators_in_order ≡ true
operators_whole operators.Equality = refl
operators_whole operators.Inequality = refl
operators_whole operators.RegexMatch = refl
operators_whole operators.RegexMismatch = refl

pub attributes_whole : (x : AttributeKind) → list_any (attribute_equality.eq-value.it x) attribute_kinds ≡ true
attributes_whole attributes.Android = refl
attributes_whole kind = refl

pub signals_whole : (x : Signal) → list_any (signal_equality.eq-value.it x) signals_in_order ≡ true
signals_whole signals.Hangup = refl
signals_whole signals.Interrupt = refl
signals_whole signals.Quit = refl

pub features_whole : (x : UnstableFeature) → list_any (feature_equality.eq-value.it x) features_in_order ≡ true
features_whole features.CachedRecipes = refl
features_whole features.ListsSetting = refl
features_whole features.UserDefinedFunctions = refl
