use Rattle.std.proofs.Common.{rules}
use Rattle.justfile_vocabulary.specs.contracts.token_kind.TokenKindOrd.TheImpl.Laws as kind_laws
use Rattle.justfile_token.specs.contracts.string_kind.StringDelimiterOrd.TheImpl.Laws as delimiter_laws
use Rattle.justfile_vocabulary.specs.contracts.format_string_part.FormatStringPartOrd.TheImpl.Laws as part_laws
use Rattle.justfile_model.specs.contracts.conditional_operator.ConditionalOperatorOrd.TheImpl.Laws as operator_laws
use Rattle.justfile_vocabulary.specs.contracts.attribute_kind.AttributeKindOrd.TheImpl.Laws as attribute_laws
use Rattle.justfile_vocabulary.specs.contracts.signal.SignalOrd.TheImpl.Laws as signal_laws
use Rattle.justfile_vocabulary.specs.contracts.unstable_feature.UnstableFeatureOrd.TheImpl.Laws as feature_laws
use Rattle.justfile_expression.proofs.CasesListed.{attributes_whole, delimiters_whole, features_whole, kinds_whole, operators_whole, parts_whole, signals_whole}
use Rattle.justfile_expression.proofs.laws.cases_ordered.Goals as goal

pub returns-clause-kinds : goal.returns-clause-kinds
returns-clause-kinds c = record { total = kind_laws.total-law; ties = kind_laws.matches_eq-law; rising = search (rules); whole = kinds_whole }

pub returns-clause-delimiters : goal.returns-clause-delimiters
returns-clause-delimiters c = record { total = delimiter_laws.total-law; ties = delimiter_laws.matches_eq-law; rising = search (rules); whole = delimiters_whole }

pub returns-clause-parts : goal.returns-clause-parts
returns-clause-parts c = record { total = part_laws.total-law; ties = part_laws.matches_eq-law; rising = search (rules); whole = parts_whole }

pub returns-clause-operators : goal.returns-clause-operators
returns-clause-operators c = record { total = operator_laws.total-law; ties = operator_laws.matches_eq-law; rising = search (rules); whole = operators_whole }

pub returns-clause-attributes : goal.returns-clause-attributes
returns-clause-attributes c = record { total = attribute_laws.total-law; ties = attribute_laws.matches_eq-law; rising = search (rules); whole = attributes_whole }

pub returns-clause-signals : goal.returns-clause-signals
returns-clause-signals c = record { total = signal_laws.total-law; ties = signal_laws.matches_eq-law; rising = search (rules); whole = signals_whole }

pub returns-clause-features : goal.returns-clause-features
returns-clause-features c = record { total = feature_laws.total-law; ties = feature_laws.matches_eq-law; rising = search (rules); whole = features_whole }
