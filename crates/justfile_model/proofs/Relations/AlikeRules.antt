-- Related broken rules: the same rule at related positions, with the same texts.
use Rattle.std.proofs.Common.{◌≡◌, ℕ, List, Option}
use Rattle.justfile_vocabulary.specs.declared.attribute_kind.AttributeKind.{AttributeKind}
use Rattle.justfile_vocabulary.specs.declared.item_kind.ItemKind.{ItemKind}
use Rattle.justfile_vocabulary.specs.declared.keyword.Keyword.{Keyword}
use Rattle.justfile_model.specs.Grammars.Conditions.{VersionNumbers}
use Rattle.justfile_model.specs.Trees.ContentLeaf.{LiteralValue}
use Rattle.justfile_model.specs.Meanings.Rules as rules
use Rattle.justfile_model.specs.Meanings.Rules.{Broken, Rule}

module _ {B B' : Type 0} (Position : B → B' → Type 0) where
  pub data AlikeRule : Rule B → Rule B' → Type 0 where
    unknown_attribute : {a : B} {a' : B'} → Position a a' → AlikeRule (rules.UnknownAttribute a) (rules.UnknownAttribute a')
    count_mismatch : {a : B} {a' : B'} {found found' least : ℕ} {most : Option ℕ} → Position a a' → found ≡ found'
        → AlikeRule (rules.AttributeArgumentCountMismatch a found least most) (rules.AttributeArgumentCountMismatch a' found' least most)
    argument_expression : {a : B} {a' : B'} → Position a a' → AlikeRule (rules.AttributeArgumentExpression a) (rules.AttributeArgumentExpression a')
    positional_follows : AlikeRule rules.AttributePositionalFollowsKeyword rules.AttributePositionalFollowsKeyword
    duplicate_key : {a k : B} {a' k' : B'} → Position a a' → Position k k' → AlikeRule (rules.DuplicateAttributeKey a k) (rules.DuplicateAttributeKey a' k')
    unknown_key : {a k : B} {a' k' : B'} → Position a a' → Position k k' → AlikeRule (rules.UnknownAttributeKey a k) (rules.UnknownAttributeKey a' k')
    missing_value : {k : B} {k' : B'} → Position k k' → AlikeRule (rules.AttributeKeyMissingValue k) (rules.AttributeKeyMissingValue k')
    takes_no_value : {k : B} {k' : B'} → Position k k' → AlikeRule (rules.AttributeKeyTakesNoValue k) (rules.AttributeKeyTakesNoValue k')
    invalid_signal : {s s' : List ℕ} → s ≡ s' → AlikeRule (rules.InvalidSignal s) (rules.InvalidSignal s')
    has_equal_sign : {p p' : List ℕ} → p ≡ p' → AlikeRule (rules.OptionNameContainsEqualSign p) (rules.OptionNameContainsEqualSign p')
    has_dash : {p p' : List ℕ} → p ≡ p' → AlikeRule (rules.OptionNameStartsWithDash p) (rules.OptionNameStartsWithDash p')
    empty_name : {p p' : List ℕ} → p ≡ p' → AlikeRule (rules.OptionNameEmpty p) (rules.OptionNameEmpty p')
    long_short : {p p' : List ℕ} → p ≡ p' → AlikeRule (rules.ShortOptionWithMultipleCharacters p) (rules.ShortOptionWithMultipleCharacters p')
    requires_option : {k : B} {k' : B'} → Position k k' → AlikeRule (rules.ArgAttributeRequiresOption k) (rules.ArgAttributeRequiresOption k')
    flag_value : {p p' : List ℕ} → p ≡ p' → AlikeRule (rules.FlagAttributeTakesNoValue p) (rules.FlagAttributeTakesNoValue p')
    flag_and_value : {p p' : List ℕ} → p ≡ p' → AlikeRule (rules.FlagAndValueArgAttribute p) (rules.FlagAndValueArgAttribute p')
    flag_and_pattern : {p p' : List ℕ} → p ≡ p' → AlikeRule (rules.FlagAndPatternArgAttribute p) (rules.FlagAndPatternArgAttribute p')
    no_count : {k : B} {k' : B'} {s s' : List ℕ} → Position k k' → s ≡ s' → AlikeRule (rules.ArgumentCountValue k s) (rules.ArgumentCountValue k' s')
    big_count : {k : B} {k' : B'} {s s' : List ℕ} → Position k k' → s ≡ s' → AlikeRule (rules.ArgumentCountParse k s) (rules.ArgumentCountParse k' s')
    min_exceeds : {m m' n n' : ℕ} → m ≡ m' → n ≡ n' → AlikeRule (rules.ArgAttributeMinExceedsMax m n) (rules.ArgAttributeMinExceedsMax m' n')
    duplicate : {a f : B} {a' f' : B'} → Position a a' → Position f f' → AlikeRule (rules.DuplicateAttribute a f) (rules.DuplicateAttribute a' f')
    duplicate_arg : {s s' : List ℕ} {f : B} {f' : B'} → s ≡ s' → Position f f' → AlikeRule (rules.DuplicateArgAttribute s f) (rules.DuplicateArgAttribute s' f')
    duplicate_group : {v v' : LiteralValue} {g f : B} {g' f' : B'} → v ≡ v' → Position g g' → Position f f'
        → AlikeRule (rules.DuplicateGroupAttribute v g f) (rules.DuplicateGroupAttribute v' g' f')
    invalid_attribute : {item : ItemKind} {k k' : AttributeKind} → k ≡ k' → AlikeRule (rules.InvalidAttribute item k) (rules.InvalidAttribute item k')
    duplicate_long : {s s' : List ℕ} {r : B} {r' : B'} → s ≡ s' → Position r r' → AlikeRule (rules.DuplicateLongOption s r) (rules.DuplicateLongOption s' r')
    duplicate_short : {c c' : ℕ} {r : B} {r' : B'} → c ≡ c' → Position r r' → AlikeRule (rules.DuplicateShortOption c r) (rules.DuplicateShortOption c' r')
    flag_default : {p : B} {p' : B'} → Position p p' → AlikeRule (rules.FlagWithDefault p) (rules.FlagWithDefault p')
    requires_several : {k : B} {k' : B'} → Position k k'
        → AlikeRule (rules.ArgAttributeRequiresMultipleOrVariadic k) (rules.ArgAttributeRequiresMultipleOrVariadic k')
    no_cd_and_directory : {r : B} {r' : B'} → Position r r' → AlikeRule (rules.NoCdAndWorkingDirectoryAttribute r) (rules.NoCdAndWorkingDirectoryAttribute r')
    message_and_none : {r : B} {r' : B'} → Position r r' → AlikeRule (rules.ExitMessageAndNoExitMessageAttribute r) (rules.ExitMessageAndNoExitMessageAttribute r')
    script_and_shell : {r : B} {r' : B'} → Position r r' → AlikeRule (rules.ScriptAndShellAttribute r) (rules.ScriptAndShellAttribute r')
    several_stars : AlikeRule rules.MappedDependencyMultipleStarredArguments rules.MappedDependencyMultipleStarredArguments
    no_star : AlikeRule rules.MappedDependencyWithoutStarredArgument rules.MappedDependencyWithoutStarredArgument
    star_outside : AlikeRule rules.StarredArgumentOutsideMappedDependency rules.StarredArgumentOutsideMappedDependency
    undefined_arg : {s s' : List ℕ} → s ≡ s' → AlikeRule (rules.UndefinedArgAttribute s) (rules.UndefinedArgAttribute s')
    setting_expression : {k : Keyword} → AlikeRule (rules.SettingExpression k) (rules.SettingExpression k)
    invalid_indentation : {m m' : List ℕ} → m ≡ m' → AlikeRule (rules.InvalidIndentation m) (rules.InvalidIndentation m')
    invalid_version : {v v' : List ℕ} → v ≡ v' → AlikeRule (rules.InvalidMinimumVersion v) (rules.InvalidMinimumVersion v')
    minimum_version : {v v' w w' : VersionNumbers} → v ≡ v' → w ≡ w' → AlikeRule (rules.MinimumVersion v w) (rules.MinimumVersion v' w')

  pub record AlikeBroken (r : Broken B) (r' : Broken B') : Type 0 where
    pub rule : AlikeRule r.rule r'.rule
    pub token : Position r.token r'.token
