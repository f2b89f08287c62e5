-- Broken rules at related tokens, where the relation is a function: the rules of the second are those of the first with the function's tokens.
use Rattle.std.proofs.Common.{◌≡◌, List, map, ◌∷◌, ap, refl}
use Rattle.justfile_model.specs.Meanings.Rules as rules
use Rattle.justfile_model.specs.Meanings.Rules.{Broken, Rule, over_broken, over_rule}
use Rattle.justfile_model.proofs.Relations.AlikeRules as alike
use Rattle.justfile_model.proofs.Relations.AlikeRules.{AlikeBroken, AlikeRule}
use Rattle.justfile_model.proofs.Relations.Related as a
use Rattle.justfile_model.proofs.Relations.Related.{Each}

module _ {B B' : Type 0} (g : B → B') (Position : B → B' → Type 0) (is : (b : B) (b' : B') → Position b b' → g b ≡ b') where
  same_rule : {r : Rule B} {s : Rule B'} → AlikeRule Position r s → over_rule g r ≡ s
  same_rule (alike.unknown_attribute a) = ap rules.UnknownAttribute (is _ _ a)
  same_rule (alike.count_mismatch {least = least} {most = most} a e) = λ i. rules.AttributeArgumentCountMismatch (is _ _ a i) (e i) least most
  same_rule (alike.argument_expression a) = ap rules.AttributeArgumentExpression (is _ _ a)
  same_rule alike.positional_follows = refl
  same_rule (alike.duplicate_key a k) = λ i. rules.DuplicateAttributeKey (is _ _ a i) (is _ _ k i)
  same_rule (alike.unknown_key a k) = λ i. rules.UnknownAttributeKey (is _ _ a i) (is _ _ k i)
  same_rule (alike.missing_value k) = ap rules.AttributeKeyMissingValue (is _ _ k)
  same_rule (alike.takes_no_value k) = ap rules.AttributeKeyTakesNoValue (is _ _ k)
  same_rule (alike.invalid_signal e) = λ i. rules.InvalidSignal (e i)
  same_rule (alike.has_equal_sign e) = λ i. rules.OptionNameContainsEqualSign (e i)
  same_rule (alike.has_dash e) = λ i. rules.OptionNameStartsWithDash (e i)
  same_rule (alike.empty_name e) = λ i. rules.OptionNameEmpty (e i)
  same_rule (alike.long_short e) = λ i. rules.ShortOptionWithMultipleCharacters (e i)
  same_rule (alike.requires_option k) = ap rules.ArgAttributeRequiresOption (is _ _ k)
  same_rule (alike.flag_value e) = λ i. rules.FlagAttributeTakesNoValue (e i)
  same_rule (alike.flag_and_value e) = λ i. rules.FlagAndValueArgAttribute (e i)
  same_rule (alike.flag_and_pattern e) = λ i. rules.FlagAndPatternArgAttribute (e i)
  same_rule (alike.no_count k e) = λ i. rules.ArgumentCountValue (is _ _ k i) (e i)
  same_rule (alike.big_count k e) = λ i. rules.ArgumentCountParse (is _ _ k i) (e i)
  same_rule (alike.min_exceeds e f) = λ i. rules.ArgAttributeMinExceedsMax (e i) (f i)
  same_rule (alike.duplicate a f) = λ i. rules.DuplicateAttribute (is _ _ a i) (is _ _ f i)
  same_rule (alike.duplicate_arg e f) = λ i. rules.DuplicateArgAttribute (e i) (is _ _ f i)
  same_rule (alike.duplicate_group v g f) = λ i. rules.DuplicateGroupAttribute (v i) (is _ _ g i) (is _ _ f i)
  same_rule (alike.invalid_attribute {item = item} e) = λ i. rules.InvalidAttribute item (e i)
  same_rule (alike.duplicate_long e r) = λ i. rules.DuplicateLongOption (e i) (is _ _ r i)
  same_rule (alike.duplicate_short e r) = λ i. rules.DuplicateShortOption (e i) (is _ _ r i)
  same_rule (alike.flag_default p) = ap rules.FlagWithDefault (is _ _ p)
  same_rule (alike.requires_several k) = ap rules.ArgAttributeRequiresMultipleOrVariadic (is _ _ k)
  same_rule (alike.no_cd_and_directory r) = ap rules.NoCdAndWorkingDirectoryAttribute (is _ _ r)
  same_rule (alike.message_and_none r) = ap rules.ExitMessageAndNoExitMessageAttribute (is _ _ r)
  same_rule (alike.script_and_shell r) = ap rules.ScriptAndShellAttribute (is _ _ r)
  same_rule alike.several_stars = refl
  same_rule alike.no_star = refl
  same_rule alike.star_outside = refl
  same_rule (alike.undefined_arg e) = λ i. rules.UndefinedArgAttribute (e i)
  same_rule alike.setting_expression = refl
  same_rule (alike.invalid_indentation e) = λ i. rules.InvalidIndentation (e i)
  same_rule (alike.invalid_version e) = λ i. rules.InvalidMinimumVersion (e i)
  same_rule (alike.minimum_version e f) = λ i. rules.MinimumVersion (e i) (f i)

  -- the same rule, of the tokens that are seen
  pub same_broken : {b : Broken B} {c : Broken B'} → AlikeBroken Position b c → over_broken g b ≡ c
  same_broken h = λ i. record { rule = same_rule h.rule i; token = is _ _ h.token i }

  pub all_broken : {bs : List (Broken B)} {bs' : List (Broken B')} → Each (AlikeBroken Position) bs bs' → map (over_broken g) bs ≡ bs'
  all_broken a.nil = refl
  all_broken (a.cons h hs) = λ i. same_broken h i ∷ all_broken hs i
