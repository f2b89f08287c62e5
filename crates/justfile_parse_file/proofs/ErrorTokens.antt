-- The tokens that a compile error holds: those of the broken rule, or of the word that was found.
use Rattle.std.proofs.Common.{◌≡◌, ◌∙◌, ◌⊎◌, inl, inr, ℕ, List, [], ◌∷◌, All, None, refl, sym, subst}
use Rattle.std.proofs.lemmas.List.Elements.{All-cons, All-nil}
use Rattle.std.proofs.lemmas.Option.{none-some}
use Rattle.justfile_attribute_rules.specs.RuleErrors.{IsKindOfRule}
use Rattle.justfile_token.specs.CompileErrorKind.{tokens_in}
use Rattle.justfile_token.specs.declared.compile_error_kind.CompileErrorKind.{CompileErrorKind}
use Rattle.justfile_token.specs.declared.compile_error_kind.CompileErrorKind.TheVariants as kinds
use Rattle.justfile_token.specs.declared.name.Name.{Name}
use Rattle.justfile_token.specs.declared.string_literal.StringLiteral.{StringLiteral}
use Rattle.justfile_token.specs.declared.token.Token.{Token}
use Rattle.justfile_literal.specs.Literal.{IsKindOf, literal_fault_of}
use Rattle.justfile_model.specs.Lexing.LexicalFault.{NotLexical, lexical_fault_of}
use Rattle.justfile_model.specs.LiteralTexts.Literals.{LiteralFault}
use Rattle.justfile_model.specs.Meanings.Rules.{Rule}
use Rattle.justfile_model.specs.Lexing.Tok.{Tok}
use Rattle.justfile_model.proofs.Relations.AlikeRules as alike
use Rattle.justfile_model.proofs.Relations.AlikeRules.{AlikeRule}
use Rattle.justfile_parse_file.specs.Errors.{IsUnexpected}
use Rattle.justfile_parse_base.specs.ParseErrors.{IsAfterVariadic, IsExpectedKeyword, IsExtraneous, IsUnknownSetting}
use Rattle.justfile_vocabulary.specs.declared.keyword.Keyword.{Keyword}

-- ---- kinds that hold none

-- a kind that holds a token isn't a fault of a literal, nor of lexing
apart : (kind : CompileErrorKind) → (tokens_in kind ≡ []) ⊎ ((literal_fault_of kind ≡ None) × (lexical_fault_of kind ≡ NotLexical))
apart (kinds.ArgAttributeRequiresMultipleOrVariadic key) = inr (refl, refl)
apart (kinds.ArgAttributeRequiresOption key) = inr (refl, refl)
apart (kinds.ArgumentCountParse key source value) = inr (refl, refl)
apart (kinds.ArgumentCountValue key value) = inr (refl, refl)
apart (kinds.AttributeArgumentCountMismatch attribute found min max) = inr (refl, refl)
apart (kinds.AttributeArgumentExpression attribute) = inr (refl, refl)
apart (kinds.AttributeKeyMissingValue key) = inr (refl, refl)
apart (kinds.AttributeKeyTakesNoValue key) = inr (refl, refl)
apart (kinds.DependencyArgumentCountMismatch dependency found min max) = inr (refl, refl)
apart (kinds.DuplicateAttribute attribute first) = inr (refl, refl)
apart (kinds.DuplicateGroupAttribute first group) = inr (refl, refl)
apart (kinds.ExpectedKeyword expected found) = inr (refl, refl)
apart (kinds.UnknownAliasTarget alias target) = inr (refl, refl)
apart (kinds.UnknownDependency recipe unknown) = inr (refl, refl)
apart _ = inl refl

module _ (IsToken : Token → Type 0) where
  one : (token : Token) → IsToken token → All IsToken (token ∷ [])
  one token h = All-cons IsToken token [] h (All-nil IsToken)

  -- a kind that is a fault of a literal, or of lexing
  fault_held : (kind : CompileErrorKind) → ((literal_fault_of kind ≡ None) × (lexical_fault_of kind ≡ NotLexical) → ⊥) → All IsToken (tokens_in kind)
  fault_held kind never = go (apart kind)
    where
      go : (tokens_in kind ≡ []) ⊎ ((literal_fault_of kind ≡ None) × (lexical_fault_of kind ≡ NotLexical)) → All IsToken (tokens_in kind)
      go (inl e) = subst (All IsToken) (sym e) (All-nil IsToken)
      go (inr other) = absurd (never other)

  pub literal_held : (fault : LiteralFault) (kind : CompileErrorKind) → IsKindOf fault kind → All IsToken (tokens_in kind)
  literal_held fault kind h = fault_held kind (λ other. none-some fault (sym other.0 ∙ h))

  pub lexical_held : (kind : CompileErrorKind) → (lexical_fault_of kind ≡ NotLexical → ⊥) → All IsToken (tokens_in kind)
  lexical_held kind lexical = fault_held kind (λ other. lexical other.1)

  pub unexpected_held : (kind : CompileErrorKind) (token : Token) → IsUnexpected kind token → All IsToken (tokens_in kind)
  unexpected_held (kinds.UnexpectedToken expected found) token h = All-nil IsToken
  unexpected_held _ token h = absurd h

  pub extraneous_held : (count : ℕ) (kind : CompileErrorKind) → IsExtraneous count kind → All IsToken (tokens_in kind)
  extraneous_held count (kinds.ExtraneousAttributes count') h = All-nil IsToken
  extraneous_held count _ h = absurd h

  pub variadic_held : (name : Token) (kind : CompileErrorKind) → IsAfterVariadic name kind → All IsToken (tokens_in kind)
  variadic_held name (kinds.ParameterFollowsVariadicParameter parameter) h = All-nil IsToken
  variadic_held name _ h = absurd h

  pub unknown_held : (name : Token) (kind : CompileErrorKind) → IsUnknownSetting name kind → All IsToken (tokens_in kind)
  unknown_held name (kinds.UnknownSetting setting) h = All-nil IsToken
  unknown_held name _ h = absurd h

  pub keyword_held : (expected : List Keyword) (found : Token) (kind : CompileErrorKind) → IsExpectedKeyword expected found kind → IsToken found
      → All IsToken (tokens_in kind)
  keyword_held expected found (kinds.ExpectedKeyword expected' found') h among = one found' (subst IsToken (sym h.1) among)
  keyword_held expected found _ h among = absurd h

  -- ---- of a rule

  module _ (Position : Token → Tok → Type 0) (among : (t : Token) (k : Tok) → Position t k → IsToken t) (at : Token) where
    several_held : {r : Rule Token} {s : Rule Tok} (key : Name) → AlikeRule Position r s → IsKindOfRule at r (kinds.ArgAttributeRequiresMultipleOrVariadic key) → IsToken key.token
    several_held key (alike.requires_several k) says = subst IsToken (sym says) (among _ _ k)
    several_held key _ says = absurd says

    option_held : {r : Rule Token} {s : Rule Tok} (key : Name) → AlikeRule Position r s → IsKindOfRule at r (kinds.ArgAttributeRequiresOption key) → IsToken key.token
    option_held key (alike.requires_option k) says = subst IsToken (sym says) (among _ _ k)
    option_held key _ says = absurd says

    big_held : {r : Rule Token} {s : Rule Tok} (key : Name) (source value : _) → AlikeRule Position r s → IsKindOfRule at r (kinds.ArgumentCountParse key source value) → IsToken key.token
    big_held key source value (alike.big_count k e) says = subst IsToken (sym says.0) (among _ _ k)
    big_held key source value _ says = absurd says

    count_held : {r : Rule Token} {s : Rule Tok} (key : Name) (value : _) → AlikeRule Position r s → IsKindOfRule at r (kinds.ArgumentCountValue key value) → IsToken key.token
    count_held key value (alike.no_count k e) says = subst IsToken (sym says.0) (among _ _ k)
    count_held key value _ says = absurd says

    mismatch_held : {r : Rule Token} {s : Rule Tok} (attribute : Name) (found min max : ℕ) → AlikeRule Position r s → IsKindOfRule at r (kinds.AttributeArgumentCountMismatch attribute found min max)
        → IsToken attribute.token
    mismatch_held attribute found min max (alike.count_mismatch a e) says = subst IsToken (sym says.0) (among _ _ a)
    mismatch_held attribute found min max _ says = absurd says

    expression_held : {r : Rule Token} {s : Rule Tok} (attribute : Name) → AlikeRule Position r s → IsKindOfRule at r (kinds.AttributeArgumentExpression attribute) → IsToken attribute.token
    expression_held attribute (alike.argument_expression a) says = subst IsToken (sym says) (among _ _ a)
    expression_held attribute _ says = absurd says

    missing_held : {r : Rule Token} {s : Rule Tok} (key : Name) → AlikeRule Position r s → IsKindOfRule at r (kinds.AttributeKeyMissingValue key) → IsToken key.token
    missing_held key (alike.missing_value k) says = subst IsToken (sym says) (among _ _ k)
    missing_held key _ says = absurd says

    valued_held : {r : Rule Token} {s : Rule Tok} (key : Name) → AlikeRule Position r s → IsKindOfRule at r (kinds.AttributeKeyTakesNoValue key) → IsToken key.token
    valued_held key (alike.takes_no_value k) says = subst IsToken (sym says) (among _ _ k)
    valued_held key _ says = absurd says

    duplicate_held : {r : Rule Token} {s : Rule Tok} (attribute : Name) (first : ℕ) → AlikeRule Position r s → IsKindOfRule at r (kinds.DuplicateAttribute attribute first) → IsToken attribute.token
    duplicate_held attribute first (alike.duplicate a f) says = subst IsToken (sym says.0) (among _ _ a)
    duplicate_held attribute first _ says = absurd says

    group_held : {r : Rule Token} {s : Rule Tok} (first : ℕ) (group : StringLiteral) → AlikeRule Position r s → IsKindOfRule at r (kinds.DuplicateGroupAttribute first group) → IsToken group.token
    group_held first group (alike.duplicate_group v g f) says = subst IsToken (sym says.1) (among _ _ g)
    group_held first group _ says = absurd says

    no_dependency : {r : Rule Token} {s : Rule Tok} (dependency found min max : _) → AlikeRule Position r s → IsKindOfRule at r (kinds.DependencyArgumentCountMismatch dependency found min max) → ⊥
    no_dependency dependency found min max (alike.unknown_attribute a) says = says
    no_dependency dependency found min max _ says = says

    no_keyword : {r : Rule Token} {s : Rule Tok} (expected found : _) → AlikeRule Position r s → IsKindOfRule at r (kinds.ExpectedKeyword expected found) → ⊥
    no_keyword expected found (alike.unknown_attribute a) says = says
    no_keyword expected found _ says = says

    no_target : {r : Rule Token} {s : Rule Tok} (alias target : _) → AlikeRule Position r s → IsKindOfRule at r (kinds.UnknownAliasTarget alias target) → ⊥
    no_target alias target (alike.unknown_attribute a) says = says
    no_target alias target _ says = says

    no_unknown : {r : Rule Token} {s : Rule Tok} (recipe unknown : _) → AlikeRule Position r s → IsKindOfRule at r (kinds.UnknownDependency recipe unknown) → ⊥
    no_unknown recipe unknown (alike.unknown_attribute a) says = says
    no_unknown recipe unknown _ says = says

    pub rule_held : {r : Rule Token} {s : Rule Tok} → AlikeRule Position r s → (kind : CompileErrorKind) → IsKindOfRule at r kind → All IsToken (tokens_in kind)
    rule_held h (kinds.ArgAttributeRequiresMultipleOrVariadic key) says = one key.token (several_held key h says)
    rule_held h (kinds.ArgAttributeRequiresOption key) says = one key.token (option_held key h says)
    rule_held h (kinds.ArgumentCountParse key source value) says = one key.token (big_held key source value h says)
    rule_held h (kinds.ArgumentCountValue key value) says = one key.token (count_held key value h says)
    rule_held h (kinds.AttributeArgumentCountMismatch attribute found min max) says = one attribute.token (mismatch_held attribute found min max h says)
    rule_held h (kinds.AttributeArgumentExpression attribute) says = one attribute.token (expression_held attribute h says)
    rule_held h (kinds.AttributeKeyMissingValue key) says = one key.token (missing_held key h says)
    rule_held h (kinds.AttributeKeyTakesNoValue key) says = one key.token (valued_held key h says)
    rule_held h (kinds.DependencyArgumentCountMismatch dependency found min max) says = absurd (no_dependency dependency found min max h says)
    rule_held h (kinds.DuplicateAttribute attribute first) says = one attribute.token (duplicate_held attribute first h says)
    rule_held h (kinds.DuplicateGroupAttribute first group) says = one group.token (group_held first group h says)
    rule_held h (kinds.ExpectedKeyword expected found) says = absurd (no_keyword expected found h says)
    rule_held h (kinds.UnknownAliasTarget alias target) says = absurd (no_target alias target h says)
    rule_held h (kinds.UnknownDependency recipe unknown) says = absurd (no_unknown recipe unknown h says)
    rule_held h _ says = All-nil IsToken
