-- Good constructs on one line: each lexeme has the properties of its token, and the values derive back.
use Rattle.std.proofs.Common.{◌≡◌, ℕ, Bool, true, false, ◌&&◌, List, [], ◌∷◌, Option, Some, None, refl, codes}
use Rattle.justfile_vocabulary.specs.Keyword.{keyword_text}
use Rattle.justfile_vocabulary.specs.declared.keyword.Keyword.{Keyword}
use Rattle.justfile_vocabulary.specs.declared.token_kind.TokenKind.TheVariants as kinds
use Rattle.justfile_model.specs.Grammars.Docs.{doc_of, redocumented}
use Rattle.justfile_model.specs.Grammars.Expressions.{Sequence, BelowLimit}
use Rattle.justfile_model.specs.Grammars.Settings.{ExpressionForm, InterpreterForm, PlainForm, SettingForm, TruthForm, setting_form}
use Rattle.justfile_model.specs.Trees.Tree as tree
use Rattle.justfile_model.specs.Trees.Tree.{assignment_of, bare_module, bare_recipe, lexeme, nothing}
use Rattle.justfile_round_trip.proofs.LiteralTexts.LexedModes.{Sign, sign}
use Rattle.justfile_round_trip.proofs.Canon.{Shown, Value, Values, ShapeContent, exprs_signs}
use Rattle.justfile_round_trip.proofs.Headers.CanonHeaders.{ShapeHeader}
use Rattle.justfile_round_trip.proofs.Items.CanonItems.{body_in}
use Rattle.justfile_round_trip.proofs.Items.CanonParts.{ShapeQuoted, ShapeSetting, path_value}
use Rattle.justfile_round_trip.proofs.LiteralTexts.Inline.{IsName}
use Rattle.justfile_round_trip.proofs.Good.{GoodExpression, GoodValue, GoodValues, significant, GoodNames, GoodPath}
use Rattle.justfile_round_trip.proofs.Headers.GoodHeaders.{GoodHeader}

abbrev pub GoodFilePath : ShapeQuoted → Type 0
GoodFilePath q = GoodValue (path_value q)

abbrev pub GoodOptionalPath : Option ShapeQuoted → Type 0
GoodOptionalPath None = Unit {0}
GoodOptionalPath (Some q) = GoodFilePath q

module _ (limit : ℕ) where
  -- expressions in brackets that no other is open around: their tokens derive them
  pub record GoodSequence (es : Values) : Type 0 where
    pub lexes : GoodValues es
    pub features : Shown
    pub derives : (glued : Bool) (on : List Sign)
        → Sequence lexeme nothing (BelowLimit limit) kinds.BracketR 0 es features (significant glued (exprs_signs es (sign kinds.BracketR (codes "]") ∷ on))) (significant true on)

  -- the value of a setting of this form
  abbrev pub GoodSettingValue : SettingForm → ShapeSetting → Type 0
  GoodSettingValue TruthForm (tree.Truth value) = Unit {0}
  GoodSettingValue ExpressionForm (tree.Value value) = GoodExpression limit value
  GoodSettingValue PlainForm (tree.Value value) = GoodExpression limit value
  GoodSettingValue InterpreterForm (tree.Interpreter command arguments) = GoodSequence (tree.more command arguments)
  GoodSettingValue form value = ⊥

  -- the content of a construct on one line
  pub data GoodContent : ShapeContent → Type 0 where
    alias : {name : List ℕ} {target : List (List ℕ)} → IsName name → GoodPath target
        → GoodContent (tree.Alias (record { name = name; target = target }))
    assignment : {eager export : Bool} {name : List ℕ} {value : Value} → (eager && export) ≡ false → IsName name → GoodExpression limit value
        → GoodContent (tree.Assignment (assignment_of eager export name value))
    function : {name : List ℕ} {parameters : List (List ℕ)} {body : Value} → IsName name → GoodNames parameters → GoodExpression limit body
        → GoodContent (tree.Function (record { name = name; parameters = parameters; body = body }))
    import : {optional : Bool} {path : ShapeQuoted} → GoodFilePath path
        → GoodContent (tree.Import (record { optional = optional; path = path }))
    module_named : {optional : Bool} {name : List ℕ} {path : Option ShapeQuoted} → IsName name → GoodOptionalPath path
        → GoodContent (tree.Module (bare_module optional name path))
    header : {h : ShapeHeader} → GoodHeader limit h
        → GoodContent (tree.Recipe (bare_recipe h None []))
    setting : {keyword : Keyword} {form : SettingForm} {name : List ℕ} {value : ShapeSetting} → IsName name → name ≡ keyword_text keyword
        → setting_form keyword ≡ Some form → GoodSettingValue form value
        → GoodContent (tree.Setting (record { keyword = keyword; name = name; value = value }))
    unexport : {name : List ℕ} → IsName name
        → GoodContent (tree.Unexport name)

  -- it has no doc
  pub content_no_doc : {content : ShapeContent} → GoodContent content → doc_of content ≡ None
  content_no_doc (alias named path) = refl
  content_no_doc _ = refl

  pub content_undocumented : {content : ShapeContent} → GoodContent content → redocumented None content ≡ content
  content_undocumented (alias named path) = refl
  content_undocumented _ = refl

  -- and no body
  pub content_no_body : {content : ShapeContent} → GoodContent content → body_in content ≡ []
  content_no_body (alias named path) = refl
  content_no_body _ = refl
