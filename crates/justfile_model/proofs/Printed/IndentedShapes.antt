-- The indentation of a file depends on its shape only, and is the same for the normal form. The literal that sets it is an indentation.
use Rattle.std.proofs.Common.{◌≡◌, ◌∙◌, ℕ, Bool, true, false, cond, not, ◌||◌, List, [], ◌∷◌, ◌++◌, map, Option, Some, None, Ok, refl, sym, ap}
use Rattle.std.specs.Prelude.{IfSome}
use Rattle.std.specs.Option.{option_map}
use Rattle.justfile_vocabulary.proofs.IndentationLemmas.{indentation_read}
use Rattle.justfile_vocabulary.specs.AttributeKind.{is_enabler_kind}
use Rattle.justfile_vocabulary.specs.Indentation.{IsIndentation, indentation_refusal}
use Rattle.justfile_vocabulary.specs.declared.attribute_kind.AttributeKind.TheVariants.{Linux, Unix}
use Rattle.justfile_vocabulary.specs.declared.keyword.Keyword.{Keyword}
use Rattle.justfile_vocabulary.specs.declared.keyword.Keyword.TheVariants as words
use Rattle.justfile_token.specs.StringKind.{kind_of}
use Rattle.justfile_model.specs.Meanings.AttributeKinds.{same_attribute}
use Rattle.justfile_model.specs.Meanings.AttributeRules.{attributes_broken, of_some}
use Rattle.justfile_model.specs.Grammars.Conditions.{Conditions, VersionNumbers}
use Rattle.justfile_model.specs.Meanings.ConstructRules.{form_broken, meaning_broken}
use Rattle.justfile_model.specs.Meanings.Enabled.{indentation_in, indentation_literal, indentation_of, is_enabled}
use Rattle.justfile_model.specs.Grammars.Features.{Noted}
use Rattle.justfile_model.specs.Grammars.Files.{ShapeDerives, content_literals, setting_literals, written_literals}
use Rattle.justfile_model.specs.LiteralTexts.Literals as literals
use Rattle.justfile_model.specs.LiteralTexts.Literals.{Expansions, string_text}
use Rattle.justfile_model.specs.Meanings.Meaning.{entries_of, quoted_text}
use Rattle.justfile_model.specs.Printed.NormalShape.{normal}
use Rattle.justfile_model.specs.Meanings.RecipeRules.{or_else}
use Rattle.justfile_model.specs.Printed.PrintedAttributes.{rewritten_entries}
use Rattle.justfile_model.specs.Meanings.Rules.{InvalidIndentation, broken_if}
use Rattle.justfile_model.specs.Meanings.SettingRules.{literal_broken, setting_broken, text_broken}
use Rattle.justfile_model.specs.Trees.LeafView.{text_or_none}
use Rattle.justfile_model.specs.Lexing.SignificantTokens.{SignificantToken}
use Rattle.justfile_model.specs.Trees.Tree as tree
use Rattle.justfile_model.specs.Trees.Tree.{Comment, Construct, Content, Entry, Newline, Quoted, SettingValue, Shape, Tree, lexeme, nothing, over_content, over_entry, over_setting_value, shape_of}
use Rattle.justfile_model.proofs.Lists.Binds.{never_nil, nothing_in}
use Rattle.justfile_model.proofs.Printed.DocsKept.{any_kind_over}
use Rattle.justfile_model.proofs.Printed.Normal.{normal_seen}
use Rattle.justfile_model.proofs.Printed.PrintedEntries.{sees}
use Rattle.justfile_model.proofs.Printed.PrintedItems.{AllPrintAgain, ShapeItem, shape_again}
use Rattle.justfile_model.proofs.Lists.AllParts.{parts}
use Rattle.justfile_model.proofs.Printed.PrintedLiterals.{HasText, HaveTexts, texts_are_there}

-- ---- over other leaves

module _ {A B C D : Type 0} (f : A → C) (g : B → D) where
  enabled_over : (entries : List (Entry A B)) → is_enabled (map (over_entry f g) entries) ≡ is_enabled entries
  enabled_over entries = λ i.
      not (any_kind_over f g is_enabler_kind entries i) || any_kind_over f g (λ kind. same_attribute kind Linux) entries i
      || any_kind_over f g (λ kind. same_attribute kind Unix) entries i

  literal_over : (keyword : Keyword) (value : SettingValue A B) → indentation_literal keyword (over_setting_value f g value) ≡ option_map f (indentation_literal keyword value)
  literal_over words.Indentation (tree.Value (tree.StringLiteral expanded token)) = refl
  literal_over _ _ = refl

module _ {A C : Type 0} (f : A → C) where
  first_over : (b : Bool) (o found : Option A) → or_else (cond b (option_map f o) None) (option_map f found) ≡ option_map f (or_else (cond b o None) found)
  first_over true None found = refl
  first_over true (Some token) found = refl
  first_over false o found = refl

module _ {A B C S A' B' C' S' : Type 0} (f : A → A') (g : B → B') (h : C → C') (k : S → S') where
  content_over : (content : Content A B C S) → indentation_in (over_content f g h k content) ≡ option_map f (indentation_in content)
  content_over (tree.Setting parts) = literal_over f g parts.keyword parts.value
  content_over _ = refl

-- how a tree is indented is seen of its shape
pub indentation_shape : (t : Tree) → indentation_of (shape_of t) ≡ option_map lexeme (indentation_of t)
indentation_shape [] = refl
indentation_shape (Construct entries content ∷ t) =
    (λ i. or_else (cond (enabled_over lexeme nothing entries i) (content_over lexeme nothing nothing (λ star. star) content i) None) (indentation_shape t i))
    ∙ first_over lexeme (is_enabled entries) (indentation_in content) (indentation_of t)
indentation_shape (i ∷ t) = indentation_shape t

-- ---- the normal form

more_indented : (i : ShapeItem) (s r : Shape) → indentation_of s ≡ indentation_of r → indentation_of (i ∷ s) ≡ indentation_of (i ∷ r)
more_indented (Construct entries content) s r e = ap (or_else (cond (is_enabled entries) (indentation_in content) None)) e
more_indented _ s r e = e

pub indentation_normal : (s : Shape) → indentation_of (normal s) ≡ indentation_of s
indentation_normal = normal_seen indentation_of (λ s. refl) more_indented

-- ---- its text

abbrev plain : List ℕ → Quoted (List ℕ)
plain token = record { expanded = false; token = token }

abbrev no_place : Unit {0}
no_place = tt

-- the literal means an indentation
abbrev pub IsIndentationLiteral : List ℕ → Type 0
IsIndentationLiteral literal = (text : List ℕ) × (string_text literal ≡ Ok text) × IsIndentation text

not_refused : (o : Option (List ℕ)) → of_some (λ message. broken_if true (InvalidIndentation message) no_place) o ≡ [] → o ≡ None
not_refused None e = refl
not_refused (Some message) e = never_nil _ _ e

module _ (current : VersionNumbers) (expander : Expansions) where
  text_valid : (token text : List ℕ) → string_text token ≡ Ok text
      → of_some (text_broken current words.Indentation no_place) (quoted_text (sees expander) (plain token)) ≡ [] → IsIndentationLiteral token
  text_valid token text is unbroken =
      let seen : quoted_text (sees expander) (plain token) ≡ Some text = ap (λ r. text_or_none r) is in
      let refused : indentation_refusal text ≡ None = not_refused (indentation_refusal text) (ap (of_some (text_broken current words.Indentation no_place)) (sym seen) ∙ unbroken) in
      (text, is, indentation_read text refused)

  plain_valid : (indented : Bool) (token : List ℕ) → HasText expander (literals.Plain token)
      → literal_broken current (sees expander) words.Indentation no_place (cond indented None (Some (plain token))) ≡ [] → IsIndentationLiteral token
  plain_valid true token has unbroken = never_nil _ _ unbroken
  plain_valid false token has unbroken = text_valid token has.text has.is unbroken

  setting_valid : (keyword : Keyword) (name : List ℕ) (value : SettingValue (List ℕ) (Unit {0}))
      → setting_broken current (sees expander) (record { keyword = keyword; name = name; value = value }) ≡ [] → HaveTexts expander (setting_literals value)
      → IfSome (indentation_literal keyword value) IsIndentationLiteral
  setting_valid words.Indentation name (tree.Value (tree.StringLiteral false token)) unbroken texts = plain_valid (kind_of token).indented token texts.0 unbroken
  setting_valid words.Indentation name (tree.Value (tree.StringLiteral true token)) unbroken texts = never_nil _ _ unbroken
  setting_valid _ name _ unbroken texts = tt

  content_valid : (content : Content (List ℕ) (Unit {0}) (Unit {0}) (Unit {0})) → form_broken current (sees expander) content ≡ []
      → HaveTexts expander (content_literals content) → IfSome (indentation_in content) IsIndentationLiteral
  content_valid (tree.Setting parts) unbroken texts = setting_valid parts.keyword parts.name parts.value unbroken texts
  content_valid _ unbroken texts = tt

  first_valid : (b : Bool) (o found : Option (List ℕ)) → IfSome o IsIndentationLiteral → IfSome found IsIndentationLiteral
      → IfSome (or_else (cond b o None) found) IsIndentationLiteral
  first_valid true None found h k = k
  first_valid true (Some literal) found h k = h
  first_valid false o found h k = k

  items_valid : (s : Shape) → AllPrintAgain current expander s → IfSome (indentation_of s) IsIndentationLiteral
  items_valid [] h = tt
  items_valid (Construct entries content ∷ s) h =
      let ws = rewritten_entries entries in
      let unbroken =
      nothing_in (attributes_broken (sees expander) ws ++ of_some (meaning_broken (sees expander) content) (entries_of (sees expander) ws))
      (form_broken current (sees expander) content) h.0.unbroken in
      let texts = parts (HasText expander) (written_literals ws) (content_literals content) h.0.texts in
      first_valid (is_enabled entries) (indentation_in content) (indentation_of s) (content_valid content unbroken.1 texts.1) (items_valid s h.1)
  items_valid (i ∷ s) h = items_valid s h.1

-- the literal that sets the indentation of a shape that derives means an indentation
pub indentation_valid : (C : Conditions) (ts : List SignificantToken) (s : Shape) (fs : List (Noted (Unit {0}))) → ShapeDerives C ts s fs
    → IfSome (indentation_of s) IsIndentationLiteral
indentation_valid C ts s fs h =
    items_valid C.current C.expander s
    (shape_again C.current C.expander h.written s h.ordered_is h.unbroken (texts_are_there C.expander _ h.cooked h.cooks))
