-- Settings that take a plain literal: which values they take, and which texts they refuse.
use Rattle.std.proofs.Common.{◌≡◌, ◌∙◌, ℕ, Bool, true, false, cond, List, [], ◌∷◌, Option, Some, None, Ok, Err, not, codes, string_bytes, refl, sym, ap}
use Rattle.std.specs.Prelude.{◌&&◌}
use Rattle.justfile_vocabulary.specs.Indentation.{indentation_refusal}
use Rattle.justfile_token.specs.StringKind.{kind_of}
use Rattle.justfile_token.specs.Token.{lexeme_of}
use Rattle.justfile_vocabulary.specs.declared.keyword.Keyword.{Keyword}
use Rattle.justfile_vocabulary.specs.declared.keyword.Keyword.TheVariants as words
use Rattle.justfile_token.specs.declared.string_literal.StringLiteral.{StringLiteral}
use Rattle.justfile_token.specs.declared.token.Token.{Token}
use Rattle.justfile_model.specs.Meanings.AttributeRules.{of_some}
use Rattle.justfile_model.specs.Grammars.Conditions.{VersionNumbers}
use Rattle.justfile_model.specs.Meanings.Meaning.{quoted}
use Rattle.justfile_model.specs.Readers.ReaderState.{BreaksRule}
use Rattle.justfile_model.specs.Meanings.Rules.{Broken, InvalidIndentation, InvalidMinimumVersion, MinimumVersion, SettingExpression, broken_if}
use Rattle.justfile_model.specs.Meanings.SettingRules.{text_broken, version_broken}
use Rattle.justfile_model.specs.Grammars.Settings.{PlainForm, setting_form}
use Rattle.justfile_model.specs.Trees.Tree as tree
use Rattle.justfile_model.specs.Trees.Tree.{Expr, Quoted}
use Rattle.justfile_model.specs.Meanings.Versions.{is_above, version_of}
use Rattle.justfile_parse_expression.specs.TableReader.{State}
use Rattle.justfile_parse_item_parts.specs.PartTable.{literal_made, literal_setting, obeyed_value, plain_made}
use Rattle.justfile_expression.specs.LeafViews.{views_leaves}
use Rattle.justfile_expression.specs.LeafTree.{Leaf, Literal, literal_of}

module _ (current : VersionNumbers) (name : Token) (keyword : Keyword) (s : State) where
  -- an expression that isn't a literal isn't a plain one
  pub no_literal : (e : Expr Leaf Token) → quoted e ≡ None → plain_made current name keyword e s ≡ Err (BreaksRule (record { rule = SettingExpression keyword; token = name }))
  no_literal (tree.StringLiteral expanded token) is = cc
  no_literal _ is = refl

  module _ (l : StringLiteral) (e : Expr Leaf Token) (is : e ≡ tree.StringLiteral l.expand (Literal (literal_of l))) where
    pub not_plain : (not l.expand && not (kind_of (lexeme_of l.token)).indented) ≡ false
        → plain_made current name keyword e s ≡ Err (BreaksRule (record { rule = SettingExpression keyword; token = name }))
    not_plain h = ap (λ (e : Expr Leaf Token). plain_made current name keyword e s) is ∙ by_tests l.expand (kind_of (lexeme_of l.token)).indented refl h
      where
        by_tests : (expand indented : Bool) → (kind_of (lexeme_of l.token)).indented ≡ indented → (not expand && not indented) ≡ false
            → plain_made current name keyword (tree.StringLiteral expand (Literal (literal_of l))) s ≡ Err (BreaksRule (record { rule = SettingExpression keyword; token = name }))
        by_tests true indented tripled h = refl
        by_tests false true tripled h = rw tripled refl
        by_tests false false tripled h = cc

    pub plain : (not l.expand && not (kind_of (lexeme_of l.token)).indented) ≡ true → plain_made current name keyword e s ≡ literal_made current keyword l s
    plain h = ap (λ (e : Expr Leaf Token). plain_made current name keyword e s) is ∙ by_tests l.expand (kind_of (lexeme_of l.token)).indented refl h
      where
        by_tests : (expand indented : Bool) → (kind_of (lexeme_of l.token)).indented ≡ indented → (not expand && not indented) ≡ true
            → plain_made current name keyword (tree.StringLiteral expand (Literal (literal_of l))) s
            ≡ obeyed_value (text_broken current keyword l.token (string_bytes l.cooked)) (tree.Value (tree.StringLiteral expand (Literal (literal_of l)))) s
        by_tests true indented tripled h = cc
        by_tests false true tripled h = cc
        by_tests false false tripled h = rw tripled refl

-- one of the two keywords is the other one
pub other_plain : (keyword : Keyword) → setting_form keyword ≡ Some PlainForm → (keyword ≡ words.Indentation → ⊥) → keyword ≡ words.MinimumVersion
other_plain words.Indentation is other = absurd (other refl)
other_plain words.MinimumVersion is other = refl
other_plain _ is other = cc

-- ---- texts

module _ (current : VersionNumbers) (l : StringLiteral) (s : State) where
  abbrev text : List ℕ
  text = string_bytes l.cooked

  abbrev refused_for : Option (List ℕ) → List (Broken Token)
  refused_for reason = of_some (λ message. broken_if true (InvalidIndentation message) l.token) reason

  pub is_indentation : indentation_refusal text ≡ None → literal_made current words.Indentation l s ≡ Ok (literal_setting l, s)
  is_indentation h = ap (λ (o : Option (List ℕ)). obeyed_value (refused_for o) (literal_setting l) s) h

  pub no_indentation : (message : List ℕ) → indentation_refusal text ≡ Some message
      → literal_made current words.Indentation l s ≡ Err (BreaksRule (record { rule = InvalidIndentation message; token = l.token }))
  no_indentation message h = ap (λ (o : Option (List ℕ)). obeyed_value (refused_for o) (literal_setting l) s) h

  version_made : (o : Option VersionNumbers) → version_of text ≡ o → literal_made current words.MinimumVersion l s ≡ obeyed_value (version_broken current l.token text o) (literal_setting l) s
  version_made o h = ap (λ (o : Option VersionNumbers). obeyed_value (version_broken current l.token text o) (literal_setting l) s) h

  module _ (minimum : VersionNumbers) (h : version_of text ≡ Some minimum) where
    pub is_version : is_above minimum current ≡ false → literal_made current words.MinimumVersion l s ≡ Ok (literal_setting l, s)
    is_version not_above =
        version_made (Some minimum) h ∙ ap (λ (b : Bool). obeyed_value (broken_if b (MinimumVersion minimum current) l.token) (literal_setting l) s) not_above

    pub later_version : is_above minimum current ≡ true
        → literal_made current words.MinimumVersion l s ≡ Err (BreaksRule (record { rule = MinimumVersion minimum current; token = l.token }))
    later_version above =
        version_made (Some minimum) h ∙ ap (λ (b : Bool). obeyed_value (broken_if b (MinimumVersion minimum current) l.token) (literal_setting l) s) above

  pub no_version : version_of text ≡ None → literal_made current words.MinimumVersion l s ≡ Err (BreaksRule (record { rule = InvalidMinimumVersion text; token = l.token }))
  no_version h = version_made None h
