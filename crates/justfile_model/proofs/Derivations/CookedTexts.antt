-- Which literals have texts, and that each literal has at most one.
use Rattle.std.proofs.Common.{◌≡◌, ℕ, List, [], ◌∷◌, ◌++◌, map, Result, Ok, refl, sym, subst, ap, ◌∙◌}
use Rattle.std.proofs.lemmas.List.{append_assoc}
use Rattle.justfile_model.specs.Lexing.Tok.{Tok}
use Rattle.justfile_model.specs.Trees.Tree.{Fragment, Text, Interpolation, BodyLine, Line, WrittenItem, line_before, trimmed, lexeme}
use Rattle.justfile_model.specs.LiteralTexts.Literals.{Literal, over_literal, LiteralFault, Expansions, cooked_text, AreCookedTexts}
use Rattle.justfile_model.specs.Grammars.Files.{expr_literals, fragments_literals, body_literals, written_literals, item_literals, all_literals}

-- the literal has a text
pub record HasText (expander : Expansions) (l : Literal Tok) : Type 0 where
  pub text : List ℕ
  pub is : cooked_text expander (over_literal lexeme l) ≡ Ok text

-- each of the literals has a text
abbrev pub AllCook : Expansions → List (Literal Tok) → Type 0
AllCook expander [] = Unit {0}
AllCook expander (l ∷ ls) = HasText expander l × AllCook expander ls

pub literals_append : {A B C S : Type 0} (is js : List (WrittenItem A B C S)) → all_literals (is ++ js) ≡ all_literals is ++ all_literals js
literals_append [] js = refl
literals_append (i ∷ is) js =
    ap (λ l. item_literals written_literals i ++ l) (literals_append is js) ∙ sym (append_assoc (item_literals written_literals i) (all_literals is) (all_literals js))

before_literals : {A B C : Type 0} (l : BodyLine A B C) (ls : List (BodyLine A B C)) → body_literals (line_before l ls) ≡ body_literals (l ∷ ls)
before_literals (Line number []) [] = refl
before_literals (Line number []) (l ∷ ls) = refl
before_literals (Line number (f ∷ fragments)) ls = refl

-- empty lines contain no literal
pub trimmed_literals : {A B C : Type 0} (ls : List (BodyLine A B C)) → body_literals (trimmed ls) ≡ body_literals ls
trimmed_literals [] = refl
trimmed_literals (Line number fragments ∷ ls) = before_literals (Line number fragments) (trimmed ls) ∙ ap (λ l. fragments_literals fragments ++ l) (trimmed_literals ls)

module _ (expander : Expansions) where
  pub both_cook : (ls ms : List (Literal Tok)) → AllCook expander ls → AllCook expander ms → AllCook expander (ls ++ ms)
  both_cook [] ms a b = b
  both_cook (l ∷ ls) ms a b = (a.0, both_cook ls ms a.1 b)

  pub first_cook : (ls ms : List (Literal Tok)) → AllCook expander (ls ++ ms) → AllCook expander ls
  first_cook [] ms a = tt
  first_cook (l ∷ ls) ms a = (a.0, first_cook ls ms a.1)

  pub then_cook : (ls ms : List (Literal Tok)) → AllCook expander (ls ++ ms) → AllCook expander ms
  then_cook [] ms a = a
  then_cook (l ∷ ls) ms a = then_cook ls ms a.1

  -- a fragment, and those after it
  pub fragments_cook : {B : Type 0} (f : Fragment Tok B) (more : List (Fragment Tok B)) → AllCook expander (fragments_literals (f ∷ [])) → AllCook expander (fragments_literals more) → AllCook expander (fragments_literals (f ∷ more))
  fragments_cook (Text token) more a b = b
  fragments_cook (Interpolation value) more a b = both_cook (expr_literals value) (fragments_literals more) (first_cook (expr_literals value) [] a) b

  -- a line, and those after it
  pub lines_cook : {B C : Type 0} (l : BodyLine Tok B C) (more : List (BodyLine Tok B C)) → AllCook expander (body_literals (l ∷ [])) → AllCook expander (body_literals more) → AllCook expander (body_literals (l ∷ more))
  lines_cook (Line number fragments) more a b = both_cook (fragments_literals fragments) (body_literals more) (first_cook (fragments_literals fragments) [] a) b

  pub items_cook : {B C S : Type 0} (is js : List (WrittenItem Tok B C S)) → AllCook expander (all_literals is) → AllCook expander (all_literals js)
      → AllCook expander (all_literals (is ++ js))
  items_cook is js a b = subst (AllCook expander) (sym (literals_append is js)) (both_cook (all_literals is) (all_literals js) a b)

  -- literals that all have texts have these
  pub texts_of : (ls : List (Literal Tok)) → AllCook expander ls → (texts : List (List ℕ)) × AreCookedTexts expander (map (over_literal lexeme) ls) texts
  texts_of [] a = ([], tt)
  texts_of (l ∷ ls) a =
      let more = texts_of ls a.1 in
      (a.0.text ∷ more.0, (a.0.is, more.1))

  pub all_cook : (ls : List (Literal Tok)) (texts : List (List ℕ)) → AreCookedTexts expander (map (over_literal lexeme) ls) texts → AllCook expander ls
  all_cook [] texts c = tt
  all_cook (l ∷ ls) [] c = absurd c
  all_cook (l ∷ ls) (text ∷ texts) c = (record { text = text; is = c.0 }, all_cook ls texts c.1)

  ok_inside : (a b : List ℕ) → ◌≡◌ {A = Result (List ℕ) LiteralFault} (Ok a) (Ok b) → a ≡ b
  ok_inside a b h = cc

  -- equal literals have equal texts
  pub same_texts : (ls : List (Literal (List ℕ))) (texts others : List (List ℕ)) → AreCookedTexts expander ls texts → AreCookedTexts expander ls others → texts ≡ others
  same_texts [] [] [] c d = refl
  same_texts (l ∷ ls) (t ∷ texts) (u ∷ others) c d = λ i. ok_inside t u (sym c.0 ∙ d.0) i ∷ same_texts ls texts others c.1 d.1 i
  same_texts [] [] _ c d = absurd d
  same_texts (l ∷ ls) (t ∷ texts) _ c d = absurd d
  same_texts _ _ others c d = absurd c
