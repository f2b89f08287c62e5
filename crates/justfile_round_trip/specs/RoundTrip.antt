-- The tree that a text derives, and its printed text.
use Rattle.std.specs.Prelude.{◌≡◌, ℕ, ◌+◌, List, [], ◌∷◌, map, if◌then◌else◌}
use denote.Enum.Bare.{sameb}
use Rattle.std.specs.Str.{IsUtf8}
use Rattle.justfile_model.specs.Lexing.Tok.{Tok}
use Rattle.justfile_model.specs.Lexing.Lexed.{Lexed}
use Rattle.justfile_model.specs.Lexing.SignificantTokens.{significant_tokens}
use Rattle.justfile_vocabulary.specs.contracts.list_feature.ListFeature.{the_type}
use Rattle.justfile_vocabulary.specs.declared.list_feature.ListFeature.{ListFeature}
use Rattle.justfile_model.specs.Trees.Tree.{Tree, Shape, lexeme, shape_of}
use Rattle.justfile_model.specs.Grammars.Features.{Noted}
use Rattle.justfile_model.specs.Printed.NormalShape.{normal}
use Rattle.justfile_model.specs.Printed.Printing.{text}
use Rattle.justfile_model.specs.Grammars.Conditions.{Conditions}
use Rattle.justfile_model.specs.LiteralTexts.Literals.{over_literal, AreCookedTexts}
use Rattle.justfile_model.specs.Grammars.Files.{FileDerives, literals, bindings, recipes}

-- The text derives the tree with these features under the conditions.
pub record TextDerives (conditions : Conditions) (source : List ℕ) (tree : Tree) (features : List (Noted Tok)) : Type 0 where
  pub utf8 : IsUtf8 source
  pub tokens : List Tok
  pub lexed : Lexed source tokens
  pub file : FileDerives conditions (significant_tokens tokens) tree features

-- the printed text of a shape
abbrev pub printed : Shape → (indentation : List ℕ) → List ℕ
printed shape indentation = text (normal shape) indentation

-- how often a feature is noted
abbrev pub times : {B : Type 0} → ListFeature → List (Noted B) → ℕ
times feature [] = 0
times feature (n ∷ ns) = (if sameb the_type n.0 feature then 1 else 0) + times feature ns

-- The text is the printed text of the shape. It derives the normal form of the shape, with the same texts of literals and the same numbers
-- of bindings and recipes, and prints as itself. Each feature is noted equally often; their order can differ.
pub record ReadsBack (conditions : Conditions) (shape : Shape) (features : List (Noted Tok)) (indentation source : List ℕ) : Type 0 where
  pub tree : Tree
  pub found : List (Noted Tok)
  pub derives : TextDerives conditions source tree found
  pub same_features : (feature : ListFeature) → times feature found ≡ times feature features
  pub same_shape : shape_of tree ≡ normal shape
  pub same_lexemes : map (over_literal lexeme) (literals tree) ≡ literals shape
  pub same_texts : (texts : List (List ℕ)) → AreCookedTexts conditions.expander (literals shape) texts → AreCookedTexts conditions.expander (map (over_literal lexeme) (literals tree)) texts
  pub same_bindings : bindings tree ≡ bindings shape
  pub same_recipes : recipes tree ≡ recipes shape
  pub printed_again : printed (shape_of tree) indentation ≡ source
