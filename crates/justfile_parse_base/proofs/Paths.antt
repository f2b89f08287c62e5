-- The loop that parses the names of a path.
use Rattle.std.proofs.Common.{◌≡◌, ◌∙◌, List, [], ◌∷◌, ◌++◌, map, Some, None, Ok, refl, sym, ap}
use Rattle.std.proofs.lemmas.List.{map-append}
use Rattle.justfile_token.specs.declared.name.Name.{Name}
use Rattle.justfile_token.specs.declared.token.Token.{Token}
use Rattle.justfile_vocabulary.specs.declared.token_kind.TokenKind.TheVariants as kinds
use Rattle.justfile_model.specs.Readers.HeaderReader as headers
use Rattle.justfile_model.specs.Readers.ReaderState.{prepend}
use Rattle.justfile_model.proofs.Readers.HeaderReading as laws
use Rattle.justfile_parse_expression.specs.MethodResults.{IsExpressionError, literal_read_error, read_error_at}
use Rattle.justfile_parse_expression.specs.TableReader.{State, accept, expect, leaves}
use Rattle.justfile_parse_expression.specs.Significant.{TableToken}
use Rattle.justfile_parse_expression.specs.declared.expression_error.ExpressionError.{ExpressionError}
use Rattle.justfile_parse_expression.specs.declared.expression_error.ExpressionError.TheVariants.{Refused, Literal, Memory, Numbers}
use Rattle.justfile_parse_base.specs.SharedTable.{path, path_rest}
use Rattle.justfile_parse_base.specs.Trees.{name_tree}
use Rattle.justfile_expression.specs.LeafTree.{Leaf, Named}

-- the first name is read
pub path_begins : (s : State) (first : TableToken) (rest : State) (name : Name) → expect kinds.Identifier s ≡ Ok (first, rest) → name.token ≡ first.0
    → prepend (map name_tree (name ∷ [])) (path_rest rest) ≡ path s
unfolding headers.path leaves
path_begins s first rest name h is = rw (h, is) refl

-- no name is read
pub path_fails : (s : State) (stop : ExpressionError) (left : State) → IsExpressionError stop left ⊥ (expect kinds.Identifier s) → IsExpressionError stop left ⊥ (path s)
unfolding headers.path
path_fails s (Refused r) left h = rw h refl
path_fails s (Literal refused) left h = rw h refl
path_fails s Memory left h = tt
path_fails s Numbers left h = absurd h

module _ (s q : State) (done : List Name) (so_far : prepend (map name_tree done) (path_rest q) ≡ path s) where
  pub path_ends : accept kinds.ColonColon q ≡ None → path s ≡ Ok (map name_tree done, q)
  path_ends h = sym so_far ∙ laws.path_rest_end leaves (map name_tree done) q h

  module _ (colons : TableToken) (next : State) (taken : accept kinds.ColonColon q ≡ Some (colons, next)) where
    pub path_goes_on : (table_token : TableToken) (name : Name) (new : List Name) (rest : State) → expect kinds.Identifier next ≡ Ok (table_token, rest)
        → name.token ≡ table_token.0 → new ≡ done ++ name ∷ [] → prepend (map name_tree new) (path_rest rest) ≡ path s
    unfolding leaves
    path_goes_on table_token name new rest h token is =
        ap (λ (l : List Name). prepend (map name_tree l) (path_rest rest)) is
        ∙ ap (λ (l : List Leaf). prepend l (path_rest rest)) (map-append name_tree done (name ∷ []))
        ∙ ap (λ (t : Token). prepend (map name_tree done ++ Named t None ∷ []) (path_rest rest)) token
        ∙ sym (laws.path_rest_go_on leaves (map name_tree done) q colons table_token next rest taken h)
        ∙ so_far

    pub path_stops : (stop : ExpressionError) (left : State) → IsExpressionError stop left ⊥ (expect kinds.Identifier next) → IsExpressionError stop left ⊥ (path s)
    path_stops (Refused r) left h = sym so_far ∙ laws.path_rest_fail leaves (map name_tree done) q colons next (read_error_at r left) taken h
    path_stops (Literal refused) left h = sym so_far ∙ laws.path_rest_fail leaves (map name_tree done) q colons next (literal_read_error refused.value.error) taken h
    path_stops Memory left h = tt
    path_stops Numbers left h = absurd h
