-- What the reader of tables reads corresponds to what the definitions read of the table's tokens. Each leaf holds a token of the table.
use Rattle.std.proofs.Common.{◌≡◌, ◌⊎◌, ℕ, ◌<◌, ◌≤◌, List, [], Some, None, Ok, refl, sym, ap, subst, ◌∙◌, inl, inr, arith}
use Rattle.std.proofs.Math.Nat.{eq-or-lt_of_le}
use Rattle.justfile_numbers.specs.Numerator.{number_of}
use Rattle.justfile_token.specs.Token.{lexeme_of}
use Rattle.justfile_token.specs.declared.token.Token.{Token}
use Rattle.justfile_model.specs.Grammars.Conditions.{Conditions, with_limit}
use Rattle.justfile_model.specs.LiteralTexts.Literals as literals
use Rattle.justfile_model.specs.LiteralTexts.Literals.{cooked_text, token_of}
use Rattle.justfile_model.specs.Lexing.SignificantTokens.{SignificantToken}
use Rattle.justfile_model.specs.Lexing.Tok.{Tok, tok_of}
use Rattle.justfile_model.specs.Trees.Tree.{Entry, WrittenAttribute}
use Rattle.justfile_model.specs.Readers.TreeReader.{token_leaves}
use Rattle.justfile_model.proofs.Relations.Related.{AlikeConditions, Relations, Respects}
use Rattle.justfile_parse_expression.specs.TableReader.{Run, assigned_leaf, headed_leaf, leaves, literal_leaf}
use Rattle.justfile_parse_expression.specs.Significant.{significant_of}
use Rattle.justfile_expression.specs.LeafTree.{Leaf, Named, Text}
use Rattle.justfile_parse_expression.specs.Significant.{TableToken}

-- what attributes are beside those that are written
abbrev pub Meanings : Type 1
Meanings = List (Entry Leaf Token) → List (WrittenAttribute Tok Tok) → Type 0

-- a reader of a table beside one of significant tokens
abbrev pub Relates : Type 1
Relates = Relations Run TableToken Leaf Token (Unit {0}) (List (Entry Leaf Token)) Conditions SignificantToken Tok Tok Tok (List (WrittenAttribute Tok Tok))

-- The other reads under the same conditions, but for its limit of depth, `bound`, which may be greater.
module _ (conditions : Conditions) (bound : ℕ) (IsToken : Token → Type 0) (file_depth : ℕ) (import_offsets : List ℕ) where
  -- this run
  pub record IsRun (run : Run) (C : Conditions) : Type 0 where
    pub conditions_are : run.conditions ≡ conditions
    pub same : C ≡ with_limit bound conditions
    pub within : conditions.limit ≤ bound
    pub file_depth_is : run.file_depth ≡ file_depth
    pub import_offsets_are : run.import_offsets ≡ import_offsets

  -- a token of the table, and the token that the definitions see
  pub record IsPosition (token : Token) (tok : Tok) : Type 0 where
    pub among : IsToken token
    pub is : tok_of token ≡ tok

  pub record IsTableToken (table_token : TableToken) (t : SignificantToken) : Type 0 where
    pub among : IsToken table_token.0
    pub is : significant_of table_token ≡ t

  -- a leaf that is made of such a token
  pub record IsLeaf (make : Token → Leaf) (leaf : Leaf) (tok : Tok) : Type 0 where
    pub token : Token
    pub among : IsToken token
    pub is : leaf ≡ make token
    pub tok_is : tok ≡ tok_of token

  -- a literal with its text
  pub record IsLiteralLeaf (l : literals.Literal (List ℕ)) (leaf : Leaf) (tok : Tok) : Type 0 where
    pub token : Token
    pub among : IsToken token
    pub lexeme : token_of l ≡ lexeme_of token
    pub text : List ℕ
    pub cooked : cooked_text conditions.expander l ≡ Ok text
    pub is : leaf ≡ literal_leaf token l text
    pub tok_is : tok ≡ tok_of token

  abbrev pub in_run : Run
  in_run = record { conditions = conditions; table = []; file_depth = file_depth; import_offsets = import_offsets }

  abbrev pub seen : Meanings → Relates
  seen AreMeant = record {
    run = IsRun;
    looser = conditions.limit < bound;
    token = IsTableToken;
    position = IsPosition;
    name = IsLeaf (λ token. Named token None);
    literal = IsLiteralLeaf;
    text = IsLeaf Text;
    star = λ star tok. Unit {0};
    attributes = AreMeant;
    assignment = λ number. IsLeaf (λ token. assigned_leaf in_run token number);
    recipe = λ number leaf body tok lines. IsLeaf (λ token. headed_leaf in_run token number) leaf tok;
    parameter = λ number leaf rules tok others. IsLeaf (λ token. Named token (Some (number_of number))) leaf tok;
    function_parameter = λ number. IsLeaf (λ token. Named token (Some (number_of number)));
  }

  -- ---- what the two make of tokens

  named : (make : Token → Leaf) (table_token : TableToken) (t : SignificantToken) → IsTableToken table_token t → IsLeaf make (make table_token.0) t.tok
  named make table_token t h = record { token = table_token.0; among = h.among; is = refl; tok_is = ap (λ (s : SignificantToken). s.tok) (sym h.is) }

  assigned_is : (run : Run) (C : Conditions) → IsRun run C → (token : Token) (number : ℕ) → assigned_leaf run token number ≡ assigned_leaf in_run token number
  assigned_is run C h token number = rw h.file_depth_is refl

  headed_is : (run : Run) (C : Conditions) → IsRun run C → (token : Token) (number : ℕ) → headed_leaf run token number ≡ headed_leaf in_run token number
  headed_is run C h token number = rw (h.file_depth_is, h.import_offsets_are) refl

  limits_alike : (AreMeant : Meanings) (run : Run) (C : Conditions) → IsRun run C → (conditions.limit ≡ bound) ⊎ (conditions.limit < bound) → AlikeConditions (seen AreMeant) run.conditions C
  limits_alike AreMeant run C h (inl e) = record {
    limit = inl (ap (λ (D : Conditions). D.limit) h.conditions_are ∙ e ∙ ap (λ (D : Conditions). D.limit) (sym h.same));
    expander = ap (λ (D : Conditions). D.expander) h.conditions_are ∙ ap (λ (D : Conditions). D.expander) (sym h.same);
    current = ap (λ (D : Conditions). D.current) h.conditions_are ∙ ap (λ (D : Conditions). D.current) (sym h.same);
  }
  limits_alike AreMeant run C h (inr less) =
      let one = ap (λ (D : Conditions). D.limit) h.conditions_are in
      let other = ap (λ (D : Conditions). D.limit) h.same in
      record {
        limit = inr (less, omega (arith, one, other, less));
        expander = ap (λ (D : Conditions). D.expander) h.conditions_are ∙ ap (λ (D : Conditions). D.expander) (sym h.same);
        current = ap (λ (D : Conditions). D.current) h.conditions_are ∙ ap (λ (D : Conditions). D.current) (sym h.same);
      }

  pub respects : (AreMeant : Meanings) → Respects (seen AreMeant) leaves token_leaves
  unfolding leaves
  respects AreMeant = record {
    conditions = λ run C h. limits_alike AreMeant run C h (eq-or-lt_of_le h.within);
    see = λ table_token t h. h.is;
    position = λ table_token t h. record { among = h.among; is = ap (λ (s : SignificantToken). s.tok) h.is };
    name = λ table_token t h. named (λ token. Named token None) table_token t h;
    literal = λ run C table_token t r h l text lexeme cooked. record {
      token = table_token.0;
      among = h.among;
      lexeme = lexeme;
      text = text;
      cooked = ap (λ (D : Conditions). cooked_text D.expander l) (sym r.conditions_are) ∙ cooked;
      is = refl;
      tok_is = ap (λ (s : SignificantToken). s.tok) (sym h.is);
    };
    text = λ table_token t h. named Text table_token t h;
    star = λ table_token t h. tt;
    assignment = λ run C table_token t r h number.
        subst (λ (leaf : Leaf). IsLeaf (λ token. assigned_leaf in_run token number) leaf t.tok) (sym (assigned_is run C r table_token.0 number)) (named (λ token. assigned_leaf in_run token number) table_token t h);
    recipe = λ run C table_token t r h number body lines same.
        subst (λ (leaf : Leaf). IsLeaf (λ token. headed_leaf in_run token number) leaf t.tok) (sym (headed_is run C r table_token.0 number)) (named (λ token. headed_leaf in_run token number) table_token t h);
    parameter = λ run C table_token t r h same number. named (λ token. Named token (Some (number_of number))) table_token t h;
    function_parameter = λ run C table_token t r h number. named (λ token. Named token (Some (number_of number))) table_token t h;
    has_number = λ n h. refl;
  }
