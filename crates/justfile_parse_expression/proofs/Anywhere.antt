-- What the reader of tables reads from any position corresponds to what the definitions read of the table's tokens.
use Rattle.std.proofs.Common.{◌≡◌, false, List, [], ◌∷◌, map, Ok, Err, refl, sym, ap, ◌∙◌, subst, arith}
use Rattle.justfile_token.specs.declared.token.Token.{Token}
use Rattle.justfile_model.specs.Readers.ExpressionReader as expressions
use Rattle.justfile_model.specs.Grammars.Expressions as grammar
use Rattle.justfile_model.specs.Grammars.Expressions.{AnyDepth}
use Rattle.justfile_model.specs.Grammars.Features.{Noted}
use Rattle.justfile_model.specs.Lexing.SignificantTokens.{SignificantToken}
use Rattle.justfile_model.specs.Lexing.Tok.{Tok, tok_of}
use Rattle.justfile_model.specs.Trees.Tree.{Expr, itself}
use Rattle.justfile_model.specs.Readers.TreeReader as model
use Rattle.justfile_model.specs.Readers.TreeReader.{token_leaves}
use Rattle.justfile_model.specs.declared.level.Level.TheVariants as levels
use Rattle.justfile_vocabulary.specs.declared.list_feature.ListFeature.{ListFeature}
use Rattle.justfile_model.proofs.Derivations.Depth.{expression_freed}
use Rattle.justfile_model.proofs.Sound.ExpressionSound.{expression_derives}
use Rattle.justfile_model.proofs.Relations.NaturalExpressions.{expression_natural}
use Rattle.justfile_model.proofs.Relations.Related as a
use Rattle.justfile_model.proofs.Relations.Related.{Each, Never, Related, States}
use Rattle.justfile_parse_expression.specs.TableReader.{At, ReadExpr, ReadError, Run, State, leaves, read}
use Rattle.justfile_parse_expression.specs.Significant.{significant_of}
use Rattle.justfile_expression.specs.LeafTree.{Leaf}
use Rattle.justfile_parse_expression.specs.Significant.{TableToken}
use Rattle.justfile_parse_expression.proofs.Seen.{IsTableToken, Meanings, Relates, respects, seen}

-- any token
abbrev pub Any : Token → Type 0
Any token = Unit {0}

-- a feature as the definitions see it
abbrev pub noted_of : ListFeature × Token → Noted Tok
noted_of x = (x.0, tok_of x.1)

module _ (run : Run) where
  each_table_token : (es : List TableToken) → Each (IsTableToken run.conditions run.conditions.limit Any run.file_depth run.import_offsets) es (map significant_of es)
  each_table_token [] = a.nil
  each_table_token (e ∷ es) = a.cons (record { among = tt; is = refl }) (each_table_token es)

  pub table_tokens_are : {es : List TableToken} {ts : List SignificantToken} → Each (IsTableToken run.conditions run.conditions.limit Any run.file_depth run.import_offsets) es ts → ts ≡ map significant_of es
  table_tokens_are a.nil = refl
  table_tokens_are (a.cons h hs) = λ i. sym h.is i ∷ table_tokens_are hs i

module _ (AreMeant : Meanings) (run : Run) where
  abbrev pub rel : Relates
  rel = seen run.conditions run.conditions.limit Any run.file_depth run.import_offsets AreMeant

  abbrev pub agree : a.Respects rel leaves token_leaves
  agree = respects run.conditions run.conditions.limit Any run.file_depth run.import_offsets AreMeant

  each_noted : (fs : List (ListFeature × Token)) → Each (a.AlikeNoted rel) fs (map noted_of fs)
  each_noted [] = a.nil
  each_noted (f ∷ fs) = a.cons (refl, record { among = tt; is = refl }) (each_noted fs)

-- the state as the definitions see it
abbrev pub state_seen : State → model.State
state_seen s = record { run = s.run.conditions; depth = s.depth; left = map significant_of s.left; noted = map noted_of s.noted }

pub state_alike : (AreMeant : Meanings) (s : State) → States (rel AreMeant s.run) s (state_seen s)
state_alike AreMeant s = record { run = record { conditions_are = refl; same = refl; within = omega arith; file_depth_is = refl; import_offsets_are = refl }; depth = refl; left = each_table_token s.run s.left; noted = each_noted AreMeant s.run s.noted }

-- no matter what attributes are
abbrev Meant : Meanings
Meant entries written = Unit {0}

-- an expression that is read derives, also without the limit
pub derives : (s : State) (e : Expr Leaf Token) (rest : State) → read (At levels.Expression false s) ≡ Ok (e, rest)
    → (tree : Expr Tok Tok) × (features : List (Noted Tok)) × grammar.Expression itself itself AnyDepth false s.depth tree features (map significant_of s.left) (map significant_of rest.left)
derives s e rest found = by_law (read (At levels.Expression false s)) (expressions.read token_leaves (expressions.At levels.Expression false (state_seen s))) refl (expression_natural (rel Meant s.run) leaves token_leaves (agree Meant s.run) false (state_alike Meant s)) found
  where
    inside : (x y : Expr Leaf Token × State) → ◌≡◌ {A = ReadExpr} (Ok x) (Ok y) → x ≡ y
    inside x y h = cc

    no_read : (f : ReadError) (y : Expr Leaf Token × State) → ◌≡◌ {A = ReadExpr} (Err f) (Ok y) → ⊥
    no_read f y h = cc

    by_law : (o : ReadExpr) (o' : model.Read (Expr Tok Tok)) → expressions.read token_leaves (expressions.At levels.Expression false (state_seen s)) ≡ o' → Related (rel Meant s.run) (a.Alike (rel Meant s.run)) (Never (rel Meant s.run)) o o' → o ≡ Ok (e, rest)
        → (tree : Expr Tok Tok) × (features : List (Noted Tok)) × grammar.Expression itself itself AnyDepth false s.depth tree features (map significant_of s.left) (map significant_of rest.left)
    by_law o o' is (a.both {x = x} {y = y} q k) same =
        let d = expression_derives s.run.conditions false s.depth (state_seen s) y is (refl, refl) in
        let left : y.1.left ≡ map significant_of rest.left = table_tokens_are s.run k.left ∙ ap (λ (z : Expr Leaf Token × State). map significant_of z.1.left) (inside x (e, rest) same) in
        (y.0, d.features, subst (λ (ts : List SignificantToken). grammar.Expression itself itself AnyDepth false s.depth y.0 d.features (map significant_of s.left) ts) left (expression_freed s.run.conditions.limit itself itself d.derives))
    by_law o o' is (a.neither {e = f} h) same = absurd (no_read f (e, rest) same)
    by_law o o' is (a.short h) same = absurd h
    by_law o o' is (a.deep loose) same = absurd (omega (arith, loose))
