-- What the reader of tables reads corresponds to what the definitions read of the table's tokens: the trees differ only in what their
-- leaves hold, and each leaf holds a token of the table.
use Rattle.std.proofs.Common.{◌≡◌, ℕ, Bool, true, false, List, [], ◌∷◌, map, All, Option, Some, None, Ok, refl, sym, ap, subst, ◌∙◌}
use Rattle.std.specs.Prelude.{string_bytes}
use Rattle.justfile_token.specs.StringKind.{kind_of}
use Rattle.justfile_token.specs.Token.{lexeme_of}
use Rattle.justfile_vocabulary.specs.declared.format_string_part.FormatStringPart.{FormatStringPart}
use Rattle.justfile_vocabulary.specs.declared.format_string_part.FormatStringPart.TheVariants as string_parts
use Rattle.justfile_numbers.specs.declared.number.Number.{Number}
use Rattle.justfile_token.specs.declared.string_kind.StringKind.{StringKind}
use Rattle.justfile_token.specs.declared.string_literal.StringLiteral as strings
use Rattle.justfile_token.specs.declared.token.Token.{Token}
use Rattle.std.proofs.lemmas.List.Elements.{All-cons, All-nil}
use Rattle.justfile_line.specs.Body.{fragment_of, body_line_of}
use Rattle.justfile_line.specs.declared.fragment.Fragment.{Fragment}
use Rattle.justfile_line.specs.declared.fragment.Fragment.TheVariants as fragments
use Rattle.justfile_line.specs.declared.line.Line.{Line}
use Rattle.justfile_model.specs.Grammars.Conditions.{Conditions}
use Rattle.justfile_attribute_set.specs.AttributeSet.{AttributeSet, leaf_entries_of, written_of, entries_of as set_entries}
use Rattle.justfile_attribute_set.specs.Pairs.{Pair}
use Rattle.justfile_model.specs.Meanings.Meaning.{entries_of}
use Rattle.justfile_model.specs.Trees.LeafView.{views_tokens}
use Rattle.justfile_model.specs.LiteralTexts.Literals as literals
use Rattle.justfile_model.specs.LiteralTexts.Literals.{cooked_text, cooked_format_text, string_of, token_of}
use Rattle.justfile_model.specs.Lexing.Tok.{Tok, tok_of}
use Rattle.justfile_model.specs.Trees.Tree as tree
use Rattle.justfile_model.specs.Trees.Tree.{BodyLine, Entry, Expr, Exprs, Parts, WrittenAttribute}
use Rattle.justfile_model.specs.Readers.TreeReader.{token_leaves}
use Rattle.justfile_model.proofs.Relations.Related as a
use Rattle.justfile_model.proofs.Relations.Related.{Alike, AlikeAll, AlikeFragment, AlikeLine, AlikeParts, Each, Respects}
use Rattle.justfile_expression.specs.Expression as model
use Rattle.justfile_expression.specs.Expression.{expr_of, exprs_of_row, literal_tok, part_tok}
use Rattle.justfile_expression.specs.declared.expression.Expression.{Expression, And', Assert', Backtick, Call', Comparison', Concatenation', Conditional', FormatString', Group', Join', List', ListConcatenation', Not', Or', StringLiteral, Variable, None', Some', Row_of-Expression as ExpressionRow, end_of-Expression as row_end, more_of-Expression as row_more, Row_of-Expression-FormatString-1-2 as FormatRow, end_of-Expression-FormatString-1-2 as format_row_end, more_of-Expression-FormatString-1-2 as format_row_more}
use Rattle.justfile_parse_item.specs.Filled.{IsFilledAttribute, IsFilledFragment, IsFilledLine, AreFilledExpressions, AreFilledParts, IsFilledCommand, IsFilledExpression, IsFilledLiteral, IsFilledPart, first_part, later_part}
use Rattle.justfile_parse_expression.specs.TableReader.{leaves, literal_leaf}
use Rattle.justfile_parse_item_parts.specs.BodyTrees.{fragment_tree, line_tree}
use Rattle.justfile_expression.specs.LeafTree.{Leaf, LiteralText, Named, Literal, Command, Text, format_row_tree, literal_of, parts_row_tree, leaf_tree_of, trees_of_row}
use Rattle.justfile_parse_expression.proofs.Seen as table
use Rattle.justfile_parse_expression.proofs.Seen.{Relates}

module _ (conditions : Conditions) (bound : ℕ) (IsToken : Token → Type 0) (file_depth : ℕ) (import_offsets : List ℕ) where
  abbrev IsLeaf : (make : Token → Leaf) → Leaf → Tok → Type 0
  IsLeaf = table.IsLeaf conditions bound IsToken file_depth import_offsets

  abbrev IsLiteralLeaf : literals.Literal (List ℕ) → Leaf → Tok → Type 0
  IsLiteralLeaf = table.IsLiteralLeaf conditions bound IsToken file_depth import_offsets

  -- an attribute with the token of its name, by its parts
  abbrev pub IsFilledPair : Pair → Type 0
  IsFilledPair p = IsToken p.1.name.token × IsFilledAttribute conditions.expander IsToken p.0

  -- a set whose entries are these holds what the written attributes mean, and its parts are given
  abbrev pub AreMeant : List (Entry Leaf Token) → List (WrittenAttribute Tok Tok) → Type 0
  AreMeant entries ws = (set : AttributeSet) → leaf_entries_of set ≡ entries
      → (entries_of (views_tokens conditions.expander) ws ≡ Some (set_entries set)) × All IsFilledPair (written_of set)

  abbrev pub seen : Relates
  seen = table.seen conditions bound IsToken file_depth import_offsets AreMeant

  pub respects : Respects seen leaves token_leaves
  respects = table.respects conditions bound IsToken file_depth import_offsets AreMeant

  -- ---- what is at the leaves

  abbrev token_in : Token → Leaf → Token
  token_in other (Named token number) = token
  token_in other (Command token text) = token
  token_in other (Text token) = token
  token_in other (Literal l) = l.token
  token_in other _ = other

  abbrev number_in : Leaf → Option Number
  number_in (Named token number) = number
  number_in _ = None

  abbrev text_in : LiteralText → Leaf → LiteralText
  text_in other (Literal l) = l
  text_in other _ = other

  abbrev cooked_in : Leaf → List ℕ
  cooked_in (Command token text) = text
  cooked_in _ = []

  -- a name, or a text, of such a token
  pub name_seen : (make : Token → Leaf) (token : Token) (leaf : Leaf) (tok : Tok) → ((t : Token) → token_in token (make t) ≡ t) → token_in token leaf ≡ token → IsLeaf make leaf tok → IsToken token × (tok ≡ tok_of token)
  name_seen make token leaf tok made here h =
      let same : h.token ≡ token = sym (made h.token) ∙ ap (token_in token) (sym h.is) ∙ here in
      (subst IsToken same h.among, h.tok_is ∙ ap tok_of same)

  pub variable_seen : (token : Token) (number : Option Number) (tok : Tok) → IsLeaf (λ t. Named t None) (Named token number) tok → IsToken token × (tok ≡ tok_of token) × (number ≡ None)
  variable_seen token number tok h =
      let x = name_seen (λ t. Named t None) token (Named token number) tok (λ t. refl) refl h in
      (x.0, x.1, ap number_in h.is)

  command_seen : (lexeme : List ℕ) (contents : List ℕ) (token : Token) (tok : Tok) → IsLiteralLeaf (literals.Command lexeme) (Command token contents) tok → IsFilledCommand conditions.expander IsToken contents token × (tok ≡ tok_of token)
  command_seen lexeme contents token tok h =
      let same : h.token ≡ token = ap (token_in token) (sym h.is) in
      let text : h.text ≡ contents = ap cooked_in (sym h.is) in
      let asked : lexeme ≡ lexeme_of token = h.lexeme ∙ ap lexeme_of same in (
        record { among = subst IsToken same h.among; cooked = ap (λ (l : List ℕ). cooked_text conditions.expander (literals.Command l)) (sym asked) ∙ h.cooked ∙ ap (λ (t : List ℕ). Ok t) text },
        h.tok_is ∙ ap tok_of same,
      )

  -- a string
  abbrev whole : (expand : Bool) → (lexeme : List ℕ) → Token → List ℕ → LiteralText
  whole expand lexeme token text = record { token = token; cooked = text; expand = expand; kind = kind_of lexeme; part = None }

  whole_is : (expand : Bool) (lexeme : List ℕ) (token : Token) (text : List ℕ) → literal_leaf token (string_of expand lexeme) text ≡ Literal (whole expand lexeme token text)
  whole_is true lexeme token text = refl
  whole_is false lexeme token text = refl

  asks : (expand : Bool) (lexeme : List ℕ) → token_of (string_of expand lexeme) ≡ lexeme
  asks true lexeme = refl
  asks false lexeme = refl

  plain_tok : (l : strings.StringLiteral) → l.part ≡ None → literal_tok l ≡ tok_of l.token
  plain_tok l p = rw p refl

  pub string_seen : (lexeme : List ℕ) (l : strings.StringLiteral) (tok : Tok) → IsLiteralLeaf (string_of l.expand lexeme) (Literal (literal_of l)) tok → IsFilledLiteral conditions.expander IsToken l × (tok ≡ literal_tok l)
  string_seen lexeme l tok h =
      let same : literal_of l ≡ whole l.expand lexeme h.token h.text = ap (text_in (literal_of l)) (h.is ∙ whole_is l.expand lexeme h.token h.text) in
      let token : h.token ≡ l.token = ap (λ (x : LiteralText). x.token) (sym same) in
      let text : h.text ≡ string_bytes l.cooked = ap (λ (x : LiteralText). x.cooked) (sym same) in
      let part : l.part ≡ None = ap (λ (x : LiteralText). x.part) same in
      let asked : lexeme ≡ lexeme_of l.token = sym (asks l.expand lexeme) ∙ h.lexeme ∙ ap lexeme_of token in (
        record {
          among = subst IsToken token h.among;
          cooked = ap (λ (x : List ℕ). cooked_text conditions.expander (string_of l.expand x)) (sym asked) ∙ h.cooked ∙ ap (λ (t : List ℕ). Ok t) text;
          kind = ap (λ (x : LiteralText). x.kind) same ∙ ap kind_of asked;
          part = part;
        },
        h.tok_is ∙ ap tok_of token ∙ sym (plain_tok l part),
      )

  -- a part of a format string
  part_seen : (l : strings.StringLiteral) (kind : StringKind) (part : FormatStringPart) (token : Token) (text : List ℕ) → Literal (literal_of l) ≡ Literal (record { token = token; cooked = text; expand = false; kind = kind; part = Some part }) → IsToken token
      → cooked_format_text kind part (lexeme_of token) ≡ Ok text → IsFilledPart IsToken kind part l × (tok_of token ≡ tok_of l.token)
  part_seen l kind part token text is among cooked =
      let same : literal_of l ≡ record { token = token; cooked = text; expand = false; kind = kind; part = Some part } = ap (text_in (literal_of l)) is in
      let here : token ≡ l.token = ap (λ (x : LiteralText). x.token) (sym same) in (
        record {
          among = subst IsToken here among;
          is = record {
            token_is = refl;
            cooked = ap (λ (t : Token). cooked_format_text kind part (lexeme_of t)) (sym here) ∙ cooked ∙ ap (λ (x : LiteralText). Ok x.cooked) (sym same);
            expand_is = ap (λ (x : LiteralText). x.expand) same;
            kind_is = ap (λ (x : LiteralText). x.kind) same;
            part_is = ap (λ (x : LiteralText). x.part) same;
          };
        },
        ap tok_of here,
      )

  later_tok : (l : strings.StringLiteral) (kind : StringKind) → IsFilledPart IsToken kind string_parts.End l → part_tok l ≡ tok_of l.token
  later_tok l kind h = rw (h.is.expand_is, h.is.part_is) refl

  between_tok : (l : strings.StringLiteral) (kind : StringKind) → IsFilledPart IsToken kind string_parts.Continue l → part_tok l ≡ tok_of l.token
  between_tok l kind h = rw (h.is.expand_is, h.is.part_is) refl

  -- how it is asked, by the token's own lexeme
  single_seen : (lexeme : List ℕ) (l : strings.StringLiteral) (tok : Tok) → IsLiteralLeaf (literals.Single lexeme) (Literal (literal_of l)) tok → IsFilledPart IsToken (kind_of (lexeme_of l.token)) string_parts.Single l × (tok ≡ tok_of l.token)
  single_seen lexeme l tok h =
      let cooked : cooked_format_text (kind_of lexeme) string_parts.Single (lexeme_of h.token) ≡ Ok h.text = ap (cooked_format_text (kind_of lexeme) string_parts.Single) (sym h.lexeme) ∙ h.cooked in
      let x = part_seen l (kind_of lexeme) string_parts.Single h.token h.text h.is h.among cooked in
      let kind : kind_of lexeme ≡ kind_of (lexeme_of l.token) = ap kind_of (h.lexeme ∙ ap lexeme_of (ap (token_in l.token) (sym h.is))) in
      (subst (λ (k : StringKind). IsFilledPart IsToken k string_parts.Single l) kind x.0, h.tok_is ∙ x.1)

  start_seen : (lexeme : List ℕ) (l : strings.StringLiteral) (tok : Tok) → IsLiteralLeaf (literals.Start lexeme) (Literal (literal_of l)) tok
      → IsFilledPart IsToken (kind_of (lexeme_of l.token)) string_parts.Start l × (tok ≡ tok_of l.token) × (lexeme ≡ lexeme_of l.token)
  start_seen lexeme l tok h =
      let cooked : cooked_format_text (kind_of lexeme) string_parts.Start (lexeme_of h.token) ≡ Ok h.text = ap (cooked_format_text (kind_of lexeme) string_parts.Start) (sym h.lexeme) ∙ h.cooked in
      let x = part_seen l (kind_of lexeme) string_parts.Start h.token h.text h.is h.among cooked in
      let same : lexeme ≡ lexeme_of l.token = h.lexeme ∙ ap lexeme_of (ap (token_in l.token) (sym h.is)) in
      (subst (λ (k : StringKind). IsFilledPart IsToken k string_parts.Start l) (ap kind_of same) x.0, h.tok_is ∙ x.1, same)

  end_seen : (start lexeme : List ℕ) (l : strings.StringLiteral) (tok : Tok) → IsLiteralLeaf (literals.End start lexeme) (Literal (literal_of l)) tok → IsFilledPart IsToken (kind_of start) string_parts.End l × (tok ≡ part_tok l)
  end_seen start lexeme l tok h =
      let cooked : cooked_format_text (kind_of start) string_parts.End (lexeme_of h.token) ≡ Ok h.text = ap (cooked_format_text (kind_of start) string_parts.End) (sym h.lexeme) ∙ h.cooked in
      let x = part_seen l (kind_of start) string_parts.End h.token h.text h.is h.among cooked in
      (x.0, h.tok_is ∙ x.1 ∙ sym (later_tok l (kind_of start) x.0))

  continue_seen : (start lexeme : List ℕ) (l : strings.StringLiteral) (tok : Tok) → IsLiteralLeaf (literals.Continue start lexeme) (Literal (literal_of l)) tok → IsFilledPart IsToken (kind_of start) string_parts.Continue l × (tok ≡ part_tok l)
  continue_seen start lexeme l tok h =
      let cooked : cooked_format_text (kind_of start) string_parts.Continue (lexeme_of h.token) ≡ Ok h.text = ap (cooked_format_text (kind_of start) string_parts.Continue) (sym h.lexeme) ∙ h.cooked in
      let x = part_seen l (kind_of start) string_parts.Continue h.token h.text h.is h.among cooked in
      (x.0, h.tok_is ∙ x.1 ∙ sym (between_tok l (kind_of start) x.0))

  -- ---- expressions

  -- what is read of the tokens is its tree, and it is given what its parts have
  pub record Seen (e : Expression) (t : Expr Tok Tok) : Type 0 where
    pub same : t ≡ expr_of e
    pub given : IsFilledExpression conditions.expander IsToken e

  record SeenRow {n : _} (row : ExpressionRow n) (ts : Exprs Tok Tok) : Type 0 where
    same : ts ≡ exprs_of_row row
    given : AreFilledExpressions conditions.expander IsToken row

  -- a format string with this start
  record SeenFormat (start : strings.StringLiteral) {n : _} (row : FormatRow n) (t : Expr Tok Tok) : Type 0 where
    same : t ≡ model.format_of (tok_of start.token) row
    given : IsFilledPart IsToken (kind_of (lexeme_of start.token)) (first_part row) start × AreFilledParts conditions.expander IsToken (kind_of (lexeme_of start.token)) row

  -- the parts of a format string from this one on
  record SeenParts (start : List ℕ) (l : strings.StringLiteral) {n : _} (row : FormatRow n) (ps : Parts Tok Tok) : Type 0 where
    same : ps ≡ model.parts_of_row (part_tok l) row
    given : IsFilledPart IsToken (kind_of start) (later_part row) l × AreFilledParts conditions.expander IsToken (kind_of start) row

  mutual
    pub seen_expression : (e : Expression) {t : Expr Tok Tok} → Alike seen (leaf_tree_of e) t → Seen e t
    seen_expression (And' p lhs q rhs) (a.and l r) =
        let x = seen_expression lhs l in
        let y = seen_expression rhs r in
        record { same = λ i. tree.And (x.same i) (y.same i); given = (x.given, y.given) }
    seen_expression (Assert' p condition None' name) (a.assert b c) =
        let x = seen_expression condition c in
        record { same = λ i. tree.Assert (sym b.is i) (x.same i); given = (x.given, tt, b.among) }
    seen_expression (Assert' p condition (Some' q message) name) (a.assert_message b c m) =
        let x = seen_expression condition c in
        let y = seen_expression message m in
        record { same = λ i. tree.AssertMessage (sym b.is i) (x.same i) (y.same i); given = (x.given, y.given, b.among) }
    seen_expression (Backtick contents token) (a.backtick lexeme {a' = tok} h) =
        let x = command_seen lexeme (string_bytes contents) token tok h in
        record { same = ap (λ (k : Tok). tree.Backtick k) x.1; given = x.0 }
    seen_expression (Call' name n arguments) (a.call {a' = tok} h es) =
        let x = variable_seen name.token None tok h in
        let y = seen_row arguments es in
        record { same = λ i. tree.Call (x.1 i) (y.same i); given = (x.0, y.given) }
    seen_expression (Comparison' p lhs operator q rhs token) (a.comparison l b r) =
        let x = seen_expression lhs l in
        let y = seen_expression rhs r in
        record { same = λ i. tree.Comparison (x.same i) operator (sym b.is i) (y.same i); given = (x.given, y.given, b.among) }
    seen_expression (Concatenation' p lhs operator q rhs) (a.concatenation l b r) =
        let x = seen_expression lhs l in
        let y = seen_expression rhs r in
        record { same = λ i. tree.Concatenation (x.same i) (sym b.is i) (y.same i); given = (x.given, b.among, y.given) }
    seen_expression (Conditional' p condition q branch None') (a.if_only c b) =
        let x = seen_expression condition c in
        let y = seen_expression branch b in
        record { same = λ i. tree.If (x.same i) (y.same i); given = (x.given, y.given, tt) }
    seen_expression (Conditional' p condition q branch (Some' r otherwise)) (a.if_else c b o) =
        let x = seen_expression condition c in
        let y = seen_expression branch b in
        let z = seen_expression otherwise o in
        record { same = λ i. tree.IfElse (x.same i) (y.same i) (z.same i); given = (x.given, y.given, z.given) }
    seen_expression (FormatString' start n expressions) h = let x = seen_format start expressions h in record { same = x.same; given = x.given }
    seen_expression (Group' p contents) (a.group c) = let x = seen_expression contents c in record { same = ap (λ (k : Expr Tok Tok). tree.Group k) x.same; given = x.given }
    seen_expression (Join' None' operator q rhs) (a.root b r) =
        let y = seen_expression rhs r in
        record { same = λ i. tree.Root (sym b.is i) (y.same i); given = (tt, b.among, y.given) }
    seen_expression (Join' (Some' p lhs) operator q rhs) (a.join l b r) =
        let x = seen_expression lhs l in
        let y = seen_expression rhs r in
        record { same = λ i. tree.Join (x.same i) (sym b.is i) (y.same i); given = (x.given, b.among, y.given) }
    seen_expression (List' n elements opener) (a.list b es) =
        let y = seen_row elements es in
        record { same = λ i. tree.ListOf (sym b.is i) (y.same i); given = (y.given, b.among) }
    seen_expression (ListConcatenation' p lhs operator q rhs) (a.list_concatenation l b r) =
        let x = seen_expression lhs l in
        let y = seen_expression rhs r in
        record { same = λ i. tree.ListConcatenation (x.same i) (sym b.is i) (y.same i); given = (x.given, b.among, y.given) }
    seen_expression (Not' p operand) (a.not c) = let x = seen_expression operand c in record { same = ap (λ (k : Expr Tok Tok). tree.Not k) x.same; given = x.given }
    seen_expression (Or' p lhs q rhs) (a.or l r) =
        let x = seen_expression lhs l in
        let y = seen_expression rhs r in
        record { same = λ i. tree.Or (x.same i) (y.same i); given = (x.given, y.given) }
    seen_expression (StringLiteral literal) (a.string lexeme {a' = tok} h) =
        let x = string_seen lexeme literal tok h in
        record { same = ap (λ (k : Tok). tree.StringLiteral literal.expand k) x.1; given = x.0 }
    seen_expression (Variable name number) (a.variable {a' = tok} h) =
        let x = variable_seen name.token number tok h in
        record { same = ap (λ (k : Tok). tree.Variable k) x.1; given = (x.0, x.2) }

    seen_row : {n : _} (row : ExpressionRow n) {ts : Exprs Tok Tok} → AlikeAll seen (trees_of_row row) ts → SeenRow row ts
    seen_row row_end a.none = record { same = refl; given = tt }
    seen_row (row_more e others) (a.more h hs) =
        let x = seen_expression e h in
        let y = seen_row others hs in
        record { same = λ i. tree.more (x.same i) (y.same i); given = (x.given, y.given) }

    -- a format string with this start
    seen_format : (start : strings.StringLiteral) {n : _} (row : FormatRow n) {t : Expr Tok Tok} → Alike seen (format_row_tree (Literal (literal_of start)) row) t → SeenFormat start row t
    seen_format start format_row_end (a.format_literal lexeme {a' = tok} h) =
        let x = single_seen lexeme start tok h in
        record { same = ap (λ (k : Tok). tree.FormatLiteral k) x.1; given = (x.0, tt) }
    seen_format start (format_row_more e literal others) (a.format_string lexeme {a' = tok} h c ps) =
        let x = start_seen lexeme start tok h in
        let y = seen_expression e c in
        let z = seen_parts lexeme literal others ps in
        let P : List ℕ → Type 0 = λ k. IsFilledPart IsToken (kind_of k) (later_part others) literal × AreFilledParts conditions.expander IsToken (kind_of k) others in
        let w = subst P x.2 z.given in
        record { same = λ i. tree.FormatString (x.1 i) (y.same i) (z.same i); given = (x.0, (y.given, w.0, w.1)) }

    seen_parts : (start : List ℕ) (l : strings.StringLiteral) {n : _} (row : FormatRow n) {ps : Parts Tok Tok} → AlikeParts seen start (parts_row_tree (Literal (literal_of l)) row) ps → SeenParts start l row ps
    seen_parts start l format_row_end (a.last lexeme {a' = tok} h) =
        let x = end_seen start lexeme l tok h in
        record { same = ap (λ (k : Tok). tree.Last k) x.1; given = (x.0, tt) }
    seen_parts start l (format_row_more e literal others) (a.continue lexeme {a' = tok} h c ps) =
        let x = continue_seen start lexeme l tok h in
        let y = seen_expression e c in
        let z = seen_parts start literal others ps in
        record { same = λ i. tree.Continue (x.1 i) (y.same i) (z.same i); given = (x.0, (y.given, z.given.0, z.given.1)) }

  -- ---- bodies

  fragment_seen : (f : Fragment) (t : tree.Fragment Tok Tok) → AlikeFragment seen (fragment_tree f) t → (t ≡ fragment_of f) × IsFilledFragment conditions.expander IsToken f
  fragment_seen (fragments.Interpolation e) t (a.a_value h) = let x = seen_expression e h in (ap (λ (k : Expr Tok Tok). tree.Interpolation k) x.same, x.given)
  fragment_seen (fragments.Text token) t (a.a_text {a' = tok} h) =
      let x = name_seen Text token (Text token) tok (λ t. refl) refl h in
      (ap (λ (k : Tok). tree.Text k) x.1, x.0)

  -- all of a row, of which that is kept
  pub each_seen : {Z T U V : Type 0} {Rel : T → U → Type 0} (view : Z → T) (model_view : Z → V) (of : U → V) (IsGood : Z → Type 0) → ((z : Z) (u : U) → Rel (view z) u → (of u ≡ model_view z) × IsGood z)
      → (zs : List Z) {us : List U} → Each Rel (map view zs) us → (map of us ≡ map model_view zs) × All IsGood zs
  each_seen view model_view of IsGood one [] a.nil = (refl, All-nil IsGood)
  each_seen view model_view of IsGood one (z ∷ zs) (a.cons {y = u} h hs) =
      let x = one z u h in
      let y = each_seen view model_view of IsGood one zs hs in
      ((λ i. x.0 i ∷ y.0 i), All-cons IsGood z zs x.1 y.1)

  -- all of a row
  pub all_seen : {Z T U : Type 0} {Rel : T → U → Type 0} (view : Z → T) (model_view : Z → U) (IsGood : Z → Type 0) → ((z : Z) (u : U) → Rel (view z) u → (u ≡ model_view z) × IsGood z) → (zs : List Z) {us : List U} → Each Rel (map view zs) us → (us ≡ map model_view zs) × All IsGood zs
  all_seen view model_view IsGood one [] a.nil = (refl, All-nil IsGood)
  all_seen view model_view IsGood one (z ∷ zs) (a.cons {y = u} h hs) =
      let x = one z u h in
      let y = all_seen view model_view IsGood one zs hs in
      ((λ i. x.0 i ∷ y.0 i), All-cons IsGood z zs x.1 y.1)

  pub line_seen : (l : Line) (t : BodyLine Tok Tok ℕ) → AlikeLine seen (line_tree l) t → (t ≡ body_line_of l) × IsFilledLine conditions.expander IsToken l
  line_seen l t (a.line hs) =
      let x = all_seen fragment_tree fragment_of (IsFilledFragment conditions.expander IsToken) fragment_seen l.fragments.items hs in
      (ap (λ (fs : List (tree.Fragment Tok Tok)). tree.Line l.number fs) x.0, x.1)
