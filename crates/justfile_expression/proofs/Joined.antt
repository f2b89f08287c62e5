-- The text of an expression is its start text, and then each child with the text after it.
use Rattle.std.proofs.Common.{◌≡◌, ◌∙◌, ℕ, Bool, true, false, if◌then◌else◌, List, [], ◌∷◌, ◌++◌, map, codes, refl, sym, ap, append_assoc, append-nil}
use Rattle.std.specs.List.{flat_map}
use Rattle.justfile_token.specs.declared.string_literal.StringLiteral as literals
use Rattle.justfile_token.specs.StringLiteral.{format_mark, literal_marks}
use Rattle.justfile_token.specs.Token.{lexeme_of}
use Rattle.justfile_model.specs.Printed.Printing.{fixed_text, is_conditional, mark_text, other_text}
use Rattle.justfile_expression.specs.Children.{Child, row_children, then_text, format_children, start_texts, children, opening_text}
use Rattle.justfile_leaves.specs.OtherBranch.{after_other, before_other}
use Rattle.justfile_expression.specs.Expression.{expr_shape}
use Rattle.justfile_expression.specs.Text.{text_of, separated, format_part_text}
use Rattle.justfile_leaves.specs.Texts.{texts_joined}
use Rattle.justfile_expression.proofs.Rows.{separated_row, format_row}
use Rattle.justfile_expression.specs.declared.expression.Expression.{Expression, And', Assert', Backtick, Call', Comparison', Concatenation', Conditional', FormatString', Group', Join', List', ListConcatenation', Not', Or', StringLiteral, Variable, None', Some', items-the_row-Expression, items-the_row-Expression-FormatString-1-2}

abbrev pub child_text : Child → List ℕ
child_text c = text_of c.0 ++ texts_joined c.1

-- elements, with `closing` after the last
closed : (closing : List ℕ) (e : Expression) (es : List Expression) → flat_map child_text (row_children (then_text (codes ", ")) (then_text closing) (e ∷ es)) ≡ separated (map text_of (e ∷ es)) ++ closing
unfolding fixed_text
closed closing e [] = simp append-nil
closed closing e (next ∷ es) = ap (λ t. (text_of e ++ codes ", ") ++ t) (closed closing next es) ∙ simp append_assoc

bracketed : (opening closing both name : List ℕ) (es : List Expression) → both ≡ opening ++ closing
    → (name ++ opening_text both opening es) ++ flat_map child_text (row_children (then_text (codes ", ")) (then_text closing) es) ≡ ((name ++ opening) ++ separated (map text_of es)) ++ closing
bracketed opening closing both name [] e = rw e (simp (append_assoc, append-nil))
bracketed opening closing both name (e ∷ es) is = ap (λ t. (name ++ opening) ++ t) (closed closing e es) ∙ simp append_assoc

last_part : (s t m l : List ℕ) → s ++ ((t ++ (s ++ (m ++ (l ++ [])))) ++ []) ≡ ((((s ++ t) ++ s) ++ (m ++ l)) ++ [])
last_part s t m l = simp (append_assoc, append-nil)

inner_part : (s t m l more : List ℕ) → s ++ ((t ++ (s ++ (m ++ (l ++ s)))) ++ more) ≡ ((((s ++ t) ++ s) ++ (m ++ l)) ++ (s ++ more))
inner_part s t m l more = simp append_assoc

filled : (p : Expression × literals.StringLiteral) (ps : List (Expression × literals.StringLiteral)) → codes " " ++ flat_map child_text (format_children (p ∷ ps)) ≡ flat_map format_part_text (p ∷ ps)
unfolding fixed_text
filled p [] = last_part (codes " ") (text_of p.0) (literal_marks p.1) (lexeme_of p.1.token)
filled p (next ∷ ps) =
    inner_part (codes " ") (text_of p.0) (literal_marks p.1) (lexeme_of p.1.token) (flat_map child_text (format_children (next ∷ ps)))
    ∙ ap (λ t. format_part_text p ++ t) (filled next ps)

format_closed : (token : List ℕ) (ps : List (Expression × literals.StringLiteral))
    → (codes "f" ++ (token ++ opening_text [] (codes " ") ps)) ++ flat_map child_text (format_children ps) ≡ (codes "f" ++ token) ++ flat_map format_part_text ps
format_closed token [] = append-nil _ ∙ ap (λ l. codes "f" ++ l) (append-nil token) ∙ sym (append-nil _)
format_closed token (p ∷ ps) =
    ap (λ l. l ++ flat_map child_text (format_children (p ∷ ps))) (sym (append_assoc (codes "f") token (codes " ")))
    ∙ append_assoc (codes "f" ++ token) (codes " ") (flat_map child_text (format_children (p ∷ ps)))
    ∙ ap (λ t. (codes "f" ++ token) ++ t) (filled p ps)

-- the text before the `else` branch is split in two
in_braces : (i c s b t u o v : List ℕ) → i ++ ((c ++ s) ++ ((b ++ (t ++ u)) ++ ((o ++ v) ++ []))) ≡ ((((i ++ c) ++ s) ++ b) ++ t) ++ ((u ++ o) ++ v)
in_braces i c s b t u o v = simp (append_assoc, append-nil)

chained : (i c s b t o : List ℕ) → i ++ ((c ++ s) ++ ((b ++ t) ++ ((o ++ []) ++ []))) ≡ ((((i ++ c) ++ s) ++ b) ++ t) ++ o
chained i c s b t o = simp (append_assoc, append-nil)

branches : (k : Bool) (c b o : List ℕ) → codes "if " ++ ((c ++ codes " { ") ++ ((b ++ before_other k) ++ ((o ++ after_other k) ++ []))) ≡ fixed_text (codes "if ") ++ c ++ fixed_text (codes " { ") ++ b ++ fixed_text (codes " } else ") ++ other_text k o
unfolding fixed_text
branches true c b o = chained (codes "if ") c (codes " { ") b (codes " } else ") o
branches false c b o = in_braces (codes "if ") c (codes " { ") b (codes " } else ") (codes "{ ") o (codes " }")

marked_by : (x m l : List ℕ) → ((x ++ m) ++ (l ++ [])) ++ [] ≡ x ++ (m ++ l)
marked_by x m l = simp (append_assoc, append-nil)

marked : (expand : Bool) (m l : List ℕ) → (((if expand then codes "x" else []) ++ m) ++ (l ++ [])) ++ [] ≡ mark_text expand ++ (m ++ l)
unfolding fixed_text
marked true m l = marked_by (codes "x") m l
marked false m l = marked_by [] m l

pub joined : (e : Expression) → texts_joined (start_texts e) ++ flat_map child_text (children e) ≡ text_of e
unfolding fixed_text
joined (And' p lhs q rhs) = simp (append_assoc, append-nil)
joined (Assert' p condition None' name) = simp (append_assoc, append-nil)
joined (Assert' p condition (Some' q message) name) = simp (append_assoc, append-nil)
joined (Backtick contents token) = simp append-nil
joined (Call' name n arguments) =
    bracketed (codes "(") (codes ")") (codes "()") (lexeme_of name.token) (items-the_row-Expression _ arguments) refl
    ∙ ap (λ t. ((lexeme_of name.token ++ codes "(") ++ t) ++ codes ")") (sym (separated_row _ arguments))
joined (Comparison' p lhs operator q rhs token) = simp append-nil
joined (Concatenation' p lhs operator q rhs) = simp (append_assoc, append-nil)
joined (Conditional' p condition q branch None') = simp (append_assoc, append-nil)
joined (Conditional' p condition q branch (Some' r other)) = branches (is_conditional (expr_shape other)) (text_of condition) (text_of branch) (text_of other)
joined (FormatString' first n expressions) =
    format_closed (lexeme_of first.token) (items-the_row-Expression-FormatString-1-2 _ expressions) ∙ sym (format_row first.token _ expressions)
joined (Group' p contents) = simp (append_assoc, append-nil)
joined (Join' None' operator q rhs) = simp append-nil
joined (Join' (Some' p lhs) operator q rhs) = simp (append_assoc, append-nil)
joined (List' n elements opener) =
    bracketed (codes "[") (codes "]") (codes "[]") [] (items-the_row-Expression _ elements) refl
    ∙ ap (λ t. (codes "[" ++ t) ++ codes "]") (sym (separated_row _ elements))
joined (ListConcatenation' p lhs operator q rhs) = simp (append_assoc, append-nil)
joined (Not' p operand) = simp append-nil
joined (Or' p lhs q rhs) = simp (append_assoc, append-nil)
joined (StringLiteral literal) = marked literal.expand (format_mark literal) (lexeme_of literal.token)
joined (Variable name number) = simp append-nil
