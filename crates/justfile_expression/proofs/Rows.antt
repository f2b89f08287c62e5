-- The text of a row of expressions, by its items.
use mathlib.Core.Former.{Count}
use Rattle.std.proofs.Common.{◌≡◌, ℕ, List, ◌++◌, map, codes, refl, sym, ap, ◌∙◌, append_assoc, append-nil}
use Rattle.std.specs.List.{flat_map}
use Rattle.justfile_token.specs.declared.token.Token.{Token}
use Rattle.justfile_token.specs.StringLiteral.{literal_text}
use Rattle.justfile_token.specs.Token.{lexeme_of}
use Rattle.justfile_model.specs.Lexing.Tok.{Tok, tok_of}
use Rattle.justfile_model.specs.Trees.Tree.{over_expr, over_exprs, over_parts, lexeme, nothing}
use Rattle.justfile_model.specs.Printed.Printing.{fixed_text, expr_text, exprs_text, parts_text}
use Rattle.justfile_expression.specs.Expression.{exprs_of_row, format_of, parts_of_row, part_tok}
use Rattle.justfile_expression.specs.Text.{text_of, separated, format_part_text}
use Rattle.justfile_expression.specs.declared.expression.Expression.{Row_of-Expression as ExpressionRow, end_of-Expression as row_end, more_of-Expression as row_more, Row_of-Expression-FormatString-1-2 as FormatRow, end_of-Expression-FormatString-1-2 as format_row_end, more_of-Expression-FormatString-1-2 as format_row_more, items-the_row-Expression, items-the_row-Expression-FormatString-1-2}

pub separated_row : (n : Count) (row : ExpressionRow n) → exprs_text (over_exprs lexeme nothing (exprs_of_row row)) ≡ separated (map text_of (items-the_row-Expression n row))
separated_row n row_end = refl
separated_row n (row_more e row_end) = sym (append-nil (text_of e))
separated_row n (row_more e (row_more next others)) =
    ap (λ t. text_of e ++ fixed_text (codes ", ") ++ t) (separated_row _ (row_more next others))
    ∙ append_assoc (text_of e) (fixed_text (codes ", ")) (separated (map text_of (items-the_row-Expression _ (row_more next others))))
    ∙ ap (λ t. text_of e ++ t) (sym (append_assoc (fixed_text (codes ", ")) (text_of next) (flat_map (λ t. fixed_text (codes ", ") ++ t) (map text_of (items-the_row-Expression _ others)))))

-- a regrouping of six texts
grouped : (a s e t b f : List ℕ) → (((a ++ s) ++ e) ++ t) ++ (b ++ f) ≡ a ++ ((((s ++ e) ++ t) ++ b) ++ f)
grouped a s e t b f =
    append_assoc ((a ++ s) ++ e) t (b ++ f) ∙ append_assoc (a ++ s) e (t ++ (b ++ f)) ∙ append_assoc a s (e ++ (t ++ (b ++ f)))
    ∙ ap (λ l. a ++ l) (sym (append_assoc ((s ++ e) ++ t) b f ∙ append_assoc (s ++ e) t (b ++ f) ∙ append_assoc s e (t ++ (b ++ f))))

parts_row : (token : Tok) (n : Count) (row : FormatRow n)
    → parts_text (over_parts lexeme nothing (parts_of_row token row)) ≡ token.lexeme ++ flat_map format_part_text (items-the_row-Expression-FormatString-1-2 n row)
parts_row token n format_row_end = sym (append-nil token.lexeme)
parts_row token n (format_row_more e next others) =
    ap (λ t. token.lexeme ++ fixed_text (codes " ") ++ text_of e ++ fixed_text (codes " ") ++ t) (parts_row (part_tok next) _ others)
    ∙ grouped token.lexeme (fixed_text (codes " ")) (text_of e) (fixed_text (codes " ")) (literal_text next) (flat_map format_part_text (items-the_row-Expression-FormatString-1-2 _ others))

pub format_row : (start : Token) (n : Count) (row : FormatRow n)
    → expr_text (over_expr lexeme nothing (format_of (tok_of start) row)) ≡ (fixed_text (codes "f") ++ lexeme_of start) ++ flat_map format_part_text (items-the_row-Expression-FormatString-1-2 n row)
format_row start n format_row_end = sym (append-nil (fixed_text (codes "f") ++ lexeme_of start))
format_row start n (format_row_more e next others) =
    ap (λ t. fixed_text (codes "f") ++ lexeme_of start ++ fixed_text (codes " ") ++ text_of e ++ fixed_text (codes " ") ++ t) (parts_row (part_tok next) _ others)
    ∙ grouped (fixed_text (codes "f") ++ lexeme_of start) (fixed_text (codes " ")) (text_of e) (fixed_text (codes " ")) (literal_text next) (flat_map format_part_text (items-the_row-Expression-FormatString-1-2 _ others))
