-- The texts of expressions, and of lists of them.
use Rattle.std.specs.Prelude.{ℕ, List, [], ◌∷◌, ◌++◌, codes}
use Rattle.std.specs.List.{flat_map}
use Rattle.justfile_token.specs.declared.string_literal.StringLiteral as literals
use Rattle.justfile_token.specs.StringLiteral.{literal_text}
use Rattle.justfile_model.specs.Printed.Printing.{fixed_text, expr_text}
use Rattle.justfile_expression.specs.declared.expression.Expression.{Expression}
use Rattle.justfile_expression.specs.Expression.{expr_shape}

-- the text of an expression
abbrev pub text_of : Expression → List ℕ
text_of e = expr_text (expr_shape e)

-- texts joined by a comma and a space
abbrev pub separated : List (List ℕ) → List ℕ
separated [] = []
separated (text ∷ texts) = text ++ flat_map (λ t. fixed_text (codes ", ") ++ t) texts

-- the text of an expression of a format string and of the part after it
abbrev pub format_part_text : Expression × literals.StringLiteral → List ℕ
format_part_text p = fixed_text (codes " ") ++ text_of p.0 ++ fixed_text (codes " ") ++ literal_text p.1
