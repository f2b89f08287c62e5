-- The text of a setting, by its parts.
use Rattle.std.proofs.Common.{◌≡◌, ◌∙◌, ℕ, Bool, true, false, List, [], ◌∷◌, ◌++◌, codes, refl, sym, ap, append_assoc, append-nil, if◌then◌else◌}
use Rattle.justfile_token.specs.StringLiteral.{format_mark}
use Rattle.justfile_token.specs.Token.{lexeme_of}
use Rattle.justfile_model.specs.Printed.Printing.{exprs_text, fixed_text, mark_text}
use Rattle.justfile_model.specs.Trees.Tree as tree
use Rattle.justfile_model.specs.Trees.Tree.{lexeme, nothing, over_exprs, over_setting_value}
use Rattle.justfile_expression.specs.Expression.{exprs_of}
use Rattle.justfile_expression.specs.Text.{text_of}
use Rattle.justfile_expression.specs.declared.expression.Expression.{Expression}
use Rattle.justfile_setting.specs.Print.{later_texts, value_text, value_text_of}
use Rattle.justfile_setting.specs.Value.{value_seen}
use Rattle.justfile_setting.specs.declared.value.Value.{Value}
use Rattle.justfile_setting.specs.declared.value.Value.TheVariants as values

-- expressions with a comma and a space between them
separated : (e : Expression) (es : List Expression) → text_of e ++ later_texts es ≡ exprs_text (over_exprs lexeme nothing (exprs_of (e ∷ es)))
separated e [] = append-nil (text_of e)
separated e (next ∷ es) =
    sym (append_assoc (text_of e) (fixed_text (codes ", ") ++ text_of next) (later_texts es))
    ∙ ap (λ t. t ++ later_texts es) (sym (append_assoc (text_of e) (fixed_text (codes ", ")) (text_of next)))
    ∙ append_assoc (text_of e ++ fixed_text (codes ", ")) (text_of next) (later_texts es)
    ∙ ap (λ t. text_of e ++ fixed_text (codes ", ") ++ t) (separated next es)

marked : (expand : Bool) (m l : List ℕ) → ((if expand then codes "x" else []) ++ m) ++ l ≡ mark_text expand ++ (m ++ l)
unfolding fixed_text
marked true m l = refl
marked false m l = refl

-- the text of a value is that of its tree
pub seen : (v : Value) → value_text_of v ≡ value_text (over_setting_value lexeme nothing (value_seen v))
seen (values.Truth value) = refl
seen (values.Expression e) = refl
seen (values.Literal l) = marked l.now.expand (format_mark l.now) (lexeme_of l.now.token)
seen (values.Interpreter i) =
    ap (λ t. t ++ fixed_text (codes "]")) (append_assoc (fixed_text (codes "[")) (text_of i.now.command) (later_texts i.now.arguments.items)
    ∙ ap (λ t. fixed_text (codes "[") ++ t) (separated i.now.command i.now.arguments.items))
