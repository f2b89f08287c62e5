-- The orders of leaves and of the keys of expressions are total.
use Rattle.std.proofs.Common.{◌≡◌, ℕ, List, Option, Some, None, refl, subst}
use Rattle.std.specs.Cmp.{IsTotalOrder, nat_cmp_total, on_total, then_total}
use Rattle.std.specs.Cmp.Lexicographic.{options_total, nat_list_cmp_total}
use Rattle.std.specs.Option.{option_cmp}
use Rattle.std.specs.Ordering.{ordering_then, nat_cmp}
use Rattle.std.specs.declared.cmp.Ordering.{Ordering}
use Rattle.justfile_numbers.specs.declared.number.Number.{Number}
use Rattle.justfile_token.specs.declared.token.Token.{Token}
use Rattle.justfile_token.specs.declared.string_literal.StringLiteral.{StringLiteral}
use Rattle.justfile_numbers.specs.contracts.number.NumberOrd.TheImpl.Laws.{total-law as number_total}
use Rattle.justfile_token.specs.contracts.token.TokenOrd.TheImpl.Laws.{total-law as token_total}
use Rattle.justfile_token.specs.contracts.string_literal.StringLiteralOrd.TheImpl.Laws.{total-law as literal_total}
use Rattle.justfile_model.specs.declared.conditional_operator.ConditionalOperator.{ConditionalOperator}
use Rattle.justfile_model.specs.contracts.conditional_operator.ConditionalOperatorOrd.TheImpl.Laws.{total-law as operator_total}
use Rattle.justfile_model.specs.Trees.KeyLaws.{then_end}
use Rattle.justfile_expression.specs.Leaf.{KeyLeaf, token, literal, operator, number, text, leaf_place, leaf_cmp, token_cmp, literal_cmp, operator_cmp, number_cmp}
use Rattle.justfile_model.specs.Trees.ContentLeaf.{text_cmp}

abbrev token_in : KeyLeaf → Option Token
token_in (token x) = Some x
token_in _ = None

abbrev literal_in : KeyLeaf → Option StringLiteral
literal_in (literal x) = Some x
literal_in _ = None

abbrev operator_in : KeyLeaf → Option ConditionalOperator
operator_in (operator x) = Some x
operator_in _ = None

abbrev number_in : KeyLeaf → Option (Option Number)
number_in (number x) = Some x
number_in _ = None

abbrev text_in : KeyLeaf → Option (List ℕ)
text_in (text x) = Some x
text_in _ = None

abbrev by_kind : KeyLeaf → KeyLeaf → Ordering
by_kind x y = ordering_then (nat_cmp (leaf_place x) (leaf_place y)) (ordering_then (option_cmp token_cmp (token_in x) (token_in y)) (ordering_then (option_cmp literal_cmp (literal_in x) (literal_in y)) (ordering_then (option_cmp operator_cmp (operator_in x) (operator_in y)) (ordering_then (option_cmp number_cmp (number_in x) (number_in y)) (option_cmp text_cmp (text_in x) (text_in y))))))

same : (x y : KeyLeaf) → by_kind x y ≡ leaf_cmp x y
same (token a) (token b) = then_end _
same (token a) (literal b) = refl
same (token a) (operator b) = refl
same (token a) (number b) = refl
same (token a) (text b) = refl
same (literal a) (token b) = refl
same (literal a) (literal b) = then_end _
same (literal a) (operator b) = refl
same (literal a) (number b) = refl
same (literal a) (text b) = refl
same (operator a) (token b) = refl
same (operator a) (literal b) = refl
same (operator a) (operator b) = then_end _
same (operator a) (number b) = refl
same (operator a) (text b) = refl
same (number a) (token b) = refl
same (number a) (literal b) = refl
same (number a) (operator b) = refl
same (number a) (number b) = then_end _
same (number a) (text b) = refl
same (text a) (token b) = refl
same (text a) (literal b) = refl
same (text a) (operator b) = refl
same (text a) (number b) = refl
same (text a) (text b) = refl

pub leaf_total : IsTotalOrder leaf_cmp
leaf_total = subst IsTotalOrder (λ i x y. same x y i) (then_total (on_total leaf_place nat_cmp_total) (then_total (on_total token_in (options_total token_total)) (then_total (on_total literal_in (options_total literal_total)) (then_total (on_total operator_in (options_total operator_total)) (then_total (on_total number_in (options_total (options_total number_total))) (on_total text_in (options_total nat_list_cmp_total)))))))
