-- The order of content leaves is total.
use Rattle.std.proofs.Common.{◌≡◌, ℕ, List, Option, Some, None, refl, subst}
use Rattle.std.specs.Cmp.{IsTotalOrder, bool_cmp_total, nat_cmp_total, on_total, then_total}
use Rattle.std.specs.Cmp.Lexicographic.{options_total, nat_list_cmp_total, slice_cmp}
use Rattle.std.specs.Option.{option_cmp}
use Rattle.std.specs.Ordering.{ordering_then, nat_cmp}
use Rattle.std.specs.declared.cmp.Ordering.{Ordering}
use Rattle.justfile_vocabulary.specs.contracts.format_string_part.FormatStringPartOrd.TheImpl.Laws.{total-law as part_total}
use Rattle.justfile_token.specs.contracts.string_kind.StringDelimiterOrd.TheImpl.Laws.{total-law as delimiter_total}
use Rattle.justfile_vocabulary.specs.contracts.token_kind.TokenKindOrd.TheImpl.Laws.{total-law as kind_total}
use Rattle.justfile_vocabulary.specs.contracts.signal.SignalOrd.TheImpl as signals
use Rattle.justfile_vocabulary.specs.contracts.signal.SignalOrd.TheImpl.Laws.{total-law as signal_total}
use Rattle.justfile_vocabulary.specs.declared.signal.Signal.{Signal}
use Rattle.justfile_token.specs.declared.string_kind.StringKind.{StringKind}
use Rattle.justfile_model.specs.contracts.conditional_operator.ConditionalOperatorOrd.TheImpl as operators
use Rattle.justfile_model.specs.contracts.conditional_operator.ConditionalOperatorOrd.TheImpl.Laws.{total-law as operator_total}
use Rattle.justfile_model.specs.declared.conditional_operator.ConditionalOperator.{ConditionalOperator}
use Rattle.justfile_model.specs.Trees.ContentLeaf.{TokenContent, LiteralContent, ContentLeaf, token, literal, operator, text, count, signal, unseen, leaf_place, content_cmp, token_content_cmp, literal_content_cmp, string_kind_cmp}
use Rattle.justfile_model.specs.Trees.KeyLaws.{then_end}

pub token_content_total : IsTotalOrder token_content_cmp
token_content_total = then_total (on_total (λ (t : TokenContent). t.kind) kind_total) (on_total (λ (t : TokenContent). t.lexeme) nat_list_cmp_total)

pub string_kind_total : IsTotalOrder string_kind_cmp
string_kind_total = then_total (on_total (λ (k : StringKind). k.delimiter) delimiter_total) (on_total (λ (k : StringKind). k.indented) bool_cmp_total)

pub literal_content_total : IsTotalOrder literal_content_cmp
literal_content_total =
    then_total (on_total (λ (l : LiteralContent). l.cooked) nat_list_cmp_total)
    (then_total (on_total (λ (l : LiteralContent). l.expand) bool_cmp_total)
    (then_total (on_total (λ (l : LiteralContent). l.kind) string_kind_total)
    (then_total (on_total (λ (l : LiteralContent). l.part) (options_total part_total))
    (on_total (λ (l : LiteralContent). l.token) token_content_total))))

-- ---- the leaves

abbrev token_in : ContentLeaf → Option TokenContent
token_in (token x) = Some x
token_in _ = None

abbrev literal_in : ContentLeaf → Option LiteralContent
literal_in (literal x) = Some x
literal_in _ = None

abbrev operator_in : ContentLeaf → Option ConditionalOperator
operator_in (operator x) = Some x
operator_in _ = None

abbrev text_in : ContentLeaf → Option (List ℕ)
text_in (text x) = Some x
text_in _ = None

abbrev count_in : ContentLeaf → Option ℕ
count_in (count x) = Some x
count_in _ = None

abbrev signal_in : ContentLeaf → Option Signal
signal_in (signal x) = Some x
signal_in _ = None

abbrev by_kind : ContentLeaf → ContentLeaf → Ordering
by_kind x y =
    ordering_then (nat_cmp (leaf_place x) (leaf_place y))
    (ordering_then (option_cmp token_content_cmp (token_in x) (token_in y))
    (ordering_then (option_cmp literal_content_cmp (literal_in x) (literal_in y))
    (ordering_then (option_cmp operators.cmp-value.it (operator_in x) (operator_in y))
    (ordering_then (option_cmp (slice_cmp nat_cmp) (text_in x) (text_in y))
    (ordering_then (option_cmp nat_cmp (count_in x) (count_in y))
    (option_cmp signals.cmp-value.it (signal_in x) (signal_in y)))))))

same : (x y : ContentLeaf) → by_kind x y ≡ content_cmp x y
same (token a) (token b) = then_end _
same (token a) _ = refl
same (literal a) (literal b) = then_end _
same (literal a) _ = refl
same (operator a) (operator b) = then_end _
same (operator a) _ = refl
same (text a) (text b) = then_end _
same (text a) _ = refl
same (count a) (count b) = then_end _
same (count a) _ = refl
same (signal a) (signal b) = refl
same (signal a) _ = refl
same unseen (token b) = refl
same unseen (literal b) = refl
same unseen (operator b) = refl
same unseen (text b) = refl
same unseen (count b) = refl
same unseen (signal b) = refl
same unseen unseen = refl

pub content_total : IsTotalOrder content_cmp
content_total =
    subst IsTotalOrder (λ i x y. same x y i)
    (then_total (on_total leaf_place nat_cmp_total)
    (then_total (on_total token_in (options_total token_content_total))
    (then_total (on_total literal_in (options_total literal_content_total))
    (then_total (on_total operator_in (options_total operator_total))
    (then_total (on_total text_in (options_total nat_list_cmp_total))
    (then_total (on_total count_in (options_total nat_cmp_total))
    (on_total signal_in (options_total signal_total))))))))
