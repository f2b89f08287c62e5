-- Values that compare as equal are equal, and so are keys if this holds for their leaves.
use Rattle.std.proofs.Common.{◌≡◌, ◌∙◌, true, false, Some, None, refl, sym, ap}
use denote.Enum.Bare.{same_true}
use Rattle.std.specs.Cmp.Derive.{bare_tied}
use Rattle.std.specs.Cmp.Lexicographic.{slice_cmp}
use Rattle.std.specs.Option.{option_cmp}
use Rattle.std.specs.Ordering.{bool_cmp, is_eq, nat_cmp}
use Rattle.std.specs.Prelude.{◌↔◌}
use Rattle.std.specs.declared.cmp.Ordering.{Ordering}
use Rattle.std.specs.declared.cmp.Ordering.TheVariants.{Equal}
use Rattle.std.proofs.lemmas.Cmp.{tied_itself}
use Rattle.std.proofs.lemmas.Map.Lookups.{CmpEqualImpliesEq, exact_bytes, exact_unsigned}
use Rattle.justfile_vocabulary.specs.contracts.format_string_part.FormatStringPart as parts
use Rattle.justfile_vocabulary.specs.contracts.format_string_part.FormatStringPartOrd.TheImpl as part_order
use Rattle.justfile_token.specs.contracts.string_kind.StringDelimiter as delimiters
use Rattle.justfile_token.specs.contracts.string_kind.StringDelimiterOrd.TheImpl as delimiter_order
use Rattle.justfile_vocabulary.specs.contracts.signal.Signal as signals
use Rattle.justfile_vocabulary.specs.contracts.signal.SignalOrd.TheImpl as signal_order
use Rattle.justfile_vocabulary.specs.contracts.token_kind.TokenKind as kinds
use Rattle.justfile_vocabulary.specs.contracts.token_kind.TokenKindOrd.TheImpl as kind_order
use Rattle.justfile_model.specs.contracts.conditional_operator.ConditionalOperator as operators
use Rattle.justfile_model.specs.contracts.conditional_operator.ConditionalOperatorOrd.TheImpl as operator_order
use Rattle.justfile_model.specs.Trees.ContentLeaf.{ContentLeaf, token, literal, operator, text, count, signal, unseen, content_cmp, token_content_cmp, literal_content_cmp, string_kind_cmp}
use Rattle.justfile_model.specs.Trees.ContentLeafLaws.{content_total}
use Rattle.justfile_model.specs.Trees.Key.{Key, Keys, leaf, node, end, next, key_cmp, keys_cmp, map_key}
use Rattle.justfile_model.specs.Trees.KeyLaws.{then_equal, key_total, mapped_key_cmp}

-- ---- the parts of a leaf

kind_exact : CmpEqualImpliesEq kind_order.cmp-value.it
kind_exact a b e = same_true kinds.the_type tt a b ((bare_tied kinds.enum).ties a b ∙ ap is_eq e)

delimiter_exact : CmpEqualImpliesEq delimiter_order.cmp-value.it
delimiter_exact a b e = same_true delimiters.the_type tt a b ((bare_tied delimiters.enum).ties a b ∙ ap is_eq e)

part_exact : CmpEqualImpliesEq part_order.cmp-value.it
part_exact a b e = same_true parts.the_type tt a b ((bare_tied parts.enum).ties a b ∙ ap is_eq e)

signal_exact : CmpEqualImpliesEq signal_order.cmp-value.it
signal_exact a b e = same_true signals.the_type tt a b ((bare_tied signals.enum).ties a b ∙ ap is_eq e)

operator_exact : CmpEqualImpliesEq operator_order.cmp-value.it
operator_exact a b e = same_true operators.the_type tt a b ((bare_tied operators.enum).ties a b ∙ ap is_eq e)

bool_exact : CmpEqualImpliesEq bool_cmp
bool_exact true true e = refl
bool_exact false false e = refl
bool_exact _ _ e = cc

option_exact : {X : Type 0} (R : X → X → Ordering) → CmpEqualImpliesEq R → CmpEqualImpliesEq (option_cmp R)
option_exact R exact None None e = refl
option_exact R exact (Some x) (Some y) e = ap (λ z. Some z) (exact x y e)
option_exact R exact _ _ e = cc

token_content_exact : CmpEqualImpliesEq token_content_cmp
token_content_exact s t e =
    let o = then_equal (kind_order.cmp-value.it s.kind t.kind) (slice_cmp nat_cmp s.lexeme t.lexeme) e in
    let kind = kind_exact s.kind t.kind o.0 in
    let lexeme = exact_bytes s.lexeme t.lexeme o.1 in
    λ i. record { kind = kind i; lexeme = lexeme i }

string_kind_exact : CmpEqualImpliesEq string_kind_cmp
string_kind_exact k l e =
    let o = then_equal (delimiter_order.cmp-value.it k.delimiter l.delimiter) (bool_cmp k.indented l.indented) e in
    let delimiter = delimiter_exact k.delimiter l.delimiter o.0 in
    let indented = bool_exact k.indented l.indented o.1 in
    λ i. record { delimiter = delimiter i; indented = indented i }

literal_content_exact : CmpEqualImpliesEq literal_content_cmp
literal_content_exact k l e =
    let o = then_equal (slice_cmp nat_cmp k.cooked l.cooked) _ e in
    let p = then_equal (bool_cmp k.expand l.expand) _ o.1 in
    let q = then_equal (string_kind_cmp k.kind l.kind) _ p.1 in
    let r = then_equal (option_cmp part_order.cmp-value.it k.part l.part) (token_content_cmp k.token l.token) q.1 in
    let cooked = exact_bytes k.cooked l.cooked o.0 in
    let expand = bool_exact k.expand l.expand p.0 in
    let kind = string_kind_exact k.kind l.kind q.0 in
    let part = option_exact part_order.cmp-value.it part_exact k.part l.part r.0 in
    let token = token_content_exact k.token l.token r.1 in
    λ i. record { cooked = cooked i; expand = expand i; kind = kind i; part = part i; token = token i }

-- ---- the leaves

-- a leaf isn't a leaf of another kind
pub content_exact : CmpEqualImpliesEq content_cmp
content_exact (token s) (token t) e = ap (λ z. token z) (token_content_exact s t e)
content_exact (literal k) (literal l) e = ap (λ z. literal z) (literal_content_exact k l e)
content_exact (operator o) (operator p) e = ap (λ z. operator z) (operator_exact o p e)
content_exact (text xs) (text ys) e = ap (λ z. text z) (exact_bytes xs ys e)
content_exact (count m) (count n) e = ap (λ z. count z) (exact_unsigned m n e)
content_exact (signal s) (signal t) e = ap (λ z. signal z) (signal_exact s t e)
content_exact unseen unseen e = refl
content_exact _ _ e = cc

-- ---- the keys

module _ {L : Type 0} {leaf_cmp : L → L → Ordering} (exact : CmpEqualImpliesEq leaf_cmp) where
  mutual
    pub key_exact : (k l : Key L) → key_cmp leaf_cmp k l ≡ Equal → k ≡ l
    key_exact (leaf a) (leaf b) e = ap (λ z. leaf z) (exact a b e)
    key_exact (node m ks) (node n ls) e =
        let o = then_equal (nat_cmp m n) (keys_cmp leaf_cmp ks ls) e in
        λ i. node (exact_unsigned m n o.0 i) (keys_exact ks ls o.1 i)
    key_exact _ _ e = cc

    keys_exact : (ks ls : Keys L) → keys_cmp leaf_cmp ks ls ≡ Equal → ks ≡ ls
    keys_exact end end e = refl
    keys_exact (next k ks) (next l ls) e =
        let o = then_equal (key_cmp leaf_cmp k l) (keys_cmp leaf_cmp ks ls) e in
        λ i. next (key_exact k l o.0 i) (keys_exact ks ls o.1 i)
    keys_exact _ _ e = cc

-- by what their leaves hold two keys compare as equal exactly where they hold the same
pub same_content : {L : Type 0} (content_of : L → ContentLeaf) (k l : Key L)
    → (key_cmp (λ a b. content_cmp (content_of a) (content_of b)) k l ≡ Equal) ↔ (map_key content_of k ≡ map_key content_of l)
same_content content_of k l = (
  (λ e. key_exact content_exact _ _ (mapped_key_cmp content_cmp content_of k l ∙ e)),
  (λ e. sym (mapped_key_cmp content_cmp content_of k l) ∙ ap (key_cmp content_cmp (map_key content_of k)) (sym e) ∙ tied_itself (key_total content_total) (map_key content_of k)),
)
