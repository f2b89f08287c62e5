-- Comparisons of expressions with several parts. Vectors compare by their items.
use mathlib.Core.Former.{Count}
use Rattle.std.proofs.Common.{◌≡◌, ◌∙◌, ℕ, zero, suc, ◌≤◌, List, [], ◌∷◌, Option, Some, None, length, drop, refl, sym, ap, arith}
use Rattle.std.specs.Cmp.Lexicographic.{slice_cmp}
use Rattle.std.specs.Global.{Box, Vec}
use Rattle.std.specs.Ordering.{nat_cmp, on, ordering_then}
use Rattle.std.specs.declared.cmp.Ordering.{Ordering}
use Rattle.std.specs.declared.cmp.Ordering.TheVariants.{Less, Equal, Greater}
use Rattle.std.proofs.lemmas.Bool.Decides.{nat_tests}
use Rattle.justfile_token.specs.declared.name.Name.{Name}
use Rattle.justfile_token.specs.declared.token.Token.{Token}
use Rattle.justfile_token.specs.declared.string_literal.StringLiteral.{StringLiteral}
use Rattle.justfile_model.specs.Trees.ExpressionCases.{case_node}
use Rattle.justfile_model.specs.Trees.Key.{Key, label, end, next, sequence, keys_of, key_cmp, keys_cmp}
use Rattle.justfile_model.specs.declared.expression_case.ExpressionCase.TheVariants as cases
use Rattle.justfile_model.specs.Trees.KeyLaws.{then_end}
use Rattle.justfile_model.specs.declared.conditional_operator.ConditionalOperator.{ConditionalOperator}
use Rattle.justfile_expression.specs.Content.{leaf_order}
use Rattle.justfile_expression.specs.Leaf.{KeyLeaf, operator, text, token, operator_cmp, token_key, literal_key}
use Rattle.justfile_model.specs.Trees.ContentLeaf.{text_cmp}
use Rattle.justfile_expression.specs.Order.{key, option_key, part_key, row_keys, row_parts}
use Rattle.justfile_expression.specs.OrderSteps.{left_key, option_presence}
use Rattle.justfile_expression.specs.declared.leaf_order.LeafOrder.{LeafOrder}
use Rattle.justfile_expression.specs.declared.leaf_order.LeafOrder.TheVariants.{Whole, Content}
use Rattle.justfile_expression.specs.declared.expression.Expression.{Expression, Assert, Call, Conditional, FormatString, List as List_of, Row_of-Expression as ExpressionRow, end_of-Expression as row_end, more_of-Expression as row_more, Row_of-Expression-FormatString-1-2 as FormatRow, end_of-Expression-FormatString-1-2 as format_row_end, more_of-Expression-FormatString-1-2 as format_row_more, items-the_row-Expression, items-the_row-Expression-FormatString-1-2, items_hidden-the_row-Expression-0, items_hidden-the_row-Expression-FormatString-1-2-1}
use Rattle.justfile_expression.proofs.ExpressionRows.{row_of, part_row_of}

module _ {X : Type 0} (R : X → X → Ordering) where
  shift : (a b : ℕ) → nat_cmp a b ≡ nat_cmp (suc a) (suc b)
  shift a b = grind (arith, nat_tests)

  tail : (xs ys : List X) (i : ℕ) → length xs ≤ i → i ≤ length xs → i ≤ length ys → slice_cmp R (drop i xs) (drop i ys) ≡ nat_cmp (length xs) (length ys)
  tail [] [] zero h k l = refl
  tail [] (y ∷ ys) zero h k l = grind (arith, nat_tests)
  tail [] ys (suc i) h k l = absurd (omega arith)
  tail (x ∷ xs) ys zero h k l = absurd (omega arith)
  tail (x ∷ xs) [] (suc i) h k l = absurd (omega arith)
  tail (x ∷ xs) (y ∷ ys) (suc i) h k l = tail xs ys i (omega arith) (omega arith) (omega arith) ∙ shift (length xs) (length ys)

  -- if the first list ends, the lengths decide; zs is the first list as the loop has it
  pub at_end : (xs zs ys : List X) (i m n : ℕ) (r : Ordering) → zs ≡ xs → m ≡ length xs → n ≡ length ys → length zs ≤ i → i ≤ length zs → i ≤ length ys
      → slice_cmp R (drop i zs) (drop i ys) ≡ slice_cmp R zs ys → r ≡ nat_cmp m n → r ≡ slice_cmp R xs ys
  at_end xs zs ys i m n r z a b h k l w e =
      e ∙ (λ j. nat_cmp ((a ∙ ap length (sym z)) j) (b j)) ∙ sym (tail zs ys i h k l) ∙ w ∙ ap (λ q. slice_cmp R q ys) z

-- ---- three comparisons, as a chain that ends with `Equal`

pub then_then : (a b c : Ordering) → ordering_then (ordering_then a b) c ≡ ordering_then a (ordering_then b c)
then_then Less b c = refl
then_then Equal b c = refl
then_then Greater b c = refl

three_and_no_more : {a b c p q s o : Ordering} (r : Ordering) → p ≡ a → q ≡ b → s ≡ c → o ≡ ordering_then p q → r ≡ ordering_then o s
    → r ≡ ordering_then a (ordering_then b (ordering_then c Equal))
three_and_no_more {a} {b} {c} r e f g h k =
    k ∙ (λ i. ordering_then ((h ∙ (λ j. ordering_then (e j) (f j))) i) (g i)) ∙ then_then a b c ∙ ap (λ z. ordering_then a (ordering_then b z)) (sym (then_end c))

-- ---- leaves that compare equally in both orders

pub operators_either_way : (leaves : LeafOrder) (o p : ConditionalOperator) → leaf_order leaves (operator o) (operator p) ≡ operator_cmp o p
unfolding leaf_order
operators_either_way Whole o p = refl
operators_either_way Content o p = refl

pub texts_either_way : (leaves : LeafOrder) (xs ys : List ℕ) → leaf_order leaves (text xs) (text ys) ≡ text_cmp xs ys
unfolding leaf_order
texts_either_way Whole xs ys = refl
texts_either_way Content xs ys = refl

-- ---- the keys of expressions with a vector or an option

listed : {X : Type 0} (R : KeyLeaf → KeyLeaf → Ordering) (key_of : X → Key KeyLeaf) (xs ys : List X)
    → keys_cmp R (keys_of key_of xs) (keys_of key_of ys) ≡ slice_cmp (on key_of (key_cmp R)) xs ys
listed R key_of [] [] = refl
listed R key_of [] (y ∷ ys) = refl
listed R key_of (x ∷ xs) [] = refl
listed R key_of (x ∷ xs) (y ∷ ys) = ap (ordering_then (key_cmp R (key_of x) (key_of y))) (listed R key_of xs ys)

row_is : (n : Count) (items : ExpressionRow n) → row_keys items ≡ keys_of key (items-the_row-Expression n items)
row_is n row_end = refl
row_is n (row_more e others) = ap (next (key e)) (row_is _ others)

parts_are : (n : Count) (items : FormatRow n) → row_parts items ≡ keys_of part_key (items-the_row-Expression-FormatString-1-2 n items)
parts_are n format_row_end = refl
parts_are n (format_row_more e part others) = ap (next (part_key (e, part))) (parts_are _ others)

abbrev call_key : Name → List Expression → Key KeyLeaf
call_key name arguments = case_node cases.Call (next (token_key name.token) (next (sequence (keys_of key arguments)) end))

abbrev format_key : StringLiteral → List (Expression × StringLiteral) → Key KeyLeaf
format_key start expressions = case_node cases.FormatString (next (literal_key start) (next (sequence (keys_of part_key expressions)) end))

abbrev assert_key : Expression → Option (Box Expression) → Name → Key KeyLeaf
assert_key condition message name = case_node cases.Assert (next (key condition) (next (option_key message) (next (token_key name.token) end)))

abbrev conditional_key : (condition branch : Expression) → Option (Box Expression) → Key KeyLeaf
conditional_key condition branch otherwise =
    case_node cases.Conditional (next (key condition) (next (key branch) (next (option_presence otherwise) end)))

abbrev list_key : List Expression → Token → Key KeyLeaf
list_key elements opener = case_node cases.List (next (sequence (keys_of key elements)) (next (token_key opener) end))

key_assert : (condition : Box Expression) (message : Option (Box Expression)) (name : Name) → assert_key condition.value message name ≡ key (Assert condition message name)
key_assert condition None name = refl
key_assert condition (Some message) name = refl

key_conditional : (condition branch : Box Expression) (otherwise : Option (Box Expression))
    → conditional_key condition.value branch.value otherwise ≡ left_key (Conditional condition branch otherwise)
key_conditional condition branch None = refl
key_conditional condition branch (Some otherwise) = refl

key_call : (name : Name) (v : Vec Expression) → call_key name v.items ≡ key (Call name v)
key_call name v =
    let items = row_of (Call name v) in
    ap (λ ks. case_node cases.Call (next (token_key name.token) (next (sequence ks) end))) (sym (row_is items.0 items.1 ∙ ap (keys_of key) (items_hidden-the_row-Expression-0 v)))

key_format : (start : StringLiteral) (v : Vec (Expression × StringLiteral)) → format_key start v.items ≡ key (FormatString start v)
key_format start v =
    let items = part_row_of (FormatString start v) in
    ap (λ ks. case_node cases.FormatString (next (literal_key start) (next (sequence ks) end))) (sym (parts_are items.0 items.1 ∙ ap (keys_of part_key) (items_hidden-the_row-Expression-FormatString-1-2-1 v)))

key_list : (v : Vec Expression) (opener : Token) → list_key v.items opener ≡ key (List_of v opener)
key_list v opener =
    let items = row_of (List_of v opener) in
    ap (λ ks. case_node cases.List (next (sequence ks) (next (token_key opener) end))) (sym (row_is items.0 items.1 ∙ ap (keys_of key) (items_hidden-the_row-Expression-0 v)))

-- ---- the result of the function of each case, if leaves compare by R

module _ (R : KeyLeaf → KeyLeaf → Ordering) where
  pub from_assert : (condition : Box Expression) (message : Option (Box Expression)) (name : Name) (k : Key KeyLeaf) (r : Ordering)
      → r ≡ key_cmp R (assert_key condition.value message name) k → r ≡ key_cmp R (key (Assert condition message name)) k
  from_assert condition message name k r e = e ∙ ap (λ l. key_cmp R l k) (key_assert condition message name)

  pub from_conditional : (condition branch : Box Expression) (otherwise : Option (Box Expression)) (k : Key KeyLeaf) (r : Ordering)
      → r ≡ key_cmp R (conditional_key condition.value branch.value otherwise) k → r ≡ key_cmp R (left_key (Conditional condition branch otherwise)) k
  from_conditional condition branch otherwise k r e = e ∙ ap (λ l. key_cmp R l k) (key_conditional condition branch otherwise)

  pub from_call : (name : Name) (v : Vec Expression) (k : Key KeyLeaf) (r : Ordering) → r ≡ key_cmp R (call_key name v.items) k → r ≡ key_cmp R (key (Call name v)) k
  from_call name v k r e = e ∙ ap (λ l. key_cmp R l k) (key_call name v)

  pub from_format : (start : StringLiteral) (v : Vec (Expression × StringLiteral)) (k : Key KeyLeaf) (r : Ordering) → r ≡ key_cmp R (format_key start v.items) k → r ≡ key_cmp R (key (FormatString start v)) k
  from_format start v k r e = e ∙ ap (λ l. key_cmp R l k) (key_format start v)

  pub from_list : (v : Vec Expression) (opener : Token) (k : Key KeyLeaf) (r : Ordering) → r ≡ key_cmp R (list_key v.items opener) k → r ≡ key_cmp R (key (List_of v opener)) k
  from_list v opener k r e = e ∙ ap (λ l. key_cmp R l k) (key_list v opener)

  presences : (m n : Option (Box Expression)) → nat_cmp (label (option_presence m)) (label (option_presence n)) ≡ key_cmp R (option_presence m) (option_presence n)
  presences None None = refl
  presences None (Some n) = refl
  presences (Some m) None = refl
  presences (Some m) (Some n) = refl

  -- two expressions of the same case, by their fields: p compares the first ones, and q the second ones

  pub both_asserts : (e : Expression) (m : Option (Box Expression)) (name : Name) (condition : Box Expression) (message : Option (Box Expression)) (other : Name)
      (p q s o r : Ordering) → p ≡ key_cmp R (key e) (key condition.value) → q ≡ key_cmp R (option_key m) (option_key message)
      → s ≡ R (token name.token) (token other.token) → o ≡ ordering_then p q → r ≡ ordering_then o s
      → r ≡ key_cmp R (assert_key e m name) (key (Assert condition message other))
  both_asserts e m name condition message other p q s o r f g h i j =
      three_and_no_more r f g h i j ∙ ap (key_cmp R (assert_key e m name)) (key_assert condition message other)

  pub both_conditionals : (e b : Expression) (m : Option (Box Expression)) (condition branch : Box Expression) (otherwise : Option (Box Expression))
      (p q s o r : Ordering) → p ≡ key_cmp R (key e) (key condition.value) → q ≡ key_cmp R (key b) (key branch.value)
      → s ≡ nat_cmp (label (option_presence m)) (label (option_presence otherwise)) → o ≡ ordering_then p q → r ≡ ordering_then o s
      → r ≡ key_cmp R (conditional_key e b m) (left_key (Conditional condition branch otherwise))
  both_conditionals e b m condition branch otherwise p q s o r f g h i j =
      three_and_no_more r f g (h ∙ presences m otherwise) i j ∙ ap (key_cmp R (conditional_key e b m)) (key_conditional condition branch otherwise)

  pub both_calls : (name other : Name) (xs : List Expression) (v : Vec Expression) (p q r : Ordering)
      → p ≡ key_cmp R (token_key name.token) (token_key other.token) → q ≡ slice_cmp (on key (key_cmp R)) xs v.items → r ≡ ordering_then p q
      → r ≡ key_cmp R (call_key name xs) (key (Call other v))
  both_calls name other xs v p q r e f g =
      g ∙ (λ i. ordering_then (e i) ((f ∙ sym (listed R key xs v.items) ∙ sym (then_end (keys_cmp R (keys_of key xs) (keys_of key v.items)))) i)) ∙ ap (key_cmp R (call_key name xs)) (key_call other v)

  pub both_formats : (start other : StringLiteral) (xs : List (Expression × StringLiteral)) (v : Vec (Expression × StringLiteral)) (p q r : Ordering)
      → p ≡ key_cmp R (literal_key start) (literal_key other) → q ≡ slice_cmp (on part_key (key_cmp R)) xs v.items → r ≡ ordering_then p q
      → r ≡ key_cmp R (format_key start xs) (key (FormatString other v))
  both_formats start other xs v p q r e f g =
      g ∙ (λ i. ordering_then (e i) ((f ∙ sym (listed R part_key xs v.items) ∙ sym (then_end (keys_cmp R (keys_of part_key xs) (keys_of part_key v.items)))) i)) ∙ ap (key_cmp R (format_key start xs)) (key_format other v)

  pub both_lists : (opener other : Token) (xs : List Expression) (v : Vec Expression) (p q r : Ordering)
      → p ≡ slice_cmp (on key (key_cmp R)) xs v.items → q ≡ key_cmp R (token_key opener) (token_key other) → r ≡ ordering_then p q
      → r ≡ key_cmp R (list_key xs opener) (key (List_of v other))
  both_lists opener other xs v p q r e f g =
      g ∙ (λ i. ordering_then ((e ∙ sym (listed R key xs v.items)) i) ((f ∙ sym (then_end (key_cmp R (token_key opener) (token_key other)))) i)) ∙ ap (key_cmp R (list_key xs opener)) (key_list v other)
