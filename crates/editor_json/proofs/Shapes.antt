-- The text of data reads back as the data.
use Rattle.std.proofs.Common.{◌≡◌, ◌∙◌, ◌≤◌, ℕ, zero, suc, ◌++◌, Bool, true, false, ◌&&◌, List, [], Option, Some, pos, negsuc, Ordering, Less, Equal, Greater, refl, sym, ap, arith, append-nil}
use Rattle.std.specs.Prelude.{option_and_then, option_map}
use Rattle.std.specs.Cmp.Lexicographic.{slice_cmp}
use Rattle.std.specs.Ordering.{is_gt, match_ordering, nat_cmp}
use Rattle.std.proofs.lemmas.Bool.{and_parts}
use Rattle.json.specs.Json as json
use Rattle.json.specs.Token.{Token}
use Rattle.json.specs.Tree as tree
use Rattle.json.specs.Print.{IsNumber}
use Rattle.json.specs.Lex.{tokens}
use Rattle.json.proofs.Printed.Decimals.{IsNumber-decimal, IsNumber-signed_decimal}
use Rattle.json.proofs.Printed.Tokens.{tokens-print}
use Rattle.json.proofs.Printed.Trees.{ArePrintable-json_tokens, value-json_tokens}
use Rattle.serde_json.specs.Data.{Num, unsigned, negative, float, Data, null, boolean, number, string, array, object, Items, no_items, item, Members, no_members, member, put}
use Rattle.serde_json.specs.Read.{max_depth, number_of, of_json, of_items, of_members, read}
use Rattle.serde_json.specs.Written.{compact_text, items_outline, members_outline, number_text, outline}
use Rattle.serde_json.proofs.Numbers.{number_of-decimal, number_of-negative}
use Rattle.serde_json.proofs.Texts.{print-outline}
use Rattle.editor_json.specs.Integers.{IsInteger, HasIntegers, ItemsHaveIntegers, MembersHaveIntegers}

-- a key comes after each of these members'
abbrev is_after : Members → List ℕ → Bool
is_after no_members k = true
is_after (member l d ms) k = is_gt (slice_cmp nat_cmp k l) && is_after ms k

-- with a member at the end
abbrev onto : Members → List ℕ → Data → Members
onto no_members k d = member k d no_members
onto (member l e ms) k d = member l e (onto ms k d)

abbrev joined : Members → Members → Members
joined no_members others = others
joined (member k d ms) others = member k d (joined ms others)

joined_onto : (ms : Members) (k : List ℕ) (d : Data) (others : Members) → joined (onto ms k d) others ≡ joined ms (member k d others)
joined_onto no_members k d others = refl
joined_onto (member l e ms) k d others = ap (member l e) (joined_onto ms k d others)

joined_none : (ms : Members) → ms ≡ joined ms no_members
joined_none no_members = refl
joined_none (member k d ms) = ap (member k d) (joined_none ms)

put_at : (o : Ordering) (a b c : Members) → is_gt o ≡ true → match_ordering o a b c ≡ c
put_at Less a b c h = absurd cc
put_at Equal a b c h = absurd cc
put_at Greater a b c h = refl

-- a key that comes after the others goes to the end
put_after : (ms : Members) (k : List ℕ) (d : Data) → is_after ms k ≡ true → put k d ms ≡ onto ms k d
put_after no_members k d h = refl
put_after (member l e ms) k d h =
    let both = and_parts (is_gt (slice_cmp nat_cmp k l)) (is_after ms k) h in
    put_at (slice_cmp nat_cmp k l) _ _ _ both.0 ∙ ap (member l e) (put_after ms k d both.1)

-- data that nest no deeper than the number, with the keys of each object in order
abbrev mutual
  pub is_shaped : ℕ → Data → Bool
  is_shaped zero null = true
  is_shaped zero (boolean b) = true
  is_shaped zero (number n) = true
  is_shaped zero (string s) = true
  is_shaped zero (array ds) = false
  is_shaped zero (object ms) = false
  is_shaped (suc n) null = true
  is_shaped (suc n) (boolean b) = true
  is_shaped (suc n) (number x) = true
  is_shaped (suc n) (string s) = true
  is_shaped (suc n) (array ds) = items_shaped n ds
  is_shaped (suc n) (object ms) = members_shaped n no_members ms

  pub items_shaped : ℕ → Items → Bool
  items_shaped n no_items = true
  items_shaped n (item d ds) = is_shaped n d && items_shaped n ds

  -- behind these members
  pub members_shaped : ℕ → Members → Members → Bool
  members_shaped n before no_members = true
  members_shaped n before (member k d ms) = is_after before k && (is_shaped n d && members_shaped n (onto before k d) ms)

number_read : (n : Num) → IsInteger n → number_of (number_text n) ≡ Some n
number_read (unsigned n) h = number_of-decimal n h
number_read (negative (pos n)) h = absurd h
number_read (negative (negsuc n)) h = number_of-negative n h
number_read (float x) h = absurd h

mutual
  data_read : (n : ℕ) (d : Data) → HasIntegers d → is_shaped n d ≡ true → of_json (outline d) ≡ Some d
  data_read zero null h s = refl
  data_read zero (boolean b) h s = refl
  data_read zero (number x) h s = ap (option_map number) (number_read x h)
  data_read zero (string t) h s = refl
  data_read zero (array ds) h s = absurd cc
  data_read zero (object ms) h s = absurd cc
  data_read (suc n) null h s = refl
  data_read (suc n) (boolean b) h s = refl
  data_read (suc n) (number x) h s = ap (option_map number) (number_read x h)
  data_read (suc n) (string t) h s = refl
  data_read (suc n) (array ds) h s = ap (option_map array) (items_read n ds h s)
  data_read (suc n) (object ms) h s = ap (option_map object) (members_read n no_members ms h s)

  items_read : (n : ℕ) (ds : Items) → ItemsHaveIntegers ds → items_shaped n ds ≡ true → of_items (items_outline ds) ≡ Some ds
  items_read n no_items h s = refl
  items_read n (item d ds) h s =
      let both = and_parts (is_shaped n d) (items_shaped n ds) s in
      ap (option_and_then (λ e. option_map (item e) (of_items (items_outline ds)))) (data_read n d h.0 both.0)
      ∙ ap (option_map (item d)) (items_read n ds h.1 both.1)

  members_read : (n : ℕ) (before ms : Members) → MembersHaveIntegers ms → members_shaped n before ms ≡ true → of_members (members_outline ms) before ≡ Some (joined before ms)
  members_read n before no_members h s = ap Some (joined_none before)
  members_read n before (member k d ms) h s =
      let first = and_parts (is_after before k) (is_shaped n d && members_shaped n (onto before k d) ms) s in
      let others = and_parts (is_shaped n d) (members_shaped n (onto before k d) ms) first.1 in
      ap (option_and_then (λ e. of_members (members_outline ms) (put k e before))) (data_read n d h.0 others.0)
      ∙ ap (of_members (members_outline ms)) (put_after before k d first.0)
      ∙ members_read n (onto before k d) ms h.1 others.1
      ∙ ap Some (joined_onto before k d ms)

number_number : (n : Num) → IsInteger n → IsNumber (number_text n)
number_number (unsigned n) h = IsNumber-decimal n h
number_number (negative (pos n)) h = absurd h
number_number (negative (negsuc n)) h = IsNumber-signed_decimal (negsuc n) h
number_number (float x) h = absurd h

mutual
  has_numbers : (d : Data) → HasIntegers d → tree.HasNumbers (outline d)
  has_numbers null h = tt
  has_numbers (boolean b) h = tt
  has_numbers (number n) h = number_number n h
  has_numbers (string s) h = tt
  has_numbers (array ds) h = items_have_numbers ds h
  has_numbers (object ms) h = members_have_numbers ms h

  items_have_numbers : (ds : Items) → ItemsHaveIntegers ds → tree.ItemsHaveNumbers (items_outline ds)
  items_have_numbers no_items h = tt
  items_have_numbers (item d ds) h = (has_numbers d h.0, items_have_numbers ds h.1)

  members_have_numbers : (ms : Members) → MembersHaveIntegers ms → tree.MembersHaveNumbers (members_outline ms)
  members_have_numbers no_members h = tt
  members_have_numbers (member k d ms) h = (has_numbers d h.0, members_have_numbers ms h.1)

mutual
  is_shallow : (n : ℕ) (d : Data) → is_shaped n d ≡ true → tree.depth (outline d) ≤ n
  is_shallow zero null s = omega arith
  is_shallow zero (boolean b) s = omega arith
  is_shallow zero (number x) s = omega arith
  is_shallow zero (string t) s = omega arith
  is_shallow zero (array ds) s = absurd cc
  is_shallow zero (object ms) s = absurd cc
  is_shallow (suc n) null s = omega arith
  is_shallow (suc n) (boolean b) s = omega arith
  is_shallow (suc n) (number x) s = omega arith
  is_shallow (suc n) (string t) s = omega arith
  is_shallow (suc n) (array ds) s = omega (arith, items_shallow n ds s)
  is_shallow (suc n) (object ms) s = omega (arith, members_shallow n no_members ms s)

  items_shallow : (n : ℕ) (ds : Items) → items_shaped n ds ≡ true → tree.items_depth (items_outline ds) ≤ n
  items_shallow n no_items s = omega arith
  items_shallow n (item d ds) s =
      let both = and_parts (is_shaped n d) (items_shaped n ds) s in
      omega (arith, is_shallow n d both.0, items_shallow n ds both.1)

  members_shallow : (n : ℕ) (before ms : Members) → members_shaped n before ms ≡ true → tree.members_depth (members_outline ms) ≤ n
  members_shallow n before no_members s = omega arith
  members_shallow n before (member k d ms) s =
      let first = and_parts (is_after before k) (is_shaped n d && members_shaped n (onto before k d) ms) s in
      let others = and_parts (is_shaped n d) (members_shaped n (onto before k d) ms) first.1 in
      omega (arith, is_shallow n d others.0, members_shallow n (onto before k d) ms others.1)

abbrev value_of : Option (json.Json × List Token) → Option Data
value_of o = option_and_then of_json (option_and_then (λ p. json.if_last p.0 p.1) o)

pub reads_back : (d : Data) → is_shaped max_depth d ≡ true → HasIntegers d → read (compact_text d) ≡ Some d
reads_back d s h =
    let ts = tree.json_tokens (outline d) in
    let found : tokens (compact_text d) ≡ ts ++ [] =
    ap tokens (sym (print-outline d)) ∙ tokens-print ts (ArePrintable-json_tokens (outline d) (has_numbers d h)) ∙ sym (append-nil ts) in
    ap (λ us. value_of (json.value max_depth us)) found
    ∙ ap value_of (value-json_tokens (outline d) max_depth [] (is_shallow max_depth d s))
    ∙ data_read max_depth d h s
