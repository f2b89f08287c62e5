-- The counters move up by at most the number of identifiers that are read.
use Rattle.std.proofs.Common.{◌≡◌, ℕ, suc, ◌+◌, ◌≤◌, Bool, true, false, List, [], ◌∷◌, length, Some, None, Ok, Err, IfOk, refl, sym, ap, subst, arith}
use Rattle.justfile_token.specs.declared.token.Token.{Token}
use Rattle.justfile_vocabulary.specs.declared.token_kind.TokenKind.TheVariants as kinds
use Rattle.justfile_model.specs.Grammars.Conditions.{Conditions}
use Rattle.justfile_model.specs.Grammars.Expressions.{Tokens, BelowLimit}
use Rattle.justfile_model.specs.Grammars.Features.{ConstructFeatures}
use Rattle.justfile_model.specs.Grammars.Files.{item_bindings, item_recipes, to_tokens}
use Rattle.justfile_model.specs.Readers.Reader as files
use Rattle.justfile_model.specs.Readers.Reader.{has_body}
use Rattle.justfile_model.specs.Readers.ReaderState as reading
use Rattle.justfile_model.specs.Meanings.ReadAttribute.{ReadAttribute}
use Rattle.justfile_model.specs.Readers.ReaderState.{◌>>=◌, Counters, choose}
use Rattle.justfile_model.specs.Lexing.SignificantTokens.{identifiers}
use Rattle.justfile_model.specs.Lexing.Tok.{Tok}
use Rattle.justfile_model.specs.Trees.Tree as tree
use Rattle.justfile_model.specs.Trees.Tree.{OrderedItem, Parameter, WrittenItem, itself}
use Rattle.justfile_model.specs.Readers.TreeReader as model
use Rattle.justfile_model.specs.Readers.TreeReader.{token_attributes, token_leaves}
use Rattle.justfile_model.proofs.Derivations.AttributeProgress.{attribute_lines_count}
use Rattle.justfile_model.proofs.Sound.AttributeSound.{IsRead}
use Rattle.justfile_model.proofs.Readers.Counters.{count, counted_bindings, counted_constants, counted_recipes}
use Rattle.justfile_model.proofs.Readers.Counting.{block_counts, on_line_counts}
use Rattle.justfile_model.proofs.Relations.Natural as natural
use Rattle.justfile_model.proofs.Readers.ReadingSteps.{known}
use Rattle.justfile_model.proofs.Relations.Related as a
use Rattle.justfile_model.proofs.Relations.Related.{AlikeItem, AlikeNames, AlikeParameters, Each, Never, Related}
use Rattle.justfile_model.proofs.Sound.FileSound.{Starts, before_sound, of_block, of_comment, of_line, on_line_at}
use Rattle.justfile_parse_item.specs.ItemTable.{ReadItem, ReadItems, after_byte_order_mark, item_attributes, after_item, item_end, attribute_leaves, line, line_end, any_item}
use Rattle.justfile_parse_attribute.specs.AttributeTable.{Entries}
use Rattle.justfile_parse_expression.specs.TableReader.{Read, ReadError, State, accept, expect, leaves}
use Rattle.justfile_expression.specs.LeafTree.{Leaf}
use Rattle.justfile_parse_item.proofs.Anywhere.{Keeps, agree, keeps, rel, state_alike}
use Rattle.justfile_parse_expression.proofs.Anywhere.{table_tokens_are, state_seen}
use Rattle.justfile_parse_expression.proofs.FormatStrings.{IsNext, Taken, accepted}
use Rattle.justfile_parse_base.specs.Counting.{identifiers_left}
use Rattle.justfile_parse_base.proofs.Fewer.{Fewer, either_fewer, expect_fewer, fewer, fewer_at, then_fewer}

-- counters that move up by at most `before` less `following`, and constants that stay
pub record MovesBy (n m : Counters) (before following : ℕ) : Type 0 where
  pub least : n.bindings ≤ m.bindings
  pub recipes_least : n.recipes ≤ m.recipes
  pub most : m.bindings + m.recipes + following ≤ n.bindings + n.recipes + before
  pub constants : m.constants ≡ n.constants

-- ---- an item

counts_by : (n : Counters) (i : OrderedItem Leaf Token ℕ) (before following : ℕ) → item_bindings i + item_recipes i + following ≤ before → MovesBy n (count n i) before following
counts_by n i before following h = record {
  least = omega (arith, counted_bindings n (i ∷ []));
  recipes_least = omega (arith, counted_recipes n (i ∷ []));
  most = omega (arith, h, counted_bindings n (i ∷ []), counted_recipes n (i ∷ []));
  constants = counted_constants n (i ∷ []);
}

starts_count : (conditions : Conditions) {b : Bool} {i : WrittenItem Tok Tok ℕ Tok} {fs : List (ConstructFeatures Tok)} {ts rest : Tokens} → Starts conditions b i fs ts rest → item_bindings i + item_recipes i + identifiers rest ≤ identifiers ts
starts_count conditions (of_comment kind) = omega arith
starts_count conditions (of_line a h) = omega (arith, attribute_lines_count itself itself (BelowLimit conditions.limit) a, on_line_counts to_tokens (BelowLimit conditions.limit) h)
starts_count conditions (of_block a h) = omega (arith, attribute_lines_count itself itself (BelowLimit conditions.limit) a, block_counts to_tokens (BelowLimit conditions.limit) h)

module _ (n : Counters) (s : State) (open_none : s.depth ≡ 0) where
  same_parameters : {number : ℕ} {ps : List (Parameter Leaf Token)} {ps' : List (Parameter Tok Tok)} → AlikeParameters (rel s.run) number ps ps' → length ps ≡ length ps'
  same_parameters a.no_parameter = refl
  same_parameters (a.a_parameter h hs) = ap suc (same_parameters hs)

  same_names : {number : ℕ} {xs : List Leaf} {xs' : List Tok} → AlikeNames (rel s.run) number xs xs' → length xs ≡ length xs'
  same_names a.no_name = refl
  same_names (a.a_name h hs) = ap suc (same_names hs)

  same_count : {i : OrderedItem Leaf Token ℕ} {i' : WrittenItem Tok Tok ℕ Tok} → AlikeItem (rel s.run) n i i' → item_bindings i + item_recipes i ≡ item_bindings i' + item_recipes i'
  same_count (a.alias none h hs) = refl
  same_count (a.assignment none h e) = refl
  same_count a.comment = refl
  same_count (a.function none h hs e) = ap (λ (k : ℕ). k + 0) (same_names hs)
  same_count (a.import none h) = refl
  same_count (a.module_of none h o) = refl
  same_count a.newline = refl
  same_count (a.setting none h v) = refl
  same_count (a.unexport none h) = refl
  same_count (a.recipe none h comment body) = ap (λ (k : ℕ). k + 1) (same_parameters h.parameters)

  -- what begins a line takes an identifier for its number
  pub on_line_moves : (i : OrderedItem Leaf Token ℕ) (m : Counters) (rest : State) → any_item n s ≡ Ok ((i, m), rest) → MovesBy n m (identifiers_left s) (identifiers_left rest)
  on_line_moves i m rest found = by_law (any_item n s) (files.any_item token_leaves token_attributes n (state_seen s)) refl (natural.on_line_natural (rel s.run) leaves token_leaves (agree s.run) attribute_leaves token_attributes (Keeps s.run) (keeps s.run) n (state_alike s)) found
    where
      inside : (x y : (OrderedItem Leaf Token ℕ × Counters) × State) → ◌≡◌ {A = ReadItem} (Ok x) (Ok y) → x ≡ y
      inside x y h = cc

      no_read : (f : ReadError) (y : (OrderedItem Leaf Token ℕ × Counters) × State) → ◌≡◌ {A = ReadItem} (Err f) (Ok y) → ⊥
      no_read f y h = cc

      by_law : {Short : Counters → model.Read (WrittenItem Tok Tok ℕ Tok × Counters) → Type 0} (o : ReadItem) (o' : model.Read (WrittenItem Tok Tok ℕ Tok × Counters)) → files.any_item token_leaves token_attributes n (state_seen s) ≡ o'
          → Related (rel s.run) (natural.AlikeNumbered (rel s.run) leaves token_leaves (agree s.run) attribute_leaves token_attributes (Keeps s.run) (keeps s.run) n) Short o o' → o ≡ Ok ((i, m), rest) → MovesBy n m (identifiers_left s) (identifiers_left rest)
      by_law o o' is (a.both {x = x} {y = y} q k) same =
          let e = inside x ((i, m), rest) same in
          let d = on_line_at s.run.conditions n (state_seen s) y is (open_none, refl) in
          let count_of = starts_count s.run.conditions d.derived.derives in
          let moves : MovesBy n (count n x.0.0) (identifiers_left s) (identifiers_left x.1) = counts_by n x.0.0 (identifiers_left s) (identifiers_left x.1) (omega (arith, count_of, same_count q.0, ap (λ (ts : Tokens). identifiers ts) (table_tokens_are s.run k.left))) in
          let counted = subst (λ (c : Counters). MovesBy n c (identifiers_left s) (identifiers_left x.1)) (sym q.2) moves in
          subst (λ (z : (OrderedItem Leaf Token ℕ × Counters) × State). MovesBy n z.0.1 (identifiers_left s) (identifiers_left z.1)) e counted
      by_law o o' is (a.neither {e = f} h) same = absurd (no_read f ((i, m), rest) same)
      by_law o o' is (a.short {n = k} h) same = absurd (no_read (reading.NoNumber k) ((i, m), rest) same)
      by_law o o' is (a.deep {o = at} loose) same = absurd (no_read (reading.TooDeep at) ((i, m), rest) same)

-- ---- the attributes before a construct

-- they leave no more identifiers, where no expression is open
pub attributes_fewer : (s : State) (ws : Entries) (rest : State) → s.depth ≡ 0 → item_attributes s ≡ Ok (ws, rest) → identifiers_left rest ≤ identifiers_left s
attributes_fewer s ws rest open_none found =
    fewer_at {A = Entries} s (item_attributes s) (ws, rest)
    (by_law (item_attributes s) (files.attributes token_leaves token_attributes (state_seen s)) refl
    (natural.attributes_natural (rel s.run) leaves token_leaves (agree s.run) attribute_leaves token_attributes (Keeps s.run) (keeps s.run) (state_alike s))) found
  where
    by_law : (o : Read Entries) (o' : model.Read (List ReadAttribute)) → files.attributes token_leaves token_attributes (state_seen s) ≡ o'
        → Related (rel s.run) (Each (Keeps s.run)) (Never (rel s.run)) o o' → Fewer {A = Entries} s o
    by_law o o' is (a.both {x = x} {y = y} q k) =
        let read = known y (IsRead s.run.conditions (state_seen s)) is (before_sound s.run.conditions (state_seen s) (open_none, refl)) in
        omega (arith, attribute_lines_count itself itself (BelowLimit s.run.conditions.limit) read.derived.derives, ap (λ (ts : Tokens). identifiers ts) (table_tokens_are s.run k.left))
    by_law o o' is (a.neither h) = tt
    by_law o o' is (a.short h) = absurd h
    by_law o o' is (a.deep loose) = tt

-- ---- what ends it

abbrev Items : Type 0
Items = List (OrderedItem Leaf Token ℕ)

line_end_fewer : (s : State) → Fewer {A = Items} s (line_end s)
unfolding files.line_end
line_end_fewer s = go (accept kinds.Eof s)
  where
    go : (o : Taken) → Fewer {A = Items} s (choose {X = Read Items} o (expect kinds.Eol s >>= λ newline. Ok (tree.Newline ∷ [], newline.1)) (λ x. Ok ([], s)))
    go None = then_fewer {B = Items} s (expect kinds.Eol s) (λ newline. Ok (tree.Newline ∷ [], newline.1)) (expect_fewer kinds.Eol s) (λ x. omega arith)
    go (Some x) = omega arith

item_rest_fewer : (s : State) → Fewer {A = Items} s (after_item s)
unfolding files.after_item
item_rest_fewer s =
    either_fewer {A = Items} kinds.Comment s _ _ (line_end_fewer s)
    (λ c. then_fewer {A = Items} {B = Items} c.1 (line_end c.1) (λ end. Ok (files.comment_item leaves attribute_leaves c.0 ∷ end.0, end.1)) (line_end_fewer c.1) (λ x. omega arith))

ended_fewer : (b : Bool) (s : State) → Fewer {A = Items} s (item_end b s)
unfolding files.item_end
ended_fewer true s = omega arith
ended_fewer false s = item_rest_fewer s

-- ---- a line

module _ (n : Counters) (s : State) (open_none : s.depth ≡ 0) where
  abbrev CounterSteps : ReadItems → Type 0
  CounterSteps found = IfOk found (λ x. MovesBy n x.0.1 (identifiers_left s) (identifiers_left x.1))

  line_moved : CounterSteps (line n s)
  unfolding files.line
  line_moved = go (accept kinds.Eol s) (accepted kinds.Eol s)
    where
      after_end : (i : (OrderedItem Leaf Token ℕ × Counters) × State) → MovesBy n i.0.1 (identifiers_left s) (identifiers_left i.1) → (o : Read Items) → Fewer {A = Items} i.1 o
          → CounterSteps (o >>= λ b. Ok ((i.0.0 ∷ b.0, i.0.1), b.1))
      after_end i h (Ok b) k = record { least = h.least; recipes_least = h.recipes_least; most = omega (arith, h.most, k); constants = h.constants }
      after_end i h (Err e) k = tt

      by_item : (o : ReadItem) → any_item n s ≡ o → CounterSteps (o >>= λ i. item_end (has_body i.0.0) i.1 >>= λ b. Ok ((i.0.0 ∷ b.0, i.0.1), b.1))
      by_item (Ok i) is = after_end i (on_line_moves n s open_none i.0.0 i.0.1 i.1 is) (item_end (has_body i.0.0) i.1) (ended_fewer (has_body i.0.0) i.1)
      by_item (Err e) is = tt

      go : (o : Taken) → IsNext kinds.Eol s s.left o
          → CounterSteps (choose {X = ReadItems} o (any_item n s >>= λ i. item_end (has_body i.0.0) i.1 >>= λ b. Ok ((i.0.0 ∷ b.0, i.0.1), b.1)) (λ newline. Ok ((tree.Newline ∷ [], n), newline.1)))
      go None h = by_item (any_item n s) refl
      go (Some x) h = record { least = omega arith; recipes_least = omega arith; most = omega (arith, fewer x.0 s x.1 h.0); constants = refl }

  pub line_moves : (is : Items) (m : Counters) (rest : State) → line n s ≡ Ok ((is, m), rest) → MovesBy n m (identifiers_left s) (identifiers_left rest)
  line_moves is m rest found = known {X = (Items × Counters) × State} ((is, m), rest) (λ x. MovesBy n x.0.1 (identifiers_left s) (identifiers_left x.1)) found line_moved

-- ---- a byte order mark

pub mark_depth : (s : State) → (after_byte_order_mark s).depth ≡ s.depth
mark_depth s = go (accept kinds.ByteOrderMark s) (accepted kinds.ByteOrderMark s)
  where
    go : (o : Taken) → IsNext kinds.ByteOrderMark s s.left o → (choose {X = State} o s (λ mark. mark.1)).depth ≡ s.depth
    go None h = refl
    go (Some x) h = h.2

pub mark_fewer : (s : State) → identifiers_left (after_byte_order_mark s) ≤ identifiers_left s
mark_fewer s = go (accept kinds.ByteOrderMark s) (accepted kinds.ByteOrderMark s)
  where
    go : (o : Taken) → IsNext kinds.ByteOrderMark s s.left o → identifiers_left (choose {X = State} o s (λ mark. mark.1)) ≤ identifiers_left s
    go None h = omega arith
    go (Some x) h = fewer x.0 s x.1 h.0
