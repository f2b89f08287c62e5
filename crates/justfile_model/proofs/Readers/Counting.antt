-- There are at most as many bindings and recipes as identifiers.
use Rattle.std.proofs.Common.{◌≡◌, ℕ, ◌+◌, ◌≤◌, List, Option, Ok, ap, ◌∙◌, arith}
use Rattle.justfile_model.specs.Lexing.Tok.{Tok}
use Rattle.justfile_model.specs.Lexing.SignificantTokens.{SignificantToken, identifiers}
use Rattle.justfile_model.specs.Trees.Tree.{Fragment, BodyLine, Content, WrittenItem, WrittenTree}
use Rattle.justfile_model.specs.Grammars.Features.{ConstructFeatures, Noted}
use Rattle.justfile_model.specs.Grammars.Expressions.{Tokens, BelowLimit}
use Rattle.justfile_model.specs.Grammars.Grammar as g
use Rattle.justfile_model.specs.Grammars.Grammar.{TokenProjection, LineRest, BeforeBody, BodyLines, OnLine, Block, Items, ItemRest, LineEnd, File}
use Rattle.justfile_model.specs.Grammars.Conditions.{Conditions}
use Rattle.justfile_model.specs.Grammars.Files.{content_bindings, bindings, content_recipes, recipes, to_tokens}
use Rattle.justfile_model.specs.Readers.ReaderState.{Counters}
use Rattle.justfile_model.specs.Readers.Reader.{items}
use Rattle.justfile_model.specs.Readers.TreeReader.{State, tree_of_tokens, token_attributes, token_leaves}
use Rattle.justfile_model.proofs.Derivations.AttributeProgress.{attribute_lines_count}
use Rattle.justfile_model.proofs.Readers.Counters.{counted, counted_bindings, counted_constants, counted_recipes, items_count}
use Rattle.justfile_model.proofs.Derivations.ExpressionProgress.{expression_counts, fewer}
use Rattle.justfile_model.proofs.Derivations.HeaderProgress.{counts_one, header_counts, path_left}
use Rattle.justfile_model.proofs.Derivations.PartProgress.{file_path_left, names_count, value_left}
use Rattle.justfile_model.proofs.Readers.ReadingSteps.{known}
use Rattle.justfile_model.proofs.Sound.FileSound.{file_at}

-- ---- what derives

module _ {A B : Type 0} (leaf : Tok → A) (position : Tok → B) (MayEnter : ℕ → Option SignificantToken → Type 0) where
  line_rest_counts : {fragments : List (Fragment A B)} {fs : List (Noted B)} {ts rest : Tokens} → LineRest leaf position MayEnter fragments fs ts rest → identifiers rest ≤ identifiers ts
  line_rest_counts (g.line_ends kind) = omega arith
  line_rest_counts (g.body_ends kind) = omega arith
  line_rest_counts (g.text kind l) = omega (arith, line_rest_counts l)
  line_rest_counts (g.interpolation kind e kind2 l) = omega (arith, expression_counts leaf position MayEnter e, line_rest_counts l)

before_counts : {comment : Option (List ℕ)} {ts rest : Tokens} → BeforeBody comment ts rest → identifiers rest ≤ identifiers ts
before_counts (g.at_once kind kind2) = omega arith
before_counts (g.commented kind kind2 kind3) = omega arith

module _ {A B C S : Type 0} (projection : TokenProjection A B C S) (MayEnter : ℕ → Option SignificantToken → Type 0) where
  body_lines_count : {lines : List (BodyLine A B C)} {fs : List (Noted B)} {ts rest : Tokens} → BodyLines projection MayEnter lines fs ts rest → identifiers rest ≤ identifiers ts
  body_lines_count (g.no_line kind) = omega arith
  body_lines_count (g.empty_line kind h) = omega (arith, body_lines_count h)
  body_lines_count (g.some_line l h) = omega (arith, line_rest_counts projection.leaf projection.position MayEnter l, body_lines_count h)

  pub on_line_counts : {c : Content A B C S} {fs : List (Noted B)} {ts rest : Tokens} → OnLine projection MayEnter c fs ts rest → content_bindings c + content_recipes c + identifiers rest ≤ identifiers ts
  on_line_counts (g.alias is kind kind2 p) = omega (arith, fewer (path_left projection.leaf p))
  on_line_counts (g.assignment {name = name} kind kind2 e) = omega (arith, counts_one name.tok.kind kind, expression_counts projection.leaf projection.position MayEnter e)
  on_line_counts (g.eager {name = name} is kind kind2 e) = omega (arith, counts_one name.tok.kind kind, expression_counts projection.leaf projection.position MayEnter e)
  on_line_counts (g.export {name = name} is kind kind2 e) = omega (arith, counts_one name.tok.kind kind, expression_counts projection.leaf projection.position MayEnter e)
  on_line_counts (g.function kind kind2 ns kind3 e) = omega (arith, names_count projection.leaf ns, expression_counts projection.leaf projection.position MayEnter e)
  on_line_counts (g.import is p) = omega (arith, fewer (file_path_left projection.leaf p))
  on_line_counts (g.optional_import is kind p) = omega (arith, fewer (file_path_left projection.leaf p))
  on_line_counts (g.module_alone is kind ends) = omega arith
  on_line_counts (g.module_at is kind p) = omega (arith, fewer (file_path_left projection.leaf p))
  on_line_counts (g.optional_module_alone is kind kind2 none) = omega arith
  on_line_counts (g.optional_module_at is kind kind2 p) = omega (arith, fewer (file_path_left projection.leaf p))
  on_line_counts (g.setting {word = word} {name = name} {tokens = tokens} {rest = rest} is is2 form value) =
      omega (arith, fewer (value_left projection.leaf projection.position MayEnter {t = name} value))
  on_line_counts (g.unexport is kind ends) = omega arith
  on_line_counts (g.header h) = header_counts projection.leaf projection.position projection.star MayEnter h

  pub block_counts : {c : Content A B C S} {fs : List (Noted B)} {ts rest : Tokens} → Block projection MayEnter c fs ts rest → content_bindings c + content_recipes c + identifiers rest ≤ identifiers ts
  block_counts (g.recipe h b lines some) = omega (arith, header_counts projection.leaf projection.position projection.star MayEnter h, before_counts b, body_lines_count lines)

  mutual
    pub all_count : {all : List (WrittenItem A B C S)} {fs : List (ConstructFeatures B)} {ts : Tokens} → Items projection MayEnter all fs ts → bindings all + recipes all ≤ identifiers ts
    all_count (g.end kind) = omega arith
    all_count (g.blank kind h) = omega (arith, all_count h)
    all_count (g.comment kind h) = omega (arith, item_rest_counts h)
    all_count (g.on_line a o b) = omega (arith, attribute_lines_count projection.leaf projection.position MayEnter a, on_line_counts o, item_rest_counts b)
    all_count (g.block a o h) = omega (arith, attribute_lines_count projection.leaf projection.position MayEnter a, block_counts o, all_count h)

    item_rest_counts : {all : List (WrittenItem A B C S)} {fs : List (ConstructFeatures B)} {ts : Tokens} → ItemRest projection MayEnter all fs ts → bindings all + recipes all ≤ identifiers ts
    item_rest_counts (g.trailing kind e) = omega (arith, line_end_counts e)
    item_rest_counts (g.bare e) = line_end_counts e

    line_end_counts : {all : List (WrittenItem A B C S)} {fs : List (ConstructFeatures B)} {ts : Tokens} → LineEnd projection MayEnter all fs ts → bindings all + recipes all ≤ identifiers ts
    line_end_counts (g.line_end kind h) = omega (arith, all_count h)
    line_end_counts (g.file_end kind) = omega arith

  pub file_counts : {all : List (WrittenItem A B C S)} {fs : List (ConstructFeatures B)} {ts : Tokens} → File projection MayEnter all fs ts → bindings all + recipes all ≤ identifiers ts
  file_counts (g.with_byte_order_mark kind h) = omega (arith, all_count h)
  file_counts (g.without_byte_order_mark h) = all_count h

-- ---- what is read

-- a tree has at most as many bindings and recipes as its tokens have identifiers
pub file_numbers : (conditions : Conditions) (ts : Tokens) (x : WrittenTree × List (Noted Tok)) → tree_of_tokens conditions ts ≡ Ok x → bindings x.0 + recipes x.0 ≤ identifiers ts
file_numbers conditions ts x is = file_counts to_tokens (BelowLimit conditions.limit) (file_at conditions ts x is).derives

-- counters grow by what the tree holds

pub items_bindings : (n : Counters) (s : State) (x : (WrittenTree × Counters) × State) → items token_leaves token_attributes n s ≡ Ok x → x.0.1.bindings ≡ n.bindings + bindings x.0.0
items_bindings n s x is = ap (λ (m : Counters). m.bindings) (known x (λ x. x.0.1 ≡ counted n x.0.0) is (items_count token_leaves token_attributes n s)) ∙ counted_bindings n x.0.0

pub items_recipes : (n : Counters) (s : State) (x : (WrittenTree × Counters) × State) → items token_leaves token_attributes n s ≡ Ok x → x.0.1.recipes ≡ n.recipes + recipes x.0.0
items_recipes n s x is = ap (λ (m : Counters). m.recipes) (known x (λ x. x.0.1 ≡ counted n x.0.0) is (items_count token_leaves token_attributes n s)) ∙ counted_recipes n x.0.0

pub items_constants : (n : Counters) (s : State) (x : (WrittenTree × Counters) × State) → items token_leaves token_attributes n s ≡ Ok x → x.0.1.constants ≡ n.constants
items_constants n s x is = ap (λ (m : Counters). m.constants) (known x (λ x. x.0.1 ≡ counted n x.0.0) is (items_count token_leaves token_attributes n s)) ∙ counted_constants n x.0.0
