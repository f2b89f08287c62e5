-- The reader of lines, in the steps that the parser takes.
use Rattle.std.proofs.Common.{◌≡◌, ℕ, Bool, true, false, List, [], ◌∷◌, ◌++◌, map, Some, None, Ok, Err, refl, ap, sym, ◌∙◌}
use Rattle.std.proofs.lemmas.List.{append-nil, append_assoc}
use Rattle.justfile_token.specs.declared.token.Token.{Token}
use Rattle.justfile_vocabulary.specs.declared.token_kind.TokenKind.TheVariants as kinds
use Rattle.justfile_line.specs.Body.{body_line_of}
use Rattle.justfile_line.specs.declared.line.Line as body
use Rattle.justfile_item.specs.Item.{item_of}
use Rattle.justfile_item.specs.declared.item.Item as file
use Rattle.justfile_item.specs.declared.item.Item.TheVariants as items
use Rattle.justfile_model.specs.Trees.Tree as tree
use Rattle.justfile_model.specs.Trees.Tree.{OrderedItem}
use Rattle.justfile_model.specs.Readers.Reader as files
use Rattle.justfile_model.specs.Readers.Reader.{comment_item, has_body, some_line}
use Rattle.justfile_model.specs.Readers.PartReader as parts
use Rattle.justfile_model.specs.Readers.PartReader.{after_numbered}
use Rattle.justfile_model.specs.Readers.ReaderState.{◌>>=◌, Counters, prepend}
use Rattle.justfile_parse_expression.specs.TableReader.{Read, ReadError, State, accept, expect, leaves}
use Rattle.justfile_parse_item.specs.ItemTable.{ReadItems, after_item, item_end, attribute_leaves, line, line_end, any_item}
use Rattle.justfile_parse_base.specs.ParseErrors.{IsParseError}
use Rattle.justfile_parse_expression.specs.MethodResults.{IsExpressionError, literal_read_error, read_error_at}
use Rattle.justfile_parse_item.specs.Tree.{item_tree}
use Rattle.justfile_parse_item_parts.specs.BodyTrees.{line_tree}
use Rattle.justfile_expression.specs.LeafTree.{Leaf}
use Rattle.justfile_parse_base.specs.declared.parse_error.ParseError.{ParseError}
use Rattle.justfile_parse_expression.specs.Significant.{TableToken}
use Rattle.justfile_parse_expression.specs.declared.expression_error.ExpressionError.{ExpressionError}
use Rattle.justfile_parse_expression.specs.declared.expression_error.ExpressionError.TheVariants.{Refused, Literal, Memory, Numbers}
use Rattle.justfile_parse_base.proofs.HeaderErrors.{failed}

abbrev Items : Type 0
Items = List (OrderedItem Leaf Token ℕ)

module _ (done : Items) (s : State) where
  pub line_end_closes : (end : TableToken × State) → accept kinds.Eof s ≡ Some end → prepend done (line_end s) ≡ Ok (done, s)
  unfolding prepend files.line_end
  line_end_closes end h = rw h (ap (λ (l : Items). Ok (l, s)) (append-nil done))

  pub line_end_newline : (t : TableToken) (rest : State) → accept kinds.Eof s ≡ None → expect kinds.Eol s ≡ Ok (t, rest) → prepend done (line_end s) ≡ Ok (done ++ tree.Newline ∷ [], rest)
  unfolding prepend files.line_end
  line_end_newline t rest h1 h2 = rw (h1, h2) refl

  pub line_end_fails : (e : ReadError) → accept kinds.Eof s ≡ None → expect kinds.Eol s ≡ Err e → prepend done (line_end s) ≡ Err e
  unfolding prepend files.line_end
  line_end_fails e h1 h2 = rw (h1, h2) refl

  -- where no end of a line stands, the item's end stops
  pub line_end_stops : (stop : ExpressionError) (left : State) → accept kinds.Eof s ≡ None → IsExpressionError stop left ⊥ (expect kinds.Eol s) → IsExpressionError stop left ⊥ (prepend done (line_end s))
  line_end_stops (Refused r) left none h = line_end_fails (read_error_at r left) none h
  line_end_stops (Literal refused) left none h = line_end_fails (literal_read_error refused.value.error) none h
  line_end_stops Memory left none h = tt
  line_end_stops Numbers left none h = absurd h

  pub after_bare : accept kinds.Comment s ≡ None → prepend done (after_item s) ≡ prepend done (line_end s)
  unfolding files.after_item
  after_bare h = rw h refl

  then_end : (i : OrderedItem Leaf Token ℕ) (found : Read Items) → prepend done (found >>= λ end. Ok (i ∷ end.0, end.1)) ≡ prepend (done ++ i ∷ []) found
  unfolding prepend
  then_end i (Ok x) = ap (λ (l : Items). Ok (l, x.1)) (sym (append_assoc done (i ∷ []) x.0))
  then_end i (Err e) = refl

  pub after_comment : (c : TableToken) (rest : State) → accept kinds.Comment s ≡ Some (c, rest) → prepend done (after_item s) ≡ prepend (done ++ comment_item leaves attribute_leaves c ∷ []) (line_end rest)
  unfolding files.after_item
  after_comment c rest h = rw h (then_end (comment_item leaves attribute_leaves c) (line_end rest))

  pub ended_body : (b : Bool) (new : Items) → b ≡ true → new ≡ done ++ tree.Newline ∷ [] → prepend done (item_end b s) ≡ Ok (new, s)
  unfolding prepend files.item_end
  ended_body b new h is = rw h (ap (λ (l : Items). Ok (l, s)) (sym is))

  pub ended_after : (b : Bool) → b ≡ false → prepend done (item_end b s) ≡ prepend done (after_item s)
  unfolding files.item_end
  ended_after b h = rw h refl

  module _ (n : Counters) where
    pub line_blank : (t : TableToken) (rest : State) → accept kinds.Eol s ≡ Some (t, rest) → after_numbered done (line n s) ≡ Ok ((done ++ tree.Newline ∷ [], n), rest)
    unfolding after_numbered files.line
    line_blank t rest h = rw h refl

    pub line_fails : (e : ReadError) → accept kinds.Eol s ≡ None → any_item n s ≡ Err e → after_numbered done (line n s) ≡ Err e
    unfolding after_numbered files.line
    line_fails e h1 h2 = rw (h1, h2) refl

    -- an item is refused, or no number is left for it
    pub line_errs : (error : ParseError) (left : State) (wanting : ReadError) → accept kinds.Eol s ≡ None → IsParseError error left (any_item n s ≡ Err wanting) (any_item n s) → IsParseError error left (after_numbered done (line n s) ≡ Err wanting) (after_numbered done (line n s))
    line_errs error left wanting none h = failed (any_item n s) (after_numbered done (line n s)) (λ e. line_fails e none) error left _ _ (line_fails wanting none) h

    -- after an item
    module _ (i : OrderedItem Leaf Token ℕ) (m : Counters) (rest : State) (none : accept kinds.Eol s ≡ None) (item : any_item n s ≡ Ok ((i, m), rest)) where
      abbrev numbered : Items × State → ReadItems
      numbered x = Ok ((x.0, m), x.1)

      then_ended : (found : Read Items) → after_numbered done (found >>= λ b. Ok ((i ∷ b.0, m), b.1)) ≡ (prepend (done ++ i ∷ []) found >>= numbered)
      unfolding prepend after_numbered
      then_ended (Ok x) = ap (λ (l : Items). Ok ((l, m), x.1)) (sym (append_assoc done (i ∷ []) x.0))
      then_ended (Err e) = refl

      line_is : after_numbered done (line n s) ≡ (prepend (done ++ i ∷ []) (item_end (has_body i) rest) >>= numbered)
      unfolding files.line
      line_is = rw (none, item) (then_ended (item_end (has_body i) rest))

      pub line_goes_on : (new : Items) (last : State) → prepend (done ++ i ∷ []) (item_end (has_body i) rest) ≡ Ok (new, last) → after_numbered done (line n s) ≡ Ok ((new, m), last)
      line_goes_on new last h = line_is ∙ ap (λ (f : Read Items). f >>= numbered) h

      pub end_fails : (e : ReadError) → prepend (done ++ i ∷ []) (item_end (has_body i) rest) ≡ Err e → after_numbered done (line n s) ≡ Err e
      end_fails e h = line_is ∙ ap (λ (f : Read Items). f >>= numbered) h

      pub end_stops : (stop : ExpressionError) (left : State) (IsShort : Type 0) → IsExpressionError stop left ⊥ (prepend (done ++ i ∷ []) (item_end (has_body i) rest)) → IsExpressionError stop left IsShort (after_numbered done (line n s))
      end_stops (Refused r) left IsShort h = end_fails (read_error_at r left) h
      end_stops (Literal refused) left IsShort h = end_fails (literal_read_error refused.value.error) h
      end_stops Memory left IsShort h = tt
      end_stops Numbers left IsShort h = absurd h

-- whether an item has a body
pub has_body_is : (i : file.Item) → has_body (item_of i) ≡ has_body (item_tree i)
has_body_is (items.Recipe r) = by_lines r.body.items
  where
    by_lines : (ls : List body.Line) → some_line (map body_line_of ls) ≡ some_line (map line_tree ls)
    by_lines [] = refl
    by_lines (l ∷ ls) = refl
has_body_is _ = refl
