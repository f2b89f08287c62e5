-- The walk over the children of an expression, up to one that ends its text.
use Rattle.std.proofs.Common.{◌≡◌, ℕ, ◌+◌, ◌<◌, ◌≤◌, arith, Option, None, Some, List, [], ◌++◌, take, drop, sym, ap, ◌∙◌, subst, append_assoc, append-nil}
use Rattle.std.specs.Borrow.{Bor}
use Rattle.std.specs.List.{flat_map, slice_get}
use Rattle.justfile_expression.specs.Children.{Child, children, start_texts}
use Rattle.justfile_expression.specs.Ends.{IsCompleted}
use Rattle.justfile_expression.specs.Text.{text_of}
use Rattle.justfile_leaves.specs.Texts.{Texts, texts_joined}
use Rattle.justfile_expression.specs.declared.expression.Expression.{Expression}
use Rattle.justfile_expression.proofs.Joined.{child_text, joined}
use Rattle.justfile_expression.proofs.Loops.{all_taken, failed_next, flat_split, text_last}
use Rattle.justfile_expression.proofs.Nodes.{nodes, fewer}
use Rattle.justfile_expression.proofs.EmptyTexts.{silent_last}

-- for a child with no text after it: the text before the child, followed by the child's text, is the whole text
up_to_last : (e : Expression) (i : ℕ) (c : Child) → slice_get (children e) i ≡ Some c → texts_joined c.1 ≡ []
    → (texts_joined (start_texts e) ++ flat_map child_text (take i (children e))) ++ text_of c.0 ≡ text_of e
up_to_last e i c h silent =
    let rest : flat_map child_text (drop i (children e)) ≡ text_of c.0 =
    text_last child_text (children e) i c h (silent_last e i c h silent) ∙ ap (λ t. text_of c.0 ++ t) silent ∙ append-nil (text_of c.0) in
    append_assoc (texts_joined (start_texts e)) (flat_map child_text (take i (children e))) (text_of c.0)
    ∙ ap (λ t. texts_joined (start_texts e) ++ t) (ap (λ t. flat_map child_text (take i (children e)) ++ t) (sym rest) ∙ flat_split child_text (children e) i)
    ∙ joined e

-- the text written before a child that ends an expression
pub completed_at : (e : Expression) (i : ℕ) (last : Bor Expression) (words : Texts) → slice_get (children e) i ≡ Some (last.now, words) → texts_joined words ≡ []
    → IsCompleted (texts_joined (start_texts e) ++ flat_map child_text (take i (children e))) (Some last) e
completed_at e i last words h silent = (up_to_last e i (last.now, words) h silent, (i, words, h, silent))

-- the text of the expression that is left, or nothing
abbrev pub rest_text : Option (Bor Expression) → List ℕ
rest_text None = []
rest_text (Some e) = text_of e.now

abbrev pub rest_nodes : Option (Bor Expression) → ℕ
rest_nodes None = 0
rest_nodes (Some e) = nodes e.now + 1

-- a text that the next expression completes, followed by a text of the latter up to its last child
pub completed_more : (text more : List ℕ) (next whole : Expression) (last : Option (Bor Expression)) → text ++ text_of next ≡ text_of whole → IsCompleted more last next
    → (text ++ more) ++ rest_text last ≡ text_of whole
completed_more text more next whole None is h = append-nil (text ++ more) ∙ ap (λ t. text ++ t) h ∙ is
completed_more text more next whole (Some last) is h = append_assoc text more (text_of last.now) ∙ ap (λ t. text ++ t) h.0 ∙ is

pub rest_fewer : (text : List ℕ) (last : Option (Bor Expression)) (e : Expression) → IsCompleted text last e → rest_nodes last < nodes e + 1
rest_fewer text None e h = omega arith
rest_fewer text (Some last) e h = omega (arith, fewer e h.1.0 (last.now, h.1.1) h.1.2)

-- the same if the rest is known to be this expression
pub next_completes : (rest : Option (Bor Expression)) (next : Bor Expression) (text whole : List ℕ) → rest ≡ Some next → text ++ rest_text rest ≡ whole → text ++ text_of next.now ≡ whole
next_completes rest next text whole is h = subst (λ (r : Option (Bor Expression)). text ++ rest_text r ≡ whole) is h

pub all_completed : (rest : Option (Bor Expression)) (text whole : List ℕ) → rest ≡ None → text ++ rest_text rest ≡ whole → text ≡ whole
all_completed rest text whole is h = sym (append-nil text) ∙ subst (λ (r : Option (Bor Expression)). text ++ rest_text r ≡ whole) is h

pub rest_in : (rest : Option (Bor Expression)) (next : Bor Expression) (n : ℕ) → rest ≡ Some next → rest_nodes rest ≤ n → nodes next.now + 1 ≤ n
rest_in rest next n is h = subst (λ (r : Option (Bor Expression)). rest_nodes r ≤ n) is h

module _ {S : Type 0} (took failed : S → List ℕ → S → Type 0)
    (more : (a b c : S) (xs ys : List ℕ) → took a xs b → took b ys c → took a (xs ++ ys) c)
    (later : (a b c : S) (xs ys : List ℕ) → took a xs b → failed b ys c → failed a (xs ++ ys) c)
    (before : (a b : S) (xs ys : List ℕ) → failed a xs b → failed a (xs ++ ys) b)
    (e : Expression) where
  pub failed_start : (a b : S) → failed a (texts_joined (start_texts e)) b → failed a (text_of e) b
  failed_start a b p = subst (λ (t : List ℕ). failed a t b) (joined e) (before a b _ (flat_map child_text (children e)) p)

  module _ (a b m : S) (i : ℕ) (begun : took a (texts_joined (start_texts e)) b) (so_far : took b (flat_map child_text (take i (children e))) m) where
    pub failed_child : (c : Child) → slice_get (children e) i ≡ Some c → (n : S) → failed m (child_text c) n → failed a (text_of e) n
    failed_child c h n p =
        subst (λ (t : List ℕ). failed a t n) (joined e) (later a b n _ _ begun (failed_next took failed more later before child_text (children e) i c h b m n so_far p))

    pub took_all : None ≡ slice_get (children e) i → took a (text_of e) m
    took_all h =
        subst (λ (t : List ℕ). took a t m) (joined e) (more a b m _ _ begun (subst (λ (t : List ℕ). took b t m) (all_taken child_text (children e) i h) so_far))

  -- a failure within the expression that completes a text is a failure within the whole
  pub failed_rest : (a b c : S) (text : List ℕ) (next : Expression) → took a text b → failed b (text_of next) c → text ++ text_of next ≡ text_of e → failed a (text_of e) c
  failed_rest a b c text next p q is = subst (λ (t : List ℕ). failed a t c) is (later a b c text (text_of next) p q)
