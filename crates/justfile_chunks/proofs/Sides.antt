-- The tokens of a file derive what those before a cut and those after it derive, joined.
use Rattle.std.proofs.Common.{◌≡◌, ◌∙◌, ℕ, List, [], ◌∷◌, ◌++◌, Option, Some, sym, ap, subst}
use Rattle.std.specs.Option.{option_map}
use Rattle.justfile_vocabulary.specs.declared.token_kind.TokenKind.TheVariants as kinds
use Rattle.justfile_model.specs.Grammars.Conditions.{Conditions}
use Rattle.justfile_model.specs.Grammars.Docs.{LineEnd, Nothing, documented}
use Rattle.justfile_model.specs.Grammars.Expressions.{BelowLimit, Tokens, IsKind}
use Rattle.justfile_model.specs.Grammars.Features.{ConstructFeatures, Noted}
use Rattle.justfile_model.specs.Grammars.Files.{all_features, all_literals, broken, if_both, ordered, sets_doc, undocumented}
use Rattle.justfile_model.specs.Grammars.Grammar as g
use Rattle.justfile_model.specs.Grammars.Grammar.{File, Items, TokenProjection}
use Rattle.justfile_model.specs.LiteralTexts.Literals.{AreCookedTexts, Literal}
use Rattle.justfile_model.specs.Lexing.Modes.{tail_of}
use Rattle.justfile_model.specs.Lexing.SignificantTokens.{SignificantToken}
use Rattle.justfile_model.specs.Trees.LeafView.{LeafView}
use Rattle.justfile_model.specs.Trees.Tree as tree
use Rattle.justfile_model.specs.Trees.Tree.{OrderedItem, WrittenItem}
use Rattle.justfile_model.proofs.Derivations.CookedTexts.{literals_append}
use Rattle.justfile_model.proofs.Lists.Binds.{some_back}
use Rattle.justfile_model.proofs.Meanings.Ordered.{meanings_of, undocumented_of}
use Rattle.justfile_chunks.proofs.AlikeItems.{alike_after, alike_apart, alike_of, before_next_is}
use Rattle.justfile_chunks.proofs.DocsAppend.{before_next, documented_append}
use Rattle.justfile_chunks.proofs.ItemsAppend.{cooked_apart, cooked_append, features_append, unbroken_apart, unbroken_append, undocumented_apart, undocumented_append}
use Rattle.justfile_chunks.proofs.ItemsFeatures.{file_features}
use Rattle.justfile_chunks.proofs.Joins.{after_end, file_joined, file_split}
use Rattle.justfile_chunks.proofs.Over.{other_end}
use Rattle.justfile_chunks.proofs.Passes.{At, CutHere, here, later}

-- ---- tokens before others

-- the earlier tokens, with these after them, the last one first
abbrev pub behind : (earlier ts : Tokens) → Tokens
behind earlier [] = earlier
behind earlier (t ∷ ts) = behind (t ∷ earlier) ts

pub at_of : (K : Tokens → Type 0) (ts earlier : Tokens) (u : SignificantToken) (x : Tokens) → K (behind earlier ts) → At K u x earlier (ts ++ (u ∷ x))
at_of K [] earlier u x k = here k
at_of K (t ∷ ts) earlier u x k = later (at_of K ts (t ∷ earlier) u x k)

-- ---- items

-- Over some projection: for trees and for shapes. `texts` has what literals are cooked from.
module _ {A B C : Type 0} (projection : TokenProjection A B C B) (conditions : Conditions) (view : LeafView A B)
    (texts : List (Literal A) → List (Literal (List ℕ))) (texts_append : (ls ms : List (Literal A)) → texts (ls ++ ms) ≡ texts ls ++ texts ms) where
  abbrev Ordered : Type 0
  Ordered = List (OrderedItem A B C)

  abbrev Written : Type 0
  Written = List (WrittenItem A B C B)

  abbrev May : ℕ → Option SignificantToken → Type 0
  May = BelowLimit conditions.limit

  -- The tokens of a file derive the items with these features.
  pub record Derives (tokens : Tokens) (items : Ordered) (features : List (Noted B)) : Type 0 where
    pub written : Written
    pub by_construct : List (ConstructFeatures B)
    pub derives : File projection May written by_construct tokens
    pub features_are : features ≡ all_features view written by_construct
    pub cooked : List (List ℕ)
    pub cooks : AreCookedTexts conditions.expander (texts (all_literals written)) cooked
    pub unbroken : broken conditions.current view written ≡ []
    pub ordered_is : ordered view written ≡ Some items

  -- the tokens after a cut derive these items
  pub record AfterCut (us : Tokens) (all : Ordered) (features : List (Noted B)) : Type 0 where
    pub written : Written
    pub by_construct : List (ConstructFeatures B)
    pub derives : Items projection May written by_construct us
    pub features_are : features ≡ all_features view written by_construct
    pub cooked : List (List ℕ)
    pub cooks : AreCookedTexts conditions.expander (texts (all_literals written)) cooked
    pub unbroken : broken conditions.current view written ≡ []
    pub items : Ordered
    pub items_are : undocumented view written ≡ Some items
    pub all_is : all ≡ documented sets_doc LineEnd items

  -- With a line end before them they derive a line end and the items.
  pub with_end : {t : SignificantToken} {us : Tokens} {all : Ordered} {features : List (Noted B)} → IsKind kinds.Eol t → AfterCut us all features
      → Derives (t ∷ us) (tree.Newline ∷ all) features
  with_end kind r = record {
    written = tree.Newline ∷ r.written;
    by_construct = r.by_construct;
    derives = g.without_byte_order_mark (g.blank kind r.derives);
    features_are = r.features_are;
    cooked = r.cooked;
    cooks = r.cooks;
    unbroken = r.unbroken;
    ordered_is =
        ap (λ o. option_map (documented sets_doc Nothing) (if_both (Some tree.Newline) o)) r.items_are ∙ ap (λ l. Some (tree.Newline ∷ l)) (sym r.all_is);
  }

  -- what the items after a first line end mean
  pub record PastEnd (others : Written) (all : Ordered) : Type 0 where
    pub items : Ordered
    pub items_are : undocumented view others ≡ Some items
    pub all_is : all ≡ tree.Newline ∷ documented sets_doc LineEnd items

  pub past_end : (others : Written) (all : Ordered) → ordered view (tree.Newline ∷ others) ≡ Some all → PastEnd others all
  past_end others all h =
      let o = undocumented_of view (tree.Newline ∷ others) all h in
      let m = meanings_of view tree.Newline others o.items o.items_are in
      let first : m.first ≡ tree.Newline = sym (some_back tree.Newline m.first m.first_is) in
      let items : o.items ≡ tree.Newline ∷ m.others = m.all_are ∙ ap (λ i. i ∷ m.others) first in
      record { items = m.others; items_are = m.others_are; all_is = o.all_are ∙ ap (documented sets_doc Nothing) items }

  pub without_end : {t : SignificantToken} {us : Tokens} {all : Ordered} {features : List (Noted B)} → IsKind kinds.Eol t
      → Derives (t ∷ us) (tree.Newline ∷ all) features → AfterCut us all features
  without_end {all = all} kind d =
      let a = after_end projection May d.derives kind in
      let p = past_end a.others (tree.Newline ∷ all) (sym (ap (ordered view) a.items_are) ∙ d.ordered_is) in
      search (
        d.features_are ∙ ap (λ w. all_features view w d.by_construct) a.items_are,
        subst (λ w. AreCookedTexts conditions.expander (texts (all_literals w)) d.cooked) a.items_are d.cooks,
        sym (ap (broken conditions.current view) a.items_are) ∙ d.unbroken,
        ap tail_of p.all_is,
        a,
        p,
      )

  module _ (ts : Tokens) (eof : SignificantToken) (is_eof : IsKind kinds.Eof eof) (us : Tokens) (k : CutHere us (behind [] ts)) where
    -- the docs of items before a cut and after it
    docs : {first second : Written} {fs gs : List (ConstructFeatures B)} {some more : Ordered}
        → File projection May first fs (ts ++ (eof ∷ [])) → Items projection May second gs us → undocumented view first ≡ Some some
        → undocumented view second ≡ Some more
        → documented sets_doc Nothing (some ++ more) ≡ documented sets_doc Nothing some ++ documented sets_doc LineEnd more
    docs {first = first} {second = second} {gs = gs} {some = some} {more = more} f s e e2 =
        let j = file_joined projection May eof is_eof us second gs s f (at_of (CutHere us) ts [] eof [] k) in
        let a = alike_of view first some e in
        let end : before_next sets_doc Nothing some ≡ LineEnd =
        before_next_is sets_doc Nothing some ∙ sym (alike_after a Nothing) ∙ j.ends Nothing (λ e. absurd (j.cut e)) in
        documented_append sets_doc Nothing some more (alike_apart a (alike_of view second more e2) Nothing (j.apart Nothing))
        ∙ ap (λ b. documented sets_doc Nothing some ++ documented sets_doc b more) end

    -- What the tokens before a cut derive and what those after it derive is derived together.
    pub cut_joined : {left right : Ordered} {left_features right_features : List (Noted B)} → Derives (ts ++ (eof ∷ [])) left left_features
        → AfterCut us right right_features → Derives (ts ++ us) (left ++ right) (left_features ++ right_features)
    cut_joined {left = left} {right = right} l r =
        let at = at_of (CutHere us) ts [] eof [] k in
        let j = file_joined projection May eof is_eof us r.written r.by_construct r.derives l.derives at in
        let o = undocumented_of view l.written left l.ordered_is in
        record {
          written = l.written ++ r.written;
          by_construct = l.by_construct ++ r.by_construct;
          derives =
              subst (File projection May (l.written ++ r.written) (l.by_construct ++ r.by_construct)) (other_end ts (eof ∷ []) us j.whole j.over) j.derives;
          features_are =
              (λ i. l.features_are i ++ r.features_are i)
              ∙ sym (features_append view l.written r.written l.by_construct r.by_construct (file_features projection May l.derives));
          cooked = l.cooked ++ r.cooked;
          cooks =
              subst (λ ls. AreCookedTexts conditions.expander ls (l.cooked ++ r.cooked))
              (sym (ap texts (literals_append l.written r.written) ∙ texts_append (all_literals l.written) (all_literals r.written)))
              (cooked_append conditions.expander (texts (all_literals l.written)) (texts (all_literals r.written)) l.cooked r.cooked l.cooks r.cooks);
          unbroken = unbroken_append conditions.current view l.written r.written l.unbroken r.unbroken;
          ordered_is =
              ap (option_map (documented sets_doc Nothing)) (undocumented_append view l.written r.written o.items r.items o.items_are r.items_are)
              ∙ ap Some (docs l.derives r.derives o.items_are r.items_are ∙ (λ i. sym o.all_are i ++ sym r.all_is i));
        }

  -- what is before a cut and what is after it derive these items
  pub record Sides (ts us : Tokens) (eof : SignificantToken) (all : Ordered) (features : List (Noted B)) : Type 0 where
    pub left : Ordered
    pub right : Ordered
    pub left_features : List (Noted B)
    pub right_features : List (Noted B)
    pub left_derives : Derives (ts ++ (eof ∷ [])) left left_features
    pub right_derives : AfterCut us right right_features
    pub all_is : all ≡ left ++ right
    pub features_are : features ≡ left_features ++ right_features

  -- What is derived with a cut is derived by what is before the cut and what is after it.
  pub cut_split : (ts : Tokens) (eof : SignificantToken) → IsKind kinds.Eof eof → (u : SignificantToken) (x : Tokens) → CutHere (u ∷ x) (behind [] ts)
      → {all : Ordered} {features : List (Noted B)} → Derives (ts ++ (u ∷ x)) all features → Sides ts (u ∷ x) eof all features
  cut_split ts eof is_eof u x k {all = all} {features = features} d =
      let s = file_split projection May u x eof is_eof d.derives (at_of (CutHere (u ∷ x)) ts [] u x k) in
      let first = subst (File projection May s.first s.first_features) (other_end ts (u ∷ x) (eof ∷ []) s.part s.over) s.first_derives in
      let o = undocumented_of view d.written all d.ordered_is in
      let a = undocumented_apart view s.first s.second o.items (sym (ap (undocumented view) s.items_are) ∙ o.items_are) in
      let c = cooked_apart conditions.expander (texts (all_literals s.first)) (texts (all_literals s.second)) d.cooked
      (subst (λ ls. AreCookedTexts conditions.expander ls d.cooked)
      (ap (λ w. texts (all_literals w)) s.items_are ∙ ap texts (literals_append s.first s.second)
      ∙ texts_append (all_literals s.first) (all_literals s.second)) d.cooks) in
      let b = unbroken_apart conditions.current view s.first s.second (sym (ap (broken conditions.current view) s.items_are) ∙ d.unbroken) in
      record {
        left = documented sets_doc Nothing a.first;
        right = documented sets_doc LineEnd a.more;
        left_features = all_features view s.first s.first_features;
        right_features = all_features view s.second s.second_features;
        left_derives = search (first, c, b, ap (option_map (documented sets_doc Nothing)) a.first_is);
        right_derives = search (s, c, b, a);
        all_is = o.all_are ∙ ap (documented sets_doc Nothing) a.all_are ∙ docs ts eof is_eof (u ∷ x) k first s.second_derives a.first_is a.more_is;
        features_are =
            d.features_are ∙ (λ i. all_features view (s.items_are i) (s.features_are i))
            ∙ features_append view s.first s.second s.first_features s.second_features (file_features projection May first);
      }
