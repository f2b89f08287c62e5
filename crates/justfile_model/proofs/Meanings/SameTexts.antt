-- Two views that differ only in the texts of literals: if the literals of attributes have the same texts in both, the attributes
-- have the same meaning in the same order, and break no rule that they don't break in the first.
use Rattle.std.proofs.Common.{◌≡◌, ◌∙◌, ℕ, List, [], ◌∷◌, ◌++◌, map, Option, Some, refl, sym, ap, subst}
use Rattle.std.specs.List.{AllByRecursion}
use Rattle.std.specs.Option.{option_map}
use Rattle.justfile_model.specs.Grammars.Conditions.{VersionNumbers}
use Rattle.justfile_model.specs.Trees.ContentLeaf.{LiteralContent, literal_value}
use Rattle.justfile_model.specs.Grammars.Docs.{Nothing, documented}
use Rattle.justfile_model.specs.Grammars.Files.{all_literals, content_literals, if_both, ordered, sets_doc, undocumented, with_entries, written_literals}
use Rattle.justfile_model.specs.Grammars.Files.{broken as broken_of}
use Rattle.justfile_model.specs.LiteralTexts.Literals as literals
use Rattle.justfile_model.specs.LiteralTexts.Literals.{Literal, over_literal, token_of}
use Rattle.justfile_model.specs.Meanings.Meaning.{entries_of}
use Rattle.justfile_model.specs.Trees.LeafView.{LeafView}
use Rattle.justfile_model.specs.Trees.Tree as tree
use Rattle.justfile_model.specs.Trees.Tree.{Content, OrderedItem, WrittenAttribute, WrittenItem, over_entry}
use Rattle.justfile_model.proofs.Derivations.Leaves.{attributes_itself, content_itself}
use Rattle.justfile_model.proofs.Lists.AllParts.{all_have, parts}
use Rattle.justfile_model.proofs.Lists.EachLaws.{AlikeOption, none_alike}
use Rattle.justfile_model.proofs.Lists.Unchanged.{literal_itself, same_leaf}
use Rattle.justfile_model.proofs.Relations.AlikeAttributes as alike
use Rattle.justfile_model.proofs.Relations.AlikeAttributes.{AlikeEntry, AlikeLiteral, AlikeWritten, SeesAlike, SeesContent}
use Rattle.justfile_model.proofs.Relations.AlikeConstructRules.{AlikeForm, construct_broken_alike}
use Rattle.justfile_model.proofs.Relations.AlikeMeanings.{entries_alike}
use Rattle.justfile_model.proofs.Relations.AlikeRules.{AlikeBroken}
use Rattle.justfile_model.proofs.Relations.Projected.{Relates, RelatesOnly, content_alike, entries_same, literal_same, written_alike}
use Rattle.justfile_model.proofs.Relations.Related as a
use Rattle.justfile_model.proofs.Relations.Related.{Each, Relations, each_both}

-- a view in which literals have other texts
abbrev pub with_texts : {A B : Type 0} → LeafView A B → (Literal A → Option (List ℕ)) → (Literal A → LiteralContent) → LeafView A B
with_texts view cooked content = record {
  bytes = view.bytes;
  place = view.place;
  cooked = cooked;
  leaf_content = view.leaf_content;
  position_content = view.position_content;
  literal_content = content;
}

abbrev pub IsUnexpanded : {A : Type 0} → Literal A → Type 0
IsUnexpanded (literals.Expanded t) = ⊥
IsUnexpanded _ = Unit {0}

module _ {A B : Type 0} (view : LeafView A B) (cooked : Literal A → Option (List ℕ)) (content : Literal A → LiteralContent) where
  -- the other view
  abbrev pub other : LeafView A B
  other = with_texts view cooked content

  -- a literal has the same text in both
  abbrev pub Agreed : Literal A → Type 0
  Agreed l = view.cooked l ≡ cooked l

  -- of a literal that is expanded alone
  abbrev AgreedIf : Literal (List ℕ) → A → Type 0
  AgreedIf (literals.Expanded lexeme) t = Agreed (literals.Expanded t)
  AgreedIf _ t = Unit {0}

  -- literals that are not expanded have the same text, and those that have the same text have the same content
  pub record SeeSame : Type 0 where
    pub unexpanded : (l : Literal A) → IsUnexpanded l → Agreed l
    pub contents : (l : Literal A) → Agreed l → view.literal_content l ≡ content l

  -- related leaves are the same
  same : Relations (Unit {0}) (Unit {0}) A B (Unit {0}) (Unit {0}) (Unit {0}) (Unit {0}) A B (Unit {0}) (Unit {0})
  same = record {
    run = λ r r'. Unit {0};
    looser = ⊥;
    token = λ t t'. Unit {0};
    position = λ b b'. b ≡ b';
    name = λ n n'. n ≡ n';
    literal = λ l t t'. (t ≡ t') × AgreedIf l t;
    text = λ t t'. Unit {0};
    star = λ s s'. Unit {0};
    parameter = λ number n rules n' rules'. n ≡ n';
    attributes = λ d d'. Unit {0};
    assignment = λ number n n'. n ≡ n';
    function_parameter = λ number n n'. n ≡ n';
    recipe = λ number n body n' body'. Unit {0};
  }

  literal_relates : (l : Literal A) → Agreed l → same.literal (over_literal (λ t. []) l) (token_of l) (token_of l)
  unfolding same
  literal_relates (literals.Expanded t) h = (refl, h)
  literal_relates (literals.Plain t) h = (refl, tt)
  literal_relates _ h = (refl, tt)

  relates : Relates same same_leaf same_leaf Agreed
  unfolding same
  relates = record { position = λ b. refl; name = λ n. refl; literal = literal_relates }

  relates_only : RelatesOnly same same_leaf same_leaf
  unfolding same
  relates_only = record { position = λ b b' h. h; name = λ n n' h. h; literal = λ l t t' h. h.0 }

  -- ---- what is seen of them

  module _ (seen : SeeSame) where
    -- a literal that is alike to another agrees, and is that one
    agreed : {l l' : Literal A} → AlikeLiteral same l l' → Agreed l
    unfolding same
    agreed (alike.expanded_literal h) = h.1
    agreed {l} h = seen.unexpanded l tt

    literal_is : {l l' : Literal A} → AlikeLiteral same l l' → l ≡ l'
    literal_is {l} h = sym (literal_itself l) ∙ literal_same same same_leaf same_leaf relates_only h

    contents_same : (l l' : Literal A) → AlikeLiteral same l l' → view.literal_content l ≡ content l'
    contents_same l l' h = seen.contents l (agreed h) ∙ ap content (literal_is h)

    sees : SeesAlike same view other
    unfolding same
    sees = record {
      bytes = λ n n' h. ap view.bytes h;
      parameter_bytes = λ number n rules n' rules' h. ap view.bytes h;
      name_place = λ n n' h. ap view.place h;
      literal_bytes = λ l t t' h. ap view.bytes h.0;
      literal_place = λ l t t' h. ap view.place h.0;
      assignment_place = λ number n n' h. ap view.place h;
      cooked = λ l l' h. agreed h ∙ ap cooked (literal_is h);
      value = λ l l' h. ap literal_value (contents_same l l' h);
    }

    contents : SeesContent same view other
    unfolding same
    contents = record {
      cooked = sees.cooked;
      name_content = λ n n' h. ap (view.leaf_content _) h;
      command_content = λ lexeme t t' h. ap (view.leaf_content _) h.0;
      position_content = λ kind spelled b b' h. ap (view.position_content kind spelled) h;
      literal_content = contents_same;
    }

    -- ---- what is written is alike to itself, where all literals agree

    written_same : (ws : List (WrittenAttribute A B)) → AllByRecursion Agreed (written_literals ws) → Each (AlikeWritten same) ws ws
    written_same ws h = subst (Each (AlikeWritten same) ws) (attributes_itself ws) (written_alike same same_leaf same_leaf relates ws h)

    content_same : {C : Type 0} (c : Content A B C B) → AllByRecursion Agreed (content_literals c) → AlikeForm same view other c c
    content_same c h = subst (AlikeForm same view other c) (content_itself c) (content_alike same same_leaf same_leaf relates sees same_leaf c h)

    means_alike : (ws : List (WrittenAttribute A B)) → AllByRecursion Agreed (written_literals ws)
        → AlikeOption (Each (AlikeEntry same)) (entries_of view ws) (entries_of other ws)
    means_alike ws h = entries_alike same view other sees contents (written_same ws h)

    entries_over : (ws : List (WrittenAttribute A B)) → AllByRecursion Agreed (written_literals ws)
        → option_map (map (over_entry same_leaf same_leaf)) (entries_of view ws) ≡ entries_of other ws
    entries_over ws h = entries_same same same_leaf same_leaf relates_only (means_alike ws h)

    broken_alike : {C : Type 0} (current : VersionNumbers) (items : List (WrittenItem A B C B)) → AllByRecursion Agreed (all_literals items)
        → Each (AlikeBroken same.position) (broken_of current view items) (broken_of current other items)
    broken_alike current [] h = a.nil
    broken_alike current (tree.Construct ws c ∷ items) h =
        let p = parts Agreed (written_literals ws ++ content_literals c) (all_literals items) h in
        let q = parts Agreed (written_literals ws) (content_literals c) p.0 in
        each_both (construct_broken_alike same view other sees current (written_same ws q.0) (content_same c q.1) (means_alike ws q.0))
        (broken_alike current items p.1)
    broken_alike current (i ∷ items) h = broken_alike current items h

module _ {A B : Type 0} (view : LeafView A B) (cooked : Literal A → Option (List ℕ)) (content : Literal A → LiteralContent) (seen : SeeSame view cooked content) where
  -- the first view is alike to itself, and to the other: so both mean the same
  entries_kept : (ws : List (WrittenAttribute A B)) → AllByRecursion (Agreed view cooked content) (written_literals ws)
      → entries_of view ws ≡ entries_of (other view cooked content) ws
  entries_kept ws h =
      sym (entries_over view view.cooked view.literal_content itself ws (all_have (Agreed view view.cooked view.literal_content) (λ l. refl) (written_literals ws)))
      ∙ entries_over view cooked content seen ws h
    where
      itself : SeeSame view view.cooked view.literal_content
      itself = record { unexpanded = λ l h. refl; contents = λ l h. refl }

  meanings_kept : {C : Type 0} (items : List (WrittenItem A B C B)) → AllByRecursion (Agreed view cooked content) (all_literals items)
      → undocumented view items ≡ undocumented (other view cooked content) items
  meanings_kept [] h = refl
  meanings_kept (tree.Newline ∷ items) h = ap (if_both (Some tree.Newline)) (meanings_kept items h)
  meanings_kept (tree.Comment text ∷ items) h = ap (if_both (Some (tree.Comment text))) (meanings_kept items h)
  meanings_kept (tree.Construct ws c ∷ items) h =
      let p = parts (Agreed view cooked content) (written_literals ws ++ content_literals c) (all_literals items) h in
      let q = parts (Agreed view cooked content) (written_literals ws) (content_literals c) p.0 in
      λ i. if_both (with_entries c (entries_kept ws q.0 i)) (meanings_kept items p.1 i)

  -- the items mean the same, and break no rule
  pub record KeptItems {C : Type 0} (current : VersionNumbers) (items : List (WrittenItem A B C B)) (all : List (OrderedItem A B C)) : Type 0 where
    pub means : ordered (other view cooked content) items ≡ Some all
    pub unbroken : broken_of current (other view cooked content) items ≡ []

  pub items_kept : {C : Type 0} (current : VersionNumbers) (items : List (WrittenItem A B C B)) (all : List (OrderedItem A B C))
      → AllByRecursion (Agreed view cooked content) (all_literals items) → ordered view items ≡ Some all
      → broken_of current view items ≡ [] → KeptItems current items all
  items_kept current items all agreed means unbroken = record {
    means = ap (option_map (documented sets_doc Nothing)) (sym (meanings_kept items agreed)) ∙ means;
    unbroken = none_alike (broken_alike view cooked content seen current items agreed) unbroken;
  }
