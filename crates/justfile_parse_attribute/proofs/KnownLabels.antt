-- The labels of the attributes parsed so far, and what they imply for the next attribute.
use Rattle.std.proofs.Common.{◌≡◌, ◌∙◌, ℕ, Bool, true, false, cond, ◌&&◌, ◌||◌, not, List, [], ◌∷◌, ◌++◌, map, find, length, take, Option, Some, None, Result, Ok, Err, OnErr, OnOk, refl, sym, ap, subst, String, string_bytes, Global}
use denote.Enum.Bare.{same_true}
use Rattle.std.specs.BTreeMap.{BTreeMap, get_by_text, Updates}
use Rattle.std.specs.List.{IsLastAndRest}
use Rattle.std.specs.Option.{option_map, option_or}
use Rattle.std.specs.Str.{bytes_eq}
use Rattle.std.specs.String.{string_cmp}
use Rattle.std.proofs.lemmas.List.{map-append}
use Rattle.std.proofs.lemmas.List.Folds.{find-append}
use Rattle.std.proofs.lemmas.Map.Text.{btree_map_updates_text}
use Rattle.std.proofs.lemmas.Slice.Eq.{bytes_eq-Decides}
use Rattle.std.proofs.Math.Seq.{take-append_seam}
use Rattle.justfile_attribute.specs.Attribute.{leaf_attribute_of}
use Rattle.justfile_attribute.specs.declared.attribute.Attribute.{Attribute}
use Rattle.justfile_attribute_rules.specs.Made.{Makes, quoted_leaf}
use Rattle.justfile_token.specs.declared.fault.Fault.{Fault}
use Rattle.justfile_token.specs.declared.fault.Fault.TheVariants as faults
use Rattle.justfile_token.specs.declared.name.Name.{Name}
use Rattle.justfile_token.specs.declared.string_literal.StringLiteral.{StringLiteral}
use Rattle.justfile_token.specs.declared.token.Token.{Token}
use Rattle.justfile_model.specs.Meanings.AttributeKinds.{is_repeatable, same_attribute}
use Rattle.justfile_model.specs.Meanings.AttributeRules.{duplicate_rule, excludes, label_of, same_label, same_text}
use Rattle.justfile_model.specs.Trees.ContentKeys.{kind_of_attribute}
use Rattle.justfile_model.specs.Meanings.Meaning.{quoted_text}
use Rattle.justfile_model.specs.Readers.NewAttribute as new
use Rattle.justfile_model.specs.Readers.NewAttribute.{Made, check_repeated}
use Rattle.justfile_model.specs.Meanings.Rules.{Rule}
use Rattle.justfile_model.specs.Trees.Tree as tree
use Rattle.justfile_model.specs.Trees.Tree.{ArgumentRules, Entry, Quoted}
use Rattle.justfile_parse_attribute.specs.AddedAttributes.{IsAdded}
use Rattle.justfile_parse_attribute.specs.Attributes.{entry_of_pair}
use Rattle.justfile_parse_attribute.specs.Labels.{AreKnown, AreKnownBefore, AreSame, AreSameLines, ChecksLabel, ChecksLine, HasNone, IsLabelNoted, IsNoted, IsStored, KnowsLabels, LeafAttribute, arg_label, first_line, group_label, has_text, label_rule, line_in, line_or}
use Rattle.justfile_parse_attribute.specs.declared.labels.LabelLines.{LabelLines}
use Rattle.justfile_parse_attribute.specs.declared.labels.Labels.{Labels}
use Rattle.justfile_parse_attribute.proofs.RepeatedAttributes.{arg_rule, group_rule, label_text, last_apart}
use Rattle.justfile_expression.specs.LeafViews.{views_leaves}
use Rattle.justfile_expression.specs.LeafTree.{Leaf}
use Rattle.justfile_vocabulary.specs.declared.attribute_kind.AttributeKind.{AttributeKind}
use Rattle.justfile_vocabulary.specs.declared.attribute_kind.AttributeKind.TheVariants as kinds
use Rattle.justfile_vocabulary.specs.contracts.attribute_kind.AttributeKind as kind_type
use Rattle.justfile_written.specs.Written.{Comment, last_with_comment, line_commented, uncommented}
use Rattle.justfile_written.specs.declared.written.Written.{Written}

abbrev Entries : Type 0
Entries = List (Entry Leaf Token)

abbrev Label : Type 0
Label = LeafAttribute → Option (Quoted Leaf)

abbrev Pair : Type 0
Pair = Attribute × Written

-- ---- which attributes exclude which

-- where two are of one kind, that kind may stand again, and they have no label in common
apart : (same repeatable shared : Bool) → (same ≡ true → repeatable ≡ true) → (same ≡ true → shared ≡ false) → same && (not repeatable || shared) ≡ false
apart false repeatable shared f g = refl
apart true repeatable shared f g = rw (f refl, g refl) refl

kind_is : (j k : AttributeKind) → same_attribute j k ≡ true → j ≡ k
unfolding same_attribute
kind_is j k e = same_true kind_type.the_type tt j k e

repeatable_as : (k : AttributeKind) (d : LeafAttribute) → is_repeatable k ≡ true → same_attribute (kind_of_attribute d) k ≡ true → is_repeatable (kind_of_attribute d) ≡ true
repeatable_as k d h e = ap is_repeatable (kind_is (kind_of_attribute d) k e) ∙ h

-- what stands before an `arg`
arg_shares : (q : Quoted Leaf) (d : LeafAttribute) → arg_label d ≡ None → same_attribute (kind_of_attribute d) kinds.Arg ≡ true → same_label views_leaves (label_of views_leaves d) (Some q) ≡ false
unfolding same_attribute
arg_shares q (tree.Arg rules) none e = cc
arg_shares q (tree.Texts kinds.Group texts) none e = cc
arg_shares q d none e = refl

arg_apart : (rules : ArgumentRules Leaf Token) (d : LeafAttribute) → arg_label d ≡ None → excludes views_leaves d (tree.Arg rules) ≡ false
arg_apart rules d none =
    apart (same_attribute (kind_of_attribute d) kinds.Arg) _ _ (repeatable_as kinds.Arg d refl) (arg_shares rules.name d none)

arg_excludes : (rules : ArgumentRules Leaf Token) (text : List ℕ) → quoted_text views_leaves rules.name ≡ Some text → (d : LeafAttribute)
    → excludes views_leaves d (tree.Arg rules) ≡ has_text text (arg_label d)
unfolding same_attribute
arg_excludes rules text h (tree.Arg r) = ap (same_text views_leaves (quoted_text views_leaves r.name)) h
arg_excludes rules text h d = arg_apart rules d refl

-- what stands before a `group`
group_shares : (q : Quoted Leaf) (d : LeafAttribute) → group_label d ≡ None → same_attribute (kind_of_attribute d) kinds.Group ≡ true → same_label views_leaves (label_of views_leaves d) (Some q) ≡ false
unfolding same_attribute
group_shares q (tree.Arg rules) none e = cc
group_shares q (tree.Texts kinds.Group []) none e = refl
group_shares q (tree.Texts kinds.Group (p ∷ ps)) none e = cc
group_shares q d none e = refl

group_apart : (q : Quoted Leaf) (qs : List (Quoted Leaf)) (d : LeafAttribute) → group_label d ≡ None → excludes views_leaves d (tree.Texts kinds.Group (q ∷ qs)) ≡ false
group_apart q qs d none =
    apart (same_attribute (kind_of_attribute d) kinds.Group) _ _ (repeatable_as kinds.Group d refl) (group_shares q d none)

group_excludes : (q : Quoted Leaf) (qs : List (Quoted Leaf)) (text : List ℕ) → quoted_text views_leaves q ≡ Some text → (d : LeafAttribute)
    → excludes views_leaves d (tree.Texts kinds.Group (q ∷ qs)) ≡ has_text text (group_label d)
unfolding same_attribute
group_excludes q qs text h (tree.Texts kinds.Group (p ∷ ps)) = ap (same_text views_leaves (quoted_text views_leaves p)) h
group_excludes q qs text h d = group_apart q qs d refl

-- an attribute without a label excludes none, if its kind may stand again
bare_excludes : (a : LeafAttribute) → label_of views_leaves a ≡ None → is_repeatable (kind_of_attribute a) ≡ true → (d : LeafAttribute) → excludes views_leaves d a ≡ false
bare_excludes a none h d =
    apart (same_attribute (kind_of_attribute d) (kind_of_attribute a)) _ _ (repeatable_as (kind_of_attribute a) d h) (λ e. rw none (unshared (label_of views_leaves d)))
  where
    unshared : (label : Option (Quoted Leaf)) → same_label views_leaves label None ≡ false
    unshared None = refl
    unshared (Some q) = refl

-- one that may stand once excludes those of its kind
pub excludes_kind : (d a : LeafAttribute) → is_repeatable (kind_of_attribute a) ≡ false → excludes views_leaves d a ≡ same_attribute (kind_of_attribute d) (kind_of_attribute a)
excludes_kind d a once = go (same_attribute (kind_of_attribute d) (kind_of_attribute a)) refl
  where
    go : (b : Bool) → same_attribute (kind_of_attribute d) (kind_of_attribute a) ≡ b → b && (not (is_repeatable (kind_of_attribute d)) || same_label views_leaves (label_of views_leaves d) (label_of views_leaves a)) ≡ b
    go false e = refl
    go true e = rw (ap is_repeatable (kind_is (kind_of_attribute d) (kind_of_attribute a) e) ∙ once) refl

-- ---- checks

-- nothing before it excludes it
none_excludes : (e : Entry Leaf Token) → ((d : LeafAttribute) → excludes views_leaves d e.attribute ≡ false) → (es : Entries) → check_repeated views_leaves es e ≡ Ok tt
none_excludes e h [] = refl
none_excludes e h (d ∷ es) = rw (h d.attribute) (none_excludes e h es)

pub repeatable_checked : (a : Attribute) (written : Written) (pairs : List (Attribute × Written)) → label_of views_leaves (leaf_attribute_of a) ≡ None
    → is_repeatable (kind_of_attribute (leaf_attribute_of a)) ≡ true → check_repeated views_leaves (map entry_of_pair pairs) (entry_of_pair (a, written)) ≡ Ok tt
repeatable_checked a written pairs none h = none_excludes (entry_of_pair (a, written)) (bare_excludes (leaf_attribute_of a) none h) (map entry_of_pair pairs)

-- the first one whose label has this text decides
line_checked : (label : Label) (text : List ℕ) (rule : Token → Rule Token) (e : Entry Leaf Token) (result : Result (Unit {0}) Fault)
    → ((d : LeafAttribute) → excludes views_leaves d e.attribute ≡ has_text text (label d)) → ((first : Token) → duplicate_rule views_leaves e.name e.attribute first ≡ rule first)
    → (es : Entries) → ChecksLine (first_line label text es) rule e.name result → Makes (λ (u : Unit {0}). tt) result (check_repeated views_leaves es e)
line_checked label text rule e result same ruled [] h = h
line_checked label text rule e result same ruled (d ∷ es) h =
    rw (same d.attribute) (go (has_text text (label d.attribute)) (λ k. line_checked label text rule e result same ruled es k) h)
  where
    go : (b : Bool) → (ChecksLine (first_line label text es) rule e.name result → Makes (λ (u : Unit {0}). tt) result (check_repeated views_leaves es e))
        → ChecksLine (option_map (λ (x : Entry Leaf Token). x.name.line) (cond b (Some d) (find (λ (x : Entry Leaf Token). has_text text (label x.attribute)) es))) rule e.name result
        → Makes (λ (u : Unit {0}). tt) result (cond b (new.refuse (duplicate_rule views_leaves e.name e.attribute d.name) e.name) (check_repeated views_leaves es e))
    go true later k = rw (ruled d.name) (k d.name refl)
    go false later k = later k

-- what an `arg` or a `group` is, by its label
arg_only : (a : LeafAttribute) (q : Quoted Leaf) → true ≡ same_attribute (kind_of_attribute a) kinds.Arg → label_of views_leaves a ≡ Some q
    → (rules : ArgumentRules Leaf Token) × (a ≡ tree.Arg rules) × (rules.name ≡ q)
unfolding same_attribute
arg_only (tree.Arg rules) q same e = (rules, refl, cc)
arg_only (tree.Texts kinds.Group texts) q same e = cc
arg_only a q same e = cc

group_only : (a : LeafAttribute) (q : Quoted Leaf) → false ≡ same_attribute (kind_of_attribute a) kinds.Arg → label_of views_leaves a ≡ Some q
    → (qs : List (Quoted Leaf)) × (a ≡ tree.Texts kinds.Group (q ∷ qs))
unfolding same_attribute
group_only (tree.Arg rules) q same e = cc
group_only (tree.Texts kinds.Group []) q same e = cc
group_only (tree.Texts kinds.Group (p ∷ ps)) q same e = (ps, (let is : p ≡ q = cc in ap (λ (x : Quoted Leaf). tree.Texts kinds.Group (x ∷ ps)) is))
group_only a q same e = cc

abbrev line_of : Entry Leaf Token → ℕ
line_of e = e.name.line

abbrev passes : Label → (text : List ℕ) → Entry Leaf Token → Bool
passes label text e = has_text text (label e.attribute)

-- ---- what is known after another attribute

or_none : {X : Type 0} (o : Option X) → option_or o None ≡ o
or_none None = refl
or_none (Some x) = refl

-- what is first after another attribute
first_append : (label : Label) (text : List ℕ) (es : Entries) (e : Entry Leaf Token)
    → first_line label text (es ++ e ∷ []) ≡ option_map line_of (option_or (find (passes label text) es) (cond (passes label text e) (Some e) None))
first_append label text es e = ap (option_map line_of) (find-append (passes label text) es (e ∷ []))

-- it has no such label
line_kept : (label : Label) (m n : LabelLines) (es : Entries) (e : Entry Leaf Token) → label e.attribute ≡ None
    → (text : List ℕ) → line_in m text ≡ first_line label text es → AreSameLines m n → line_in n text ≡ first_line label text (es ++ e ∷ [])
line_kept label m n es e none text known same =
    let found = find (passes label text) es in
    let without : option_map line_of (option_or found (cond (passes label text e) (Some e) None)) ≡ option_map line_of found =
    ap (λ l. option_map line_of (option_or found (cond (has_text text l) (Some e) None))) none ∙ ap (option_map line_of) (or_none found) in
    same text ∙ known ∙ sym (first_append label text es e ∙ without)

-- nothing was first
then_first : (o : Option (Entry Leaf Token)) (e : Entry Leaf Token) → option_map line_of o ≡ None → Some (line_of e) ≡ option_map line_of (option_or o (Some e))
then_first None e h = refl
then_first (Some d) e h = cc

-- it has this label, and nothing had it before
line_added : (label : Label) (text : List ℕ) (m n : LabelLines) (es : Entries) (e : Entry Leaf Token)
    → ((t : List ℕ) → has_text t (label e.attribute) ≡ bytes_eq text t) → first_line label text es ≡ None → line_in m text ≡ first_line label text es → IsNoted text (line_of e) m n
    → (t : List ℕ) → line_in m t ≡ first_line label t es → line_in n t ≡ first_line label t (es ++ e ∷ [])
line_added label text m n es e labelled none here noted t known =
    let found = find (passes label t) es in
    let last : option_map line_of (option_or found (cond (passes label t e) (Some e) None)) ≡ option_map line_of (option_or found (cond (bytes_eq text t) (Some e) None)) =
    ap (λ b. option_map line_of (option_or found (cond b (Some e) None))) (labelled t) in
    noted (here ∙ none) t ∙ go (bytes_eq text t) refl ∙ sym (first_append label t es e ∙ last)
  where
    go : (b : Bool) → bytes_eq text t ≡ b → cond b (Some (line_of e)) (line_in m t) ≡ option_map line_of (option_or (find (passes label t) es) (cond b (Some e) None))
    go false apart = known ∙ sym (ap (option_map line_of) (or_none (find (passes label t) es)))
    go true same = then_first (find (passes label t) es) e (subst (λ s. first_line label s es ≡ None) ((bytes_eq-Decides text t).0 same) none)

-- where nothing is refused, nothing was first
free : (label : Label) (text : List ℕ) (rule : Token → Rule Token) (at : Token) (es : Entries) (u : Unit {0}) → ChecksLine (first_line label text es) rule at (Ok u) → first_line label text es ≡ None
free label text rule at es u = go (find (passes label text) es)
  where
    go : (o : Option (Entry Leaf Token)) → ChecksLine (option_map line_of o) rule at (Ok u) → option_map line_of o ≡ None
    go None h = refl
    go (Some d) h = let refused : ◌≡◌ {A = Made Token (Unit {0})} (new.refuse (rule d.name) at) (Ok u) = h d.name refl in cc

arg_none : (a : LeafAttribute) → label_of views_leaves a ≡ None → arg_label a ≡ None
arg_none (tree.Arg rules) e = cc
arg_none a e = refl

group_none : (a : LeafAttribute) → label_of views_leaves a ≡ None → group_label a ≡ None
group_none (tree.Texts kinds.Group texts) e = e
group_none a e = refl

has_label : (q : Quoted Leaf) (l : StringLiteral) → q ≡ quoted_leaf l → quoted_text views_leaves q ≡ Some (string_bytes l.cooked)
has_label q l e = ap (quoted_text views_leaves) e ∙ label_text l

labelled_by : (label : Option (Quoted Leaf)) (q : Quoted Leaf) (text : List ℕ) → label ≡ Some q → quoted_text views_leaves q ≡ Some text → (t : List ℕ) → has_text t label ≡ bytes_eq text t
labelled_by label q text e h t = ap (has_text t) e ∙ ap (λ s. same_text views_leaves s (Some t)) h

module _ (a : Attribute) (written : Written) (pairs : List Pair) where
  abbrev seen : LeafAttribute
  seen = leaf_attribute_of a

  abbrev next : Entry Leaf Token
  next = entry_of_pair (a, written)

  abbrev before : Entries
  before = map entry_of_pair pairs

  -- an attribute without a label
  pub bare_known : (result : Result (Unit {0}) Fault) (labels : Labels) → label_of views_leaves seen ≡ None → AreKnown labels before → OnOk result (AreKnown labels (before ++ next ∷ []))
  unfolding AreKnown
  bare_known (Err fault) labels none known = tt
  bare_known (Ok u) labels none known = λ text. (
    line_kept arg_label labels.arguments labels.arguments before next (arg_none seen none) text (known text).0 (λ t. refl),
    line_kept group_label labels.groups labels.groups before next (group_none seen none) text (known text).1 (λ t. refl),
  )

  module _ (l : StringLiteral) (labelled : label_of views_leaves seen ≡ Some (quoted_leaf l)) where
    abbrev bytes : List ℕ
    bytes = string_bytes l.cooked

    abbrev place : Token
    place = written.name.token

    arg_checked : (labels : Labels) (result : Result (Unit {0}) Fault) → true ≡ same_attribute (kind_of_attribute seen) kinds.Arg → AreKnown labels before
        → ChecksLabel true l place labels result → Makes (λ (u : Unit {0}). tt) result (check_repeated views_leaves before next)
    unfolding AreKnown
    arg_checked labels result same known h =
        let only = arg_only seen (quoted_leaf l) same labelled in
        line_checked arg_label bytes (label_rule true l) next result
        (λ d. rw only.1 (arg_excludes only.0 bytes (has_label only.0.name l only.2) d))
        (λ first. arg_rule place first seen l (kind_is (kind_of_attribute seen) kinds.Arg (sym same)) labelled)
        before (subst (λ line. ChecksLine line (label_rule true l) place result) (known bytes).0 h)

    arg_known : (old new : Labels) (u : Unit {0}) → true ≡ same_attribute (kind_of_attribute seen) kinds.Arg → AreKnown old before
        → ChecksLabel true l place old (Ok u) → IsLabelNoted true bytes place.line old new → AreKnown new (before ++ next ∷ [])
    unfolding AreKnown
    arg_known old new u same known h noted =
        let only = arg_only seen (quoted_leaf l) same labelled in
        let none = free arg_label bytes (label_rule true l) place before u (subst (λ line. ChecksLine line (label_rule true l) place (Ok u)) (known bytes).0 h) in
        let its = labelled_by (arg_label seen) only.0.name bytes (ap arg_label only.1) (has_label only.0.name l only.2) in
        λ t. (
          line_added arg_label bytes old.arguments new.arguments before next its none (known bytes).0 noted.0 t (known t).0,
          line_kept group_label old.groups new.groups before next (ap group_label only.1) t (known t).1 noted.1,
        )

    group_checked : (labels : Labels) (result : Result (Unit {0}) Fault) → false ≡ same_attribute (kind_of_attribute seen) kinds.Arg → AreKnown labels before
        → ChecksLabel false l place labels result → Makes (λ (u : Unit {0}). tt) result (check_repeated views_leaves before next)
    unfolding AreKnown
    group_checked labels result same known h =
        let only = group_only seen (quoted_leaf l) same labelled in
        line_checked group_label bytes (label_rule false l) next result
        (λ d. rw only.1 (group_excludes (quoted_leaf l) only.0 bytes (label_text l) d))
        (λ first. group_rule place first seen l (λ is. let is_group : kind_of_attribute seen ≡ kinds.Group = ap kind_of_attribute only.1 in cc) labelled)
        before (subst (λ line. ChecksLine line (label_rule false l) place result) (known bytes).1 h)

    group_known : (old new : Labels) (u : Unit {0}) → false ≡ same_attribute (kind_of_attribute seen) kinds.Arg → AreKnown old before
        → ChecksLabel false l place old (Ok u) → IsLabelNoted false bytes place.line old new → AreKnown new (before ++ next ∷ [])
    unfolding AreKnown
    group_known old new u same known h noted =
        let only = group_only seen (quoted_leaf l) same labelled in
        let none = free group_label bytes (label_rule false l) place before u (subst (λ line. ChecksLine line (label_rule false l) place (Ok u)) (known bytes).1 h) in
        let its = labelled_by (group_label seen) (quoted_leaf l) bytes (ap group_label only.1) (label_text l) in
        λ t. (
          line_kept arg_label old.arguments new.arguments before next (ap arg_label only.1) t (known t).0 noted.1,
          line_added group_label bytes old.groups new.groups before next its none (known bytes).1 noted.0 t (known t).1,
        )

    -- an attribute with a label is checked by it
    pub label_checked : (is_arg : Bool) (labels : Labels) (result : Result (Unit {0}) Fault) → is_arg ≡ same_attribute (kind_of_attribute seen) kinds.Arg → AreKnown labels before
        → ChecksLabel is_arg l place labels result → Makes (λ (u : Unit {0}). tt) result (check_repeated views_leaves before next)
    label_checked true labels result same known h = arg_checked labels result same known h
    label_checked false labels result same known h = group_checked labels result same known h

    -- and then its label is known
    pub label_known : (is_arg : Bool) (old new : Labels) (result : Result (Unit {0}) Fault) → is_arg ≡ same_attribute (kind_of_attribute seen) kinds.Arg → AreKnown old before
        → ChecksLabel is_arg l place old result → OnOk result (IsLabelNoted is_arg bytes place.line old new) → OnOk result (AreKnown new (before ++ next ∷ []))
    label_known is_arg old new (Err fault) same known h noted = tt
    label_known true old new (Ok u) same known h noted = arg_known old new u same known h noted
    label_known false old new (Ok u) same known h noted = group_known old new u same known h noted

-- ---- a line is stored

pub line_stored : {Y : Type 0} (key : String Y) (line : ℕ) (m n : BTreeMap (String Y) ℕ) → Updates string_cmp m n key (Some line) → IsStored (string_bytes key) line m n
line_stored key line m n h q = btree_map_updates_text (string_bytes key) m n (Some line) h q

-- for the first text
pub first_noted : (text : List ℕ) (line : ℕ) (key : String Global) (old new : LabelLines) → string_bytes key ≡ text → old.first ≡ None → new.first ≡ Some (key, line) → new.others ≡ old.others → IsNoted text line old new
first_noted text line key old new is none first others free q =
    (λ i. line_or (first i) q (get_by_text (others i) q))
    ∙ ap (λ t. cond (bytes_eq t q) (Some line) (get_by_text old.others q)) is
    ∙ ap (λ o. cond (bytes_eq text q) (Some line) (line_or o q (get_by_text old.others q))) (sym none)

-- the first text keeps its line, since it isn't the new one
held_apart : (first text q : List ℕ) (l line : ℕ) (other old new : Option ℕ) → cond (bytes_eq first text) (Some l) other ≡ None → new ≡ cond (bytes_eq text q) (Some line) old
    → cond (bytes_eq first q) (Some l) new ≡ cond (bytes_eq text q) (Some line) (cond (bytes_eq first q) (Some l) old)
held_apart first text q l line other old new free stored = go (bytes_eq first q) refl (bytes_eq text q) refl stored
  where
    go : (a : Bool) → bytes_eq first q ≡ a → (b : Bool) → bytes_eq text q ≡ b → new ≡ cond b (Some line) old → cond a (Some l) new ≡ cond b (Some line) (cond a (Some l) old)
    go false h b k s = s
    go true h false k s = refl
    go true h true k s =
        let same : first ≡ text = (bytes_eq-Decides first q).0 h ∙ sym ((bytes_eq-Decides text q).0 k) in
        let held : Some l ≡ None = ap (λ c. cond c (Some l) other) (sym ((bytes_eq-Decides first text).1 same)) ∙ free in
        absurd cc

-- for another text
pub other_noted : (text : List ℕ) (line : ℕ) (key : String Global) (old new : LabelLines) → string_bytes key ≡ text → new.first ≡ old.first → IsStored (string_bytes key) line old.others new.others → IsNoted text line old new
other_noted text line key old new is kept stored free q =
    ap (λ o. line_or o q (get_by_text new.others q)) kept ∙ go old.first free
  where
    now : get_by_text new.others q ≡ cond (bytes_eq text q) (Some line) (get_by_text old.others q)
    now = stored q ∙ ap (λ t. cond (bytes_eq t q) (Some line) (get_by_text old.others q)) is

    go : (o : Option (String Global × ℕ)) → line_or o text (get_by_text old.others text) ≡ None → line_or o q (get_by_text new.others q) ≡ cond (bytes_eq text q) (Some line) (line_or o q (get_by_text old.others q))
    go None h = now
    go (Some l) h = held_apart (string_bytes l.0) text q l.1 line _ _ _ h now

-- running out of memory isn't a refusal
pub memory_checked : (line : Option ℕ) (rule : Token → Rule Token) (at : Token) → ChecksLine line rule at (Err faults.Memory)
memory_checked None rule at = tt
memory_checked (Some line) rule at = λ first h. tt

pub labels_same : (labels : Labels) → AreSame labels labels
labels_same labels = (λ text. refl, λ text. refl)

-- ---- the last attribute

module _ (pairs : List Pair) (x : Pair) (rest : List Pair) (split : IsLastAndRest pairs x rest) where
  pub before_known : (labels : Labels) → AreKnownBefore labels pairs → AreKnown labels (map entry_of_pair rest)
  before_known labels h = subst (λ ps. AreKnown labels (map entry_of_pair ps)) (last_apart h.before rest h.last x (sym h.is ∙ split.0)).0 h.known

  pub last_known : (result : Result (Unit {0}) Fault) (labels : Labels) → OnOk result (AreKnown labels (map entry_of_pair rest ++ entry_of_pair x ∷ []))
      → OnOk result (AreKnown labels (map entry_of_pair pairs))
  last_known (Err fault) labels h = tt
  last_known (Ok u) labels h = subst (AreKnown labels) (sym (map-append entry_of_pair rest (x ∷ [])) ∙ ap (map entry_of_pair) (sym split.0)) h

pub no_last : (labels later : Labels) (pairs : List Pair) → AreKnownBefore labels pairs → length pairs ≡ 0 → AreKnown later (map entry_of_pair pairs)
no_last labels later pairs h none = absurd (go h.before (ap length (sym h.is) ∙ none))
  where
    go : (before : List Pair) → length (before ++ h.last ∷ []) ≡ 0 → ⊥
    go [] e = cc
    go (p ∷ before) e = cc

-- ---- all that were read

no_line : (label : Label) (m : LabelLines) (pairs : List Pair) → HasNone m → pairs ≡ [] → (text : List ℕ) → line_in m text ≡ first_line label text (map entry_of_pair pairs)
no_line label m pairs h none text = h text ∙ sym (ap (λ ps. first_line label text (map entry_of_pair ps)) none)

pub none_known : (labels : Labels) (pairs : List Pair) → HasNone labels.arguments → HasNone labels.groups → pairs ≡ [] → AreKnown labels (map entry_of_pair pairs)
unfolding AreKnown
none_known labels pairs e f none = λ text. (no_line arg_label labels.arguments pairs e none text, no_line group_label labels.groups pairs f none text)

labels_known : (old new : Labels) (es : Entries) → AreSame old new → AreKnown old es → AreKnown new es
unfolding AreKnown
labels_known old new es same known = λ text. (same.0 text ∙ (known text).0, same.1 text ∙ (known text).1)

-- what was added is taken away again
-- after the last attribute was checked
pub known_or_same : (result : Result (Unit {0}) Fault) (old new : Labels) (entries : Entries) → OnOk result (AreKnown new entries) → OnErr result (AreSame old new)
    → KnowsLabels result old new entries
known_or_same (Ok added) old new entries h k = h
known_or_same (Err fault) old new entries h k = k

pub still_known : (old new : Labels) (pairs later : List Pair) (count : ℕ) → AreKnown old (map entry_of_pair pairs) → AreSame old new → count ≡ length pairs
    → take (length pairs) later ≡ pairs → AreKnown new (map entry_of_pair (take count later))
still_known old new pairs later count known same counted begins =
    rw (counted, begins) (labels_known old new (map entry_of_pair pairs) same known)

-- a comment changes no label
line_still : (b : Bool) (d e : Entry Leaf Token) (os ps : Option (Entry Leaf Token)) → line_of d ≡ line_of e → option_map line_of os ≡ option_map line_of ps
    → option_map line_of (cond b (Some d) os) ≡ option_map line_of (cond b (Some e) ps)
line_still true d e os ps h k = ap (λ (n : ℕ). Some n) h
line_still false d e os ps h k = k

last_commented : (label : Label) (text : List ℕ) (comment : Comment) (pairs : List Pair)
    → first_line label text (map entry_of_pair (last_with_comment comment pairs)) ≡ first_line label text (map entry_of_pair pairs)
last_commented label text comment [] = refl
last_commented label text comment (p ∷ []) = line_still (passes label text (entry_of_pair p)) _ _ None None refl refl
last_commented label text comment (p ∷ q ∷ pairs) = line_still (passes label text (entry_of_pair p)) _ _ _ _ refl (last_commented label text comment (q ∷ pairs))

all_commented : (label : Label) (text : List ℕ) (comment : Option Comment) (pairs : List Pair)
    → first_line label text (map entry_of_pair (line_commented comment pairs)) ≡ first_line label text (map entry_of_pair pairs)
all_commented label text None pairs = refl
all_commented label text (Some comment) pairs = last_commented label text comment pairs

pub commented_known : (labels : Labels) (comment : Option Comment) (old new : List Pair) → new ≡ line_commented comment old → AreKnown labels (map entry_of_pair old) → AreKnown labels (map entry_of_pair new)
unfolding AreKnown
commented_known labels comment old new h known = λ text. rw h
    ((known text).0 ∙ sym (all_commented arg_label text comment old), (known text).1 ∙ sym (all_commented group_label text comment old))

-- what was known before one was added
pub known_before : (labels : Labels) (made : Made Token LeafAttribute) (name : Name) (old later : List Pair) → AreKnown labels (map entry_of_pair old) → IsAdded leaf_attribute_of made name old later → AreKnownBefore labels later
known_before labels made name old later known h = record { before = old; last = uncommented (h.attribute, name); is = h.added; known = known }

pub begins_added : (made : Made Token LeafAttribute) (name : Name) (old later : List Pair) → IsAdded leaf_attribute_of made name old later → take (length old) later ≡ old
begins_added made name old later h = ap (take (length old)) h.added ∙ take-append_seam old (uncommented (h.attribute, name) ∷ [])

pub begins_same : (old later : List Pair) → later ≡ old → take (length old) later ≡ old
begins_same old later h = rw h (take_all old)
  where
    take_all : (ps : List Pair) → take (length ps) ps ≡ ps
    take_all [] = refl
    take_all (p ∷ ps) = ap (λ (l : List Pair). p ∷ l) (take_all ps)
