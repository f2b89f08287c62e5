-- The lines where each label of an `arg` and of a `group` is first, among parsed attributes.
use Rattle.std.specs.Prelude.{◌≡◌, ℕ, Bool, true, false, cond, List, [], ◌∷◌, ◌++◌, map, find, Option, Some, None, Result, Ok, Err, String, string_bytes}
use Rattle.std.specs.BTreeMap.{BTreeMap, get_by_text}
use Rattle.std.specs.Coded.{Coded-set, coded_option, coded_ℕ}
use Rattle.std.specs.Option.{option_map}
use Rattle.std.specs.Str.{bytes_eq}
use Rattle.justfile_attribute.specs.declared.attribute.Attribute.{Attribute}
use Rattle.justfile_attribute_rules.specs.Made.{Makes}
use Rattle.justfile_token.specs.declared.fault.Fault.{Fault}
use Rattle.justfile_token.specs.declared.string_literal.StringLiteral.{StringLiteral}
use Rattle.justfile_token.specs.declared.token.Token.{Token}
use Rattle.justfile_model.specs.Meanings.AttributeRules.{same_text}
use Rattle.justfile_model.specs.Trees.ContentLeaf.{literal_value}
use Rattle.justfile_model.specs.Meanings.Meaning.{first_of, quoted_text}
use Rattle.justfile_model.specs.Readers.NewAttribute.{refuse}
use Rattle.justfile_model.specs.Meanings.Rules.{Rule, DuplicateArgAttribute, DuplicateGroupAttribute}
use Rattle.justfile_model.specs.Trees.Tree as tree
use Rattle.justfile_model.specs.Trees.Tree.{Entry, Quoted}
use Rattle.justfile_parse_attribute.specs.Attributes.{entry_of_pair}
use Rattle.justfile_parse_attribute.specs.declared.labels.LabelLines.{LabelLines}
use Rattle.justfile_parse_attribute.specs.declared.labels.Labels.{Labels}
use Rattle.justfile_leaves.specs.LeafContent.{literal_content}
use Rattle.justfile_expression.specs.LeafViews.{views_leaves}
use Rattle.justfile_expression.specs.LeafTree.{Leaf}
use Rattle.justfile_vocabulary.specs.declared.attribute_kind.AttributeKind.TheVariants as kinds
use Rattle.justfile_written.specs.declared.written.Written.{Written}

-- an attribute as the definitions see it
abbrev pub LeafAttribute : Type 0
LeafAttribute = tree.Attribute Leaf Token

-- the label of an `arg`, and of a `group`
abbrev pub arg_label : LeafAttribute → Option (Quoted Leaf)
arg_label (tree.Arg rules) = Some rules.name
arg_label _ = None

abbrev pub group_label : LeafAttribute → Option (Quoted Leaf)
group_label (tree.Texts kinds.Group texts) = first_of texts
group_label _ = None

-- whether a label has this text
abbrev pub has_text : (text : List ℕ) → Option (Quoted Leaf) → Bool
has_text text None = false
has_text text (Some q) = same_text views_leaves (quoted_text views_leaves q) (Some text)

-- the line of the first entry whose label has this text
abbrev pub first_line : (LeafAttribute → Option (Quoted Leaf)) → (text : List ℕ) → List (Entry Leaf Token) → Option ℕ
first_line label text entries = option_map (λ (e : Entry Leaf Token). e.name.line) (find (λ (e : Entry Leaf Token). has_text text (label e.attribute)) entries)

-- the line of the first text if it is this one, and otherwise the other line
abbrev pub line_or : {Y : Type 0} → (first : Option (String Y × ℕ)) → (text : List ℕ) → Option ℕ → Option ℕ
line_or None text other = other
line_or (Some first) text other = cond (bytes_eq (string_bytes first.0) text) (Some first.1) other

-- the line stored for a text
abbrev pub line_in : LabelLines → (text : List ℕ) → Option ℕ
line_in lines text = line_or lines.first text (get_by_text lines.others text)

-- No line is stored.
abbrev pub HasNone : LabelLines → Type 0
HasNone lines = (text : List ℕ) → line_in lines text ≡ None

-- The same lines are stored.
abbrev pub AreSameLines : (old new : LabelLines) → Type 0
AreSameLines old new = (text : List ℕ) → line_in new text ≡ line_in old text

-- `labels` has the labels of these entries, each with the line where it is first.
unfoldable pub AreKnown : Labels → List (Entry Leaf Token) → Type 0
AreKnown labels entries =
    (text : List ℕ) → (line_in labels.arguments text ≡ first_line arg_label text entries) × (line_in labels.groups text ≡ first_line group_label text entries)

pub prop_known : (labels : Labels) (entries : List (Entry Leaf Token)) → IsProp (AreKnown labels entries)
unfolding AreKnown
prop_known labels entries = hlevel (Coded-set (coded_option coded_ℕ))

-- `labels` has the labels of all attributes but the last.
pub record AreKnownBefore (labels : Labels) (pairs : List (Attribute × Written)) : Type 0 where
  pub before : List (Attribute × Written)
  pub last : Attribute × Written
  pub is : pairs ≡ before ++ last ∷ []
  pub known : AreKnown labels (map entry_of_pair before)

-- The labels are unchanged.
abbrev pub AreSame : (old new : Labels) → Type 0
AreSame old new = AreSameLines old.arguments new.arguments × AreSameLines old.groups new.groups

-- After success the labels of these attributes are known; after an error the labels are unchanged.
abbrev pub KnowsLabels : Result (Unit {0}) Fault → (old new : Labels) → List (Entry Leaf Token) → Type 0
KnowsLabels (Ok added) old new entries = AreKnown new entries
KnowsLabels (Err fault) old new entries = AreSame old new

-- A line is stored for this text; the other texts keep theirs.
abbrev pub IsStored : {Y : Type 0} → (text : List ℕ) (line : ℕ) → (old new : BTreeMap (String Y) ℕ) → Type 0
IsStored text line old new = (q : List ℕ) → get_by_text new q ≡ cond (bytes_eq text q) (Some line) (get_by_text old q)

-- A line is stored for this text, if it had none; the other texts keep theirs.
abbrev pub IsNoted : (text : List ℕ) (line : ℕ) → (old new : LabelLines) → Type 0
IsNoted text line old new = line_in old text ≡ None → (q : List ℕ) → line_in new q ≡ cond (bytes_eq text q) (Some line) (line_in old q)

-- A line is stored for the label of an `arg` (if `is_arg`) or `group` (otherwise).
abbrev pub IsLabelNoted : (is_arg : Bool) (text : List ℕ) (line : ℕ) → (old new : Labels) → Type 0
IsLabelNoted true text line old new = IsNoted text line old.arguments new.arguments × AreSameLines old.groups new.groups
IsLabelNoted false text line old new = IsNoted text line old.groups new.groups × AreSameLines old.arguments new.arguments

-- the line stored for the label of an `arg` (if `is_arg`) or `group` (otherwise)
abbrev pub line_at : (is_arg : Bool) (text : List ℕ) → Labels → Option ℕ
line_at true text labels = line_in labels.arguments text
line_at false text labels = line_in labels.groups text

-- the rule that a repeated label breaks
abbrev pub label_rule : (is_arg : Bool) → StringLiteral → (first : Token) → Rule Token
label_rule true l first = DuplicateArgAttribute (string_bytes l.cooked) first
label_rule false l first = DuplicateGroupAttribute (literal_value (literal_content l)) l.token first

-- Nothing is refused if no line is stored. Otherwise the rule is broken, for any first token on that line.
abbrev pub ChecksLine : (line : Option ℕ) → ((first : Token) → Rule Token) → (at : Token) → Result (Unit {0}) Fault → Type 0
ChecksLine None rule at result = Makes (λ (u : Unit {0}). u) result (Ok tt)
ChecksLine (Some line) rule at result = (first : Token) → first.line ≡ line → Makes (λ (u : Unit {0}). u) result (refuse (rule first) at)

-- The check of a label against the line stored for it.
abbrev pub ChecksLabel : (is_arg : Bool) → StringLiteral → (at : Token) → Labels → Result (Unit {0}) Fault → Type 0
ChecksLabel is_arg l at labels result = ChecksLine (line_at is_arg (string_bytes l.cooked) labels) (label_rule is_arg l) at result
