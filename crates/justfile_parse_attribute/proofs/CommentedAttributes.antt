-- The comment after a line of attributes, attached to the last of them.
use Rattle.std.proofs.Common.{◌≡◌, ◌∙◌, All, List, [], ◌∷◌, map, Option, Some, None, refl, sym, ap, subst}
use Rattle.std.specs.Option.{option_copied, option_map}
use Rattle.justfile_attribute.specs.New.{HasDerivedAttributeFields}
use Rattle.justfile_attribute.specs.declared.attribute.Attribute.{Attribute}
use Rattle.justfile_model.specs.Trees.Tree.{at_last, commented, commented_entry}
use Rattle.justfile_parse_attribute.specs.AttributeTable as reader
use Rattle.justfile_parse_attribute.specs.Attributes.{entry_of_pair}
use Rattle.justfile_parse_attribute.specs.DerivedAttributeFields.{HaveDerivedAttributeFields, KeepsDerivedPairFields}
use Rattle.justfile_parse_expression.specs.Significant.{TableToken}
use Rattle.justfile_written.specs.Written.{Comment, last_with_comment, line_commented}
use Rattle.justfile_written.specs.declared.written.Written.{Written}

abbrev Pair : Type 0
Pair = Attribute × Written

last_entry : (comment : Comment) (pairs : List Pair)
    → map entry_of_pair (last_with_comment comment pairs) ≡ at_last (commented_entry comment.now) (map entry_of_pair pairs)
last_entry comment [] = refl
last_entry comment (p ∷ []) = refl
last_entry comment (p ∷ q ∷ pairs) = ap (λ l. entry_of_pair p ∷ l) (last_entry comment (q ∷ pairs))

line_entries : (comment : Option Comment) (pairs : List Pair)
    → map entry_of_pair (line_commented comment pairs) ≡ commented commented_entry (option_copied comment) (map entry_of_pair pairs)
line_entries None pairs = refl
line_entries (Some comment) pairs = last_entry comment pairs

-- the entries have the comment at the same place
pub entries_commented : (comment : Option Comment) (taken : Option TableToken) (old new : List Pair) → option_copied comment ≡ option_map reader.comment_in taken
    → new ≡ line_commented comment old → map entry_of_pair new ≡ reader.commented_by taken (map entry_of_pair old)
entries_commented comment taken old new e h =
    ap (map entry_of_pair) h ∙ line_entries comment old ∙ ap (λ c. commented commented_entry c (map entry_of_pair old)) e

abbrev attribute_of : Pair → Attribute
attribute_of p = p.0

last_attribute : (comment : Comment) (pairs : List Pair) → map attribute_of (last_with_comment comment pairs) ≡ map attribute_of pairs
last_attribute comment [] = refl
last_attribute comment (p ∷ []) = refl
last_attribute comment (p ∷ q ∷ pairs) = ap (λ l. p.0 ∷ l) (last_attribute comment (q ∷ pairs))

line_attributes : (comment : Option Comment) (pairs : List Pair) → map attribute_of (line_commented comment pairs) ≡ map attribute_of pairs
line_attributes None pairs = refl
line_attributes (Some comment) pairs = last_attribute comment pairs

-- the attributes stay as they are
pub commented_fields : (comment : Option Comment) (old new : List Pair) → new ≡ line_commented comment old → KeepsDerivedPairFields old new
unfolding KeepsDerivedPairFields HaveDerivedAttributeFields
commented_fields comment old new h whole =
    subst (All HasDerivedAttributeFields) (sym (ap (map attribute_of) h ∙ line_attributes comment old)) whole
