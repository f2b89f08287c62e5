-- The derived fields of attributes, as one attribute after another is added.
use Rattle.std.proofs.Common.{◌≡◌, ◌∙◌, All, List, [], ◌∷◌, ◌++◌, map, OnOk, Result, Ok, Err, subst, sym, ap}
use Rattle.std.proofs.lemmas.List.{map-append}
use Rattle.std.proofs.lemmas.List.Elements.{All-nil, All-push, All-weaker}
use Rattle.justfile_attribute.specs.New.{HasDerivedAttributeFields}
use Rattle.justfile_attribute.specs.declared.attribute.Attribute.{Attribute}
use Rattle.justfile_attribute.specs.declared.attribute.Attribute.TheVariants as variants
use Rattle.justfile_token.specs.declared.fault.Fault.{Fault}
use Rattle.justfile_token.specs.declared.name.Name.{Name}
use Rattle.justfile_written.specs.Written.{uncommented}
use Rattle.justfile_written.specs.declared.written.Written.{Written}
use Rattle.justfile_attribute.specs.KeyedBounds.{HaveBoundKeys, HasBoundKeys}
use Rattle.justfile_parse_attribute.specs.DerivedAttributeFields.{HaveDerivedAttributeFields, HaveDerivedPairFields, KeepsDerivedPairFields}

abbrev attribute_of : Attribute × Written → Attribute
attribute_of p = p.0

-- a bound stands with its key in each of them
fields_keyed : (a : Attribute) → HasDerivedAttributeFields a → HasBoundKeys a
fields_keyed (variants.Arg flag help help_property long long_key max max_key min min_key multiple name pattern short short_key value) h =
    (λ some. h.max_keyed ∙ some, λ some. h.min_keyed ∙ some)
fields_keyed a h = tt

pub all_keyed : (attributes : List Attribute) → HaveDerivedAttributeFields attributes → HaveBoundKeys attributes
unfolding HaveBoundKeys HaveDerivedAttributeFields
all_keyed attributes h = All-weaker HasDerivedAttributeFields HasBoundKeys fields_keyed attributes h

pub none_fields : HaveDerivedPairFields []
unfolding HaveDerivedAttributeFields
none_fields = All-nil HasDerivedAttributeFields

pub pushed_fields : (old new : List (Attribute × Written)) (a : Attribute) (written : Written) → new ≡ old ++ (a, written) ∷ [] → HasDerivedAttributeFields a → KeepsDerivedPairFields old new
unfolding HaveDerivedAttributeFields KeepsDerivedPairFields
pushed_fields old new a written e h whole =
    let all : map attribute_of new ≡ map attribute_of old ++ a ∷ [] = ap (map attribute_of) e ∙ map-append attribute_of old ((a, written) ∷ []) in
    subst (All HasDerivedAttributeFields) (sym all) (All-push HasDerivedAttributeFields (map attribute_of old) a whole h)

-- where room was reserved before
pub reserved_fields : (old between new : List (Attribute × Written)) (a : Attribute) (written : Written) → between ≡ old → new ≡ between ++ (a, written) ∷ [] → HasDerivedAttributeFields a
    → KeepsDerivedPairFields old new
reserved_fields old between new a written e f h = pushed_fields old new a written (f ∙ ap (λ (pairs : List (Attribute × Written)). pairs ++ (a, written) ∷ []) e) h

-- where it was added
pub added_fields : (result : Result (Unit {0}) Fault) (old new : List (Attribute × Written)) (a : Attribute) (name : Name) → OnOk result (new ≡ old ++ uncommented (a, name) ∷ []) → HasDerivedAttributeFields a
    → OnOk result (KeepsDerivedPairFields old new)
added_fields (Ok done) old new a name e h = pushed_fields old new a _ e h
added_fields (Err fault) old new a name e h = tt

pub same_fields : (pairs : List (Attribute × Written)) → KeepsDerivedPairFields pairs pairs
unfolding KeepsDerivedPairFields
same_fields pairs h = h

pub unchanged_fields : (old new : List (Attribute × Written)) → new ≡ old → KeepsDerivedPairFields old new
unchanged_fields old new e = subst (KeepsDerivedPairFields old) (sym e) (same_fields old)

pub both_fields : (first between last : List (Attribute × Written)) → KeepsDerivedPairFields first between → KeepsDerivedPairFields between last → KeepsDerivedPairFields first last
unfolding KeepsDerivedPairFields
both_fields first between last h k whole = k (h whole)

pub then_fields : (old new : List (Attribute × Written)) → HaveDerivedPairFields old → KeepsDerivedPairFields old new → HaveDerivedPairFields new
unfolding KeepsDerivedPairFields
then_fields old new h k = k h
