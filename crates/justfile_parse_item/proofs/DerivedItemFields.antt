-- The derived fields of items, as one item after another is added.
use Rattle.std.proofs.Common.{◌≡◌, All, List, [], ◌∷◌, ◌++◌, OnOk, Result, Ok, Err, subst, sym}
use Rattle.std.proofs.lemmas.List.Elements.{All-nil, All-push}
use Rattle.justfile_item.specs.declared.item.Item.{Item}
use Rattle.justfile_item.specs.declared.item.Item.TheVariants.{Newline}
use Rattle.justfile_parse_item.specs.DerivedFields.{HaveDerivedFields, HasDerivedItemFields, KeepsDerivedFields}

pub none_fields : HaveDerivedFields []
unfolding HaveDerivedFields
none_fields = All-nil HasDerivedItemFields

pub pushed_fields : (old new : List Item) (i : Item) → new ≡ old ++ i ∷ [] → HasDerivedItemFields i → KeepsDerivedFields old new
unfolding HaveDerivedFields KeepsDerivedFields
pushed_fields old new i e h k = subst (All HasDerivedItemFields) (sym e) (All-push HasDerivedItemFields old i k h)

pub newline_fields : (old new : List Item) → new ≡ old ++ Newline ∷ [] → KeepsDerivedFields old new
newline_fields old new e = pushed_fields old new Newline e tt

pub same_fields : (items : List Item) → KeepsDerivedFields items items
unfolding KeepsDerivedFields
same_fields items h = h

pub both_fields : (first between last : List Item) → KeepsDerivedFields first between → KeepsDerivedFields between last → KeepsDerivedFields first last
unfolding KeepsDerivedFields
both_fields first between last h k w = k (h w)

pub then_fields : (old new : List Item) → HaveDerivedFields old → KeepsDerivedFields old new → HaveDerivedFields new
unfolding KeepsDerivedFields
then_fields old new h k = k h

pub after_ok : {A E : Type 0} (r : Result A E) (first between last : List Item) → KeepsDerivedFields first between → OnOk r (KeepsDerivedFields between last) → OnOk r (KeepsDerivedFields first last)
after_ok (Ok x) first between last h k = both_fields first between last h k
after_ok (Err e) first between last h k = k
