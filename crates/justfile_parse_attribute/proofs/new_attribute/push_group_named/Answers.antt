use Rattle.std.proofs.Common.{◌∙◌, List, [], ◌∷◌, ◌++◌, Ok, ap, refl}
use Rattle.justfile_attribute.specs.declared.attribute.Attribute.{Attribute}
use Rattle.justfile_attribute.specs.declared.attribute.Attribute.TheVariants as variants
use Rattle.justfile_attribute_rules.specs.Made.{quoted_leaf}
use Rattle.justfile_model.specs.Trees.Tree as tree
use Rattle.justfile_vocabulary.specs.declared.attribute_kind.AttributeKind.TheVariants as kinds
use Rattle.justfile_parse_attribute.proofs.DerivedFieldsKept.{reserved_fields}
use Rattle.justfile_parse_attribute.proofs.RepeatedAttributes.{made_added}
use Rattle.justfile_parse_attribute.proofs.new_attribute.push_group_named.Goals as goal
use Rattle.justfile_written.specs.Written.{uncommented}
use Rattle.justfile_written.specs.declared.written.Written.{Written}

pub returns-clause-added : goal.returns-clause-added
returns-clause-added c =
    made_added (Ok (tree.Texts kinds.Group (quoted_leaf c.args.group ∷ []))) c.args.name c.args.attributes.now.items (variants.Group c.args.group) c.push_reserved.new.self.items refl
    (c.push_reserved.ensures.items ∙ ap (λ (pairs : List (Attribute × Written)). pairs ++ uncommented (variants.Group c.args.group, c.args.name) ∷ []) c.reserve.ensures.items)

pub returns-clause-fields : goal.returns-clause-fields
returns-clause-fields c =
    reserved_fields c.args.attributes.now.items c.reserve.new.self.items c.push_reserved.new.self.items (variants.Group c.args.group) _ c.reserve.ensures.items
    c.push_reserved.ensures.items tt
