-- Attributes that take no arguments.
use Rattle.std.proofs.Common.{◌≡◌, ◌∙◌, List, [], IsTrue, Ok, refl, sym, true≢false}
use Rattle.justfile_attribute.specs.New.{takes_no_arguments}
use Rattle.justfile_vocabulary.specs.declared.attribute_kind.AttributeKind.{AttributeKind}
use Rattle.justfile_vocabulary.specs.declared.attribute_kind.AttributeKind.TheVariants as kinds
use Rattle.justfile_token.specs.declared.token.Token.{Token}
use Rattle.justfile_model.specs.Meanings.Meaning.{by_key, by_position}
use Rattle.justfile_model.specs.Readers.NewAttribute.{new_attribute}
use Rattle.justfile_model.specs.Trees.Tree as tree
use Rattle.justfile_model.specs.Trees.Tree.{Argument}
use Rattle.justfile_expression.specs.LeafViews.{views_leaves}
use Rattle.justfile_expression.specs.LeafTree.{Leaf}

plain_is : (at : Token) (kind : AttributeKind) → IsTrue (takes_no_arguments kind) → new_attribute views_leaves at kind [] [] ≡ Ok (tree.Plain kind)
unfolding new_attribute
plain_is at kinds.Arg h = absurd (true≢false (sym h))
plain_is at kinds.Cache h = absurd (true≢false (sym h))
plain_is at kinds.Confirm h = absurd (true≢false (sym h))
plain_is at kinds.Continue h = absurd (true≢false (sym h))
plain_is at kinds.Doc h = absurd (true≢false (sym h))
plain_is at kinds.Env h = absurd (true≢false (sym h))
plain_is at kinds.Extension h = absurd (true≢false (sym h))
plain_is at kinds.Group h = absurd (true≢false (sym h))
plain_is at kinds.Metadata h = absurd (true≢false (sym h))
plain_is at kinds.Script h = absurd (true≢false (sym h))
plain_is at kinds.Timestamp h = absurd (true≢false (sym h))
plain_is at kinds.WorkingDirectory h = absurd (true≢false (sym h))
plain_is at kind h = refl

-- without arguments it is made at once
pub plain_made : (at : Token) (kind : AttributeKind) (given : List (Argument Leaf Token)) → IsTrue (takes_no_arguments kind) → given ≡ []
    → new_attribute views_leaves at kind (by_position given) (by_key given) ≡ Ok (tree.Plain kind)
plain_made at kind given h e = (λ i. new_attribute views_leaves at kind (by_position (e i)) (by_key (e i))) ∙ plain_is at kind h
