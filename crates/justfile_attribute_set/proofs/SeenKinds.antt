-- The kinds of attributes are the same in all their trees.
use Rattle.std.proofs.Common.{◌≡◌, ◌∙◌, List, [], ◌∷◌, Bool, true, false, cond, map, not, Option, Some, None, refl, sym, ap, subst}
use Rattle.std.specs.List.{find}
use Rattle.std.specs.Option.{option_map}
use Rattle.justfile_token.specs.Token.{lexeme_of}
use Rattle.justfile_vocabulary.specs.declared.attribute_kind.AttributeKind.{AttributeKind}
use Rattle.justfile_token.specs.declared.compile_error.CompileError.{CompileError}
use Rattle.justfile_token.specs.declared.compile_error_kind.CompileErrorKind.TheVariants.{InvalidAttribute}
use Rattle.justfile_vocabulary.specs.declared.item_kind.ItemKind.{ItemKind}
use Rattle.justfile_token.specs.declared.token.Token.{Token}
use Rattle.justfile_model.specs.Meanings.AttributeKinds.{is_allowed}
use Rattle.justfile_model.specs.Meanings.AttributeRules.{first_invalid}
use Rattle.justfile_model.specs.Trees.ContentKeys.{kind_of_attribute}
use Rattle.justfile_expression.specs.LeafViews.{views_leaves}
use Rattle.justfile_attribute.specs.Attribute.{leaf_attribute_of}
use Rattle.justfile_attribute.specs.declared.attribute.Attribute.{Attribute}
use Rattle.justfile_attribute.proofs.Ordered.{kind_seen}
use Rattle.justfile_attribute_set.specs.AttributeSet.{IsInvalidBy, NamesInvalid}
use Rattle.justfile_attribute_set.specs.Attributes.{kind_of}
use Rattle.justfile_attribute_set.specs.Pairs.{Pair, leaf_entry_of}

-- the kind that the set uses is that of the tree
kind_is : (a : Attribute) → kind_of a ≡ kind_of_attribute (leaf_attribute_of a)
unfolding kind_of
kind_is a = kind_seen a

-- the first entry that such an item may not have is that of the first such pair
first_if : (item : ItemKind) (p : Pair) (o : Option Pair) → cond (not (is_allowed item (kind_of_attribute (leaf_attribute_of p.0)))) (Some (leaf_entry_of p)) (option_map leaf_entry_of o)
    ≡ option_map leaf_entry_of (cond (not (is_allowed item (kind_of p.0))) (Some p) o)
first_if item p o =
    ap (λ k. cond (not (is_allowed item k)) (Some (leaf_entry_of p)) (option_map leaf_entry_of o)) (sym (kind_is p.0))
    ∙ within (not (is_allowed item (kind_of p.0)))
  where
    within : (b : Bool) → cond b (Some (leaf_entry_of p)) (option_map leaf_entry_of o) ≡ option_map leaf_entry_of (cond b (Some p) o)
    within true = refl
    within false = refl

abbrev pub first_pair : ItemKind → List Pair → Option Pair
first_pair item pairs = find (λ p. not (is_allowed item (kind_of p.0))) pairs

pub first_seen : (item : ItemKind) (pairs : List Pair) → first_invalid views_leaves item (map leaf_entry_of pairs) ≡ option_map leaf_entry_of (first_pair item pairs)
first_seen item [] = refl
first_seen item (p ∷ ps) =
    ap (λ o. cond (not (is_allowed item (kind_of_attribute (leaf_attribute_of p.0)))) (Some (leaf_entry_of p)) o) (first_seen item ps)
    ∙ first_if item p (first_pair item ps)

pub none_invalid : (item : ItemKind) (pairs : List Pair) → first_pair item pairs ≡ None → first_invalid views_leaves item (map leaf_entry_of pairs) ≡ None
none_invalid item pairs e = first_seen item pairs ∙ ap (option_map leaf_entry_of) e

pub invalid_by : (item : ItemKind) (pairs : List Pair) (p : Pair) (name : Token) (kind : AttributeKind) {text : _} (e : CompileError) → first_pair item pairs ≡ Some p
    → kind ≡ kind_of p.0 → e.token ≡ name → e.kind ≡ InvalidAttribute item text kind → text.now ≡ lexeme_of name
    → IsInvalidBy (first_invalid views_leaves item (map leaf_entry_of pairs)) item name e
invalid_by item pairs p name kind e found is token says named =
    subst (λ o. IsInvalidBy o item name e) (sym (first_seen item pairs ∙ ap (option_map leaf_entry_of) found))
    (token, subst (λ k. NamesInvalid item name (kind_of_attribute (leaf_attribute_of p.0)) k) (sym says) (refl, named, is ∙ kind_is p.0))
