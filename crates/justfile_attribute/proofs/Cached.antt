-- Reading the keys of `cache` one after another gives the same as reading them from the whole list.
use Rattle.std.proofs.Common.{◌≡◌, ◌∙◌, List, [], ◌∷◌, codes, Ok, refl, sym, subst}
use Rattle.justfile_token.specs.declared.fault.Fault.{Fault}
use Rattle.justfile_token.specs.declared.token.Token.{Token}
use Rattle.justfile_model.specs.Meanings.Meaning.{KeyArgument, at_key}
use Rattle.justfile_model.specs.Readers.NewAttribute.{◌>>=◌, Made, if_given, new_cache, required}
use Rattle.justfile_model.specs.Trees.Tree as tree
use Rattle.justfile_model.specs.Trees.Tree.{Attribute}
use Rattle.justfile_attribute_rules.specs.Keys.{views_keys}
use Rattle.justfile_expression.specs.LeafTree.{Leaf}
use Rattle.justfile_attribute.specs.Cached.{cache_read}
use Rattle.justfile_attribute.specs.New.{with_known}
use Rattle.justfile_attribute.proofs.Counted.{known_made}
use Rattle.justfile_attribute_rules.proofs.Refused.{refused_first}
use Rattle.justfile_attribute_rules.proofs.StepLaws.{still_all}
use Rattle.justfile_attribute_rules.specs.Made.{IsRefusedBy}

cache_is : (at : Token) (keys : List (KeyArgument Leaf Token)) → cache_read at keys ≡ new_cache views_keys at keys
cache_is at keys i =
    if_given (required views_keys at) (at_key views_keys (codes "extra") keys)
    >>= (λ extra. if_given (required views_keys at) (still_all (codes "inputs") (codes "extra" ∷ []) refl keys i)
    >>= (λ inputs. if_given (required views_keys at) (still_all (codes "outputs") (codes "inputs" ∷ codes "extra" ∷ []) refl keys i)
    >>= (λ outputs. Ok (tree.Cache extra inputs outputs))))

module _ (at : Token) (keys : List (KeyArgument Leaf Token)) (known : Made Token (Unit {0})) where
  pub cache_made : (attribute : Attribute Leaf Token) → cache_read at keys ≡ Ok attribute → known ≡ Ok tt
      → with_known known (new_cache views_keys at keys) ≡ Ok attribute
  cache_made attribute made is_known = known_made known (new_cache views_keys at keys) attribute is_known (sym (cache_is at keys) ∙ made)

  -- a key that isn't accepted is refused after the checks of the keys of `cache`
  pub refused_known : (attribute : Attribute Leaf Token) (fault : Fault) → cache_read at keys ≡ Ok attribute → IsRefusedBy known fault
      → IsRefusedBy (with_known known (new_cache views_keys at keys)) fault
  refused_known attribute fault made h =
      subst (λ m. IsRefusedBy (with_known known m) fault) (sym made ∙ cache_is at keys) (refused_first known (λ u. Ok attribute) fault h)

  pub refused_cache : (fault : Fault) → IsRefusedBy (cache_read at keys) fault → IsRefusedBy (with_known known (new_cache views_keys at keys)) fault
  refused_cache fault h =
      refused_first (new_cache views_keys at keys) (λ attribute. known >>= (λ u. Ok attribute)) fault (subst (λ made. IsRefusedBy made fault) (cache_is at keys) h)
