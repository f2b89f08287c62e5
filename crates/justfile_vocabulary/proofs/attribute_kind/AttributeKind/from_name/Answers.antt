use Rattle.std.proofs.Common.{◌≡◌, ◌∙◌, ◌&&◌, Bool, true, false, List, ap, eqb, length, refl, rules, subst, sym, tests}
use Rattle.std.specs.Prelude.{ℕ}
use Rattle.std.proofs.lemmas.Iterator.{YieldsList-from_slice}
use Rattle.std.proofs.lemmas.Iterator.Adapters.{option_map_id}
use Rattle.std.proofs.lemmas.Iterator.Consumers.{YieldsList-from_copied}
use Rattle.std.proofs.lemmas.Iterator.Search.{find_from_yields_List}
use Rattle.std.proofs.lemmas.Slice.Eq.{bytes_eq-Decides}
use Rattle.std.specs.Str.{bytes_eq}
use Rattle.justfile_vocabulary.specs.AttributeKind.{attribute_name, kind_named}
use Rattle.justfile_vocabulary.specs.declared.attribute_kind.TheConstants.{KINDS}
use Rattle.justfile_vocabulary.proofs.attribute_kind.AttributeKind.from_name.Goals as goal

-- equal texts have equal lengths
lengths_first : (a b : List ℕ) → eqb (length a) (length b) && bytes_eq a b ≡ bytes_eq a b
lengths_first a b = by (bytes_eq a b) refl
  where
    by : (same : Bool) → bytes_eq a b ≡ same → eqb (length a) (length b) && same ≡ same
    by false e = search (rules, tests)
    by true e = let equal = (bytes_eq-Decides a b).0 e in search (rules, tests, ap length equal)

pub returns : goal.returns
unfolding kind_named
returns c =
    sym (option_map_id c.find.result)
    ∙ find_from_yields_List (λ k. bytes_eq (attribute_name k) c.args.name.now) _ _ c.find.result c.find.ensures.ran
    (YieldsList-from_copied (YieldsList-from_slice KINDS cc)) (λ x b q k. search (rules, tests, lengths_first (attribute_name x) c.args.name.now))
