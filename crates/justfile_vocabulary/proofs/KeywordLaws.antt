-- A text names a keyword exactly if it is the keyword's spelling.
use Rattle.std.proofs.Common.{◌≡◌, ℕ, List, Some, refl, sym}
use Rattle.std.proofs.lemmas.Slice.Eq.{bytes_eq-Decides}
use Rattle.std.specs.Str.{bytes_eq}
use Rattle.justfile_vocabulary.proofs.FoundLemmas.{found_passes}
use Rattle.justfile_vocabulary.specs.Keyword.{keyword_named, keyword_text, keywords}
use Rattle.justfile_vocabulary.specs.declared.keyword.Keyword.{Keyword}
use Rattle.justfile_vocabulary.specs.declared.keyword.Keyword.TheVariants.{Alias}

-- the keyword that a keyword's text spells is that keyword
pub spelled : (k : Keyword) → keyword_named (keyword_text k) ≡ Some k
unfolding keyword_named
spelled Alias = refl
spelled _ = refl

-- a text that spells a keyword is the keyword's text
pub spells : (text : List ℕ) (k : Keyword) → keyword_named text ≡ Some k → text ≡ keyword_text k
unfolding keyword_named
spells text k e =
    sym ((bytes_eq-Decides (keyword_text k) text).0 (found_passes (λ keyword. bytes_eq (keyword_text keyword) text) keywords k e))
