-- The last parameter before a token, and lines that begin with `#`.
use Rattle.std.proofs.Common.{◌≡◌, ◌∙◌, ◌<◌, ◌+◌, ◌↔◌, ℕ, suc, Option, Some, None, List, [], ◌∷◌, ◌++◌, length, drop, get_or, refl, sym, ap, Bool, IsTrue, codes, add-one, drop-cons}
use Rattle.std.specs.Bool.{Decides}
use Rattle.std.specs.Option.{option_or}
use Rattle.std.proofs.lemmas.Bool.Decides.{Decides-eqb, same_from_decides}
use Rattle.justfile_token.specs.declared.token.Token.{Token}
use Rattle.justfile_line.specs.Line.{IsComment, first_text}
use Rattle.justfile_line.specs.declared.line.Line.{Line}
use Rattle.justfile_recipe_header.specs.declared.parameter.Parameter.{Parameter}
use Rattle.justfile_facts.specs.Scopes.{begins_with_hash, is_comment, last_before, offset_before}

assoc : (a b c : Option ℕ) → option_or (option_or a b) c ≡ option_or a (option_or b c)
assoc None b c = refl
assoc (Some x) b c = refl

-- what is found in the rest, or else before it, where one more parameter is before it
pub one_less : (t : Token) (all : List Parameter) (i : ℕ) (p : Parameter) → i < length all → p ≡ get_or all i p → (whole last : Option ℕ) → whole ≡ option_or (last_before t (drop i all)) last
    → whole ≡ option_or (last_before t (drop (i + 1) all)) (option_or (offset_before t.offset p.name.token.offset) last)
one_less t all i p inside at whole last so_far =
    rw add-one
    (so_far ∙ ap (λ ps. option_or (last_before t ps) last) (drop-cons all i p inside ∙ ap (λ q. q ∷ drop (suc i) all) (sym at))
    ∙ assoc (last_before t (drop (suc i) all)) (offset_before t.offset p.name.token.offset) last)

begins : (text : Option (List ℕ)) → Decides (begins_with_hash text) ((rest : List ℕ) × (text ≡ Some (codes "#" ++ rest)))
begins None = ((λ e. absurd cc), (λ h. let e = h.1 in absurd cc))
begins (Some []) = ((λ e. absurd cc), (λ h. let e = h.1 in absurd cc))
begins (Some (byte ∷ others)) = ((λ e. (others, ap (λ b. Some (b ∷ others)) ((Decides-eqb byte 35).0 e))), (λ h. let e = h.1 in (Decides-eqb byte 35).1 cc))

pub comment_is : (line : Line) (r : Bool) → IsTrue r ↔ IsComment line → r ≡ is_comment line
comment_is line r h = same_from_decides r (is_comment line) h (begins (first_text line))
