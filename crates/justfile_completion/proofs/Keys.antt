-- The key before `=`.
use Rattle.std.proofs.Common.{◌≡◌, ◌≤◌, ◌∙◌, List, [], ◌∷◌, ap, arith, get_or, length}
use Rattle.justfile_token.specs.Token.{lexeme_of}
use Rattle.justfile_token.specs.declared.token.Token.{Token}
use Rattle.justfile_completion.specs.Places.{after_equals, value_of_key}
use Rattle.justfile_completion.specs.declared.place.Place.{Place}

pub key_second : (words : List Token) (key : Token) (place : Place) → 2 ≤ length words → key ≡ get_or words 1 key → place ≡ value_of_key (lexeme_of key) → place ≡ after_equals words
key_second [] key place two at e = absurd (omega (arith, two))
key_second (w ∷ []) key place two at e = absurd (omega (arith, two))
key_second (w ∷ k ∷ ws) key place two at e = e ∙ ap (λ (t : Token). value_of_key (lexeme_of t)) at
