-- The parameters that are seen at the cursor.
use Rattle.std.specs.Prelude.{◌&&◌, ◌-◌, Bool, false, true, not, List, [], ◌∷◌, Option, None, Some, cond, filter, length, reverse, take}
use Rattle.std.specs.List.{slice_get, take_while}
use Rattle.justfile_vocabulary.specs.declared.token_kind.TokenKind.{TokenKind}
use Rattle.justfile_vocabulary.specs.declared.token_kind.TokenKind.TheVariants.{At, Colon, Equals, InterpolationStart}
use Rattle.justfile_token.specs.declared.token.Token.{Token}
use Rattle.justfile_completion.specs.Kinds.{closes, is_assign, is_equals, is_identifier, is_parenthesis, opens}
use Rattle.justfile_completion.specs.Words.{has, header_of, line_of, outline}

-- a name after it isn't that of a parameter: it is a default, or the recipe's name
abbrev pub precedes_other : TokenKind → Bool
precedes_other At = true
precedes_other Equals = true
precedes_other other = false

-- the parameters of a recipe end here, or with a default that isn't complete
abbrev pub ends_parameters : TokenKind → Bool
ends_parameters Colon = true
ends_parameters kind = opens kind

-- the names after a word that are parameters
abbrev pub named_after : Token → List Token → List Token
named_after before [] = []
named_after before (w ∷ ws) = cond (is_identifier w.kind && not (precedes_other before.kind)) (w ∷ named_after w ws) (named_after w ws)

abbrev pub named_in : List Token → List Token
named_in [] = []
named_in (first ∷ ws) = named_after first ws

-- the words without a parameter at their end whose default isn't written yet, by the last word
abbrev pub without_begun_by : (last : Option Token) → List Token → List Token
without_begun_by None words = words
without_begun_by (Some w) words = cond (is_equals w.kind) (take (length words - 2) words) words

abbrev pub without_begun : List Token → List Token
without_begun words = without_begun_by (slice_get words (length words - 1)) words

-- those of a recipe, by the outline of its header, the last word first: an assignment has none
abbrev pub recipe_parameters : (outline : List Token) → List Token
recipe_parameters words = cond (has is_assign words) [] (named_in (without_begun (take_while (λ w. not (ends_parameters w.kind)) (reverse words))))

-- the names up to a closing parenthesis
abbrev pub function_parameters : List Token → List Token
function_parameters words = filter (λ w. is_identifier w.kind) (take_while (λ w. not (closes w.kind)) words)

-- those of a function or a recipe, by its words
abbrev pub parameters_by : (outline words : List Token) → List Token
parameters_by outline [] = []
parameters_by outline (name ∷ []) = []
parameters_by outline (name ∷ w ∷ ws) = cond (is_parenthesis w.kind) (function_parameters ws) (recipe_parameters outline)

abbrev pub is_interpolation : TokenKind → Bool
is_interpolation InterpolationStart = true
is_interpolation other = false

abbrev pub parameters_in : (words : List Token) → List Token
parameters_in words = parameters_by (outline words) words

-- In the interpolation of a body they are those of its header, and elsewhere those of the line.
abbrev pub parameters_seen : (tokens : List Token) → List Token
parameters_seen tokens = cond (has is_interpolation (outline (line_of tokens))) (parameters_in (header_of tokens)) (parameters_in (line_of tokens))
