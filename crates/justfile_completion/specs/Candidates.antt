-- What can be written at a place, not yet in order.
use Rattle.std.specs.Prelude.{◌&&◌, ◌++◌, ℕ, Bool, false, not, List, [], Option, None, Some, filter, map}
use Rattle.std.specs.List.{find, list_any, take_while}
use Rattle.std.specs.Str.{bytes_eq}
use Rattle.justfile_token.specs.Token.{lexeme_of}
use Rattle.justfile_token.specs.declared.token.Token.{Token}
use Rattle.justfile_completion.specs.Kinds.{is_colon, is_identifier}
use Rattle.justfile_completion.specs.Offers.{Told, same_kind, told}
use Rattle.justfile_completion.specs.Tables.{built_in, table_of}
use Rattle.justfile_completion.specs.Words.{is_spelled}
use Rattle.justfile_completion.specs.declared.offer.Offer.{Offer}
use Rattle.justfile_completion.specs.declared.offer.OfferKind.{OfferKind}
use Rattle.justfile_completion.specs.declared.offer.OfferKind.TheVariants as kinds
use Rattle.justfile_completion.specs.declared.place.Place.{Place}
use Rattle.justfile_completion.specs.declared.place.Place.TheVariants as places
use Rattle.justfile_completion.specs.declared.tables.BuiltIns.TheVariants.{Constants, FunctionsToD, FunctionsToJ, FunctionsToR, FunctionsToZ, Keywords}

-- the names of a kind
abbrev pub of_kind : OfferKind → List Offer → List Offer
of_kind kind names = filter (λ o. same_kind o.kind kind) names

-- the recipe whose header has these words, if it has a name
abbrev pub own_name : (words : List Token) → Option Token
own_name words = find (λ w. is_identifier w.kind) words

abbrev pub is_own : (own : Option Token) → (name : List ℕ) → Bool
is_own None name = false
is_own (Some w) name = bytes_eq (lexeme_of w) name

-- a recipe other than its own one and those that are named already
abbrev pub is_free : (own : Option Token) → (used : List Token) → Offer → Bool
is_free own used o = same_kind o.kind kinds.Recipe && not (is_own own o.name.now) && not (list_any (is_spelled o.name.now) used)

-- the words after the colon, by the outline of a header, which has the last word first
abbrev pub dependencies : (outline : List Token) → List Token
dependencies words = take_while (λ w. not (is_colon w.kind)) words

-- a parameter, which shows nothing but that it is one
abbrev pub told_parameter : Token → Told
told_parameter w = record { kind = kinds.Parameter; name = lexeme_of w; detail = []; documentation = [] }

-- what can stand for a value: what is defined nearer comes first
abbrev pub operands : (names : List Offer) (parameters : List Token) → List Told
operands names parameters = map told_parameter parameters ++ map told (of_kind kinds.Variable names) ++ map told (of_kind kinds.Function names) ++ built_in FunctionsToD ++ built_in FunctionsToJ ++ built_in FunctionsToR ++ built_in FunctionsToZ ++ built_in Constants ++ built_in Keywords

-- what can be written at a place of a line with these words and this outline, where these parameters are seen
abbrev pub candidates : (names : List Offer) (words outline parameters : List Token) → Place → List Told
candidates names words outline parameters places.Groups = map told (of_kind kinds.Group names)
candidates names words outline parameters places.Target = map told (of_kind kinds.Recipe names)
candidates names words outline parameters places.Dependencies = map told (filter (is_free (own_name words) (dependencies outline)) names)
candidates names words outline parameters places.Dependency = map told (filter (is_free (own_name words) []) names)
candidates names words outline parameters places.Operand = operands names parameters
candidates names words outline parameters place = table_of place
