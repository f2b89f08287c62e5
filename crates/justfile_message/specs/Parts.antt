-- The parts of the longer messages.
use Rattle.std.specs.Prelude.{ℕ, List, [], ◌∷◌, ◌^◌, ◌-◌, codes, encode_utf8, length, map, nat_lt, if◌then◌else◌, ◌==◌}
use Rattle.std.specs.Borrow.{Bor}
use Rattle.std.specs.List.{flat_map}
use Rattle.std.specs.Fmt.{decimal}
use Rattle.justfile_vocabulary.specs.Count.{numbered_text}
use Rattle.justfile_vocabulary.specs.ItemKind.{item_kind_article, item_kind_text}
use Rattle.justfile_vocabulary.specs.Keyword.{keyword_text}
use Rattle.justfile_message.specs.List.{or_text, ticked_text}
use Rattle.justfile_message.specs.Shown.{line_text}
use Rattle.justfile_vocabulary.specs.Text.{◌&◌}
use Rattle.justfile_vocabulary.specs.TokenKind.{kind_text}
use Rattle.justfile_vocabulary.specs.contracts.item_kind.ItemKindPartialEq.TheImpl as item_kinds
use Rattle.justfile_vocabulary.specs.declared.item_kind.ItemKind.{ItemKind}
use Rattle.justfile_vocabulary.specs.declared.keyword.Keyword.{Keyword}
use Rattle.justfile_vocabulary.specs.declared.token_kind.TokenKind.{TokenKind}

abbrev pub arguments_text : ℕ → List ℕ
arguments_text count = numbered_text (codes "argument") count

-- how many arguments are accepted, where `found` were given
abbrev pub taken_text : ℕ → ℕ → ℕ → List ℕ
taken_text found min max = if min == max then arguments_text min
    else (if nat_lt found min then codes "at least " & arguments_text min else codes "at most " & arguments_text max)

-- a range of counts; a greatest count of 2 ^ 64 - 1 means that there is no limit
abbrev pub range_text : ℕ → ℕ → List ℕ
range_text least most = if least == most then decimal least
    else (if most == 2 ^ 64 - 1 then decimal least & codes " or more" else decimal least & codes " to " & decimal most)

abbrev pub arrow_name : Bor (List ℕ) → List ℕ
arrow_name name = codes " -> " & name.now

-- the names, separated by arrows
abbrev pub circle_text : List (Bor (List ℕ)) → List ℕ
circle_text [] = []
circle_text (first ∷ rest) = first.now & flat_map arrow_name rest

-- a recipe that depends on itself, directly or through other recipes
abbrev pub recipe_circle_text : List ℕ → List (Bor (List ℕ)) → List ℕ
recipe_circle_text recipe circle = if length circle == 2
    then codes "recipe `" & recipe & codes "` depends on itself"
    else codes "recipe `" & recipe & codes "` has circular dependency `" & circle_text circle & codes "`"

-- a variable that is defined in terms of itself, directly or through other variables
abbrev pub variable_circle_text : List ℕ → List (Bor (List ℕ)) → List ℕ
variable_circle_text variable circle = if length circle == 2
    then codes "variable `" & variable & codes "` is defined in terms of itself"
    else codes "variable `" & variable & codes "` depends on its own value: `" & circle_text circle & codes "`"

abbrev pub expected_keywords : List Keyword → List ℕ
expected_keywords expected = or_text (map (λ keyword. ticked_text (keyword_text keyword)) expected)

abbrev pub expected_characters : List ℕ → List ℕ
expected_characters expected = or_text (map (λ character. ticked_text (encode_utf8 character)) expected)

abbrev pub expected_tokens : List TokenKind → List ℕ
expected_tokens expected = or_text (map kind_text expected)

-- an item kind with its indefinite article
abbrev pub indefinite_text : ItemKind → List ℕ
indefinite_text kind = item_kind_article kind & codes " " & item_kind_text kind

-- an item that has the name of an earlier item
abbrev pub redefinition_text : ItemKind → List ℕ → ℕ → ItemKind → ℕ → List ℕ
redefinition_text first_type name first second_type line =
    if item_kinds.eq-value.it first_type second_type
    then item_kind_text first_type & codes " `" & name & codes "` first defined on line " & line_text first
    & codes " is redefined on line " & line_text line
    else item_kind_text first_type & codes " `" & name & codes "` defined on line " & line_text first
    & codes " is redefined as " & indefinite_text second_type & codes " on line " & line_text line

-- a thing that is used on the first line and again on the second
abbrev pub duplicate_text : ℕ → ℕ → List ℕ
duplicate_text first line = codes " first used on line " & line_text first & codes " is duplicated on line " & line_text line
