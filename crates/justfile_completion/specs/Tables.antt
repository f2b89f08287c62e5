-- What is always offered.
use Rattle.std.specs.Prelude.{ℕ, List, [], Option, map, option_map}
use Rattle.std.specs.List.{find}
use Rattle.std.specs.Option.{option_or}
use Rattle.std.specs.Str.{bytes_eq}
use Rattle.justfile_completion.specs.Offers.{Told, told_by}
use Rattle.justfile_completion.specs.declared.place.Place.{Place}
use Rattle.justfile_completion.specs.declared.place.Place.TheVariants as places
use Rattle.justfile_completion.specs.declared.tables.BuiltIns.{BuiltIns}
use Rattle.justfile_completion.specs.declared.tables.BuiltIns.TheVariants.{Constants, FunctionsToD, FunctionsToJ, FunctionsToR, FunctionsToZ, Keywords}
use Rattle.justfile_completion.specs.declared.tables.TheConstants.{ELSE, IF, ITEM_KEYWORDS, OPERAND_KEYWORDS}
use Rattle.justfile_completion.specs.declared.tables.attributes.TheConstants.{ARG_KEYS, ATTRIBUTES, CACHE_KEYS, SIGNALS}
use Rattle.justfile_completion.specs.declared.tables.constants.TheConstants.{CONSTANTS}
use Rattle.justfile_completion.specs.declared.tables.functions.TheConstants.{FUNCTIONS_TO_D, FUNCTIONS_TO_J, FUNCTIONS_TO_R, FUNCTIONS_TO_Z}
use Rattle.justfile_completion.specs.declared.tables.settings.TheConstants.{SETTINGS, TRUTHS}

-- what is always offered at a place, besides what operands begin with
unfoldable pub table_of : Place → List Told
table_of places.LineStart = map (λ w. told_by w.0 w.1.now w.2.now w.3.now) ITEM_KEYWORDS
table_of places.Settings = map (λ w. told_by w.0 w.1.now w.2.now w.3.now) SETTINGS
table_of places.Truth = map (λ w. told_by w.0 w.1.now w.2.now w.3.now) TRUTHS
table_of places.Attributes = map (λ w. told_by w.0 w.1.now w.2.now w.3.now) ATTRIBUTES
table_of places.ArgKeys = map (λ w. told_by w.0 w.1.now w.2.now w.3.now) ARG_KEYS
table_of places.CacheKeys = map (λ w. told_by w.0 w.1.now w.2.now w.3.now) CACHE_KEYS
table_of places.Signals = map (λ w. told_by w.0 w.1.now w.2.now w.3.now) SIGNALS
table_of places.Else = map (λ w. told_by w.0 w.1.now w.2.now w.3.now) ELSE
table_of places.If = map (λ w. told_by w.0 w.1.now w.2.now w.3.now) IF
table_of other = []

-- a part of what operands begin with
unfoldable pub built_in : BuiltIns → List Told
built_in Constants = map (λ w. told_by w.0 w.1.now w.2.now w.3.now) CONSTANTS
built_in FunctionsToD = map (λ w. told_by w.0 w.1.now w.2.now w.3.now) FUNCTIONS_TO_D
built_in FunctionsToJ = map (λ w. told_by w.0 w.1.now w.2.now w.3.now) FUNCTIONS_TO_J
built_in FunctionsToR = map (λ w. told_by w.0 w.1.now w.2.now w.3.now) FUNCTIONS_TO_R
built_in FunctionsToZ = map (λ w. told_by w.0 w.1.now w.2.now w.3.now) FUNCTIONS_TO_Z
built_in Keywords = map (λ w. told_by w.0 w.1.now w.2.now w.3.now) OPERAND_KEYWORDS

-- what is shown beside a name in a part of what is built in, if it is there
abbrev pub shown_in : (name : List ℕ) → BuiltIns → Option (List ℕ)
shown_in name part = option_map (λ (t : Told). t.detail) (find (λ (t : Told). bytes_eq t.name name) (built_in part))

-- the parameters of the built-in function with this name, in parentheses, if there is one
abbrev pub shown_parameters : (name : List ℕ) → Option (List ℕ)
shown_parameters name = option_or (option_or (option_or (shown_in name FunctionsToD) (shown_in name FunctionsToJ)) (shown_in name FunctionsToR)) (shown_in name FunctionsToZ)
