-- The definitions of names.
use Rattle.std.specs.Prelude.{◌≡◌, ℕ, Bool, List, [], Option, Some, None, cond}
use Rattle.std.specs.List.{find}
use Rattle.std.specs.Option.{option_or}
use Rattle.std.specs.HashMap.{HashMap, get_by}
use Rattle.std.specs.declared.hash.BuildHasherDefault.{BuildHasherDefault}
use Rattle.std.specs.declared.hash.FoldHasher.{FoldHasher}
use Rattle.justfile_token.specs.Name.{name_text}
use Rattle.justfile_token.specs.declared.name.Name.{Name}
use Rattle.justfile_problems.specs.contracts.key.KeyPartialEq.TheImpl as keys
use Rattle.justfile_problems.specs.declared.facts.Definition.{Definition}
use Rattle.justfile_problems.specs.declared.facts.Space.{Space}
use Rattle.justfile_problems.specs.declared.facts.Space.TheVariants as spaces
use Rattle.justfile_problems.specs.declared.key.Key.{Key}
use Rattle.justfile_problems.specs.declared.names.Names.{Names}

-- whether two keys are the same, as `==` says
abbrev pub same : Key → Key → Bool
same = keys.eq-value.it

-- the key of a set of names, of the item that has it, and of a name
abbrev pub key : Space → (scope : ℕ) → (text : List ℕ) → Key
key space scope text = record { space = space; scope = scope; name = record { ref_ptr = (0, 0); now = text } }

-- where the item begins that has a set of names, or 0 if it is the file's
abbrev pub scope_in : Space → (item : Name) → ℕ
scope_in spaces.Defaults item = item.token.offset
scope_in spaces.Parameters item = item.token.offset
scope_in other item = 0

-- the text by which a name is known in a set of names
abbrev pub text_in : Space → Name → List ℕ
text_in spaces.DefaultRecipes name = []
text_in spaces.Defaults name = []
text_in other name = name_text name

abbrev pub key_of : Definition → Key
key_of d = key d.space (scope_in d.space d.item) (text_in d.space d.name)

-- the first definition of a name
abbrev pub first : List Definition → Space → (scope : ℕ) → (text : List ℕ) → Option Definition
first definitions space scope text = find (λ d. same (key_of d) (key space scope text)) definitions

abbrev pub Table : Type 0
Table = HashMap Key Definition (BuildHasherDefault FoldHasher)

-- what a table has for a name
abbrev pub looked_up : Table → Space → (scope : ℕ) → (text : List ℕ) → Option Definition
looked_up table space scope text = get_by (same (key space scope text)) table

-- the table has the first definition of each name
abbrev pub IsTable : List Definition → Table → Type 0
IsTable definitions table = (space : Space) (scope : ℕ) (text : List ℕ) → looked_up table space scope text ≡ first definitions space scope text

-- a definition was stored, unless there was one with its key
abbrev pub Adds : Definition → (old new : Table) → Type 0
Adds d old new =
    (space : Space) (scope : ℕ) (text : List ℕ) → looked_up new space scope text ≡ option_or (looked_up old space scope text) (cond (same (key_of d) (key space scope text)) (Some d) None)

abbrev pub known : Names → Space → (scope : ℕ) → (text : List ℕ) → Option Definition
known names = looked_up names.table

-- these are the first definitions of all names
abbrev pub HasFirsts : List Definition → Names → Type 0
HasFirsts definitions names = IsTable definitions names.table
