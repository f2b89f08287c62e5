-- The mentions of names in items.
use Rattle.std.specs.Prelude.{◌≡◌, ℕ, suc, ◌+◌, ◌&&◌, ◌||◌, Bool, true, false, not, List, [], ◌∷◌, ◌++◌, map, filter, nat_lt, Option, None, Some, IsPermutation, cond}
use Rattle.std.specs.List.{list_any}
use Rattle.std.specs.List.Sorted.{IsNonDecreasingBy}
use Rattle.std.specs.Str.{bytes_eq}
use Rattle.justfile_token.specs.Token.{lexeme_of}
use Rattle.justfile_token.specs.declared.token.Token.{Token}
use Rattle.justfile_item.specs.declared.item.Item.{Item}
use Rattle.justfile_references.specs.Defaults.{defaults_of, is_in}
use Rattle.justfile_references.specs.References.{item_references}
use Rattle.justfile_references.specs.declared.defaults.Defaults.{Defaults}
use Rattle.justfile_references.specs.declared.reference.Reference.{Reference}
use Rattle.justfile_references.specs.declared.reference.Role as references
use Rattle.justfile_references.specs.declared.reference.Role.TheVariants as named
use Rattle.editor_language.specs.declared.mention.Role.{Role}
use Rattle.editor_language.specs.declared.mention.Role.TheVariants as roles
use Rattle.justfile_builtins.specs.Constants.{is_constant}
use Rattle.justfile_mentions.specs.Arguments.{arguments_of}
pub use Rattle.justfile_mentions.specs.Noted.{Noted, noted}

abbrev pub is_parameter : references.Role → Bool
is_parameter named.Function = false
is_parameter named.Parameter = true
is_parameter named.Recipe = false
is_parameter named.Variable = false

-- whether a parameter is defined there
abbrev pub defines_parameter : Reference → Bool
defines_parameter r = is_parameter r.role

-- the names that are defined as parameters among the references of an item
abbrev pub parameters_among : List Reference → List Token
parameters_among found = map (λ (r : Reference). r.token) (filter defines_parameter found)

abbrev pub is_between : (first last token : Token) → Bool
is_between first last token = nat_lt first.offset token.offset && nat_lt token.offset last.offset

-- What a name stands for that is no parameter's: a constant, if `just` has one of this name, even if the file assigns it too. Which of both a use means depends on when it is evaluated.
abbrev pub variable_role : (name : List ℕ) → Role
variable_role name = cond (is_constant name) roles.Constant roles.Variable

module _ (defaults : Defaults) (parameters : List Token) where
  -- Whether a parameter of an item is seen where a name is used in the item. Each is, but in the default of a parameter only those before it are: another parameter is
  -- between such a one and the use.
  abbrev pub is_seen : (used parameter : Token) → Bool
  is_seen used parameter = not (is_in defaults used) || list_any (is_between parameter used) parameters

  -- whether a name that is used as a variable is that of a parameter, which is seen there
  abbrev pub is_of_parameter : (used parameter : Token) → Bool
  is_of_parameter used parameter = bytes_eq (lexeme_of parameter) (lexeme_of used) && is_seen used parameter

  -- whether it is that of one of the parameters
  abbrev pub names_parameter : (used : Token) → Bool
  names_parameter used = list_any (is_of_parameter used) parameters

  abbrev pub meaning_in : references.Role → Token → Role
  meaning_in named.Function used = roles.Function
  meaning_in named.Parameter used = roles.Parameter
  meaning_in named.Recipe used = roles.Recipe
  meaning_in named.Variable used = cond (names_parameter used) roles.Parameter (variable_role (lexeme_of used))

  -- what the name of a reference of an item stands for
  abbrev pub meaning : Reference → Role
  meaning r = meaning_in r.role r.token

-- a parameter is known in its item alone, and any other name in all of them
abbrev pub scope_of : (index : ℕ) → Role → Option ℕ
scope_of index roles.Parameter = Some index
scope_of index roles.Constant = None
scope_of index roles.Function = None
scope_of index roles.Recipe = None
scope_of index roles.Variable = None

-- what is to be known of a reference of the item with an index
abbrev pub to_note : (index : ℕ) → Defaults → (parameters : List Token) → Reference → Noted
to_note index defaults parameters r =
    record {
      role = meaning defaults parameters r;
      name = lexeme_of r.token;
      scope = scope_of index (meaning defaults parameters r);
      span = record { start = r.token.offset; end = r.token.offset + r.token.length };
      defines = r.defines;
    }

-- the mentions that references of the item with an index are
abbrev pub mentions_by : (index : ℕ) → Item → List Reference → List Noted
mentions_by index item found = map (to_note index (defaults_of item) (parameters_among found)) found

-- these are the mentions that the references of the item with an index are
pub record AreByReferences (index : ℕ) (item : Item) (mentions : List Noted) : Type 0 where
  pub found : List Reference
  pub are_all : IsPermutation (item_references item) found
  pub are : mentions ≡ mentions_by index item found

-- These are the mentions in the item with an index, in the order of the text: its references, and the parameters that its attributes name.
pub record AreOfItem (index : ℕ) (item : Item) (mentions : List Noted) : Type 0 where
  pub by_references : List Noted
  pub are_by_references : AreByReferences index item by_references
  pub are_all : IsPermutation (by_references ++ arguments_of index item) mentions
  pub in_order : IsNonDecreasingBy (λ (n : Noted). n.span.start) mentions

-- the mentions in an item, followed by others
pub record AreBoth (own others : List Noted → Type 0) (mentions : List Noted) : Type 0 where
  pub first : List Noted
  pub rest : List Noted
  pub is : mentions ≡ first ++ rest
  pub are_own : own first
  pub are_others : others rest

-- these are the mentions in items, item by item, where the first one has this index
abbrev pub AreMentions : (index : ℕ) → List Item → List Noted → Type 0
AreMentions index [] mentions = mentions ≡ []
AreMentions index (item ∷ items) mentions = AreBoth (AreOfItem index item) (AreMentions (suc index) items) mentions
