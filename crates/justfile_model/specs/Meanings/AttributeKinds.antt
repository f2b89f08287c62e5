-- The arguments that each kind of attribute takes, and the items that can have it.
use Rattle.std.specs.Prelude.{ℕ, Bool, true, false, ◌||◌, List, [], ◌∷◌, Option, Some, None, codes}
use denote.Enum.Bare.{sameb}
use Rattle.justfile_vocabulary.specs.AttributeKind.{is_enabler_kind, kind_named, takes_keys}
use Rattle.justfile_vocabulary.specs.contracts.attribute_kind.AttributeKind.{the_type}
use Rattle.justfile_vocabulary.specs.declared.attribute_kind.AttributeKind.{AttributeKind}
use Rattle.justfile_vocabulary.specs.declared.attribute_kind.AttributeKind.TheVariants.{Android, Arg, Cache, Confirm, Continue, Default, Doc, Dragonfly, Env, ExitMessage, Extension, Freebsd, Group, Linux, Macos, Metadata, Netbsd, NoCd, NoExitMessage, NoQuiet, Openbsd, Parallel, PositionalArguments, Private, Script, Shell, Timestamp, Unix, Windows, WorkingDirectory}
use Rattle.justfile_vocabulary.specs.declared.item_kind.ItemKind.{ItemKind}
use Rattle.justfile_vocabulary.specs.declared.item_kind.ItemKind.TheVariants as items

-- equality of kinds
unfoldable pub same_attribute : AttributeKind → AttributeKind → Bool
same_attribute = sameb the_type

abbrev pub named_takes_keys : Option AttributeKind → Bool
named_takes_keys None = false
named_takes_keys (Some kind) = takes_keys kind

-- attributes with this name take arguments by key
abbrev pub name_takes_keys : List ℕ → Bool
name_takes_keys name = named_takes_keys (kind_named name)

-- how an attribute holds its literals
pub data TextsForm : Type 0 where
  -- each in a field of its own
  ApartForm : TextsForm
  -- all in one field
  RowForm : TextsForm
  -- a command and its arguments in one field, which is absent if there are none
  CommandForm : TextsForm

-- the arguments that attributes of a kind take, and how they are held
pub record KindForm : Type 0 where
  -- the least number of positional arguments
  pub least : ℕ
  -- the greatest number of them, if there is a limit
  pub most : Option ℕ
  -- they are arbitrary expressions; otherwise they are literals
  pub are_expressions : Bool
  -- they are held in one field, which is absent if there are none
  pub is_optional : Bool
  -- how literals are held
  pub texts : TextsForm
  -- the keys of arguments by key
  pub keys : List (List ℕ)

abbrev pub no_arguments : KindForm
no_arguments = record { least = 0; most = Some 0; are_expressions = false; is_optional = false; texts = ApartForm; keys = [] }

abbrev pub literals : (least : ℕ) (most : Option ℕ) (texts : TextsForm) → KindForm
literals least most texts = record { least = least; most = most; are_expressions = false; is_optional = false; texts = texts; keys = [] }

abbrev pub optional_command : KindForm
optional_command = record { least = 0; most = None; are_expressions = false; is_optional = true; texts = CommandForm; keys = [] }

abbrev pub expressions : (count : ℕ) → KindForm
expressions count = record { least = count; most = Some count; are_expressions = true; is_optional = false; texts = ApartForm; keys = [] }

abbrev pub optional_expression : KindForm
optional_expression = record { least = 0; most = Some 1; are_expressions = true; is_optional = true; texts = ApartForm; keys = [] }

-- this many literals, and arguments by these keys
abbrev pub keyed : (count : ℕ) (keys : List (List ℕ)) → KindForm
keyed count keys = record { least = count; most = Some count; are_expressions = false; is_optional = false; texts = ApartForm; keys = keys }

abbrev pub argument_keys : List (List ℕ)
argument_keys =
    codes "long" ∷ codes "short" ∷ codes "pattern" ∷ codes "value" ∷ codes "flag" ∷ codes "multiple" ∷ codes "max" ∷ codes "min" ∷ codes "help" ∷ []

abbrev pub cache_keys : List (List ℕ)
cache_keys = codes "extra" ∷ codes "inputs" ∷ codes "outputs" ∷ []

abbrev pub kind_form : AttributeKind → KindForm
kind_form Android = no_arguments
kind_form Arg = keyed 1 argument_keys
kind_form Cache = keyed 0 cache_keys
kind_form Confirm = optional_expression
kind_form Continue = literals 0 None ApartForm
kind_form Default = no_arguments
kind_form Doc = optional_expression
kind_form Dragonfly = no_arguments
kind_form Env = expressions 2
kind_form ExitMessage = no_arguments
kind_form Extension = literals 1 (Some 1) ApartForm
kind_form Freebsd = no_arguments
kind_form Group = literals 1 (Some 1) ApartForm
kind_form Linux = no_arguments
kind_form Macos = no_arguments
kind_form Metadata = literals 1 None RowForm
kind_form Netbsd = no_arguments
kind_form NoCd = no_arguments
kind_form NoExitMessage = no_arguments
kind_form NoQuiet = no_arguments
kind_form Openbsd = no_arguments
kind_form Parallel = no_arguments
kind_form PositionalArguments = no_arguments
kind_form Private = no_arguments
kind_form Script = optional_command
kind_form Shell = no_arguments
kind_form Timestamp = optional_expression
kind_form Unix = no_arguments
kind_form Windows = no_arguments
kind_form WorkingDirectory = expressions 1

-- the positional arguments are arbitrary expressions; those of the other kinds are literals
abbrev pub takes_expressions : AttributeKind → Bool
takes_expressions kind = (kind_form kind).are_expressions

-- the least number of positional arguments
abbrev pub least_count : AttributeKind → ℕ
least_count kind = (kind_form kind).least

-- the greatest number of positional arguments, if there is a limit
abbrev pub most_count : AttributeKind → Option ℕ
most_count kind = (kind_form kind).most

-- without arguments an attribute of this kind still has a field, which is absent
abbrev pub is_optional : AttributeKind → Bool
is_optional kind = (kind_form kind).is_optional

-- the keys that attributes of this kind can have
abbrev pub known_keys : AttributeKind → List (List ℕ)
known_keys kind = (kind_form kind).keys

-- an item can have several attributes of this kind; no other kind is repeatable
abbrev pub is_repeatable : AttributeKind → Bool
is_repeatable Arg = true
is_repeatable Env = true
is_repeatable Group = true
is_repeatable Metadata = true
is_repeatable _ = false

-- whether the kind is that of the attribute `private`
abbrev pub is_private_kind : AttributeKind → Bool
is_private_kind Private = true
is_private_kind _ = false

-- the kinds that a module can have besides those that enable it on a system; it can have no others
abbrev pub is_module_kind : AttributeKind → Bool
is_module_kind Doc = true
is_module_kind Group = true
is_module_kind Private = true
is_module_kind _ = false

-- an item of this kind can have attributes of that kind
abbrev pub is_allowed : ItemKind → AttributeKind → Bool
is_allowed items.Alias kind = is_enabler_kind kind || is_private_kind kind
is_allowed items.Assignment kind = is_enabler_kind kind || is_private_kind kind
is_allowed items.Comment kind = false
is_allowed items.Function kind = is_enabler_kind kind
is_allowed items.Import kind = is_enabler_kind kind
is_allowed items.Module kind = is_enabler_kind kind || is_module_kind kind
is_allowed items.Newline kind = false
is_allowed items.Recipe kind = true
is_allowed items.Setting kind = is_enabler_kind kind
is_allowed items.Unexport kind = is_enabler_kind kind
