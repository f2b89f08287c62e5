-- Kinds of attributes: their names, which ones enable an item on some systems, and which ones take arguments by key.
use Rattle.std.specs.Prelude.{ℕ, Bool, true, false, List, [], ◌∷◌, codes, Option}
use Rattle.std.specs.List.{find}
use Rattle.std.specs.Str.{bytes_eq}
use Rattle.justfile_vocabulary.specs.declared.attribute_kind.AttributeKind.{AttributeKind}
use Rattle.justfile_vocabulary.specs.declared.attribute_kind.AttributeKind.TheVariants.{Android, Arg, Cache, Confirm, Continue, Default, Doc, Dragonfly, Env, ExitMessage, Extension, Freebsd, Group, Linux, Macos, Metadata, Netbsd, NoCd, NoExitMessage, NoQuiet, Openbsd, Parallel, PositionalArguments, Private, Script, Shell, Timestamp, Unix, Windows, WorkingDirectory}

abbrev pub attribute_name : AttributeKind → List ℕ
attribute_name Android = codes "android"
attribute_name Arg = codes "arg"
attribute_name Cache = codes "cache"
attribute_name Confirm = codes "confirm"
attribute_name Continue = codes "continue"
attribute_name Default = codes "default"
attribute_name Doc = codes "doc"
attribute_name Dragonfly = codes "dragonfly"
attribute_name Env = codes "env"
attribute_name ExitMessage = codes "exit-message"
attribute_name Extension = codes "extension"
attribute_name Freebsd = codes "freebsd"
attribute_name Group = codes "group"
attribute_name Linux = codes "linux"
attribute_name Macos = codes "macos"
attribute_name Metadata = codes "metadata"
attribute_name Netbsd = codes "netbsd"
attribute_name NoCd = codes "no-cd"
attribute_name NoExitMessage = codes "no-exit-message"
attribute_name NoQuiet = codes "no-quiet"
attribute_name Openbsd = codes "openbsd"
attribute_name Parallel = codes "parallel"
attribute_name PositionalArguments = codes "positional-arguments"
attribute_name Private = codes "private"
attribute_name Script = codes "script"
attribute_name Shell = codes "shell"
attribute_name Timestamp = codes "timestamp"
attribute_name Unix = codes "unix"
attribute_name Windows = codes "windows"
attribute_name WorkingDirectory = codes "working-directory"

-- all kinds, in declaration order
abbrev pub attribute_kinds : List AttributeKind
attribute_kinds = Android ∷ Arg ∷ Cache ∷ Confirm ∷ Continue ∷ Default ∷ Doc ∷ Dragonfly ∷ Env ∷ ExitMessage ∷ Extension ∷ Freebsd ∷ Group ∷ Linux ∷ Macos ∷ Metadata ∷ Netbsd ∷ NoCd ∷ NoExitMessage ∷ NoQuiet ∷ Openbsd ∷ Parallel ∷ PositionalArguments ∷ Private ∷ Script ∷ Shell ∷ Timestamp ∷ Unix ∷ Windows ∷ WorkingDirectory ∷ []

-- the kind with this name
unfoldable pub kind_named : List ℕ → Option AttributeKind
kind_named name = find (λ kind. bytes_eq (attribute_name kind) name) attribute_kinds

-- attributes of this kind enable an item on some systems only; those of no other kind do
abbrev pub is_enabler_kind : AttributeKind → Bool
is_enabler_kind Android = true
is_enabler_kind Dragonfly = true
is_enabler_kind Freebsd = true
is_enabler_kind Linux = true
is_enabler_kind Macos = true
is_enabler_kind Netbsd = true
is_enabler_kind Openbsd = true
is_enabler_kind Unix = true
is_enabler_kind Windows = true
is_enabler_kind _ = false

-- attributes of this kind take arguments by key; those of no other kind do
abbrev pub takes_keys : AttributeKind → Bool
takes_keys Arg = true
takes_keys Cache = true
takes_keys _ = false
