-- What the arguments ask for.
use Rattle.std.specs.Prelude.{ℕ, List, [], ◌∷◌, ◌++◌, ◌||◌, map, codes, nat_eq, Option, None, Some, Result, Ok, Err, Bool, true, false, String, string_bytes, if◌then◌else◌}
use Rattle.std.specs.List.{starts_with}
use Rattle.std.specs.Option.{option_map}
use Rattle.std.specs.Str.{bytes_eq}
use Rattle.justfile_files.specs.Visible.{visible_name}
use Rattle.justfile_files.specs.declared.request.Misuse.{Misuse}
use Rattle.justfile_files.specs.declared.request.Misuse.TheVariants as misuses
use Rattle.justfile_files.specs.declared.request.Options.{Options}
use Rattle.justfile_files.specs.declared.request.Request.{Request}
use Rattle.justfile_files.specs.declared.request.Request.TheVariants as requests
use Rattle.justfile_files.specs.declared.request.Subject.{Subject}
use Rattle.justfile_files.specs.declared.request.Subject.TheVariants as subjects
use Rattle.justfile_files.specs.declared.request.Task.{Task}
use Rattle.justfile_files.specs.declared.request.Task.TheVariants.{Check, Diff, Format, FormatAndName}
use Rattle.justfile_files.specs.declared.request.TheConstants.{NAME}
use Rattle.justfile_files.specs.declared.request.Writing.{Writing}
use Rattle.justfile_files.specs.declared.request.Writing.TheVariants.{InPlace, Replace}
use denote.Ref.{Bor}

abbrev pub texts : {A : Type 0} → List (String A) → List (List ℕ)
texts words = map string_bytes words

-- whether files are replaced by their formatted texts
abbrev pub changes_files : Task → Bool
changes_files Format = true
changes_files FormatAndName = true
changes_files Check = false
changes_files Diff = false

-- what arguments ask for, or why they ask for nothing
pub data Asked : Type 0 where
  help : Asked
  version : Asked
  files : (options : Options) (names : List (List ℕ)) → Asked
  nearest : (options : Options) → Asked
  stream : (task : Task) (name : List ℕ) → Asked
  lint_files : (names : List (List ℕ)) → Asked
  lint_nearest : Asked
  lint_stream : (name : List ℕ) → Asked
  unexpected : (word : List ℕ) → Asked
  incomplete : Asked

-- the words without this option, if they begin with it
abbrev pub without : (option : List ℕ) → List (List ℕ) → List (List ℕ)
without option [] = []
without option (word ∷ words) = if bytes_eq word option then words else word ∷ words

abbrev pub replacing : Task → Options
replacing task = record { task = task; writing = Replace }

abbrev pub in_place : Task → Options
in_place task = record { task = task; writing = InPlace }

-- the options after `--list`, with it, and the words after them
abbrev pub after_list : List (List ℕ) → Options × List (List ℕ)
after_list [] = (replacing FormatAndName, [])
after_list (word ∷ words) =
    if bytes_eq word (codes "--check") then (replacing Check, words)
    else if bytes_eq word (codes "--in-place") then (in_place FormatAndName, words)
    else (replacing FormatAndName, word ∷ words)

-- the options after `--in-place`, with it, and the words after them
abbrev pub after_in_place : List (List ℕ) → Options × List (List ℕ)
after_in_place [] = (in_place Format, [])
after_in_place (word ∷ words) =
    if bytes_eq word (codes "--list") then (in_place FormatAndName, words) else (in_place Format, word ∷ words)

-- the options that the first words are, and the words after them
abbrev pub options_of : List (List ℕ) → Options × List (List ℕ)
options_of [] = (replacing Format, [])
options_of (word ∷ words) =
    if bytes_eq word (codes "--check") then (replacing Check, without (codes "--list") words)
    else if bytes_eq word (codes "--diff") then (replacing Diff, words)
    else if bytes_eq word (codes "--list") then after_list words
    else if bytes_eq word (codes "--in-place") then after_in_place words
    else (replacing Format, word ∷ words)

-- whether the word begins with `-`
abbrev pub is_option : List ℕ → Bool
is_option word = starts_with nat_eq word (codes "-")

-- the first of the words that does
abbrev pub first_option : List (List ℕ) → Option (List ℕ)
first_option [] = None
first_option (word ∷ words) = if is_option word then Some word else first_option words

-- files of these names, none of which begins with `-`
abbrev pub names_of : (option : Option (List ℕ)) → Options → (names : List (List ℕ)) → Asked
names_of None options names = files options names
names_of (Some option) options names = unexpected option

-- after `--`
abbrev pub given_names : Options → List (List ℕ) → Asked
given_names options [] = incomplete
given_names options (name ∷ names) = files options (name ∷ names)

abbrev pub stream_alone : Task → (name : List ℕ) → (rest : List (List ℕ)) → Asked
stream_alone task name [] = stream task name
stream_alone task name (word ∷ words) = unexpected word

-- whether the task with a stream can be done so: it is no file that is written in place, and its formatted text is written where names would be
abbrev pub fits_stream : Task → Writing → Bool
fits_stream FormatAndName writing = false
fits_stream task InPlace = false
fits_stream task Replace = true

-- after `-`, which is the last word
abbrev pub stream_of : Options → (name dash : List ℕ) → (rest : List (List ℕ)) → Asked
stream_of options name dash rest = if fits_stream options.task options.writing then stream_alone options.task name rest else unexpected dash

-- after `--name`
abbrev pub named : Options → List (List ℕ) → Asked
named options [] = incomplete
named options (name ∷ []) = incomplete
named options (name ∷ dash ∷ rest) = if bytes_eq dash (codes "-") then stream_of options name dash rest else unexpected dash

-- after the options
abbrev pub subject_of : Options → List (List ℕ) → Asked
subject_of options [] = nearest options
subject_of options (word ∷ words) =
    if bytes_eq word (codes "--") then given_names options words
    else if bytes_eq word (codes "-") then stream_of options NAME.now word words
    else if bytes_eq word (codes "--name") then named options words
    else names_of (first_option (word ∷ words)) options (word ∷ words)

-- what is asked for with what is wrong in place of a task
abbrev pub linted : Asked → Asked
linted (files options names) = lint_files names
linted (nearest options) = lint_nearest
linted (stream task name) = lint_stream name
linted other = other

abbrev pub request_of : List (List ℕ) → Asked
request_of [] = nearest (replacing Format)
request_of (word ∷ words) =
    if bytes_eq word (codes "--help") || bytes_eq word (codes "-h") then help
    else if bytes_eq word (codes "--version") || bytes_eq word (codes "-V") then version
    else if bytes_eq word (codes "--lint") then linted (subject_of (replacing Check) words)
    else subject_of (options_of (word ∷ words)).0 (options_of (word ∷ words)).1

abbrev pub shown_option : Option (Bor (List ℕ)) → Option (List ℕ)
shown_option option = option_map (λ o. o.now) option

abbrev pub asked_of : Subject → Asked
asked_of (subjects.Files names) = lint_files (texts names.now)
asked_of subjects.Nearest = lint_nearest
asked_of (subjects.Stream name) = lint_stream name.now

abbrev pub asked : Request → Asked
asked requests.Help = help
asked requests.Version = version
asked (requests.Files options names) = files options (texts names.now)
asked (requests.Nearest options) = nearest options
asked (requests.Stream task name) = stream task name.now
asked (requests.Lint subject) = asked_of subject

-- the argument that doesn't fit, if none is missing
abbrev pub shown_misuse : Misuse → Option (List ℕ)
shown_misuse (misuses.Unexpected word) = Some word.now
shown_misuse misuses.Incomplete = None

abbrev pub misused : Option (List ℕ) → Asked
misused (Some word) = unexpected word
misused None = incomplete

abbrev pub shown_request : Result Request Misuse → Asked
shown_request (Ok request) = asked request
shown_request (Err misuse) = misused (shown_misuse misuse)

abbrev pub what_is_wrong : Option (List ℕ) → List ℕ
what_is_wrong (Some word) = codes "unexpected argument: " ++ visible_name word
what_is_wrong None = codes "an argument is missing at the end"

abbrev pub misuse_lines : Option (List ℕ) → List ℕ
misuse_lines word = codes "error: " ++ what_is_wrong word ++ codes "\nsee justfiles --help\n"
