-- The lines that tell what is wrong with the files of modules.
use Rattle.std.specs.Prelude.{◌≡◌, ◌-◌, ◌&&◌, ◌||◌, ℕ, Bool, true, false, not, List, [], ◌∷◌, ◌++◌, IsPermutation, Option, None, Some, codes, cond, is_some, length, nat_eq, option_to_list, slice_get, String, take, unwrap_or}
use Rattle.std.specs.Global.{Global}
use Rattle.std.specs.List.{AllZip, concat, flat_map, list_any, position}
use Rattle.std.specs.List.Sorted.{IsNonDecreasingBy}
use Rattle.std.specs.Option.{option_map}
use Rattle.std.specs.Str.{bytes_eq}
use Rattle.circles.specs.FirstCircles.{AreFirstCircles}
use Rattle.circles.specs.declared.circle.Circle.{Circle as Ring}
use Rattle.circles.specs.declared.edge.Edge.{Edge}
use Rattle.justfile_token.specs.Excerpt.{excerpt_text}
use Rattle.justfile_token.specs.Name.{name_text}
use Rattle.justfile_token.specs.declared.name.Name.{Name}
use Rattle.justfile_token.specs.declared.token.Token.{Token}
use Rattle.justfile_problems.specs.Circular.{AreCirclesOf}
use Rattle.justfile_problems.specs.Overridden.{is_overridden}
use Rattle.justfile_problems.specs.Problems.{joined, problems_within}
use Rattle.justfile_problems.specs.declared.circular.Circle.{Circle}
use Rattle.justfile_problems.specs.declared.facts.Definition.{Definition}
use Rattle.justfile_problems.specs.declared.facts.Link.{Link}
use Rattle.justfile_problems.specs.declared.facts.Member.{Member}
use Rattle.justfile_problems.specs.declared.facts.ModuleFile.{ModuleFile}
use Rattle.justfile_problems.specs.declared.facts.Rules.{Rules}
use Rattle.justfile_problems.specs.declared.facts.Suspect.{Suspect}
use Rattle.justfile_problems.specs.declared.facts.Target.{Target}
use Rattle.justfile_problems.specs.declared.facts.Target.TheVariants as targets
use Rattle.justfile_problems.specs.declared.facts.Use.{Use}
use Rattle.justfile_problems.specs.declared.problem.Problem.{Problem}
use Rattle.justfile_problem_lines.specs.Groups.{first_files, first_of, group_after, is_among}
use Rattle.justfile_problem_lines.specs.Lines.{TellCircles, TellProblemsWithin}
use Rattle.justfile_problem_lines.specs.Links.{all_links}

-- ---- where imports and modules lead

-- whether it is known which file this is, or that there is none, which need not be
abbrev pub is_settled : (optional : Bool) → Target → Bool
is_settled optional (targets.File index) = true
is_settled optional targets.Nothing = optional
is_settled optional targets.Unknown = false

-- whether an import of one of the files with these indices may lead to a file that isn't known
abbrev pub leads_to_more : (group : List ℕ) → Link → Bool
leads_to_more group l = is_among group l.from && not (is_some l.submodule) && not (is_settled l.optional l.target)

abbrev pub may_be_more : List Link → (group : List ℕ) → Bool
may_be_more links group = list_any (leads_to_more group) links

abbrev pub no_import_text : Token → List ℕ
no_import_text t = codes "error: could not find source file for import\n" ++ excerpt_text t ++ codes "\n"

abbrev pub no_module_text : (name : List ℕ) → Token → List ℕ
no_module_text name t = codes "error: could not find source file for module `" ++ (name ++ (codes "`\n" ++ (excerpt_text t ++ codes "\n")))

abbrev pub no_file_text : (owner : Option Name) → Token → List ℕ
no_file_text None t = no_import_text t
no_file_text (Some name) t = no_module_text (name_text name) name.token

-- an import or a module that leads to no file, unless it need not
abbrev pub target_lines : Link → (optional : Bool) → Target → List ℕ
target_lines l false targets.Nothing = no_file_text l.submodule l.token
target_lines l optional target = []

abbrev pub link_lines : Link → List ℕ
link_lines l = target_lines l l.optional l.target

-- ---- lines of several things, one after the other

pub record TellEach {X : Type 0} (Tells : X → List ℕ → Type 0) (these : List X) (lines : List ℕ) : Type 0 where
  pub parts : List (List ℕ)
  pub each : AllZip Tells these parts
  pub joined : lines ≡ concat parts

-- those of something, if there is one
abbrev pub TellAny : {X : Type 0} → (Tells : X → List ℕ → Type 0) → Option X → (lines : List ℕ) → Type 0
TellAny Tells None lines = lines ≡ []
TellAny Tells (Some x) lines = Tells x lines

-- ---- the problems of files

-- what a file defines, if there is one
abbrev pub definitions_of : Option ModuleFile → List Definition
definitions_of None = []
definitions_of (Some f) = f.facts.definitions.items

module _ (files : List ModuleFile) where
  -- what the file with an index defines
  abbrev pub definitions_at : (index : ℕ) → List Definition
  definitions_at index = definitions_of (slice_get files index)

  -- what the file with an index allows
  abbrev pub rule_at : (index : ℕ) → Option Rules
  rule_at index = option_map (λ (f : ModuleFile). f.facts.rules) (slice_get files index)

  abbrev pub rules_at : (index : ℕ) → List Rules
  rules_at index = option_to_list (rule_at index)

  -- what the files with these indices define
  abbrev pub all_definitions : (group : List ℕ) → List Definition
  all_definitions group = flat_map definitions_at group

  -- the same, unless one is alone: it shares that with none
  abbrev pub shared_definitions : (group : List ℕ) → List Definition
  shared_definitions [] = []
  shared_definitions (index ∷ []) = []
  shared_definitions (index ∷ other ∷ others) = all_definitions (index ∷ other ∷ others)

  abbrev pub rules_in : (more : Bool) → (group : List ℕ) → Rules
  rules_in more group = joined more (flat_map rules_at group)

-- the indices before a place, if there is one
abbrev pub up_to : (group : List ℕ) → Option ℕ → List ℕ
up_to group None = []
up_to group (Some place) = take place group

-- the place of an index among some
abbrev pub place_in : (group : List ℕ) → (index : ℕ) → Option ℕ
place_in group index = position (λ (other : ℕ). nat_eq other index) group

-- The files of a module that come before one, each after those that import it or are imported earlier. What they define overrides what it defines.
abbrev pub files_before : (group : List ℕ) → (index : ℕ) → List ℕ
files_before group index = up_to group (place_in group index)

-- whether the name at an offset of a file of a module is that of a recipe or a variable that is overridden, by that file or those before it
abbrev pub is_overridden_at : List ModuleFile → (group : List ℕ) → (index : ℕ) → (offset : ℕ) → Bool
is_overridden_at files group index = is_overridden (all_definitions files (files_before group index)) (definitions_at files index)

-- all problems with these uses and the like of a file of a module, in the order of its text; the uses have the name of another module before theirs, or none
pub record TellJudged (owner : Option Name) (rules : Rules) (overridden : (offset : ℕ) → Bool) (all own : List Definition) (uses : List Use) (suspects : List Suspect) (source lines : List ℕ) : Type 0 where
  pub problems : List Problem
  pub are : IsPermutation (problems_within rules overridden all own uses suspects) problems
  pub in_order : IsNonDecreasingBy (λ (p : Problem). p.token.offset) problems
  pub told : TellProblemsWithin owner source problems lines

-- all problems of a file of a module with these definitions
abbrev pub TellPart : (rules : Rules) (overridden : (offset : ℕ) → Bool) (all : List Definition) → ModuleFile → (lines : List ℕ) → Type 0
TellPart rules overridden all f lines = TellJudged None rules overridden all f.facts.definitions.items f.facts.uses.items f.facts.suspects.items f.source.now lines

-- those of the files with these indices, one after the other
abbrev pub TellParts : (rules : Rules) (all : List Definition) → List ModuleFile → (group : List ℕ) → (lines : List ℕ) → Type 0
TellParts rules all files group lines = TellEach (λ (index : ℕ) part. TellAny (TellPart rules (is_overridden_at files group index) all) (slice_get files index) part) group lines

-- ---- circles

pub record TellCirclesOfFile (f : ModuleFile) (lines : List ℕ) : Type 0 where
  pub circles : List Circle
  pub are : AreCirclesOf f.facts.definitions.items f.facts.uses.items circles
  pub told : TellCircles f.source.now circles lines

abbrev pub step_to : (from : ℕ) → Target → List Edge
step_to from (targets.File index) = record { from = from; to = index } ∷ []
step_to from targets.Nothing = []
step_to from targets.Unknown = []

-- the step between files that an import or a module is
abbrev pub edges_of : Link → List Edge
edges_of l = step_to l.from l.target

abbrev pub edges_in : List Link → List Edge
edges_in links = flat_map edges_of links

abbrev pub name_at : List ModuleFile → (index : ℕ) → List ℕ
name_at files index = unwrap_or (option_map (λ (f : ModuleFile). f.name.now) (slice_get files index)) []

abbrev pub circular_text : (import current : List ℕ) → List ℕ
circular_text import current = codes "error: import `" ++ import ++ codes "` in `" ++ current ++ codes "` is circular\n"

abbrev pub edge_text : List ModuleFile → Edge → List ℕ
edge_text files e = circular_text (name_at files e.to) (name_at files e.from)

abbrev pub edge_lines : List ModuleFile → Option Edge → List ℕ
edge_lines files None = []
edge_lines files (Some e) = edge_text files e

-- the step of a circle that leads back to where it begins
abbrev pub last_step : Ring → ℕ
last_step ring = unwrap_or (slice_get ring.others.items (length ring.others.items - 1)) ring.first

abbrev pub ring_lines : List ModuleFile → List Edge → Ring → List ℕ
ring_lines files edges ring = edge_lines files (slice_get edges (last_step ring))

-- the circles of imports and modules: some exactly if a file leads to itself, directly or through others
pub record TellImports (files : List ModuleFile) (links : List Link) (lines : List ℕ) : Type 0 where
  pub rings : List Ring
  pub are : AreFirstCircles (edges_in links) rings
  pub told : lines ≡ flat_map (ring_lines files (edges_in links)) rings

-- ---- uses of what modules define

-- a use, if it is of what a module with this name defines
abbrev pub use_of : (owner : List ℕ) → Member → List Use
use_of owner m = cond (bytes_eq (name_text m.owner) owner) (m.used ∷ []) []

-- all problems with the uses by a file of what a module with this name defines: they are judged as if that module had them, except that items of the file are overridden
abbrev pub TellMembers : (rules : Rules) (overridden : (offset : ℕ) → Bool) (all : List Definition) (owner : Name) → ModuleFile → (lines : List ℕ) → Type 0
TellMembers rules overridden all owner f lines = TellJudged (Some owner) rules overridden all [] (flat_map (use_of (name_text owner)) f.facts.members.items) [] f.source.now lines

-- those of the files with these indices
abbrev pub TellMembersIn : (rules : Rules) (all : List Definition) (owner : Name) → List ModuleFile → (group : List ℕ) → (lines : List ℕ) → Type 0
TellMembersIn rules all owner files group lines = TellEach (λ (index : ℕ) part. TellAny (TellMembers rules (is_overridden_at files group index) all owner) (slice_get files index) part) group lines

-- the first file of a module that one of the files with these indices has
abbrev pub first_within : (group : List ℕ) → Link → Option ℕ
first_within group l = cond (is_among group l.from) (first_of l) None

module _ (files : List ModuleFile) (links : List Link) (group : List ℕ) where
  -- the same, where the module begins with this file
  abbrev pub TellMembersOf : (owner : Name) → (first : ℕ) → (lines : List ℕ) → Type 0
  TellMembersOf owner first lines =
      let inner = group_after links (length files) first in
      TellMembersIn (rules_in files (may_be_more links inner) inner) (all_definitions files inner) owner files group lines

  abbrev pub TellMembersBy : (owner : Option Name) → (first : Option ℕ) → (lines : List ℕ) → Type 0
  TellMembersBy None first lines = lines ≡ []
  TellMembersBy (Some owner) first lines = TellAny (TellMembersOf owner) first lines

  -- those of a module, if these files have it
  abbrev pub TellMembersAt : Link → (lines : List ℕ) → Type 0
  TellMembersAt l lines = TellMembersBy l.submodule (first_within group l) lines

  -- those of all modules that these files have
  abbrev pub TellAllMembers : (lines : List ℕ) → Type 0
  TellAllMembers lines = TellEach TellMembersAt links lines

-- ---- all

-- all that is wrong with a module that has the files with these indices, of which this is the first; `imported` is whether yet another file may import that
pub record TellModuleOf (imported : Bool) (files : List ModuleFile) (links : List Link) (first : ℕ) (group : List ℕ) (lines : List ℕ) : Type 0 where
  pub of_parts : List ℕ
  pub of_members : List ℕ
  pub of_circles : List ℕ
  pub parts_told : TellParts (rules_in files (imported || may_be_more links group) group) (shared_definitions files group) files group of_parts
  pub members_told : TellAllMembers files links group of_members
  pub circles_told : TellAny TellCirclesOfFile (slice_get files first) of_circles
  pub are : lines ≡ of_parts ++ of_members ++ of_circles

abbrev pub TellModule : (imported : Bool) → List ModuleFile → List Link → (first : ℕ) → (lines : List ℕ) → Type 0
TellModule imported files links first lines = TellModuleOf imported files links first (group_after links (length files) first) lines

-- that of the modules that begin with these files; only the first of all may be imported
abbrev pub TellModules : (imported : Bool) → List ModuleFile → List Link → (first : List ℕ) → (lines : List ℕ) → Type 0
TellModules imported files links first lines = TellEach (λ (index : ℕ) part. TellModule (imported && nat_eq index 0) files links index part) first lines

pub record TellLinked (imported : Bool) (files : List ModuleFile) (links : List Link) (lines : List ℕ) : Type 0 where
  pub of_modules : List ℕ
  pub of_imports : List ℕ
  pub modules_told : TellModules imported files links (first_files links) of_modules
  pub imports_told : TellImports files links of_imports
  pub are : lines ≡ flat_map link_lines links ++ of_modules ++ of_imports

-- all that is wrong with a file, the first one, and those that it leads to
abbrev pub TellFilesOf : (imported : Bool) → List ModuleFile → (missing : List (String Global)) → (lines : List ℕ) → Type 0
TellFilesOf imported files missing lines = TellLinked imported files (all_links files missing) lines
