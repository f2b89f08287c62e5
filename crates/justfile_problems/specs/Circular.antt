-- Recipes that depend on themselves, and variables that are defined in terms of themselves, directly or through others.
use Rattle.std.specs.Prelude.{◌≡◌, ◌++◌, ◌<◌, ◌-◌, ◌&&◌, ℕ, suc, All, List, [], ◌∷◌, Option, Some, None, Vec, cond, drop, length, map, nat_eq, slice_get, slice_index_or, take, unwrap_or}
use Rattle.std.specs.List.{AllZip, flat_map}
use Rattle.std.specs.Option.{option_or}
use Rattle.std.specs.HashMap.{HashMap, get_by}
use Rattle.std.specs.declared.hash.BuildHasherDefault.{BuildHasherDefault}
use Rattle.std.specs.declared.hash.FoldHasher.{FoldHasher}
use Rattle.std.specs.Global.{Global}
use denote.Ref.{Bor}
use Rattle.circles.specs.FirstCircles.{AreFirstCircles, steps_of}
use Rattle.circles.specs.declared.circle.Circle.{Circle as Ring}
use Rattle.circles.specs.declared.edge.Edge.{Edge}
use Rattle.justfile_builtins.specs.Constants.{is_constant}
use Rattle.justfile_token.specs.Name.{name_text}
use Rattle.justfile_token.specs.declared.compile_error.CompileError.{CompileError}
use Rattle.justfile_token.specs.declared.compile_error_kind.CompileErrorKind.TheVariants as kinds
use Rattle.justfile_token.specs.declared.name.Name.{Name}
use Rattle.justfile_problems.specs.declared.circular.Circle.{Circle}
use Rattle.justfile_problems.specs.declared.facts.Definition.{Definition}
use Rattle.justfile_problems.specs.declared.facts.Role.{Role}
use Rattle.justfile_problems.specs.declared.facts.Role.TheVariants as roles
use Rattle.justfile_problems.specs.declared.facts.Space.{Space}
use Rattle.justfile_problems.specs.declared.facts.Space.TheVariants as spaces
use Rattle.justfile_problems.specs.declared.facts.Use.{Use}
use Rattle.justfile_problems.specs.declared.key.Key.{Key}
use Rattle.justfile_problems.specs.declared.nodes.Node.{Node}
use Rattle.justfile_problems.specs.declared.nodes.Nodes.{Nodes}
use Rattle.justfile_problems.specs.declared.steps.Step.{Step}
use Rattle.justfile_problems.specs.Names.{key, key_of, same}
use Rattle.justfile_problems.specs.Overridden.{is_node, offset_of}

-- ---- the nodes

-- a definition at an index, if it is the one of a recipe or a variable with a key
abbrev pub node_at : (index : ℕ) → Definition → Key → Option Node
node_at index d k = cond (is_node d && same (key_of d) k) (Some (record { index = index; offset = offset_of d.name })) None

-- the last one of these definitions with a key, where the first one is at an index
abbrev pub last_with : (index : ℕ) → List Definition → Key → Option Node
last_with index [] k = None
last_with index (d ∷ ds) k = option_or (last_with (suc index) ds k) (node_at index d k)

-- the definition of a name that counts, if it is defined again: the last one
abbrev pub last : List Definition → Space → (text : List ℕ) → Option Node
last definitions space text = last_with 0 definitions (key space 0 text)

abbrev pub NodeTable : Type 0
NodeTable = HashMap Key Node (BuildHasherDefault FoldHasher)

-- the table has the last definition of each name
abbrev pub HasLasts : List Definition → NodeTable → Type 0
HasLasts definitions table = (space : Space) (scope : ℕ) (text : List ℕ) → get_by (same (key space scope text)) table ≡ last_with 0 definitions (key space scope text)

-- a definition was stored, if it is one of a recipe or a variable
abbrev pub Stores : (index : ℕ) → Definition → (old new : NodeTable) → Type 0
Stores index d old new =
    (space : Space) (scope : ℕ) (text : List ℕ) → get_by (same (key space scope text)) new ≡ option_or (node_at index d (key space scope text)) (get_by (same (key space scope text)) old)

abbrev pub node_of : Nodes → Space → (text : List ℕ) → Option Node
node_of nodes space text = get_by (same (key space 0 text)) nodes.table

-- ---- the steps

-- The set of names in which a use is a step from its item, if it can be one: a dependency of a recipe, or a variable. What a constant names is no step.
abbrev pub step_space : (name : Name) → Role → Option Space
step_space name (roles.Dependency found) = Some spaces.Commands
step_space name (roles.Variable end) = cond (is_constant (name_text name)) None (Some spaces.Variables)
step_space name other = None

-- the step between two definitions, if the use is in the first one
abbrev pub step_between : Use → (from to : Option Node) → Option Edge
step_between u None to = None
step_between u (Some from) None = None
step_between u (Some from) (Some to) = cond (nat_eq from.offset (offset_of u.item)) (Some (record { from = from.index; to = to.index })) None

-- a use with its step, if it is one
abbrev pub steps_at : Use → Option Edge → List Step
steps_at u None = []
steps_at u (Some e) = record { used = u; edge = e } ∷ []

module _ (last : Space → (text : List ℕ) → Option Node) where
  abbrev pub step_in : Use → Option Space → Option Edge
  step_in u None = None
  step_in u (Some space) = step_between u (last space (name_text u.item)) (last space (name_text u.name))

  -- the step that a use is, from the recipe or the assignment that it is in to the one that it names
  abbrev pub step_of : Use → Option Edge
  step_of u = step_in u (step_space u.name u.role)

  abbrev pub use_steps : Use → List Step
  use_steps u = steps_at u (step_of u)

  abbrev pub all_steps : List Use → List Step
  all_steps us = flat_map use_steps us

-- ---- the circles

abbrev pub edges_of : List Step → List Edge
edges_of steps = map (λ (s : Step). s.edge) steps

-- whether the steps of a circle are among so many
pub record IsInside (count : ℕ) (ring : Ring) : Type 0 where
  pub first : ring.first < count
  pub others : All (λ index. index < count) ring.others.items

abbrev pub uses_of : Circle → List Use
uses_of c = c.first ∷ c.others.items

-- the circle has these uses, and begins with any of them
pub record IsTurned (uses : List Use) (c : Circle) : Type 0 where
  pub begin : ℕ
  pub inside : begin < length uses
  pub are : uses_of c ≡ drop begin uses ++ take begin uses

-- the circle has the uses that are steps of a circle of indices
pub record IsRead (steps : List Step) (ring : Ring) (c : Circle) : Type 0 where
  pub uses : List Use
  pub read : (d : Step) → uses ≡ map (λ index. (slice_index_or steps index d).used) (steps_of ring)
  pub turned : IsTurned uses c

-- The circles that one comes to by following from each item its first step that is part of a circle; each once.
pub record AreCirclesAmong (steps : List Step) (found : List Circle) : Type 0 where
  pub rings : List Ring
  pub are : AreFirstCircles (edges_of steps) rings
  pub read : AllZip (IsRead steps) rings found

-- the circles of the recipes and the assignments of a file
abbrev pub AreCirclesOf : List Definition → List Use → List Circle → Type 0
AreCirclesOf definitions uses = AreCirclesAmong (all_steps (last definitions) uses)

-- ---- their errors

-- the use that leads back to where a circle begins
abbrev pub last_use : Circle → Use
last_use c = unwrap_or (slice_get c.others.items (length c.others.items - 1)) c.first

-- the names from the first item on, and back to it
abbrev pub names_of : Circle → List (List ℕ)
names_of c = name_text c.first.item ∷ name_text c.first.name ∷ map (λ (u : Use). name_text u.name) c.others.items

abbrev pub AreNames : Circle → List (Bor (List ℕ)) → Type 0
AreNames c names = map (λ (n : Bor (List ℕ)). n.now) names ≡ names_of c

-- a dependency that leads back to where the circle begins
pub record IsRecipeCircle (c : Circle) (error : CompileError) : Type 0 where
  pub recipe : Bor (List ℕ)
  pub circle : Vec (Bor (List ℕ)) Global
  pub at : error.token ≡ (last_use c).name.token
  pub is : error.kind ≡ kinds.CircularRecipeDependency recipe circle
  pub has : recipe.now ≡ name_text (last_use c).item
  pub names : AreNames c circle.items

-- an assignment whose value leads back to it
pub record IsVariableCircle (c : Circle) (error : CompileError) : Type 0 where
  pub variable : Bor (List ℕ)
  pub circle : Vec (Bor (List ℕ)) Global
  pub at : error.token ≡ c.first.item.token
  pub is : error.kind ≡ kinds.CircularVariableDependency variable circle
  pub has : variable.now ≡ name_text c.first.item
  pub names : AreNames c circle.items

abbrev pub TellsCircle : Role → Circle → CompileError → Type 0
TellsCircle (roles.Dependency found) = IsRecipeCircle
TellsCircle other = IsVariableCircle

-- the error of a circle
abbrev pub IsErrorOfCircle : Circle → CompileError → Type 0
IsErrorOfCircle c error = TellsCircle c.first.role c error
