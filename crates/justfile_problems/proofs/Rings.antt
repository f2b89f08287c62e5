-- Circles of indices, and those that are read from them.
use Rattle.std.proofs.Common.{◌≡◌, ◌∙◌, ◌<◌, ◌+◌, ℕ, All, IfOk, Result, Ok, Err, Vec, List, [], ◌∷◌, ◌++◌, length, map, take, drop, get_or, refl, sym, ap, subst}
use Rattle.std.specs.List.{AllZip}
use Rattle.std.proofs.lemmas.List.{drop_more, get_or_default, length-map, map_more, take_more}
use Rattle.std.proofs.lemmas.List.Elements.{All-cons, All-head, All-nil, All-tail}
use Rattle.circles.specs.declared.circle.Circle.{Circle as Ring}
use Rattle.circles.specs.declared.edge.Edge.{Edge}
use Rattle.circles.specs.FirstCircles.{AreFirstCircles, IsCircle, IsPath, end_of, node_of, steps_of}
use Rattle.justfile_token.specs.declared.compile_error.CompileError.{CompileError}
use Rattle.justfile_problems.specs.Circular.{AreCirclesAmong, HasLasts, IsInside, IsRead, IsRecipeCircle, IsTurned, IsVariableCircle, TellsCircle, edges_of, last, node_of as node_in}
use Rattle.justfile_problems.specs.declared.circular.Circle.{Circle}
use Rattle.justfile_problems.specs.declared.facts.Definition.{Definition}
use Rattle.justfile_problems.specs.declared.facts.Role.{Role}
use Rattle.justfile_problems.specs.declared.facts.Role.TheVariants as roles
use Rattle.justfile_problems.specs.declared.facts.Use.{Use}
use Rattle.justfile_problems.specs.declared.nodes.Nodes.{Nodes}
use Rattle.justfile_problems.specs.declared.steps.Step.{Step}

path_inside : (edges : List Edge) (ks : List ℕ) (a b : ℕ) → IsPath edges a ks b → All (λ k. k < length edges) ks
path_inside edges [] a b p = All-nil (λ k. k < length edges)
path_inside edges (k ∷ ks) a b p = All-cons (λ k. k < length edges) k ks p.0.inside (path_inside edges ks (end_of edges k) b p.2)

ring_inside : (edges : List Edge) (ring : Ring) → IsCircle edges ring → IsInside (length edges) ring
ring_inside edges ring circle =
    let all = path_inside edges (steps_of ring) (node_of edges ring) (node_of edges ring) circle in
    record { first = All-head (λ k. k < length edges) ring.first ring.others.items all; others = All-tail (λ k. k < length edges) ring.first ring.others.items all }

-- the indices of circles of steps are among those of the steps
pub rings_inside : (steps : List Step) (edges : List Edge) (rings : List Ring) → edges ≡ edges_of steps → AreFirstCircles edges rings → All (IsInside (length steps)) rings
rings_inside steps edges rings e are =
    λ k d h.
    let count : length edges ≡ length steps = ap length e ∙ length-map steps (λ (s : Step). s.edge) in
    let P : ℕ → Type 0 = λ n. IsInside n (get_or rings k d) in
    subst P count (ring_inside edges (get_or rings k d) (are.each k d h))

-- what is said of what was made, if it was
pub among_result : {Z E : Type 0} (r : Result (Vec Circle Z) E) (steps : List Step) (edges : List Edge) (rings given : List Ring) → edges ≡ edges_of steps → AreFirstCircles edges rings → given ≡ rings
    → IfOk r (λ v. AllZip (IsRead steps) given v.items) → IfOk r (λ v. AreCirclesAmong steps v.items)
among_result (Ok v) steps edges rings given e are same h =
    let P : List Edge → Type 0 = λ l. AreFirstCircles l rings in
    let Q : List Ring → Type 0 = λ l. AllZip (IsRead steps) l v.items in
    record { rings = rings; are = subst P e are; read = subst Q same h }
among_result (Err f) steps edges rings given e are same h = tt

pub read_result : {E : Type 0} (r : Result Circle E) (steps : List Step) (ring : Ring) (uses given : List Use) → ((d : Step) → uses ≡ map (λ index. (get_or steps index d).used) (steps_of ring)) → given ≡ uses
    → IfOk r (IsTurned given) → IfOk r (IsRead steps ring)
read_result (Ok c) steps ring uses given read same h = let P : List Use → Type 0 = λ l. IsTurned l c in record { uses = uses; read = read; turned = subst P same h }
read_result (Err f) steps ring uses given read same h = tt

-- the tables and the definitions say the same of each name
pub are_last : (nodes : Nodes) (ds : List Definition) → HasLasts ds nodes.table → node_in nodes ≡ last ds
are_last nodes ds h = λ i. λ space text. h space 0 text i

-- one use more
pub read_more : (steps : List Step) (first : ℕ) (others given : List ℕ) (i : ℕ) (uses new : List Use) (s : Step) → given ≡ others → i < length others → All (λ index. index < length steps) others
    → s ≡ get_or steps (get_or given i 0) s → ((d : Step) → uses ≡ map (λ index. (get_or steps index d).used) (first ∷ take i others)) → new ≡ uses ++ s.used ∷ []
    → (d : Step) → new ≡ map (λ index. (get_or steps index d).used) (first ∷ take (i + 1) others)
read_more steps first others given i uses new s same within inside at so_far e d =
    let f : ℕ → Use = λ index. (get_or steps index d).used in
    let is : s ≡ get_or steps (get_or others i 0) s = at ∙ ap (λ l. get_or steps (get_or l i 0) s) same in
    e ∙ ap (λ l. l ++ s.used ∷ []) (so_far d)
    ∙ ap (λ u. f first ∷ (map f (take i others) ++ u ∷ [])) (ap (λ (x : Step). x.used) (is ∙ get_or_default steps (get_or others i 0) s d (inside i 0 within)))
    ∙ ap (λ l. f first ∷ l) (sym (map_more f others i 0 within))

pub edges_more : (steps : List Step) (i : ℕ) (s : Step) (edges new : List Edge) → i < length steps → s ≡ get_or steps i s → edges ≡ edges_of (take i steps) → new ≡ edges ++ s.edge ∷ []
    → new ≡ edges_of (take (i + 1) steps)
edges_more steps i s edges new within at so_far e =
    e ∙ ap (λ l. l ++ s.edge ∷ []) so_far ∙ ap (λ (x : Step). edges_of (take i steps) ++ x.edge ∷ []) at ∙ sym (map_more (λ (x : Step). x.edge) steps i s within)

zip_push : {X Y : Type 0} (R : X → Y → Type 0) (xs : List X) (ys : List Y) (x : X) (y : Y) → AllZip R xs ys → R x y → AllZip R (xs ++ x ∷ []) (ys ++ y ∷ [])
zip_push R [] [] x y h k = (k, tt)
zip_push R [] (z ∷ ys) x y h k = absurd h
zip_push R (z ∷ xs) [] x y h k = absurd h
zip_push R (w ∷ xs) (z ∷ ys) x y h k = (h.0, zip_push R xs ys x y h.1 k)

-- one circle more
pub read_one : (steps : List Step) (rings : List Ring) (i : ℕ) (ring : Ring) (found more : List Circle) (c : Circle) → i < length rings → ring ≡ get_or rings i ring
    → AllZip (IsRead steps) (take i rings) found → IsRead steps ring c → more ≡ found ++ c ∷ [] → AllZip (IsRead steps) (take (i + 1) rings) more
read_one steps rings i ring found more c within at so_far read e =
    let P : List Ring → Type 0 = λ l. AllZip (IsRead steps) l more in
    let Q : List Circle → Type 0 = λ l. AllZip (IsRead steps) (take i rings ++ ring ∷ []) l in
    subst P (sym (take_more rings i ring within ∙ ap (λ y. take i rings ++ y ∷ []) (sym at))) (subst Q (sym e) (zip_push (IsRead steps) (take i rings) found ring c so_far read))

pub are_turned : (uses others rest : List Use) (begin : ℕ) (u : Use) → begin < length uses → u ≡ get_or uses begin u → rest ≡ drop (begin + 1) uses → others ≡ rest ++ take begin uses
    → u ∷ others ≡ drop begin uses ++ take begin uses
are_turned uses others rest begin u inside at r e =
    ap (λ l. u ∷ l) (e ∙ ap (λ l. l ++ take begin uses) r)
    ∙ ap (λ l. l ++ take begin uses) (ap (λ x. x ∷ drop (begin + 1) uses) at ∙ sym (drop_more uses begin u inside))

pub tells_recipe : (role : Role) (found : ℕ) (c : Circle) (e : CompileError) → role ≡ roles.Dependency found → IsRecipeCircle c e → TellsCircle role c e
tells_recipe role found c e is h = let P : Role → Type 0 = λ r. TellsCircle r c e in subst P (sym is) h

-- what isn't the circle of a dependency is that of a variable
pub tells_variable : (role : Role) (c : Circle) (e : CompileError) → ((found : ℕ) → role ≡ roles.Dependency found → ⊥) → IsVariableCircle c e → TellsCircle role c e
tells_variable (roles.Dependency found) c e h v = absurd (h found refl)
tells_variable other c e h v = v
