-- Lines without the empty ones at the end.
use Rattle.std.proofs.Common.{◌≡◌, ℕ, ◌-◌, List, [], ◌∷◌, ◌++◌, ◌+◌, length, get_or, map, Option, Some, None, refl, sym, ap, ◌∙◌, subst, arith}
use Rattle.std.proofs.lemmas.List.{append-nil, length-append, map-append}
use Rattle.std.proofs.Math.Seq.{get_or-append_seam}
use Rattle.std.proofs.lemmas.Option.{slice_get-get_or}
use Rattle.std.specs.List.{slice_get}
use Rattle.std.specs.Option.{option_to_list}
use Rattle.std.specs.Prelude.{IsSomeAnd}
use Rattle.justfile_line.specs.Line.{IsEmpty}
use Rattle.justfile_token.specs.declared.token.Token.{Token}
use Rattle.justfile_parse_item_parts.specs.BodyTrees.{fragment_tree, line_tree}
use Rattle.justfile_expression.specs.LeafTree.{Leaf}
use Rattle.justfile_line.specs.declared.fragment.Fragment.{Fragment}
use Rattle.justfile_line.specs.declared.line.Line as lines
use Rattle.justfile_model.specs.Trees.Tree as tree
use Rattle.justfile_model.specs.Trees.Tree.{BodyLine, Line, line_before, trimmed}

module _ {A B C : Type 0} where
  -- an empty line at the end is left out
  pub trimmed_empty : (ls : List (BodyLine A B C)) (n : C) → trimmed (ls ++ Line n [] ∷ []) ≡ trimmed ls
  trimmed_empty [] n = refl
  trimmed_empty (l ∷ ls) n = ap (line_before l) (trimmed_empty ls n)

  before_some : (l : BodyLine A B C) (ls : List (BodyLine A B C)) (k : BodyLine A B C) → line_before l (ls ++ k ∷ []) ≡ l ∷ (ls ++ k ∷ [])
  before_some (Line n []) [] k = refl
  before_some (Line n []) (m ∷ ls) k = refl
  before_some (Line n (f ∷ fs)) [] k = refl
  before_some (Line n (f ∷ fs)) (m ∷ ls) k = refl

  -- nothing is left out before a line that is not empty
  pub trimmed_some : (ls : List (BodyLine A B C)) (n : C) (f : tree.Fragment A B) (fs : List (tree.Fragment A B)) → trimmed (ls ++ Line n (f ∷ fs) ∷ []) ≡ ls ++ Line n (f ∷ fs) ∷ []
  trimmed_some [] n f fs = refl
  trimmed_some (l ∷ ls) n f fs = ap (line_before l) (trimmed_some ls n f fs) ∙ before_some l ls (Line n (f ∷ fs))

-- the lines so far, of which empty ones at the end are left out
pub record IsTrimmedTo (old new : List lines.Line) : Type 0 where
  pub alike : trimmed (map line_tree new) ≡ trimmed (map line_tree old)

empty_line : (l : lines.Line) → l.fragments.items ≡ [] → line_tree l ≡ Line l.number []
empty_line l e = ap (λ (fs : List Fragment). Line l.number (map fragment_tree fs)) e

pub trim_goes_on : (old now new : List lines.Line) (l : lines.Line) → IsTrimmedTo old now → now ≡ new ++ l ∷ [] → l.fragments.items ≡ [] → IsTrimmedTo old new
trim_goes_on old now new l so_far is empty =
    record {
      alike =
          sym (trimmed_empty (map line_tree new) l.number)
          ∙ ap (λ (k : BodyLine Leaf Token ℕ). trimmed (map line_tree new ++ k ∷ [])) (sym (empty_line l empty))
          ∙ ap trimmed (sym (ap (map line_tree) is ∙ map-append line_tree new (l ∷ [])))
          ∙ so_far.alike;
    }

-- the last line is not empty
pub trim_ends : (old now front : List lines.Line) (l : lines.Line) → IsTrimmedTo old now → now ≡ front ++ l ∷ [] → (l.fragments.items ≡ [] → ⊥) → map line_tree now ≡ trimmed (map line_tree old)
trim_ends old now front l so_far is some = kept l.fragments.items refl ∙ so_far.alike
  where
    split : map line_tree now ≡ map line_tree front ++ line_tree l ∷ []
    split = ap (map line_tree) is ∙ map-append line_tree front (l ∷ [])

    kept : (fs : List Fragment) → l.fragments.items ≡ fs → map line_tree now ≡ trimmed (map line_tree now)
    kept [] e = absurd (some e)
    kept (f ∷ fs) e =
        let whole : map line_tree now ≡ map line_tree front ++ Line l.number (fragment_tree f ∷ map fragment_tree fs) ∷ []
        = split ∙ ap (λ (gs : List Fragment). map line_tree front ++ Line l.number (map fragment_tree gs) ∷ []) e in
        whole ∙ sym (ap trimmed whole ∙ trimmed_some (map line_tree front) l.number (fragment_tree f) (map fragment_tree fs))

-- no line is left
pub trim_ends_empty : (old now : List lines.Line) → IsTrimmedTo old now → now ≡ [] → map line_tree now ≡ trimmed (map line_tree old)
trim_ends_empty old now so_far none = ap (map line_tree) none ∙ sym (ap (λ (l : List lines.Line). trimmed (map line_tree l)) none) ∙ so_far.alike

-- ---- as the loop sees the last line

slice_last : {X : Type 0} (xs : List X) (x : X) → slice_get (xs ++ x ∷ []) (length (xs ++ x ∷ []) - 1) ≡ Some x
slice_last xs x =
    let n : length (xs ++ x ∷ []) ≡ length xs + 1 = length-append xs (x ∷ []) in
    slice_get-get_or (xs ++ x ∷ []) (length (xs ++ x ∷ []) - 1) x (omega (arith, n))
    ∙ ap (λ (y : _). Some y) (ap (λ (i : ℕ). get_or (xs ++ x ∷ []) i x) (omega (arith, n)) ∙ get_or-append_seam xs x [] x)

abbrev pub EndsEmpty : List lines.Line → Type 0
EndsEmpty now = IsSomeAnd (slice_get now (length now - 1)) IsEmpty

last_empty : (now front : List lines.Line) (l : lines.Line) → now ≡ front ++ l ∷ [] → EndsEmpty now → l.fragments.items ≡ []
last_empty now front l is h =
    let P : Option lines.Line → Type 0 = λ o. IsSomeAnd o IsEmpty in
    subst P (slice_last front l) (subst EndsEmpty is h)

empty_last : (now front : List lines.Line) (l : lines.Line) → now ≡ front ++ l ∷ [] → l.fragments.items ≡ [] → EndsEmpty now
empty_last now front l is h =
    let P : Option lines.Line → Type 0 = λ o. IsSomeAnd o IsEmpty in
    subst EndsEmpty (sym is) (subst P (sym (slice_last front l)) h)

pub trim_step : (old now new : List lines.Line) (o : Option lines.Line) → IsTrimmedTo old now → now ≡ new ++ option_to_list o → EndsEmpty now → IsTrimmedTo old new
trim_step old now new None so_far is h = subst (IsTrimmedTo old) (is ∙ append-nil new) so_far
trim_step old now new (Some l) so_far is h = trim_goes_on old now new l so_far is (last_empty now new l is h)

last_of : {X : Type 0} (x : X) (xs : List X) → (front : List X) × (l : X) × (x ∷ xs ≡ front ++ l ∷ [])
last_of x [] = ([], x, refl)
last_of x (y ∷ ys) = let more = last_of y ys in (x ∷ more.0, more.1, ap (λ (l : List _). x ∷ l) more.2)

pub trim_done : (old now : List lines.Line) → IsTrimmedTo old now → (EndsEmpty now → ⊥) → map line_tree now ≡ trimmed (map line_tree old)
trim_done old [] so_far h = trim_ends_empty old [] so_far refl
trim_done old (l ∷ ls) so_far h = let v = last_of l ls in trim_ends old (l ∷ ls) v.0 v.1 so_far v.2 (λ e. h (empty_last (l ∷ ls) v.0 v.1 v.2 e))
