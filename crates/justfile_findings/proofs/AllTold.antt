-- What is told of problems and circles, one after the other.
use Rattle.std.proofs.Common.{◌≡◌, ◌∙◌, ◌<◌, ◌+◌, ℕ, List, [], ◌∷◌, ◌++◌, length, take, drop, min, get_or, Option, Result, IfOk, sym, ap, subst}
use Rattle.std.specs.List.{AllZip}
use Rattle.std.proofs.lemmas.List.{drop_min, take_min, take_more}
use Rattle.justfile_problems.specs.declared.facts.Definition.{Definition}
use Rattle.justfile_problems.specs.declared.facts.Use.{Use}
use Rattle.justfile_problems.specs.declared.problem.Problem.{Problem}
use Rattle.editor_language.specs.declared.parts.Finding.{Finding}
use Rattle.justfile_findings.specs.Findings.{AreOfProblems, Reports, Suggests, Tells, most_suggested}

module _ {X : Type 0} (R : X → Finding → Type 0) where
  each_push : (ps : List X) (fs : List Finding) (p : X) (f : Finding) → AllZip R ps fs → R p f → AllZip R (ps ++ p ∷ []) (fs ++ f ∷ [])
  each_push [] [] p f h k = (k, tt)
  each_push [] (g ∷ fs) p f h k = absurd h
  each_push (q ∷ ps) [] p f h k = absurd h
  each_push (q ∷ ps) (g ∷ fs) p f h k = (h.0, each_push ps fs p f h.1 k)

  -- one problem more
  pub one_more : (ps : List X) (i : ℕ) (p : X) (fs new : List Finding) (f : Finding) → i < length ps → p ≡ get_or ps i p → new ≡ fs ++ f ∷ [] → AllZip R (take i ps) fs → R p f
      → AllZip R (take (i + 1) ps) new
  one_more ps i p fs new f inside at e h k =
      subst (λ gs. AllZip R (take (i + 1) ps) gs) (sym e)
      (subst (λ qs. AllZip R qs (fs ++ f ∷ [])) (sym (take_more ps i p inside ∙ ap (λ q. take i ps ++ q ∷ []) (sym at))) (each_push (take i ps) fs p f h k))

-- the name that may be meant is this one
pub renamed : {E : Type 0} (r : Result Finding E) (p : Problem) (name other : Option (List ℕ)) → name ≡ other → IfOk r (Tells name p) → IfOk r (Tells other p)
renamed r p name other e h = subst (λ n. IfOk r (Tells n p)) e h

-- the first problems and the others
pub both : (ds : List Definition) (us : List Use) (ps first_ps other_ps : List Problem) (first others found : List Finding) → first_ps ≡ take (min most_suggested (length ps)) ps
    → other_ps ≡ drop (min most_suggested (length ps)) ps → AllZip (Suggests ds us) first_ps first → AllZip Reports other_ps others → found ≡ first ++ others → AreOfProblems ds us ps found
both ds us ps first_ps other_ps first others found e f h k are = record {
  first = first;
  others = others;
  are = are;
  are_first = subst (λ qs. AllZip (Suggests ds us) qs first) (e ∙ take_min most_suggested ps) h;
  are_others = subst (λ qs. AllZip Reports qs others) (f ∙ drop_min most_suggested ps) k;
}
