-- How problems are set right, one after the other.
use Rattle.std.proofs.Common.{◌≡◌, ◌∙◌, ◌<◌, ◌+◌, ℕ, List, [], ◌∷◌, ◌++◌, length, take, min, get_or, Option, None, Some, option_to_list, sym, ap, subst, append-nil, append_assoc}
use Rattle.std.specs.List.{AllZip, flat_map}
use Rattle.std.specs.Option.{option_or}
use Rattle.std.proofs.lemmas.List.{flat_map_more, take_min, take_more}
use Rattle.justfile_problems.specs.declared.facts.Definition.{Definition}
use Rattle.justfile_problems.specs.declared.facts.Use.{Use}
use Rattle.justfile_problems.specs.declared.problem.Problem.{Problem}
use Rattle.editor_language.specs.declared.parts.QuickFix.{QuickFix}
use Rattle.justfile_findings.specs.Findings.{most_suggested}
use Rattle.justfile_findings.specs.Fixes.{AreFixes, Does, DoesIf, Fix, creating_if, fix_of, fixes_for, unknown_recipe}

each_push : (xs : List Fix) (fs : List QuickFix) (x : Fix) (f : QuickFix) → AllZip Does xs fs → Does x f → AllZip Does (xs ++ x ∷ []) (fs ++ f ∷ [])
each_push [] [] x f h k = (k, tt)
each_push [] (g ∷ fs) x f h k = absurd h
each_push (y ∷ xs) [] x f h k = absurd h
each_push (y ∷ xs) (g ∷ fs) x f h k = (h.0, each_push xs fs x f h.1 k)

pushed : (xs : List Fix) (fs : List QuickFix) (x : Option Fix) (o : Option QuickFix) → AllZip Does xs fs → DoesIf x o → AllZip Does (xs ++ option_to_list x) (fs ++ option_to_list o)
pushed xs fs None None h k = subst (λ l. AllZip Does l (fs ++ [])) (sym (append-nil xs)) (subst (λ l. AllZip Does xs l) (sym (append-nil fs)) h)
pushed xs fs (Some x) (Some f) h k = each_push xs fs x f h k
pushed xs fs None (Some f) h k = absurd k
pushed xs fs (Some x) None h k = absurd k

-- one problem more
pub one_more : (ds : List Definition) (us : List Use) (ps : List Problem) (i : ℕ) (p : Problem) (fs mid new : List QuickFix) (o c : Option QuickFix) → i < length ps → p ≡ get_or ps i p
    → mid ≡ fs ++ option_to_list o → new ≡ mid ++ option_to_list c → AllZip Does (flat_map (fixes_for ds us) (take i ps)) fs → DoesIf (fix_of ds us p) o
    → DoesIf (creating_if ds p.token (unknown_recipe p.what)) c → AllZip Does (flat_map (fixes_for ds us) (take (i + 1) ps)) new
one_more ds us ps i p fs mid new o c inside at e d h k j =
    let before = flat_map (fixes_for ds us) (take i ps) in
    let first = option_to_list (fix_of ds us p) in
    let second = option_to_list (creating_if ds p.token (unknown_recipe p.what)) in
    let more : flat_map (fixes_for ds us) (take (i + 1) ps) ≡ (before ++ first) ++ second =
    ap (flat_map (fixes_for ds us)) (take_more ps i p inside ∙ ap (λ q. take i ps ++ q ∷ []) (sym at))
    ∙ sym (flat_map_more (fixes_for ds us) [] (take i ps) p)
    ∙ sym (append_assoc before first second)
    in
    let both : AllZip Does ((before ++ first) ++ second) ((fs ++ option_to_list o) ++ option_to_list c) = pushed (before ++ first) (fs ++ option_to_list o) _ c (pushed before fs _ o h k) j in
    subst (λ l. AllZip Does l new) (sym more) (subst (λ l. AllZip Does ((before ++ first) ++ second) l) (sym (d ∙ ap (λ l. l ++ option_to_list c) e)) both)

-- the first problems
pub of_first : (ds : List Definition) (us : List Use) (ps first : List Problem) (found : List QuickFix) → first ≡ take (min most_suggested (length ps)) ps
    → AllZip Does (flat_map (fixes_for ds us) first) found → AreFixes ds us ps found
of_first ds us ps first found e h = subst (λ qs. AllZip Does (flat_map (fixes_for ds us) qs) found) (e ∙ take_min most_suggested ps) h

-- the first way, or else the second one
pub by_first : (a b : Option Fix) (f : QuickFix) → DoesIf a (Some f) → DoesIf (option_or a b) (Some f)
by_first None b f h = absurd h
by_first (Some x) b f h = h

pub by_second : (a b : Option Fix) (o : Option QuickFix) → DoesIf a None → DoesIf b o → DoesIf (option_or a b) o
by_second None b o h k = k
by_second (Some x) b o h k = absurd h
