-- The lines of several things, one after the other, and those of the problems and circles of a file.
use Rattle.std.proofs.Common.{◌≡◌, ◌∙◌, ◌<◌, ◌≤◌, ◌+◌, ℕ, Bool, Global, List, [], ◌∷◌, ◌++◌, Option, Result, Ok, Err, String, ap, append-nil, arith, get_or, length, string_bytes, subst, sym, take}
use Rattle.std.specs.Prelude.{IfOk, IsPermutation}
use Rattle.std.specs.List.{concat}
use Rattle.std.specs.List.Sorted.{IsNonDecreasingBy}
use Rattle.std.proofs.lemmas.List.{take_more}
use Rattle.std.proofs.lemmas.List.Sorted.{IsNonDecreasingBy-short, IsPermutation-refl}
use Rattle.std.proofs.lemmas.List.Folds.{concat-append}
use Rattle.justfile_token.specs.declared.name.Name.{Name}
use Rattle.justfile_problems.specs.Circular.{AreCirclesOf}
use Rattle.justfile_problems.specs.Overridden.{AreOverridden, is_overridden, is_overridden_in}
use Rattle.justfile_problems.specs.Problems.{problems_within}
use Rattle.justfile_problems.specs.declared.overridden.Overridden.{Overridden}
use Rattle.justfile_problems.proofs.Known.{are_overridden}
use Rattle.justfile_problems.specs.declared.circular.Circle.{Circle}
use Rattle.justfile_problems.specs.declared.facts.Definition.{Definition}
use Rattle.justfile_problems.specs.declared.facts.ModuleFile.{ModuleFile}
use Rattle.justfile_problems.specs.declared.facts.Rules.{Rules}
use Rattle.justfile_problems.specs.declared.facts.Suspect.{Suspect}
use Rattle.justfile_problems.specs.declared.facts.Use.{Use}
use Rattle.justfile_problems.specs.declared.problem.Problem.{Problem}
use Rattle.justfile_problem_lines.specs.Lines.{TellCircles, TellProblemsWithin}
use Rattle.justfile_problem_lines.specs.Modules.{TellCirclesOfFile, TellEach, TellJudged, TellPart}
use Rattle.justfile_problem_lines.proofs.Told.{each_push}

module _ {X : Type 0} (Tells : X → List ℕ → Type 0) (these : List X) (i : ℕ) where
  -- the thing at a place more
  pub one_at : (d : X) (old new part : List ℕ) → i < length these → TellEach Tells (take i these) old → Tells (get_or these i d) part → new ≡ old ++ part → TellEach Tells (take (i + 1) these) new
  one_at d old new part inside so_far is e =
      subst (λ l. TellEach Tells l new) (sym (take_more these i d inside))
      (record {
        parts = so_far.parts ++ part ∷ [];
        each = each_push Tells (take i these) so_far.parts (get_or these i d) part so_far.each is;
        joined = e ∙ ap (λ l. l ++ part) so_far.joined ∙ sym (concat-append so_far.parts (part ∷ []) ∙ ap (λ l. concat so_far.parts ++ l) (append-nil part));
      })

  -- one thing more
  pub one_told : (x : X) (old new part : List ℕ) → i < length these → x ≡ get_or these i x → TellEach Tells (take i these) old → Tells x part → new ≡ old ++ part
      → TellEach Tells (take (i + 1) these) new
  one_told x old new part inside at so_far is e = one_at x old new part inside so_far (subst (λ y. Tells y part) at is) e

-- the lines of problems that were found in slices
pub problems_told : {E : Type 0} (owner : Option Name) (rules : Rules) (overridden : (offset : ℕ) → Bool) (all own given_own : List Definition) (uses given_uses : List Use) (suspects given_suspects : List Suspect) (source : List ℕ) (found passed : List Problem)
    (r : Result (String Global) E) → given_own ≡ own → given_uses ≡ uses → given_suspects ≡ suspects → passed ≡ found → IsPermutation (problems_within rules overridden all given_own given_uses given_suspects) found
    → IsNonDecreasingBy (λ (p : Problem). p.token.offset) found → IfOk r (λ lines. TellProblemsWithin owner source passed (string_bytes lines))
    → IfOk r (λ lines. TellJudged owner rules overridden all own uses suspects source (string_bytes lines))
problems_told owner rules overridden all own given_own uses given_uses suspects given_suspects source found passed (Ok lines) same_own same_uses same_suspects same are in_order told = record {
  problems = found;
  are =
      subst (λ l. IsPermutation (problems_within rules overridden all l uses suspects) found) same_own
      (subst (λ l. IsPermutation (problems_within rules overridden all given_own l suspects) found) same_uses
      (subst (λ l. IsPermutation (problems_within rules overridden all given_own given_uses l) found) same_suspects are));
  in_order = in_order;
  told = subst (λ l. TellProblemsWithin owner source l (string_bytes lines)) same told;
}
problems_told owner rules overridden all own given_own uses given_uses suspects given_suspects source found passed (Err failure) same_own same_uses same_suspects same are in_order told = tt

-- and those of circles
pub circles_told : {E : Type 0} (f : ModuleFile) (own : List Definition) (uses : List Use) (found passed : List Circle) (r : Result (String Global) E) → own ≡ f.facts.definitions.items → uses ≡ f.facts.uses.items
    → passed ≡ found → AreCirclesOf own uses found → IfOk r (λ lines. TellCircles f.source.now passed (string_bytes lines)) → IfOk r (λ lines. TellCirclesOfFile f (string_bytes lines))
circles_told f own uses found passed (Ok lines) same_own same_uses same are told = record {
  circles = found;
  are = subst (λ l. AreCirclesOf l f.facts.uses.items found) same_own (subst (λ l. AreCirclesOf own l found) same_uses are);
  told = subst (λ l. TellCircles f.source.now l (string_bytes lines)) same told;
}
circles_told f own uses found passed (Err failure) same_own same_uses same are told = tt

-- which items are overridden, by definitions that were found in slices
pub overridden_told : {E : Type 0} (r : Result Overridden E) (others given own given_own : List Definition) → given ≡ others → given_own ≡ own
    → IfOk r (λ found. AreOverridden given given_own found.offsets) → IfOk r (λ found. is_overridden_in found ≡ is_overridden others own)
overridden_told (Ok found) others given own given_own same same_own are =
    are_overridden found others own (subst (λ l. AreOverridden others l found.offsets) same_own (subst (λ l. AreOverridden l given_own found.offsets) same are))
overridden_told (Err failure) others given own given_own same same_own are = tt

-- the lines of a file, where these items are overridden
pub part_by : {E : Type 0} (r : Result (String Global) E) (rules : Rules) (given overridden : (offset : ℕ) → Bool) (all : List Definition) (f : ModuleFile) → given ≡ overridden
    → IfOk r (λ lines. TellPart rules given all f (string_bytes lines)) → IfOk r (λ lines. TellPart rules overridden all f (string_bytes lines))
part_by r rules given overridden all f same told = subst (λ which. IfOk r (λ lines. TellPart rules which all f (string_bytes lines))) same told

-- the lines of what is judged, where these items are overridden
pub judged_by : {E : Type 0} (r : Result (String Global) E) (owner : Option Name) (rules : Rules) (given overridden : (offset : ℕ) → Bool) (all : List Definition) (uses : List Use) (source : List ℕ) → given ≡ overridden
    → IfOk r (λ lines. TellJudged owner rules given all [] uses [] source (string_bytes lines)) → IfOk r (λ lines. TellJudged owner rules overridden all [] uses [] source (string_bytes lines))
judged_by r owner rules given overridden all uses source same told = subst (λ which. IfOk r (λ lines. TellJudged owner rules which all [] uses [] source (string_bytes lines))) same told

-- and where these are the uses
pub judged_of : {E : Type 0} (r : Result (String Global) E) (owner : Option Name) (rules : Rules) (overridden : (offset : ℕ) → Bool) (all : List Definition) (given uses : List Use) (source : List ℕ) → given ≡ uses
    → IfOk r (λ lines. TellJudged owner rules overridden all [] given [] source (string_bytes lines)) → IfOk r (λ lines. TellJudged owner rules overridden all [] uses [] source (string_bytes lines))
judged_of r owner rules overridden all given uses source same told = subst (λ these. IfOk r (λ lines. TellJudged owner rules overridden all [] these [] source (string_bytes lines))) same told

-- there are none of no uses
pub none_judged : (owner : Option Name) (rules : Rules) (overridden : (offset : ℕ) → Bool) (all : List Definition) (uses : List Use) (source lines : List ℕ) → length uses < 1 → lines ≡ []
    → TellJudged owner rules overridden all [] uses [] source lines
none_judged owner rules overridden all [] source lines none is = record {
  problems = [];
  are = IsPermutation-refl [];
  in_order = IsNonDecreasingBy-short (λ (p : Problem). p.token.offset) [] (omega arith);
  told = record { errors = []; each = tt; are = is };
}
none_judged owner rules overridden all (u ∷ us) source lines none is = absurd (omega arith)
