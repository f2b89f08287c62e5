-- What is found in the parts of a text.
use Rattle.std.proofs.Common.{◌≡◌, ◌≤◌, ◌<◌, ℕ, List, [], ◌∷◌, ◌++◌, map, length, Option, Some, None, refl, sym, ap, subst, arith, ◌∙◌}
use Rattle.std.specs.Prelude.{All}
use Rattle.std.proofs.lemmas.List.{map-append, length-append}
use Rattle.std.proofs.lemmas.List.Elements.{All-append, All-cons, All-nil, All-push}
use Rattle.justfile_recovery.specs.Places.{LiesIn}
use Rattle.justfile_chunks.specs.declared.span.Span.{Span}
use Rattle.justfile_ast.specs.declared.ast.Ast.{Ast}
use Rattle.justfile_survey.specs.Parts.{AddsPart, AreOfParts, BeginsWith, ErrorsIn, IsFileOfPart, IsFoundBefore, Parses, seen_in}
use Rattle.justfile_survey.specs.Seen.{Adds, PlacesIn, Seen, seen}
use Rattle.justfile_survey.specs.declared.errors.Rejection.{Rejection}
use Rattle.justfile_survey.specs.declared.recovery.Found.{Found}
use Rattle.justfile_survey.specs.declared.surveys.Survey.{Survey}
use Rattle.justfile_survey.specs.declared.surveys.SurveyedError.{SurveyedError}

-- the items of parts end before each later offset, too
ends_later : (path text : List ℕ) {a b : ℕ} {views : List Seen} → a ≤ b → AreOfParts path text a views → AreOfParts path text b views
ends_later path text le AreOfParts.none = AreOfParts.none
ends_later path text le (AreOfParts.more before part ast from to is) = AreOfParts.more before part ast from (omega (arith, to, le)) is

-- an error was added
pub with_error : (n most : ℕ) (old new : List SurveyedError) (e : SurveyedError) → ErrorsIn n most old → length old < most → LiesIn n e.span → new ≡ old ++ e ∷ []
    → ErrorsIn n most new
with_error n most old new e are few inside added = subst (ErrorsIn n most) (sym added) (record {
  places = All-push (λ (s : SurveyedError). LiesIn n s.span) old e are.places inside;
  few = omega (arith, length-append old (e ∷ []), few);
})

module _ (path text : List ℕ) where
  -- nothing is found
  pub at_first : (found : Found) → found.items.items ≡ [] → found.errors.items ≡ [] → IsFoundBefore path text 0 found
  at_first found no_items no_errors = record {
    within = omega arith;
    of_parts = subst (λ xs. AreOfParts path text 0 (map seen xs)) (sym no_items) AreOfParts.none;
    places = subst (All (PlacesIn (length text))) (sym no_items) (All-nil (PlacesIn (length text)));
    errors = subst (ErrorsIn (length text) 99) (sym no_errors) (record { places = All-nil (λ (e : SurveyedError). LiesIn (length text) e.span); few = omega arith });
  }

  -- items and errors stay
  pub later : (old new : Found) (a b : ℕ) → IsFoundBefore path text a old → new.items.items ≡ old.items.items → new.errors.items ≡ old.errors.items → a ≤ b → b ≤ length text
      → IsFoundBefore path text b new
  later old new a b are items errors le within = record {
    within = within;
    of_parts = subst (λ xs. AreOfParts path text b (map seen xs)) (sym items) (ends_later path text le are.of_parts);
    places = subst (All (PlacesIn (length text))) (sym items) are.places;
    errors = subst (ErrorsIn (length text) 99) (sym errors) are.errors;
  }

  -- items stay, and an error may be added
  pub reported : (old new : Found) (a b : ℕ) → IsFoundBefore path text a old → new.items.items ≡ old.items.items → ErrorsIn (length text) 99 new.errors.items → a ≤ b
      → b ≤ length text → IsFoundBefore path text b new
  reported old new a b are items errors le within = record {
    within = within;
    of_parts = subst (λ xs. AreOfParts path text b (map seen xs)) (sym items) (ends_later path text le are.of_parts);
    places = subst (All (PlacesIn (length text))) (sym items) are.places;
    errors = errors;
  }

  -- all parts were taken
  pub to_the_end : (found : Found) (a : ℕ) → IsFoundBefore path text a found → IsFoundBefore path text (length text) found
  to_the_end found a are = later found found a (length text) are refl refl are.within (omega arith)

  -- the items of a part were added
  with_items : (old new : Found) (a b : ℕ) (part : Span) (ast : Ast) → IsFoundBefore path text a old → new.errors.items ≡ old.errors.items → a ≤ part.start → part.end ≤ b
      → b ≤ length text → IsFileOfPart path text part ast → Adds (length text) new.items.items old.items.items (seen_in text part ast) → IsFoundBefore path text b new
  with_items old new a b part ast are errors from to within is adds =
      let views : map seen old.items.items ++ seen_in text part ast ≡ map seen new.items.items
      = sym (ap (map seen) adds.is ∙ map-append seen old.items.items adds.more ∙ ap (λ xs. map seen old.items.items ++ xs) adds.views_are)
      in
      record {
        within = within;
        of_parts = subst (AreOfParts path text b) views (AreOfParts.more are.of_parts part ast from to is);
        places = subst (All (PlacesIn (length text))) (sym adds.is) (All-append (PlacesIn (length text)) old.items.items adds.more are.places adds.places);
        errors = subst (ErrorsIn (length text) 99) (sym errors) are.errors;
      }

  -- those of a part were added, or none
  added : (old new : Found) (a b : ℕ) (part : Span) → IsFoundBefore path text a old → new.errors.items ≡ old.errors.items → a ≤ part.start → part.start ≤ part.end → part.end ≤ b
      → b ≤ length text → AddsPart path text part new.items.items old.items.items → IsFoundBefore path text b new
  added old new a b part are errors from forward to within (AddsPart.none same) = later old new a b are same errors (omega (arith, from, forward, to)) within
  added old new a b part are errors from forward to within (AddsPart.file lines ast first last is adds) =
      with_items old new a b lines ast are errors (omega (arith, from, first)) (omega (arith, to, last)) within is adds

  -- a part was parsed
  pub parsed : (old new : Found) (a b : ℕ) (part : Span) (r : Option Rejection) → IsFoundBefore path text a old → new.errors.items ≡ old.errors.items → a ≤ part.start
      → part.start ≤ part.end → part.end ≤ b → b ≤ length text → Parses path text part new.items.items old.items.items r → IsFoundBefore path text b new
  parsed old new a b part None are errors from forward to within parses = added old new a b part are errors from forward to within parses
  parsed old new a b part (Some rejection) are errors from forward to within parses = later old new a b are parses.0 errors (omega (arith, from, forward, to)) within

  -- a part was rejected
  pub rejected : (old new : Found) (a : ℕ) (part : Span) (r : Option Rejection) (rejection : Rejection) → IsFoundBefore path text a old → new.errors.items ≡ old.errors.items
      → r ≡ Some rejection → Parses path text part new.items.items old.items.items r → IsFoundBefore path text a new
  rejected old new a part r rejection are errors is parses =
      let same : Parses path text part new.items.items old.items.items (Some rejection) = subst (Parses path text part new.items.items old.items.items) is parses in
      later old new a a are same.0 errors (omega arith) are.within

  -- the survey with an error before the others
  pub with_first : (found : Found) (first : SurveyedError) (s : Survey) → IsFoundBefore path text (length text) found → LiesIn (length text) first.span
      → s.items.items ≡ found.items.items → s.errors.items ≡ first ∷ found.errors.items → BeginsWith path text first s
  with_first found first s are inside items errors = record {
    others = found.errors.items;
    is = errors;
    of_parts = subst (λ xs. AreOfParts path text (length text) (map seen xs)) (sym items) are.of_parts;
    places = subst (All (PlacesIn (length text))) (sym items) are.places;
    errors = subst (ErrorsIn (length text) 100) (sym errors) (record {
      places = All-cons (λ (e : SurveyedError). LiesIn (length text) e.span) first found.errors.items inside are.errors.places;
      few = omega (arith, are.errors.few);
    });
  }
