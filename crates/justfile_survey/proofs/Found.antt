-- What surveys of texts and of their parts have found.
use Rattle.std.proofs.Common.{◌≡◌, ◌+◌, ◌≤◌, ℕ, List, [], map, length, Result, Ok, Err, sym, subst, arith}
use Rattle.std.specs.Prelude.{All, IfOk}
use Rattle.std.proofs.lemmas.List.Elements.{All-nil}
use Rattle.justfile_numbers.specs.declared.numerator.Numerator.{Numerator}
use Rattle.justfile_token.specs.declared.compile_error.CompileError.{CompileError}
use Rattle.justfile_token.specs.declared.fault.Fault.{Fault}
use Rattle.justfile_token.specs.declared.fault.Fault.TheVariants.{Compile, Memory, Numbers}
use Rattle.justfile_ast.specs.declared.ast.Ast.{Ast}
use Rattle.justfile_canonical.specs.Parsing.{IsTreeless}
use Rattle.justfile_canonical.specs.Root.{HasNoRoot, IsRoot, conditions}
use Rattle.justfile_recovery.specs.Places.{LiesIn}
use Rattle.justfile_survey.specs.Seen.{PlacesIn, seen}
use Rattle.justfile_survey.specs.Parts.{BeginsWith, ErrorsIn}
use Rattle.justfile_survey.specs.Surveys.{IsFound, IsJustfile, IsOfFault, IsRejected, IsSurvey, IsWhole, Shows, TellsWhy}
use Rattle.justfile_survey.specs.declared.surveys.Survey.{Survey}
use Rattle.justfile_survey.specs.declared.surveys.SurveyedError.{SurveyedError}
use Rattle.justfile_survey.specs.declared.whole.Whole.{Whole}
use Rattle.justfile_survey.specs.declared.whole.Whole.TheVariants as wholes

-- a justfile's items
pub shown : (path text : List ℕ) (ast : Ast) (whole : Whole) → IsRoot path text ast → IsJustfile (length text) ast whole → IsWhole path text whole
shown path text ast (wholes.Justfile items) root is = (record { ast = ast; root = root; views_are = is.0 }, is.1)
shown path text ast (wholes.Rejected error) root is = absurd is

pub shown_if_ok : {E : Type 0} (path text : List ℕ) (ast : Ast) (r : Result Whole E) → IsRoot path text ast → IfOk r (IsJustfile (length text) ast) → IfOk r (IsWhole path text)
shown_if_ok path text ast (Ok whole) root is = shown path text ast whole root is
shown_if_ok path text ast (Err e) root is = tt

-- the error of a text is in it
in_text : (path text : List ℕ) (e : CompileError) (s : SurveyedError) (old new : Numerator) → IsTreeless conditions path text old new e → IsOfFault (Compile e) s → LiesIn (length text) s.span
in_text path text e s old new treeless says =
    let within : e.token.offset + e.token.length ≤ length text = subst (λ src. e.token.offset + e.token.length ≤ length src) treeless.from.src_is e.token.in_source.0 in
    subst (LiesIn (length text)) (sym says.span_is) (record { forward = omega arith; within = within })

error_in : (path text : List ℕ) (fault : Fault) (s : SurveyedError) → HasNoRoot path text fault → IsOfFault fault s → LiesIn (length text) s.span
error_in path text (Compile e) s root says = in_text path text e s root.old root.new root.no_tree says
error_in path text Memory s root says = absurd says
error_in path text Numbers s root says = subst (LiesIn (length text)) (sym says.span_is) (record { forward = omega arith; within = omega arith })

-- the error for which a text is rejected
pub rejected : (path text : List ℕ) (fault : Fault) (whole : Whole) → HasNoRoot path text fault → IsRejected fault whole → IsWhole path text whole
rejected path text fault (wholes.Justfile items) root is = absurd is
rejected path text fault (wholes.Rejected error) root is = (record { fault = fault; no_root = root; is = is }, error_in path text fault error root is)

pub rejected_if_ok : {E : Type 0} (path text : List ℕ) (fault : Fault) (r : Result Whole E) → HasNoRoot path text fault → IfOk r (IsRejected fault) → IfOk r (IsWhole path text)
rejected_if_ok path text fault (Ok whole) root is = rejected path text fault whole root is
rejected_if_ok path text fault (Err e) root is = tt

-- what is rejected for a fault is rejected for the same one
pub same_fault : {E : Type 0} (fault other : Fault) (r : Result Whole E) → fault ≡ other → IfOk r (IsRejected other) → IfOk r (IsRejected fault)
same_fault fault other r same is = subst (λ f. IfOk r (IsRejected f)) (sym same) is

-- a survey that begins with the error of the text
pub told : (path text : List ℕ) (s : Survey) (first : SurveyedError) → TellsWhy path text first → BeginsWith path text first s → IsSurvey path text s
told path text s first why begins = record {
  found = subst (IsFound path text s.items.items) (sym begins.is) (why, begins.of_parts);
  items_in = begins.places;
  errors_in = begins.errors;
}

pub told_if_ok : {E : Type 0} (path text : List ℕ) (first : SurveyedError) (r : Result Survey E) → TellsWhy path text first → IfOk r (BeginsWith path text first)
    → IfOk r (IsSurvey path text)
told_if_ok path text first (Ok s) why begins = told path text s first why begins
told_if_ok path text first (Err e) why begins = tt

-- a survey without errors
pub faultless : (path text : List ℕ) (s : Survey) → s.errors.items ≡ [] → Shows path text (map seen s.items.items) → All (PlacesIn (length text)) s.items.items
    → IsSurvey path text s
faultless path text s none shows places = record {
  found = subst (IsFound path text s.items.items) (sym none) shows;
  items_in = places;
  errors_in = subst (ErrorsIn (length text) 100) (sym none) (record { places = All-nil (λ (e : SurveyedError). LiesIn (length text) e.span); few = omega arith });
}
