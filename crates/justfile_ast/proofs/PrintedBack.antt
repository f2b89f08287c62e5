-- `PrintsBack` holds by the round trip.
use Rattle.std.proofs.Common.{◌≡◌, ℕ, List, sym, ap, ◌∙◌, subst}
use Rattle.justfile_vocabulary.specs.Indentation.{IsIndentation}
use Rattle.justfile_model.specs.Trees.Tree.{Shape, shape_of}
use Rattle.justfile_model.specs.Printed.NormalShape.{normal}
use Rattle.justfile_model.specs.Printed.Printing.{printable}
use Rattle.justfile_round_trip.specs.RoundTrip.{ReadsBack, printed}
use Rattle.justfile_round_trip.specs.Need.{TextNeeds}
use Rattle.justfile_round_trip.proofs.LeastNeed.{least_need, text_need}
use Rattle.justfile_round_trip.proofs.RoundTrip.{back, apart}
use Rattle.justfile_ast.specs.PrintsBack.{PrintsBack}

pub prints_back : (shape : Shape) (indentation bytes : List ℕ) → IsIndentation indentation → bytes ≡ printed shape indentation → PrintsBack shape indentation bytes
prints_back shape indentation bytes is e = record {
  reads_back = λ conditions source tree features derives same fine.
      subst (λ (s : Shape). ReadsBack conditions s features indentation bytes) same
      (subst (λ (b : List ℕ). ReadsBack conditions (shape_of tree) features indentation b)
      (ap (λ s. printed s indentation) same ∙ sym e)
      (back conditions source tree features indentation is derives (ap printable same ∙ fine)));
  injective = λ conditions limit source other tree twin features others derives same fine twins fine_too alike.
      sym (apart conditions limit source other tree twin features others indentation is derives twins (ap printable same ∙ fine) fine_too
      (ap (λ s. printed s indentation) same ∙ sym e ∙ sym alike)) ∙ ap normal same;
  least = λ conditions source tree features derives same fine.
      let again = back conditions source tree features indentation is derives (ap printable same ∙ fine) in
      let bytes_are : printed (shape_of tree) indentation ≡ bytes = ap (λ s. printed s indentation) same ∙ sym e in
      let n = text_need conditions (printed (shape_of tree) indentation) again.tree again.found again.derives in (
        n.0,
        subst (λ (b : List ℕ). TextNeeds conditions b n.0) bytes_are n.1,
        λ others other twin noted derives_too alike.
            least_need conditions others source other tree twin features noted indentation n.0 is derives (ap printable same ∙ fine) derives_too (alike ∙ ap normal (sym same)) n.1,
      );
}
