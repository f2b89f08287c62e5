use Rattle.std.proofs.Common.{◌≡◌, ℕ, eqb, Bool, not, cond, bit_or, arith}
use Rattle.std.specs.Prelude.{◌&&◌}
use Rattle.std.proofs.lemmas.Simd.{length-chunk, zip2_of_maps, zip2_splat}
use lib.Lanes.{chunk, top}
use Rattle.justfile_scan.specs.RawTexts.{is_plain_in}
use Rattle.justfile_scan.proofs.LaneLemmas.{run_by}
use Rattle.justfile_scan.proofs.lanes.literal_run.Goals as goal

one_stops : (a b c : Bool) → top 7 (bit_or (bit_or (cond a 255 0) (cond b 255 0)) (cond c 255 0)) ≡ not (not a && not b && not c)
one_stops a b c = grind arith

pub returns : goal.returns
returns c =
    let v = chunk c.args.at 16 c.args.bytes.now in
    let long = length-chunk c.args.at 16 c.args.bytes.now c.requires in
    run_by (is_plain_in c.args.quote) c.args.bytes.now c.args.at 16 _ _ c.requires (omega arith) c.type_inv.bytes c.first_set.ensures _
    (zip2_of_maps _ _ _ v (zip2_of_maps _ _ _ v (zip2_splat {Y = ℕ} _ v 16 c.args.quote long) (zip2_splat {Y = ℕ} _ v 16 92 long)) (zip2_splat {Y = ℕ} _ v 16 123 long))
    (λ x below. one_stops (eqb x c.args.quote) (eqb x 92) (eqb x 123))
