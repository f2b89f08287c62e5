use Rattle.std.proofs.Common.{ℕ, leb, cond, refl, arith, sym}
use Rattle.std.proofs.lemmas.List.{map-id}
use Rattle.std.proofs.lemmas.Simd.{length-chunk, splat_is_map, zip2_of_maps, zip2_splat}
use lib.Lanes.{chunk}
use Rattle.justfile_model.specs.declared.raw_text.RawText.TheVariants.{Body}
use Rattle.justfile_scan.specs.RawTexts.{is_plain}
use Rattle.justfile_scan.proofs.LaneLemmas.{run_is}
use Rattle.justfile_scan.proofs.lanes.body_run.Goals as goal

pub returns : goal.returns
returns c =
    let v = chunk c.args.at 16 c.args.bytes.now in
    let long = length-chunk c.args.at 16 c.args.bytes.now c.requires in
    run_is (is_plain Body) c.args.bytes.now c.args.at 16 _ _ c.requires (omega arith) c.type_inv.bytes c.first_set.ensures _
    (zip2_of_maps _ _ _ v (zip2_of_maps (λ a b. cond (leb a b) 255 0) _ _ v (sym (map-id v)) (splat_is_map v 16 13 long)) (zip2_splat {Y = ℕ} _ v 16 123 long)) refl
