use Rattle.std.proofs.Common.{ℕ, leb, cond, bit_and, refl, arith}
use Rattle.std.proofs.lemmas.Simd.{length-chunk, splat_is_map, zip2_of_maps, zip2_splat}
use lib.Lanes.{chunk}
use Rattle.justfile_vocabulary.specs.ByteClass.{class_of}
use Rattle.justfile_model.specs.Lexing.Bytes.{is_name_byte}
use Rattle.justfile_scan.proofs.LaneLemmas.{run_is}
use Rattle.justfile_scan.proofs.lanes.word_run.Goals as goal

pub returns : goal.returns
unfolding class_of
returns c =
    let v = chunk c.args.at 16 c.args.bytes.now in
    let long = length-chunk c.args.at 16 c.args.bytes.now c.requires in
    run_is is_name_byte c.args.bytes.now c.args.at 16 _ _ c.requires (omega arith) c.type_inv.bytes c.first_set.ensures _
    (zip2_of_maps bit_and _ _ v
    (zip2_of_maps bit_and _ _ v
    (zip2_of_maps bit_and _ _ v
    (zip2_of_maps (λ a b. cond (leb a b) 255 0) _ _ v (splat_is_map v 16 26 long) (zip2_of_maps _ _ _ v (zip2_splat {Y = ℕ} _ v 16 32 long) (splat_is_map v 16 97 long)))
    (zip2_of_maps (λ a b. cond (leb a b) 255 0) _ _ v (splat_is_map v 16 10 long) (zip2_splat {Y = ℕ} _ v 16 48 long)))
    (zip2_splat {Y = ℕ} _ v 16 95 long))
    (zip2_splat {Y = ℕ} _ v 16 45 long)) refl
