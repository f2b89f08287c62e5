use Rattle.std.proofs.Common.{rules, ◌++◌, take, sym, ap, subst, ◌∙◌}
use Rattle.std.proofs.Math.Seq.{take-add}
use Rattle.std.proofs.lemmas.List.{take_rest}
use Rattle.std.specs.Io.KnownBytes.{Appends}
use Rattle.std.proofs.KnownBytes.{Appends-trans}
use Rattle.justfile_files.proofs.OutputLemmas.{front_alone}
use Rattle.justfile_files.proofs.output.write_bytes.Goals as goal

pub loop-written-preserved : goal.loop-written-preserved
loop-written-preserved g c =
    let done = c.loop-written.written in
    let n = c.in-Ok.count in
    let xs = c.args.bytes.now in
    let (most, appended) = c.loop-written.invariant in
    let joined = ap (λ l. take done xs ++ take n l) (take_rest xs done) ∙ sym (take-add done n xs) in
    (search rules, subst (Appends _ _) joined (Appends-trans _ _ _ _ _ appended c.in-Ok.ensures.bytes))

pub returns-in-Ok-eq0-clause-beginning : goal.returns-in-Ok-eq0-clause-beginning
returns-in-Ok-eq0-clause-beginning g c =
    front_alone _ _ _ c.args.bytes.now _ c.loop-written.written _ c.in-Ok-eq0.field-0-test c.loop-written.invariant.1 c.in-Ok-eq0.ensures.bytes
