use Rattle.std.proofs.Common.{◌∙◌, Some, ap, sym}
use Rattle.justfile_files.specs.Request.{is_option}
use Rattle.justfile_files.proofs.RequestLemmas.{any_found, any_more}
use Rattle.justfile_files.proofs.request.option_in.Goals as goal

pub loop-word-preserved : goal.loop-word-preserved
loop-word-preserved c =
    any_more c.args.words.now c.loop-word.word-index c.word-item.result c.loop-word-test.true c.word-item.is
    (ap is_option (sym c.as_str.ensures.value) ∙ sym c.is_option.ensures ∙ c.if-is_option.false) c.loop-word.invariant

pub returns-then-is_option : goal.returns-then-is_option
returns-then-is_option c =
    ap Some c.as_str-then-is_option.ensures.value
    ∙ sym (any_found c.args.words.now c.loop-word.word-index c.word-item.result c.loop-word-test.true c.word-item.is
    (ap is_option (sym c.as_str.ensures.value) ∙ sym c.is_option.ensures ∙ c.if-is_option.true) c.loop-word.invariant)
