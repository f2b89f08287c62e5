use Rattle.std.proofs.Common.{◌≡◌, None, take}
use Rattle.justfile_files.specs.Request.{first_option, texts}
use Rattle.justfile_files.proofs.request.option_in.Given as goal

abbrev pub invariant-loop-word : goal.invariant-loop-word
invariant-loop-word l = first_option (texts (take l.word-index l.words)) ≡ None
