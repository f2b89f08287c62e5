use Rattle.std.proofs.Common.{◌≡◌, ◌++◌, map, take}
use Rattle.justfile_completion.specs.Offers.{told, told_by}
use Rattle.justfile_completion.proofs.candidates.push_words.Given as goal

abbrev pub invariant-loop-word : goal.invariant-loop-word
invariant-loop-word l = map told l.found.items ≡ map told l.fn.found.items ++ map (λ w. told_by w.0 w.1.now w.2.now w.3.now) (take l.word-index l.words)
