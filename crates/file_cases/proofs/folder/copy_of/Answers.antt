use Rattle.std.proofs.Common.{◌∙◌, ℕ, List, ◌++◌, ap}
use Rattle.file_cases.proofs.MemoryLemmas.{reads}
use Rattle.file_cases.proofs.folder.copy_of.Goals as goal

pub returns : goal.returns
returns c =
    reads c.args.files.now c.args.name.now c.extend_from_slice.new.self.items c.in-Some.index c.index-files-index.result c.in-Some.ensures
    (c.in_ok-extend_from_slice.ensures.items ∙ ap (λ (l : List ℕ). l ++ c.deref.result.now) c.new-bytes.ensures.items ∙ c.deref.ensures.value)
