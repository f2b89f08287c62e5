use Rattle.std.proofs.Common.{◌≢◌, get_or, arith}
use borrow.Author.Count.{below_more}
use Rattle.file_cases.specs.declared.folder.MemoryFile.{MemoryFile}
use Rattle.file_cases.proofs.MemoryLemmas.{here, not_here}
use Rattle.file_cases.proofs.folder.index_of.Goals as goal

pub files-preserved : goal.files-preserved
files-preserved c = record {
  within = omega arith;
  first =
      below_more (λ k. (d : MemoryFile) → (get_or c.args.files.now k d).name.now ≢ c.args.name.now) c.files.index c.files.invariant.first
      (not_here c.args.files.now c.files.index c.index-files-index.result c.args.name.now c.eq.result c.files-test.true c.eq.ensures c.if-eq.false);
}

pub returns-then-eq : goal.returns-then-eq
returns-then-eq c = record {
  within = c.files-test.true;
  named = here c.args.files.now c.files.index c.index-files-index.result c.args.name.now c.eq.result c.files-test.true c.eq.ensures c.if-eq.true;
  first = c.files.invariant.first;
}
