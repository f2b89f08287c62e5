use Rattle.std.proofs.Common.{◌∙◌, ℕ, List, ◌++◌, ap, sym, subst}
use Rattle.std.proofs.lemmas.Slice.Eq.{bytes_eq-Decides}
use Rattle.file_cases.specs.Memory.{IsIndex}
use Rattle.file_cases.specs.declared.folder.MemoryFile.{MemoryFile}
use Rattle.file_cases.proofs.MemoryLemmas.{reads, replaces}
use Rattle.file_cases.proofs.folder.put.Goals as goal

pub returns-then-eq-clause-read : goal.returns-then-eq-clause-read
returns-then-eq-clause-read c =
    let files = c.args.files.now.items in
    let name = c.args.name.now in
    let index = subst (λ (fs : List MemoryFile). IsIndex fs name c.in-Some.index) c.deref.ensures.value c.in-Some.ensures in
    reads files name c.args.source.now c.in-Some.index c.index.result.now index
    (sym c.as_bytes.ensures.value ∙ sym ((bytes_eq-Decides _ _).0 (sym c.eq.ensures ∙ c.if-eq.true)) ∙ c.as_slice.ensures.value
    ∙ ap (λ (f : MemoryFile). f.bytes.items) c.index.ensures)

pub returns-then-eq-clause-ok : goal.returns-then-eq-clause-ok
returns-then-eq-clause-ok c =
    let files = c.args.files.now.items in
    let name = c.args.name.now in
    let index = subst (λ (fs : List MemoryFile). IsIndex fs name c.in-Some.index) c.deref.ensures.value c.in-Some.ensures in
    replaces files name c.args.text.now c.in-Some.index c.index-then-eq.result.now
    (record { name = c.index-then-eq.result.now.name; bytes = c.extend_from_slice.new.self }) index
    c.index-then-eq.ensures (ap (λ (f : MemoryFile). f.name.now) c.index-then-eq.ensures ∙ index.named c.index-then-eq.result.now)
    (c.in_ok-extend_from_slice.ensures.items ∙ ap (λ (l : List ℕ). l ++ c.as_bytes-then-eq.result.now) c.new-bytes.ensures.items ∙ c.as_bytes-then-eq.ensures.value)
