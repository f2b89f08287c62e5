-- Changes, one after the other.
use Rattle.std.proofs.Common.{◌≡◌, ◌+◌, ◌-◌, ◌<◌, ℕ, List, [], ◌∷◌, ◌++◌, length, take, drop, get_or, refl, sym, subst, arith}
use Rattle.std.proofs.Math.Seq.{take-add}
use Rattle.std.proofs.lemmas.List.{take_more}
use Rattle.justfile_lines.specs.declared.encoding.Encoding.{Encoding}
use Rattle.editor_messages.specs.declared.change.Change.{Change}
use Rattle.editor_messages.specs.Changes.{AreApplied, IsAfter}

-- one change more
applied_more : (encoding : Encoding) (old : List ℕ) (changes : List Change) (change : Change) (between text : List ℕ) → AreApplied encoding old changes between
    → IsAfter encoding between change text → AreApplied encoding old (changes ++ change ∷ []) text
applied_more encoding old [] change between text h k = (text, subst (λ (t : List ℕ). IsAfter encoding t change text) (sym h) k, refl)
applied_more encoding old (first ∷ changes) change between text h k = (h.0, h.1, applied_more encoding h.0 changes change between text h.2 k)

pub applied_next : (encoding : Encoding) (old : List ℕ) (changes : List Change) (i : ℕ) (d : Change) (between front text : List ℕ) → i < length changes
    → AreApplied encoding old (take i changes) between → front ≡ between → IsAfter encoding front (get_or changes i d) text → AreApplied encoding old (take (i + 1) changes) text
applied_next encoding old changes i d between front text lt h is k =
    subst (λ (cs : List Change). AreApplied encoding old cs text) (sym (take_more changes i d lt))
    (applied_more encoding old (take i changes) (get_or changes i d) between text h (subst (λ (b : List ℕ). IsAfter encoding b (get_or changes i d) text) is k))

-- more changes after the first ones
applied_both : (encoding : Encoding) (old : List ℕ) (first others : List Change) (between text : List ℕ) → AreApplied encoding old first between → AreApplied encoding between others text
    → AreApplied encoding old (first ++ others) text
applied_both encoding old [] others between text h k = subst (λ (t : List ℕ). AreApplied encoding t others text) (sym h) k
applied_both encoding old (change ∷ first) others between text h k = (h.0, h.1, applied_both encoding h.0 first others between text h.2 k)

pub applied_slice : (encoding : Encoding) (old : List ℕ) (changes : List Change) (done n : ℕ) (between front text : List ℕ) → AreApplied encoding old (take done changes) between → front ≡ between
    → AreApplied encoding front (take ((done + n) - done) (drop done changes)) text → AreApplied encoding old (take (done + n) changes) text
applied_slice encoding old changes done n between front text h is k =
    let same : (done + n) - done ≡ n = omega arith in
    subst (λ (cs : List Change). AreApplied encoding old cs text) (sym (take-add done n changes))
    (applied_both encoding old (take done changes) (take n (drop done changes)) between text h
    (subst (λ (m : ℕ). AreApplied encoding between (take m (drop done changes)) text) same (subst (λ (b : List ℕ). AreApplied encoding b (take ((done + n) - done) (drop done changes)) text) is k)))
