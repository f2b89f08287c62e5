use Rattle.std.proofs.Common.{◌∙◌, ◌++◌, List, Option, Some, Bor, [], ◌∷◌, map, take, get_or, ap, sym, subst, ℕ}
use Rattle.std.proofs.lemmas.List.{map_more}
use Rattle.justfile_model.specs.LiteralTexts.Unindent.{shared_front}
use Rattle.justfile_literal_parts.proofs.SharedFronts.{IsShared, shared_first, shared_next, shared_skip}
use Rattle.justfile_literal_parts.proofs.unindent.find_indentation.Goals.{then-not-is_blank_line, in-None, in-Some, else-not-is_blank_line}
use Rattle.justfile_literal_parts.proofs.unindent.find_indentation.Goals as goal

pub loop-line-preserved : goal.loop-line-preserved
loop-line-preserved c =
    let none : Bor (List ℕ) = record { ref_ptr = (0, 0); now = [] } in
    let lines : List (Bor (List ℕ)) = c.args.lines.now in
    let earlier : List (List ℕ) = map (λ line. line.now) (take c.loop-line.line-index lines) in
    let line : List ℕ = (get_or lines c.loop-line.line-index none).now in
    let so_far = λ (s : Option (Bor (List ℕ))). IsShared s (earlier ++ line ∷ []) in
    let tested = sym c.is_blank_line.ensures in
    subst (IsShared c.if-not-is_blank_line.shared) (sym (map_more (λ l. l.now) lines c.loop-line.line-index none c.loop-line-test.true)) (elim c.if-not-is_blank_line.branch [
      | then-not-is_blank_line w ↦
          let text = tested ∙ w.if-not-is_blank_line.true in
          let blanks = w.leading_blanks-blanks in
          elim w.match-shared.branch [
            | in-None v ↦
                subst so_far (sym (w.shared-is ∙ ap Some v.shared-is))
                (shared_first blanks.result earlier line text blanks.ensures.front (subst (λ s. IsShared s earlier) v.in-None.is c.loop-line.invariant))
            | in-Some v ↦
                let cut = v.take_shared_front in
                let front = cut.ensures.front ∙ ap (λ t. shared_front v.in-Some.run'.now (t ∷ [])) blanks.ensures.front in
                subst so_far (sym (w.shared-is ∙ ap Some v.shared-is))
                (shared_next v.in-Some.run' cut.result earlier line text front cut.ensures.blank (subst (λ s. IsShared s earlier) v.in-Some.is c.loop-line.invariant))
          ]
      | else-not-is_blank_line w ↦
          subst so_far (sym w.shared-is) (shared_skip c.loop-line.shared earlier line (tested ∙ w.if-not-is_blank_line.false) c.loop-line.invariant)
    ])
