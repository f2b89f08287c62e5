use Rattle.std.proofs.Common.{◌≡◌, ◌+◌, List, [], ◌∷◌, ◌++◌, None, sym, ap, subst, ◌∙◌, arith, Vec, drop, map}
use Rattle.std.specs.declared.alloc.Global.{Global}
use Rattle.justfile_token.specs.declared.token.Token.{Token}
use Rattle.justfile_model.specs.Lexing.Tok.{tok_of}
use Rattle.justfile_chunks.specs.Chunks.{next_kind}
use Rattle.justfile_chunks.specs.declared.span.Span.{Span}
use Rattle.justfile_chunks.specs.Cuts.{is_cut}
use Rattle.justfile_chunks.specs.Spans.{span}
use Rattle.justfile_chunks.proofs.ChunksTo.{ChunksTo, among, at_first, cuts, finished, passes, rest_is, same}
use Rattle.justfile_chunks.proofs.spans.chunks.Goals as goal
use Rattle.justfile_chunks.proofs.spans.chunks.Goals.{then-is_cut+in_ok-push, else-is_cut}

pub loop-at-init : goal.loop-at-init
loop-at-init c = subst (λ (s : List Span). ChunksTo c.args.tokens.now 0 s 0 0 None) (sym c.new-spans.ensures.items) (at_first c.args.tokens.now)

pub loop-at-preserved : goal.loop-at-preserved
loop-at-preserved c =
    let tokens = c.args.tokens.now in
    let split = c.in-Some.ensures.cases in
    let are : tokens ≡ c.in-Some.others.now ++ (c.in-Some.last.now ∷ []) = cc in
    let t = c.index-others-at.result in
    let n = c.loop-at.at in
    let at = among tokens c.in-Some.others.now c.in-Some.last.now are n t c.loop-at-test.true c.index-others-at.is in
    let deeper = ap (λ d. is_cut t.kind d c.loop-at.line (next_kind (map tok_of (drop (n + 1) tokens)))) (sym c.depth_after-depth.ensures)
    ∙ ap (λ (l : List Token). is_cut t.kind c.depth_after-depth.result c.loop-at.line (next_kind (map tok_of l))) (sym (rest_is tokens (n + 1)))
    ∙ sym c.is_cut.ensures in
    elim c.if-is_cut.branch [
      | then-is_cut+in_ok-push w ↦
          same tokens (n + 1) _ _ _ _ _ _ _ _
          (ap (λ (v : Vec Span Global). v.items) w.spans-is ∙ w.in_ok-push.ensures.items ∙ ap (λ e. c.loop-at.spans.items ++ (span c.loop-at.start e ∷ [])) w.end-end.ensures)
          (w.start-is ∙ w.end-end.ensures) c.depth_after-depth.ensures c.line_after-line.ensures
          (cuts tokens n c.loop-at.spans.items c.loop-at.start c.loop-at.depth c.loop-at.line c.loop-at.invariant t at.0 at.1 (deeper ∙ w.if-is_cut.true))
      | else-is_cut w ↦
          same tokens (n + 1) _ _ _ _ _ _ _ _
          (ap (λ (v : Vec Span Global). v.items) w.spans-is) w.start-is c.depth_after-depth.ensures c.line_after-line.ensures
          (passes tokens n c.loop-at.spans.items c.loop-at.start c.loop-at.depth c.loop-at.line c.loop-at.invariant t at.0 at.1 (deeper ∙ w.if-is_cut.false))
    ]

pub returns : goal.returns
returns c =
    let split = c.in-Some.ensures.cases in
    let are : c.args.tokens.now ≡ c.in-Some.others.now ++ (c.in-Some.last.now ∷ []) = cc in
    finished c.args.tokens.now c.in-Some.others.now c.in-Some.last.now c.loop-at.at c.loop-at.spans.items c.push-2.new.self.items c.loop-at.start c.loop-at.depth c.end.result c.loop-at.line c.loop-at.invariant are
    (omega (arith, c.loop-at-test.false, c.loop-at.auto.at-end)) c.end.ensures c.in_ok-push-2.ensures.items
