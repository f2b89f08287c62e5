use Rattle.std.proofs.Common.{◌≢◌, ◌∙◌, ◌++◌, ◌+◌, ℕ, All, List, ◌∷◌, take, get_or, sym, subst, ap}
use Rattle.std.proofs.lemmas.List.{drop_more, take-append-drop, take_all, take_rest}
use Rattle.std.proofs.lemmas.List.Elements.{All-more}
use Rattle.circles.specs.FirstCircles.{start_of}
use Rattle.circles.proofs.walk.circle_in.Goals as goal

pub returns-then-start_of-node : goal.returns-then-start_of-node
returns-then-start_of-node c =
    let i = c.loop-index.index in
    let steps = c.args.steps.now in
    record {
      before = take i steps;
      are =
          sym (take-append-drop i steps) ∙ ap (λ l. take i steps ++ l) (drop_more steps i 0 c.loop-index-test.true)
          ∙ ap (λ l. take i steps ++ get_or steps i 0 ∷ l) (sym (c.in_ok-others.ensures.items ∙ take_rest steps (i + 1)));
      at = sym c.start_of.ensures ∙ c.if-start_of-node.true;
    }

pub loop-index-preserved : goal.loop-index-preserved
loop-index-preserved c =
    All-more (λ (index : ℕ). start_of c.args.edges.now index ≢ c.args.node) c.args.steps.now c.loop-index.index 0 c.loop-index-test.true c.loop-index.invariant
    (λ e. c.if-start_of-node.false (c.start_of.ensures ∙ e))

pub returns : goal.returns
returns c =
    let P : List ℕ → Type 0 = λ l. All (λ (index : ℕ). start_of c.args.edges.now index ≢ c.args.node) l in
    subst P (take_all _ _ c.loop-index-test.false) c.loop-index.invariant
