use Rattle.std.proofs.Common.{◌∙◌, ◌++◌, ℕ, List, [], Some, Bor, ap, ap₂, map, string_bytes, take_all}
use Rattle.std.specs.List.{flat_map}
use Rattle.std.proofs.lemmas.Result.{on_ok_weaker}
use Rattle.std.proofs.lemmas.List.Elements.{All-pop}
use Rattle.justfile_model.specs.LiteralTexts.Unindent.{IsIndented, middle_line}
use Rattle.justfile_literal_parts.proofs.JoinedLines.{later_is, where_ok}
use Rattle.justfile_literal_parts.proofs.unindent.push_later_lines.Goals as goal

pub strip_middle_line-requires : goal.strip_middle_line-requires
strip_middle_line-requires c =
    (All-pop (λ (line : Bor (List ℕ)). IsIndented c.args.run.now line.now) _ _ (Some c.in-Some.last.now) c.in-Some.ensures.cases.0 c.requires).0
    c.loop-line.line-index (record { ref_ptr = (0, 0); now = [] }) c.loop-line-test.true

pub strip_outer_line-requires : goal.strip_outer_line-requires
strip_outer_line-requires c =
    (All-pop (λ (line : Bor (List ℕ)). IsIndented c.args.run.now line.now) _ _ (Some c.in-Some.last.now) c.in-Some.ensures.cases.0 c.requires).1

pub returns : goal.returns
returns c =
    let last = c.in-Some in
    let all = take_all c.loop-line.line-index last.middle.now c.loop-line-test.false in
    let most = c.loop-line.invariant ∙ ap (λ ls. string_bytes c.args.text.now ++ flat_map (middle_line c.args.run.now) (map (λ line. line.now) ls)) all in
    on_ok_weaker c.push_str-2.result (λ b. b ∙ ap₂ (λ front end. front ++ end) most c.strip_outer_line.ensures ∙ later_is c.args.run.now (string_bytes c.args.text.now) c.args.lines.now last.middle.now last.last.now last.ensures.cases.0) (where_ok c.push_str-2.result _ _ _ c.push_str-2.ensures.bytes)
