use Rattle.std.proofs.Common.{◌≡◌, ◌+◌, ◌∷◌, ◌++◌, [], arith}
use Rattle.justfile_lines.proofs.Searches.{all_found, before_end, count_more, each_more}
use Rattle.justfile_lines.proofs.lines.starts_of.Goals as goal

pub loop-before-preserved : goal.loop-before-preserved
loop-before-preserved c =
    let found = c.in-Some.ensures in
    let i = c.loop-before.invariant in
    let text = c.args.text.now in
    let starts = c.loop-before.starts.items in
    let next = c.push-in-Some.new.self.items in
    let is : next ≡ starts ++ (c.loop-before.at + (c.in-Some.before + 1)) ∷ [] = c.in_ok-push-2.ensures.items in
    record {
      within = omega (arith, before_end text starts c.loop-before.at i.within i.count i.each c.in-Some.before c.requires found.0 found.1 next is);
      count = count_more text starts c.loop-before.at i.within i.count i.each c.in-Some.before c.requires found.0 found.1 next is;
      each = each_more text starts c.loop-before.at i.within i.count i.each c.in-Some.before c.requires found.0 found.1 next is;
    }

pub returns : goal.returns
returns c =
    let i = c.loop-before.invariant in
    all_found c.args.text.now c.loop-before.starts.items c.loop-before.at i.within i.count i.each c.in_default.ensures
