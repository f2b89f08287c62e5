use Rattle.std.proofs.Common.{None, Some, lit<, refl}
use Rattle.std.proofs.lemmas.Str.Pattern.{find_char}
use Rattle.line_diff.proofs.LineLemmas.{first_line, only_line}
use Rattle.line_diff.proofs.lines.first_line_length.Goals as goal

pub returns-in-Some-clause-first : goal.returns-in-Some-clause-first
returns-in-Some-clause-first c =
    let found = find_char 10 c.args.text.now (Some c.in-Some.feed) c.in-Some.ensures.cases (lit< tt) in
    first_line c.args.text.now c.in-Some.feed found.0 found.1 found.2

pub returns-in-None-clause-first : goal.returns-in-None-clause-first
returns-in-None-clause-first c =
    only_line c.args.text.now _ refl c.requires (find_char 10 c.args.text.now None c.in-None.ensures.cases (lit< tt))
