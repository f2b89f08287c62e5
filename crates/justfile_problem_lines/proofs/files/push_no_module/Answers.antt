use Rattle.std.proofs.Common.{◌≡◌, ◌++◌, OnOk, string_bytes, subst}
use Rattle.justfile_problem_lines.proofs.files.push_no_module.Goals as goal

pub returns : goal.returns
returns c = subst (λ t. OnOk c.append.result (string_bytes c.append.new.lines ≡ string_bytes c.args.lines.now ++ t)) c.in_ok-text.ensures.ok c.append.ensures
