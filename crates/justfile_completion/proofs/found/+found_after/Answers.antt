use Rattle.std.proofs.Common.{◌≡◌, ◌++◌, ◌∷◌, length, rules}
use Rattle.std.proofs.lemmas.List.{nil_from_length}
use Rattle.justfile_completion.specs.Completions.{HasFound}
use Rattle.justfile_completion.specs.Cursor.{HasNoTokens}
use Rattle.justfile_completion.proofs.Told.{after_closed, later_closed, never_closed, no_end}
use Rattle.justfile_completion.proofs.found.+found_after.Goals as goal

pub returns-in_default-clause-none : goal.returns-in_default-clause-none
returns-in_default-clause-none t c =
    let empty : length c.args.ends.now ≡ 0 = search rules in
    no_end c.args.front.now c.args.ends.now (nil_from_length c.args.ends.now empty)

pub returns-in-Some-2-clause-some : goal.returns-in-Some-2-clause-some
returns-in-Some-2-clause-some t c =
    let e : c.args.ends.now ≡ c.in-Some.end.now ∷ c.in-Some.others.now = search rules in
    let has : HasFound c.args.names.now (c.args.front.now ++ c.in-Some.end.now.now) (length c.args.front.now) c.args.typed.now c.in-Some-2.found.0.items c.in-Some-2.found.1 c.in-Some-2.found.2 = search rules in
    after_closed c.args.names.now c.args.front.now c.args.typed.now c.args.ends.now c.in-Some.others.now c.in-Some.end.now c.in-Some-2.found.0.items c.in-Some-2.found.1 c.in-Some-2.found.2 e has

pub returns-in-None-clause-some : goal.returns-in-None-clause-some
returns-in-None-clause-some t c =
    let e : c.args.ends.now ≡ c.in-Some.end.now ∷ c.in-Some.others.now = search rules in
    let refused : HasNoTokens (c.args.front.now ++ c.in-Some.end.now.now) = search rules in
    later_closed (λ r. r.0.items) (λ r. r.1) (λ r. r.2) c.found_after.result c.args.names.now c.args.front.now c.args.typed.now c.args.ends.now c.in-Some.others.now c.in-Some.end.now e refused c.found_after.ensures.some

pub returns-in-None-clause-none : goal.returns-in-None-clause-none
returns-in-None-clause-none t c =
    let e : c.args.ends.now ≡ c.in-Some.end.now ∷ c.in-Some.others.now = search rules in
    let refused : HasNoTokens (c.args.front.now ++ c.in-Some.end.now.now) = search rules in
    never_closed c.found_after.result c.args.front.now c.args.ends.now c.in-Some.others.now c.in-Some.end.now e refused c.found_after.ensures.none
