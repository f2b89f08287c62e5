use Rattle.std.proofs.Common.{sym, chars, string_bytes}
use Rattle.justfile_literal.proofs.Leads.{leads_cooked, leads_first, leads_more, leads_refused, shorter}
use Rattle.justfile_literal.proofs.cook.cook_string.Goals as goal

pub split_first-requires-text-text : goal.split_first-requires-text-text
split_first-requires-text-text c κs = c.loop-character.invariant.utf8

pub loop-character-init : goal.loop-character-init
loop-character-init c = record { utf8 = c.utf8.text; leads = leads_first c.args.text.now (string_bytes c.new-cooked.result) c.new-cooked.ensures.bytes }

pub loop-character-smaller : goal.loop-character-smaller
loop-character-smaller c = shorter c.loop-character.rest.now c.in-Ok.next.now (chars c.in-Some.after_first.now) c.in-Some.character c.in-Ok.value c.in-Some.ensures.value (sym c.in-Ok.ensures.found)

pub loop-character-preserved : goal.loop-character-preserved
loop-character-preserved c =
    let i = c.loop-character.invariant in
    record {
      utf8 = c.in-Ok.ensures.utf8;
      leads = leads_more c.args.text.now (string_bytes c.loop-character.cooked) c.loop-character.rest.now i.leads i.utf8
          c.in-Ok.next.now (chars c.in-Some.after_first.now) (string_bytes c.push_piece.new.cooked) c.in-Some.character c.in-Ok.value c.in-Ok.ensures.utf8 c.in-Some.ensures.value (sym c.in-Ok.ensures.found) c.in-Ok-push_piece.ensures;
    }

pub returns-in-Err-clause-err : goal.returns-in-Err-clause-err
returns-in-Err-clause-err c =
    let i = c.loop-character.invariant in
    c.escape_fault.ensures c.args.text.now (leads_refused c.args.text.now (string_bytes c.loop-character.cooked) c.loop-character.rest.now i.leads i.utf8 (chars c.in-Some.after_first.now) c.in-Some.character _ c.in-Some.ensures.value (sym c.in-Err.ensures.found))

pub returns-clause-ok : goal.returns-clause-ok
returns-clause-ok c =
    let i = c.loop-character.invariant in
    leads_cooked c.args.text.now (string_bytes c.loop-character.cooked) c.loop-character.rest.now i.leads i.utf8 c.in_default.ensures.value
