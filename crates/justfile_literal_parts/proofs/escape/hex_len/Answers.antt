use Rattle.std.proofs.Common.{sym, ◌∙◌, chars, arith}
use Rattle.std.proofs.lemmas.Iterator.{YieldsList-from_chars}
use Rattle.std.proofs.lemmas.Iterator.Consumers.{YieldsList-turn, YieldsList-end}
use Rattle.std.proofs.lemmas.List.{at_drop_all, length_push}
use Rattle.justfile_literal_parts.proofs.Digits.{is_hex_head}
use Rattle.justfile_literal_parts.proofs.DigitTexts.{go_on_here, hex_stops, stop_here}
use Rattle.justfile_literal_parts.proofs.escape.hex_len.Goals.{then-count-gt-MOST_DIGITS-via-then-count-gt-MOST_DIGITS, then-count-gt-MOST_DIGITS-via-else-count-gt-MOST_DIGITS+then-not-is_ascii_hexdigit}
use Rattle.justfile_literal_parts.proofs.escape.hex_len.Goals as goal

pub returns-then-count-gt-MOST_DIGITS : goal.returns-then-count-gt-MOST_DIGITS
returns-then-count-gt-MOST_DIGITS c =
    let t = YieldsList-turn (YieldsList-from_chars c.args.text.now c.utf8.text cc) c.loop-character.yielded _ c.loop-character.yielded_by _ _ c.in-Some.character c.in-Some.is c.next.ensures.steps in
    let i = c.loop-character.invariant in
    stop_here (chars c.args.text.now) c.loop-character.yielded c.loop-character.count c.in-Some.character i.yielded t i.most i.digits
    (λ few. elim c.then-count-gt-MOST_DIGITS.branch [
      | then-count-gt-MOST_DIGITS-via-then-count-gt-MOST_DIGITS w ↦ absurd (omega (arith, w.if-count-gt-MOST_DIGITS.true))
      | then-count-gt-MOST_DIGITS-via-else-count-gt-MOST_DIGITS+then-not-is_ascii_hexdigit w ↦ sym w.is_ascii_hexdigit.ensures.value ∙ w.if-not-is_ascii_hexdigit.true
    ])

pub loop-character-preserved : goal.loop-character-preserved
loop-character-preserved c =
    let t = YieldsList-turn (YieldsList-from_chars c.args.text.now c.utf8.text cc) c.loop-character.yielded _ c.loop-character.yielded_by _ _ c.in-Some.character c.in-Some.is c.next.ensures.steps in
    let i = c.loop-character.invariant in
    record {
      yielded = omega (arith, i.yielded, length_push c.loop-character.yielded c.in-Some.character);
      most = omega (arith, c.if-count-gt-MOST_DIGITS.false);
      digits = go_on_here (chars c.args.text.now) c.loop-character.yielded c.loop-character.count c.in-Some.character i.yielded t i.digits (sym c.is_ascii_hexdigit.ensures.value ∙ c.if-not-is_ascii_hexdigit.false);
    }

pub returns : goal.returns
returns c =
    let t = YieldsList-end (YieldsList-from_chars c.args.text.now c.utf8.text cc) c.loop-character.yielded _ c.loop-character.yielded_by _ _ c.in-None.is c.next.ensures.steps in
    let i = c.loop-character.invariant in
    hex_stops (chars c.args.text.now) c.loop-character.count (omega (arith, i.yielded, t.1)) i.most i.digits (λ _. at_drop_all is_hex_head (chars c.args.text.now) c.loop-character.count (omega (arith, i.yielded, t.1)))
