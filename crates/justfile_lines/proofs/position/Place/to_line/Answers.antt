use Rattle.std.proofs.Common.{◌≡◌, ◌<◌, ◌+◌, ◌∙◌, ap, arith, get_or, inl, inr, length, refl, subst, sym}
use Rattle.std.proofs.lemmas.Bool.{eqb-true}
use Rattle.std.proofs.lemmas.Str.{IsCharBoundary-after_ascii, IsCharBoundary-start}
use Rattle.std.specs.Str.{IsCharBoundary}
use Rattle.justfile_lines.proofs.Ahead.{next_line}
use Rattle.justfile_lines.proofs.Searches.{rest_at, rest_length}
use Rattle.justfile_lines.proofs.position.Place.to_line.Goals as goal

pub lines-init : goal.lines-init
lines-init c = record {
  offset = omega arith;
  boundary = IsCharBoundary-start c.args.text.now c.requires.utf8;
  is = λ encoding. refl;
  before = inl refl;
}

pub lines-preserved : goal.lines-preserved
lines-preserved c =
    let i = c.lines.invariant in
    let text = c.args.text.now in
    let at = c.lines.at in
    let feed = c.in-Some.feed in
    let found = c.in-Some.ensures in
    let within : at + feed < length text = omega (arith, found.0.high, rest_length text at) in
    let byte : get_or text (at + feed) 0 ≡ 10 = sym (rest_at text at feed) ∙ eqb-true _ 10 found.1 in
    let next : at + feed + 1 ≡ at + (feed + 1) = omega arith in
    let offset : c.args.self.offset + (at + (feed + 1)) ≡ c.lines.here.offset + (feed + 1) = omega (arith, i.offset) in
    record {
      offset = refl;
      boundary = subst (IsCharBoundary text) next (IsCharBoundary-after_ascii text (at + feed) c.requires.utf8 within (omega (arith, byte)));
      is = λ encoding.
          ap (λ n. record { offset = n; position = record { line = c.lines.here.position.line + 1; column = 0 } }) offset
          ∙ next_line encoding c.args.self c.lines.here text at feed (i.is encoding) found.0 found.1;
      before = inr (omega (arith, c.lines-test.true), refl);
    }
