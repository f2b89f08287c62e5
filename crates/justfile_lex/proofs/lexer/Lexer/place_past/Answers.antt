use Rattle.std.proofs.Common.{◌≡◌, ◌+◌, true, get_or, drop, arith, sym, ap, ◌∙◌, rules, get_or-drop}
use Rattle.justfile_lex.specs.Lexing.{is_on_line}
use Rattle.justfile_lex.proofs.FeedLemmas.{token_feeds}
use Rattle.justfile_lex.proofs.PlaceLemmas.{place_feedless}
use Rattle.justfile_lex.proofs.lexer.Lexer.place_past.Goals as goal

pub returns-then-is_on_line : goal.returns-then-is_on_line
returns-then-is_on_line c =
    let l = c.args.self.now in
    let there : l.offset + 0 ≡ l.offset = omega arith in
    let first : get_or (drop l.offset l.src.now) 0 0 ≡ c.byte_at.result = get_or-drop l.offset l.src.now 0 0 ∙ ap (λ i. get_or l.src.now i 0) there ∙ sym (c.byte_at.ensures ∙ ap (λ bs. get_or bs l.offset 0) c.as_bytes-bytes.ensures.value) in
    let on_line : is_on_line c.args.kind c.byte_at.result ≡ true = search (rules, c.if-is_on_line.ensures) in
    place_feedless _ _ _ _ _ c.requires.placed.place c.requires.within.0 (token_feeds _ _ _ _ c.requires.next_token (ap (is_on_line c.args.kind) first ∙ on_line))
