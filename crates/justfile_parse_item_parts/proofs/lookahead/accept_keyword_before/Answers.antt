use Rattle.std.proofs.Common.{rules, ◌≡◌, ◌∙◌, sym, true, false}
use Rattle.justfile_vocabulary.specs.Keyword.{keyword_text}
use Rattle.justfile_parse_expression.specs.View.{state_of}
use Rattle.justfile_parse_item_parts.proofs.Followed.{no_word, not_followed, taken}
use Rattle.justfile_parse_item_parts.proofs.lookahead.accept_keyword_before.Goals as goal
use Rattle.justfile_parse_item_parts.proofs.lookahead.accept_keyword_before.Goals.{else-peek_keyword-via-then-peek_keyword+else-follows_keyword, else-peek_keyword-via-else-peek_keyword}

pub returns-then-follows_keyword-clause-takes : goal.returns-then-follows_keyword-clause-takes
returns-then-follows_keyword-clause-takes g c =
    let A = g.X.Expander.answer in
    taken (keyword_text c.args.keyword) c.args.lookahead (state_of A c.args.parser.now) c.accept_keyword.result (state_of A c.accept_keyword.new.self) c.accept_keyword.ensures.takes
    (sym c.follows_keyword.ensures ∙ c.if-follows_keyword.true)

pub returns-else-peek_keyword-clause-takes : goal.returns-else-peek_keyword-clause-takes
returns-else-peek_keyword-clause-takes g c =
    let A = g.X.Expander.answer in
    let s = state_of A c.args.parser.now in
    elim c.else-peek_keyword.branch [
      | else-peek_keyword-via-then-peek_keyword+else-follows_keyword w ↦
          not_followed (keyword_text c.args.keyword) c.args.lookahead s (sym w.follows_keyword.ensures ∙ w.if-follows_keyword.false)
      | else-peek_keyword-via-else-peek_keyword w ↦ no_word (keyword_text c.args.keyword) c.args.lookahead s (sym c.peek_keyword.ensures ∙ w.if-peek_keyword.false)
    ]
