use Rattle.std.proofs.Common.{◌∙◌, ◌-◌, length, sym, arith}
use Rattle.justfile_parse_docs.proofs.DocSteps.{after_item, comment_begins}
use Rattle.justfile_parse_docs.proofs.docs.find_doc.Goals as goal

pub find_first_doc-requires : goal.find_first_doc-requires
find_first_doc-requires c =
    comment_begins c.args.items.now (length c.args.items.now - 2) c.index-items-count-2.result (omega arith) c.index-items-count-2.is c.requires c.in_ok-comment.comment.now
    (sym c.in_ok-comment.ensures)

pub find_later_doc-requires : goal.find_later_doc-requires
find_later_doc-requires c =
    comment_begins c.args.items.now (length c.args.items.now - 2) c.index-items-count-2.result (omega arith) c.index-items-count-2.is c.requires c.in_ok-comment.comment.now
    (sym c.in_ok-comment.ensures)

pub returns : goal.returns
returns c =
    c.find_later_doc.ensures
    ∙ sym (after_item c.args.items.now (length c.args.items.now - 1) (length c.args.items.now - 2) _ (omega arith) (omega arith) (omega arith)
    c.index-items-count.result c.index-items-count-2.result c.index-items-count-3.result c.index-items-count.is c.index-items-count-2.is c.index-items-count-3.is
    c.in_ok-comment.comment.now (sym c.is_line_end.ensures ∙ c.if-not-is_line_end.false) (sym c.in_ok-comment.ensures) c.is_line_end-2.result (sym c.is_line_end-2.ensures))
