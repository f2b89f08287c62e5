use Rattle.justfile_parse_attribute.proofs.CommentedAttributes.{entries_commented, commented_fields}
use Rattle.justfile_parse_attribute.proofs.attributes.attach_comment.Goals as goal

pub returns : goal.returns
returns c =
    let old = c.args.attributes.now.pairs.items in
    let comment = c.comment_text.result in
    let given = c.attach_comment.ensures in
    record { entries = entries_commented comment c.args.comment old _ c.comment_text.ensures given; fields = commented_fields comment old _ given }
