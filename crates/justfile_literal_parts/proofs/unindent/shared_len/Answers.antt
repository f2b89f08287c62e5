use Rattle.std.proofs.Common.{◌∙◌, rules, tests, nat_eq}
use Rattle.std.specs.List.{zip}
use Rattle.std.proofs.lemmas.Iterator.{YieldsList-from_zip}
use Rattle.std.proofs.lemmas.Iterator.Adapters.{YieldsList-from_bytes}
use Rattle.std.proofs.lemmas.Iterator.Consumers.{YieldsList-at, count_from_yields_List}
use Rattle.std.proofs.lemmas.Iterator.Search.{YieldsList-from_take_while}
use Rattle.std.proofs.lemmas.List.Folds.{length-prefix_len}
use Rattle.justfile_literal_parts.proofs.SharedFronts.{alike_pairs}
use Rattle.justfile_literal_parts.proofs.unindent.shared_len.Goals as goal

pub returns : goal.returns
returns c =
    let text = YieldsList-at c.zip.ensures.first (YieldsList-from_bytes c.args.text.now c.bytes.ensures.rest) in
    let other = YieldsList-at c.zip.ensures.second (YieldsList-from_bytes c.args.other.now c.bytes-2.ensures.rest) in
    let pairs = YieldsList-at c.take_while.ensures.source (YieldsList-from_zip text other) in
    count_from_yields_List c.take_while.result c.count.result c.count.ensures.ran (YieldsList-from_take_while _ (λ p. nat_eq p.0 p.1) pairs c.take_while.ensures.closure c.take_while.ensures.done (λ x b q k. search (rules, tests)))
    ∙ length-prefix_len (λ p. nat_eq p.0 p.1) (zip c.args.text.now c.args.other.now) ∙ alike_pairs c.args.text.now c.args.other.now
