use Rattle.std.proofs.Common.{◌≡◌, ◌∙◌, ℕ, List, true, false, Ok, ap, nat_eq, sym}
use Rattle.std.specs.List.{list_any}
use Rattle.justfile_attribute.specs.Attribute.{leaf_attribute_of}
use Rattle.justfile_parse_header.proofs.SameOptions.{short_apart, short_same}
use Rattle.justfile_parse_header.proofs.Texts.{character_among}
use Rattle.justfile_parse_header.proofs.options.check_short.Goals as goal

pub returns-then-contains : goal.returns-then-contains
returns-then-contains c s =
    let option = c.in-Some.option in
    let before = c.args.before.now.items in
    let among : list_any (nat_eq option) before ≡ true =
    sym (character_among option before) ∙ ap (λ (l : List ℕ). list_any (λ (d : ℕ). nat_eq d option) l) (sym c.as_slice.ensures.value) ∙ sym c.contains.ensures.value ∙ c.if-contains.true in
    short_same c.args.recipe before (leaf_attribute_of c.args.attribute.now) s option c.in-Some.token c.in-Some.ensures among c.same_short_fault.result c.rule_error.result c.rule_error.ensures
    c.same_short_fault.ensures

pub returns : goal.returns
returns c s =
    let option = c.in-Some.option in
    let before = c.args.before.now.items in
    let among : list_any (nat_eq option) before ≡ false =
    sym (character_among option before) ∙ ap (λ (l : List ℕ). list_any (λ (d : ℕ). nat_eq d option) l) (sym c.as_slice.ensures.value) ∙ sym c.contains.ensures.value ∙ c.if-contains.false in
    short_apart c.args.recipe before (leaf_attribute_of c.args.attribute.now) s option c.in-Some.token c.in-Some.ensures among
    ∙ ap (λ (l : List ℕ). Ok (l, s)) (sym c.in_ok-push.ensures.items)
