use Rattle.std.proofs.Common.{ℕ, List, [], Bor, map, refl, subst, sym}
use Rattle.std.proofs.lemmas.Result.{err_from_is_err_and}
use Rattle.justfile_attribute.specs.Attribute.{leaf_attribute_of}
use Rattle.justfile_attribute_set.specs.AttributeSet.{written_of}
use Rattle.justfile_attribute_set.specs.Keys.{keys_left}
use Rattle.justfile_model.specs.Meanings.RecipeRules.{and_named}
use Rattle.justfile_parse_base.specs.TextSets.{texts_in}
use Rattle.justfile_parse_header.specs.Options.{long_in}
use Rattle.justfile_parse_header.specs.Tree.{rules_of}
use Rattle.justfile_parse_header.proofs.SameOptions.{Ahead, begin, goes_on, long_fails, short_fails}
use Rattle.justfile_parse_header.proofs.options.check_options.Goals as goal

pub attributes-init : goal.attributes-init
attributes-init c =
    let all = rules_of c.args.attributes.now in
    let left = keys_left c.iter-left.result in
    subst (λ (l : List (Bor (List ℕ))). Ahead c.args.recipe all (map (λ (t : Bor (List ℕ)). t.now) l) c.new-shorts.result.items left) (sym c.new-longs.ensures.empty)
    (subst (λ (l : List ℕ). Ahead c.args.recipe all [] l left) (sym c.new-shorts.ensures.items)
    (begin c.args.recipe all (written_of c.args.attributes.now) left refl c.iter-left.ensures))

pub attributes-preserved : goal.attributes-preserved
attributes-preserved c =
    let before = texts_in c.attributes.longs in
    let a = c.in-Some.attribute.now in
    goes_on c.args.recipe (rules_of c.args.attributes.now) before c.attributes.shorts.items (keys_left c.attributes.left) c.attributes.invariant
    a (keys_left c.next.new.self) c.in-Some.ensures.steps
    (and_named before (long_in (leaf_attribute_of a))) c.in_ok-check_long.ensures.reads
    (texts_in c.check_long.new.before) c.in_ok-check_long.ensures.added c.check_short.new.before.items c.in_ok-check_short.ensures

pub returns-in_err-check_long : goal.returns-in_err-check_long
returns-in_err-check_long c s =
    let p = err_from_is_err_and c.from_residual.result c.from_residual.ensures.1 in
    rw (p.1, p.2)
    (long_fails c.args.recipe (rules_of c.args.attributes.now) (texts_in c.attributes.longs) c.attributes.shorts.items (keys_left c.attributes.left) c.attributes.invariant
    c.in-Some.attribute.now (keys_left c.next.new.self) c.in-Some.ensures.steps c.in_err-check_long.field-0.0 s (c.in_err-check_long.ensures.reads s))

pub returns-in_err-check_short : goal.returns-in_err-check_short
returns-in_err-check_short c s =
    let p = err_from_is_err_and c.from_residual-in_err-check_short.result c.from_residual-in_err-check_short.ensures.1 in
    let before = texts_in c.attributes.longs in
    let a = c.in-Some.attribute.now in
    rw (p.1, p.2)
    (short_fails c.args.recipe (rules_of c.args.attributes.now) before c.attributes.shorts.items (keys_left c.attributes.left) c.attributes.invariant
    a (keys_left c.next.new.self) c.in-Some.ensures.steps (and_named before (long_in (leaf_attribute_of a))) c.in_ok-check_long.ensures.reads
    c.in_err-check_short.field-0.0 s (c.in_err-check_short.ensures s))
