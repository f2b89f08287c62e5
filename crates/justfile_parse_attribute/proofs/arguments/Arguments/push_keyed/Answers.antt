use Rattle.std.proofs.Common.{refl}
use Rattle.justfile_parse_attribute.specs.ArgumentKeys.{Given}
use Rattle.justfile_parse_attribute.proofs.ArgumentLists.{keyed_last, still_distinct}
use Rattle.justfile_parse_attribute.proofs.ArgumentTexts.{one_text}
use Rattle.justfile_parse_attribute.proofs.arguments.Arguments.push_keyed.Goals as goal

pub invariant_of-self : goal.invariant_of-self
invariant_of-self c =
    let before = c.args.self.now in
    let after = c.push_key.new in
    let given : Given = (c.args.key, c.args.value) in
    record {
      distinct = still_distinct before given after.keyed.items c.in-Ok.ensures.pushed c.requires;
      named = one_text before.keyed.items after.keyed.items given before.texts after.texts before.named c.in-Ok.ensures.pushed c.in-Ok.ensures.named;
    }

pub returns-in-Ok : goal.returns-in-Ok
returns-in-Ok c = keyed_last c.args.self.now _ (c.args.key, c.args.value) c.in-Ok.ensures.pushed refl
