use Rattle.justfile_model.proofs.Meanings.NewAttributeLaws.{attribute_made, attribute_refused, attribute_unbroken}
use Rattle.justfile_attribute.specs.ByValue.{given_leaves, placed_leaves}
use Rattle.justfile_attribute_rules.specs.Keys.{views_keys}
use Rattle.justfile_attribute.proofs.ByValue.{given_same, placed_same}
use Rattle.justfile_attribute.proofs.LeafTexts.{have_texts}
use Rattle.justfile_attribute.proofs.laws.new_attributes.Goals as goal

pub returns : goal.returns
returns c = record {
  made = λ at kind placed keys. attribute_made views_keys at kind (placed_leaves placed) (given_leaves keys);
  refused = λ at kind placed keys r e. attribute_refused views_keys at kind (placed_leaves placed) (given_leaves keys) r e (have_texts placed keys);
  unbroken = λ at kind placed keys none.
      let m = attribute_unbroken views_keys at kind (placed_leaves placed) (given_leaves keys) none (have_texts placed keys) in
      (m.attribute, m.made);
  boxed = placed_same;
  boxed_keys = given_same;
}
