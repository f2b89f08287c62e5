use Rattle.justfile_model.proofs.Meanings.NewAttributeLaws.{attribute_made, attribute_refused, attribute_unbroken}
use Rattle.justfile_model.proofs.attribute_laws.attributes_made.Goals as goal

pub returns : goal.returns
returns g c = record {
  made = λ view at kind placed keys. attribute_made view at kind placed keys;
  refused = λ view at kind placed keys. attribute_refused view at kind placed keys;
  unbroken = λ view at kind placed keys none texts.
      let m = attribute_unbroken view at kind placed keys none texts in
      (m.attribute, m.made);
}
