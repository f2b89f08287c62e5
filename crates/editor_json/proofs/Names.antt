-- By what a request is answered.
use Rattle.std.proofs.Common.{◌≡◌, ◌∙◌, ℕ, ℤ, List, Option, Some, None, ap}
use Rattle.std.specs.Prelude.{option_and_then, option_map}
use Rattle.serde_json.specs.Data.{Data}
use Rattle.serde_json.specs.Find.{as_i64, as_number, as_str}
use Rattle.editor_json.specs.Requests.{name_in, named, number_or, numbered}

pub text_name : (d : Data) (text : List ℕ) → Some text ≡ as_str d → Some (named text) ≡ name_in d
text_name d text e = ap (λ t. number_or t (option_and_then as_i64 (as_number d))) e

pub number_name : (d : Data) (n : Option ℤ) → None ≡ as_str d → n ≡ option_and_then as_i64 (as_number d) → option_map numbered n ≡ name_in d
number_name d n e f = ap (number_or None) f ∙ ap (λ t. number_or t (option_and_then as_i64 (as_number d))) e
