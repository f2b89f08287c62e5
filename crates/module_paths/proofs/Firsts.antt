-- The first value of three options, behind references.
use Rattle.std.proofs.Common.{◌≡◌, Option, None, Some, option_copied, refl}
use Rattle.std.specs.Option.{option_or}
use denote.Ref.{Bor}

pub copied_or : {X : Type 0} (a b c : Option (Bor X)) → option_copied (option_or (option_or a b) c) ≡ option_or (option_or (option_copied a) (option_copied b)) (option_copied c)
copied_or (Some x) b c = refl
copied_or None (Some y) c = refl
copied_or None None c = refl
