-- Attributes after resolution.
use Rattle.std.specs.Prelude.{◌≡◌, ℕ, List, Option, None, Some}
use Rattle.std.specs.Global.{Box}
use Rattle.justfile_token.specs.declared.name.Name.{Name}
use Rattle.justfile_numbers.specs.declared.number.Number.{Number}
use Rattle.justfile_expression.specs.Resolved.{IsResolved, IsResolvedOption}
use Rattle.justfile_expression.specs.declared.expression.Expression.{Expression}
use Rattle.justfile_attribute.specs.declared.attribute.Attribute.{Attribute}
use Rattle.justfile_attribute.specs.declared.attribute.Attribute.TheVariants as attributes

module _ (numbers : (name : List ℕ) → Option Number) where
  -- an optional key, after the variables in its value got these numbers
  abbrev pub IsResolvedProperty : (resolved original : Option (Name × Box Expression)) → Type 0
  IsResolvedProperty None None = Unit {0}
  IsResolvedProperty (Some resolved) (Some original) = (resolved.0 ≡ original.0) × IsResolved numbers resolved.1.value original.1.value
  IsResolvedProperty _ _ = ⊥

  -- an attribute of the same case: its expressions are resolved, and all else is the same
  abbrev pub IsResolvedAttribute : (resolved original : Attribute) → Type 0
  IsResolvedAttribute (attributes.Arg flag help property long long_key max max_key min min_key multiple name pattern short short_key value)
      (attributes.Arg flag' help' property' long' long_key' max' max_key' min' min_key' multiple' name' pattern' short' short_key' value') =
      (flag ≡ flag') × (help ≡ help') × IsResolvedProperty property property' × (long ≡ long') × (long_key ≡ long_key')
      × (max ≡ max') × (max_key ≡ max_key') × (min ≡ min') × (min_key ≡ min_key') × (multiple ≡ multiple')
      × (name ≡ name') × IsResolvedProperty pattern pattern' × (short ≡ short') × (short_key ≡ short_key') × IsResolvedOption numbers value value'
  IsResolvedAttribute (attributes.Cache extra inputs outputs) (attributes.Cache extra' inputs' outputs') =
      IsResolvedOption numbers extra extra' × IsResolvedOption numbers inputs inputs' × IsResolvedOption numbers outputs outputs'
  IsResolvedAttribute (attributes.Confirm resolved) (attributes.Confirm original) = IsResolvedOption numbers resolved original
  IsResolvedAttribute (attributes.Doc resolved) (attributes.Doc original) = IsResolvedOption numbers resolved original
  IsResolvedAttribute (attributes.Env name value) (attributes.Env name' value') = IsResolved numbers name.value name'.value × IsResolved numbers value.value value'.value
  IsResolvedAttribute (attributes.Timestamp resolved) (attributes.Timestamp original) = IsResolvedOption numbers resolved original
  IsResolvedAttribute (attributes.WorkingDirectory resolved) (attributes.WorkingDirectory original) = IsResolved numbers resolved.value original.value
  IsResolvedAttribute resolved original = resolved ≡ original
