-- Attributes are equal exactly if their cases and fields are.
use Rattle.std.proofs.Common.{◌≡◌, refl}
use Rattle.justfile_model.specs.Meanings.AttributeKinds.{same_attribute}
use Rattle.justfile_attribute.specs.Equal.{attribute_eq}
use Rattle.justfile_attribute.specs.contracts.attribute.AttributePartialEq.TheImpl as equality
use Rattle.justfile_attribute.specs.declared.attribute.Attribute.{Attribute}
use Rattle.justfile_attribute.specs.declared.attribute.Attribute.TheVariants as attributes

-- the last clause is for attributes of different cases
pub same_is : (a b : Attribute) → equality.eq-value.it a b ≡ attribute_eq a b
unfolding same_attribute
same_is attributes.Android attributes.Android = refl
same_is (attributes.Arg flag help property long long_key max max_key min min_key multiple name pattern short short_key value)
    (attributes.Arg flag' help' property' long' long_key' max' max_key' min' min_key' multiple' name' pattern' short' short_key' value') = refl
same_is (attributes.Cache extra inputs outputs) (attributes.Cache extra' inputs' outputs') = refl
same_is (attributes.Confirm x) (attributes.Confirm x') = refl
same_is (attributes.Continue x) (attributes.Continue x') = refl
same_is attributes.Default attributes.Default = refl
same_is (attributes.Doc x) (attributes.Doc x') = refl
same_is attributes.Dragonfly attributes.Dragonfly = refl
same_is (attributes.Env name value) (attributes.Env name' value') = refl
same_is attributes.ExitMessage attributes.ExitMessage = refl
same_is (attributes.Extension x) (attributes.Extension x') = refl
same_is attributes.Freebsd attributes.Freebsd = refl
same_is (attributes.Group x) (attributes.Group x') = refl
same_is attributes.Linux attributes.Linux = refl
same_is attributes.Macos attributes.Macos = refl
same_is (attributes.Metadata x) (attributes.Metadata x') = refl
same_is attributes.Netbsd attributes.Netbsd = refl
same_is attributes.NoCd attributes.NoCd = refl
same_is attributes.NoExitMessage attributes.NoExitMessage = refl
same_is attributes.NoQuiet attributes.NoQuiet = refl
same_is attributes.Openbsd attributes.Openbsd = refl
same_is attributes.Parallel attributes.Parallel = refl
same_is attributes.PositionalArguments attributes.PositionalArguments = refl
same_is attributes.Private attributes.Private = refl
same_is (attributes.Script x) (attributes.Script x') = refl
same_is attributes.Shell attributes.Shell = refl
same_is (attributes.Timestamp x) (attributes.Timestamp x') = refl
same_is attributes.Unix attributes.Unix = refl
same_is attributes.Windows attributes.Windows = refl
same_is (attributes.WorkingDirectory x) (attributes.WorkingDirectory x') = refl
same_is a b = refl
