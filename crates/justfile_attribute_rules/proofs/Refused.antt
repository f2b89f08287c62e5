-- The error of a first step is the error of all steps.
use Rattle.std.proofs.Common.{Ok, Err}
use Rattle.justfile_token.specs.declared.fault.Fault.{Fault}
use Rattle.justfile_token.specs.declared.fault.Fault.TheVariants as faults
use Rattle.justfile_token.specs.declared.token.Token.{Token}
use Rattle.justfile_model.specs.Readers.NewAttribute.{◌>>=◌, Made}
use Rattle.justfile_attribute_rules.specs.Made.{IsRefusedBy}

-- an error of the first step is an error of both
pub refused_first : {X Y : Type 0} (made : Made Token X) (next : X → Made Token Y) (fault : Fault) → IsRefusedBy made fault → IsRefusedBy (made >>= next) fault
refused_first made next faults.Memory h = tt
refused_first made next faults.Numbers h = absurd h
refused_first (Ok x) next (faults.Compile e) h = absurd h
refused_first (Err broken) next (faults.Compile e) h = h
