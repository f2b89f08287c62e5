-- Equality of parameters of functions.
use Rattle.std.specs.Prelude.{Bool, ◌&&◌}
use Rattle.std.specs.Cmp.{IsPartialEquivalence, and_per, on_per}
use Rattle.justfile_token.specs.contracts.name.NamePartialEq.TheImpl as names
use Rattle.justfile_token.specs.contracts.name.NamePartialEq.TheImpl.Laws.{laws-law as name_per}
use Rattle.justfile_numbers.specs.contracts.number.NumberPartialEq.TheImpl as numbers
use Rattle.justfile_numbers.specs.contracts.number.NumberPartialEq.TheImpl.Laws.{laws-law as number_per}
use Rattle.justfile_token.specs.declared.name.Name.{Name}
use Rattle.justfile_numbers.specs.declared.number.Number.{Number}

-- equal names and equal numbers
abbrev pub same_parameter : Name × Number → Name × Number → Bool
same_parameter p q = names.eq-value.it p.0 q.0 && numbers.eq-value.it p.1 q.1

pub parameter_per : IsPartialEquivalence same_parameter
parameter_per = and_per (on_per (λ p. p.0) name_per) (on_per (λ p. p.1) number_per)
