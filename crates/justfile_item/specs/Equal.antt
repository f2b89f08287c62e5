-- Equality of bindings, aliases and functions, by their fields in declared order.
use Rattle.std.specs.Prelude.{Bool, ◌&&◌, ◌==◌}
use Rattle.std.specs.Bool.{beq}
use Rattle.std.specs.Cmp.Lexicographic.{pointwise}
use Rattle.justfile_numbers.specs.contracts.number.NumberPartialEq.TheImpl as numbers
use Rattle.justfile_expression.specs.Equal.{expression_eq, name_eq}
use Rattle.justfile_attribute_set.specs.contracts.attribute_set.PairSetAttributeWrittenPartialEq.TheImpl as sets
use Rattle.justfile_item.specs.FunctionParameter.{same_parameter}
use Rattle.justfile_item.specs.declared.alias.Alias.{Alias}
use Rattle.justfile_item.specs.declared.binding.Binding.{Binding}
use Rattle.justfile_item.specs.declared.function_definition.FunctionDefinition.{FunctionDefinition}

module _ {V : Type 0} where
  abbrev pub binding_eq : (V → V → Bool) → Binding V → Binding V → Bool
  binding_eq eq a b =
      sets.eq-value.it a.attributes b.attributes && (beq a.eager b.eager && (beq a.export b.export && ((a.file_depth == b.file_depth)
      && (name_eq a.name b.name && (numbers.eq-value.it a.number b.number && (beq a.prelude b.prelude && (beq a.private b.private
      && eq a.value b.value)))))))

  abbrev pub alias_eq : (V → V → Bool) → Alias V → Alias V → Bool
  alias_eq eq a b = sets.eq-value.it a.attributes b.attributes && (name_eq a.name b.name && eq a.target b.target)

abbrev pub function_eq : FunctionDefinition → FunctionDefinition → Bool
function_eq f g =
    sets.eq-value.it f.attributes g.attributes && (expression_eq f.body g.body && (name_eq f.name g.name
    && pointwise same_parameter f.parameters.items g.parameters.items))
