-- What kinds of problems and of circles are called, and which other place each is about.
use Rattle.std.specs.Prelude.{ℕ, ◌+◌, List, Option, None, Some, codes, option_map, slice_get}
use Rattle.justfile_token.specs.declared.token.Token.{Token}
use Rattle.justfile_problems.specs.declared.circular.Circle.{Circle}
use Rattle.justfile_problems.specs.declared.facts.Role.{Role}
use Rattle.justfile_problems.specs.declared.facts.Role.TheVariants as roles
use Rattle.justfile_problems.specs.declared.facts.Use.{Use}
use Rattle.justfile_problems.specs.declared.problem.What.{What}
use Rattle.justfile_problems.specs.declared.problem.What.TheVariants as whats
use Rattle.editor_language.specs.declared.parts.OtherPlace.{OtherPlace}
use Rattle.editor_language.specs.declared.parts.Span.{Span}

-- the name that the kind of error has among the errors of the language
abbrev pub code_of : What → List ℕ
code_of (whats.DependencyCount name found takes) = codes "DependencyArgumentCountMismatch"
code_of (whats.DuplicateDefault first) = codes "DuplicateDefault"
code_of (whats.DuplicateFunctionParameter function first) = codes "DuplicateFunctionParameter"
code_of (whats.DuplicateParameter recipe first) = codes "DuplicateParameter"
code_of (whats.DuplicateSet first) = codes "DuplicateSet"
code_of (whats.DuplicateUnexport first) = codes "DuplicateUnexport"
code_of (whats.DuplicateVariable first) = codes "DuplicateVariable"
code_of (whats.ExportUnexported first) = codes "ExportUnexported"
code_of whats.ExtraLeadingWhitespace = codes "ExtraLeadingWhitespace"
code_of (whats.FunctionCount found takes) = codes "FunctionArgumentCountMismatch"
code_of whats.GuardAndInfallibleSigil = codes "GuardAndInfallibleSigil"
code_of (whats.IncompatibleSettings own other first) = codes "IncompatibleSettings"
code_of (whats.InvalidShellRecipeAttribute attribute) = codes "InvalidShellRecipeAttribute"
code_of (whats.ListFeature feature) = codes "ListFeature"
code_of whats.MappedDependency = codes "MappedDependencyWithoutListsSetting"
code_of (whats.Redefinition kind first_kind first) = codes "Redefinition"
code_of (whats.RequiredParameter first) = codes "RequiredParameterFollowsDefaultParameter"
code_of whats.UndefinedFunction = codes "UndefinedFunction"
code_of whats.UndefinedVariable = codes "UndefinedVariable"
code_of (whats.UnknownAliasTarget target) = codes "UnknownAliasTarget"
code_of (whats.UnknownDependency item name) = codes "UnknownDependency"

abbrev pub span_of : Token → Span
span_of t = record { start = t.offset; end = t.offset + t.length }

-- a place, and what is there
abbrev pub Placed : Type 0
Placed = Span × List ℕ

abbrev pub placed : OtherPlace → Placed
placed o = (o.span, o.message.now)

-- where the first definition is, or what excludes this one
abbrev pub other_of : What → Option Placed
other_of (whats.DuplicateDefault first) = Some (span_of first.token, codes "the first default recipe")
other_of (whats.DuplicateFunctionParameter function first) = Some (span_of first.token, codes "first defined here")
other_of (whats.DuplicateParameter recipe first) = Some (span_of first.token, codes "first defined here")
other_of (whats.DuplicateSet first) = Some (span_of first.token, codes "first set here")
other_of (whats.DuplicateUnexport first) = Some (span_of first.token, codes "first unexported here")
other_of (whats.DuplicateVariable first) = Some (span_of first.token, codes "first defined here")
other_of (whats.ExportUnexported first) = Some (span_of first.token, codes "unexported here")
other_of (whats.IncompatibleSettings own other first) = Some (span_of first.token, codes "the other setting")
other_of (whats.Redefinition kind first_kind first) = Some (span_of first.token, codes "first defined here")
other_of (whats.RequiredParameter first) = Some (span_of first.token, codes "the parameter with a default")
other_of other = None

-- the name of the kind of error that a circle is, by its first use
abbrev pub circle_code : Role → List ℕ
circle_code (roles.Dependency found) = codes "CircularRecipeDependency"
circle_code other = codes "CircularVariableDependency"

-- The error of a circle of recipes is at its last dependency, on which the first one follows. That of a circle of variables is at the first assignment, on which the second one follows.
abbrev pub next_by : Role → (first second : Use) → Placed
next_by (roles.Dependency found) first second = (span_of first.name.token, codes "the next dependency")
next_by other first second = (span_of second.item.token, codes "the next variable")

-- the place that follows in a circle with these first two uses on the one of its error
abbrev pub next_in : (first second : Use) → Placed
next_in first second = next_by first.role first second

-- that place, if the circle has more uses than one
abbrev pub next_of : Circle → Option Placed
next_of c = option_map (next_in c.first) (slice_get c.others.items 0)
