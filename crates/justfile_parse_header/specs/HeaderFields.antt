-- The fields of a header that its tree doesn't show.
use Rattle.std.specs.Prelude.{◌≡◌, ◌≤◌, List, length}
use Rattle.justfile_vocabulary.specs.declared.token_kind.TokenKind.TheVariants as kinds
use Rattle.justfile_parse_header.specs.ArgAttribute.{HaveDerivedParameterFields}
use Rattle.justfile_parse_header.specs.HeaderTable.{Rules}
use Rattle.justfile_parse_header.specs.declared.header.Header.{Header}

-- The parameters have the fields that the rules determine, at most all dependencies come before `&&`, and the name is an identifier.
pub record HasDerivedHeaderFields (rules : List Rules) (header : Header) : Type 0 where
  pub parameters : HaveDerivedParameterFields rules header.parameters.items
  pub priors : header.priors ≤ length header.dependencies.items
  pub name : header.name.0.kind ≡ kinds.Identifier
