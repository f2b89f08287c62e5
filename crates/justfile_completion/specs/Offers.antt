-- What is offered.
use Rattle.std.specs.Prelude.{ℕ, Bool, ◌==◌, List}
use Rattle.justfile_completion.specs.declared.offer.Offer.{Offer}
use Rattle.justfile_completion.specs.declared.offer.OfferKind.{OfferKind}
use Rattle.justfile_completion.specs.declared.offer.OfferKind.TheVariants.{Constant, Function, Group, Keyword, Parameter, Property, Recipe, Variable}

abbrev pub kind_number : OfferKind → ℕ
kind_number Constant = 0
kind_number Function = 1
kind_number Group = 2
kind_number Keyword = 3
kind_number Parameter = 4
kind_number Property = 5
kind_number Recipe = 6
kind_number Variable = 7

abbrev pub same_kind : (first second : OfferKind) → Bool
same_kind first second = kind_number first == kind_number second

-- what is told of an offer
pub record Told : Type 0 where
  pub kind : OfferKind
  pub name : List ℕ
  pub detail : List ℕ
  pub documentation : List ℕ

abbrev pub told_by : (kind : OfferKind) (name detail documentation : List ℕ) → Told
told_by kind name detail documentation = record { kind = kind; name = name; detail = detail; documentation = documentation }

abbrev pub told : Offer → Told
told o = told_by o.kind o.name.now o.detail.now o.documentation.now
