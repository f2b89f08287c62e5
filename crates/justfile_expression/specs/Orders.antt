-- What it means that a type's `==` and `cmp` are a given order; the orders of names, of paths of names and of paths of modules.
use Rattle.std.specs.Prelude.{◌≡◌, Bool}
use Rattle.std.specs.Cmp.{IsTotalOrder}
use Rattle.std.specs.Cmp.Lexicographic.{slice_cmp}
use Rattle.std.specs.Ordering.{eq_by_cmp, on}
use Rattle.std.specs.declared.cmp.Ordering.{Ordering}
use Rattle.justfile_token.specs.Modulepath.{names_of}
use Rattle.justfile_token.specs.Namepath.{names_in}
use Rattle.justfile_token.specs.declared.modulepath.Modulepath.{Modulepath}
use Rattle.justfile_token.specs.declared.name.Name.{Name}
use Rattle.justfile_token.specs.declared.namepath.Namepath.{Namepath}
use Rattle.justfile_model.specs.Trees.ContentLeaf.{text_cmp}
use Rattle.justfile_expression.specs.Leaf.{token_cmp}

-- `cmp` is this order, which is total, and `eq` holds exactly if it returns `Equal`
pub record IsOrder {K : Type 0} (eq : K → K → Bool) (cmp order : K → K → Ordering) : Type 0 where
  pub is : (x y : K) → cmp x y ≡ order x y
  pub total : IsTotalOrder order
  pub ties : (x y : K) → eq x y ≡ eq_by_cmp order x y

-- names compare as their tokens
abbrev pub name_cmp : Name → Name → Ordering
name_cmp = on (λ n. n.token) token_cmp

-- paths compare by their names, from the left; a path comes before its continuations
abbrev pub namepath_cmp : Namepath → Namepath → Ordering
namepath_cmp = on names_in (slice_cmp name_cmp)

-- paths of modules compare by the texts of their names
abbrev pub modulepath_cmp : Modulepath → Modulepath → Ordering
modulepath_cmp = on names_of (slice_cmp text_cmp)
