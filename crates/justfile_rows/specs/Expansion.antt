-- What the expanders of rows return.
use Rattle.std.specs.Prelude.{List, ℕ, Result, Ok, Err, ◌++◌, codes}
use Rattle.justfile_rows.specs.declared.expansion.Expansion.{Expansion}
use Rattle.justfile_rows.specs.declared.expansion.Expansion.TheVariants.{Unchanged, Bracketed, Constant, Refused, Exhausted}

-- what the expander returns for a text
abbrev pub answer_of : Expansion → List ℕ → Result (List ℕ) (List ℕ)
answer_of Unchanged text = Ok text
answer_of Bracketed text = Ok (codes "[" ++ text ++ codes "]")
answer_of (Constant constant) text = Ok constant.now
answer_of Refused text = Err (codes "no")
answer_of Exhausted text = Ok text
