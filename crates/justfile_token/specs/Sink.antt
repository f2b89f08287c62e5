-- What a call that writes a text to a sink promises.
use Rattle.std.specs.Prelude.{ℕ, List, Result, Ok, Err}

-- if the call succeeded the sink took the text, and if it failed the sink failed within the text
abbrev pub Puts : {S T E : Type 0} (took failed : S → List ℕ → S → Type 0) (old : S) → Result T E → (text : List ℕ) (new : S) → Type 0
Puts took failed old (Ok x) text new = took old text new
Puts took failed old (Err fault) text new = failed old text new
