-- What a function has written once a call of it failed, and after its last call.
use Rattle.std.proofs.Common.{◌≡◌, ℕ, Result, Ok, Err, IsErr, List, ◌++◌}
use Rattle.justfile_token.specs.Sink.{Puts}

-- a call failed
pub failed_at : {S T E : Type 0} (took failed : S → List ℕ → S → Type 0) {a b : S} {text : List ℕ} (r : Result T E) → IsErr r → failed a text b → Puts took failed a r text b
failed_at took failed (Ok x) e p = absurd cc
failed_at took failed (Err fault) e p = p

-- the result is that of the last call
pub put_last : {S T E : Type 0} (took failed : S → List ℕ → S → Type 0)
    → ((a b c : S) (xs ys : List ℕ) → took a xs b → took b ys c → took a (xs ++ ys) c)
    → ((a b c : S) (xs ys : List ℕ) → took a xs b → failed b ys c → failed a (xs ++ ys) c)
    → (a b c : S) (xs ys : List ℕ) (r : Result T E) → took a xs b → Puts took failed b r ys c → Puts took failed a r (xs ++ ys) c
put_last took failed more later a b c xs ys (Ok x) p q = more a b c xs ys p q
put_last took failed more later a b c xs ys (Err fault) p q = later a b c xs ys p q
