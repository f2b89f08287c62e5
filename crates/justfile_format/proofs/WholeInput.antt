-- What one more read adds to what was read.
use Rattle.std.proofs.Common.{◌≡◌, ℕ, List, [], ◌++◌, Option, IfSome, take, sym, append-nil}
use Rattle.std.specs.Io.KnownBytes.{Consumes, IsAtEnd, Keeps}
use Rattle.std.proofs.KnownBytes.{Consumes-all, Consumes-kept, Consumes-trans}

-- a read that gave nothing is at the end, and all was read before it
pub all_read : (a b c : Option (List ℕ)) (bytes chunk : List ℕ) → Consumes a b bytes → Consumes b c (take 0 chunk) → IsAtEnd c → IfSome a (λ source. bytes ≡ source)
all_read a b c bytes chunk before none end = Consumes-all a c (bytes ++ []) [] bytes (Consumes-trans a b c bytes [] before none) end (sym (append-nil bytes))

-- what a read gave follows what was read before
pub read_more : (a b c : Option (List ℕ)) (bytes more : List ℕ) → Consumes a b bytes → Consumes b c more → Consumes a c (bytes ++ more)
read_more a b c bytes more before read = Consumes-trans a b c bytes more before read

-- an interrupted read gave nothing
pub read_none : (a b c : Option (List ℕ)) (bytes : List ℕ) → Consumes a b bytes → Keeps b c → Consumes a c bytes
read_none a b c bytes before kept = Consumes-kept a b c bytes before kept
