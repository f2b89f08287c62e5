-- Messages: a header that names the number of bytes of the body, and the body.
use Rattle.std.specs.Prelude.{◌≡◌, ◌≢◌, ◌⊎◌, ℕ, ◌<◌, ◌≤◌, All, false, true, List, [], ◌∷◌, ◌++◌, length, codes, decimal, Option, None, Some, IfSome}
use Rattle.std.specs.Io.KnownBytes.{Consumes, IsAtEnd}
use Rattle.std.specs.List.{flat_map, fold}
use Rattle.message_stream.specs.Field.{ends_header, length_in}
use Rattle.message_stream.specs.declared.header.Header.{Header}
use Rattle.message_stream.specs.declared.header.Header.TheVariants.{Length, Wrong, End}
use Rattle.message_stream.specs.declared.header.TheConstants.{MOST_LINES}
use Rattle.message_stream.specs.declared.received.Received.{Received}
use Rattle.message_stream.specs.declared.received.Received.TheVariants as received

-- A line: it ends with its only line feed.
pub record IsLine (line : List ℕ) : Type 0 where
  pub front : List ℕ
  pub is : line ≡ front ++ 10 ∷ []
  pub one : All (λ c. c ≢ 10) front

-- the length that lines name: that of the last one that names one
abbrev pub later : Option ℕ → Option ℕ → Option ℕ
later found None = found
later found (Some count) = Some count

abbrev pub length_among : List (List ℕ) → Option ℕ
length_among lines = fold (λ found line. later found (length_in line)) None lines

abbrev pub joined : List (List ℕ) → List ℕ
joined lines = flat_map (λ line. line) lines

-- The bytes begin with these lines, of which none ends a header. The others are left. The last line may lack its line feed at the end alone.
pub record Passes (old new : Option (List ℕ)) (lines : List (List ℕ)) : Type 0 where
  pub consumes : Consumes old new (joined lines)
  pub none_ends : All (λ line. ends_header line ≡ false) lines
  pub are_lines : IfSome old (λ _. All IsLine lines ⊎ IsAtEnd new)

-- The text is a header that names this length, if it names one: lines up to the first empty one.
pub record IsHeader (header : List ℕ) (named : Option ℕ) : Type 0 where
  pub lines : List (List ℕ)
  pub last : List ℕ
  pub is : header ≡ joined lines ++ last
  pub are_lines : All IsLine lines
  pub none_ends : All (λ line. ends_header line ≡ false) lines
  pub ends : ends_header last ≡ true
  pub names : named ≡ length_among lines

-- what is read up to the first line feed: a line, or what there is up to the end
pub record ReadsLine (old new : Option (List ℕ)) (line : List ℕ) : Type 0 where
  pub consumes : Consumes old new line
  pub none : line ≡ [] → IfSome old (λ _. IsAtEnd new)
  pub is_line : IfSome old (λ _. IsLine line ⊎ IsAtEnd new)

-- The bytes begin with a header that names this length, if it names one. The others are left. Where the bytes aren't known, nothing is said of the header.
pub record BeginsWithHeader (old new : Option (List ℕ)) (named : Option ℕ) : Type 0 where
  pub header : List ℕ
  pub is_header : IfSome old (λ _. IsHeader header named)
  pub consumes : Consumes old new header

-- The bytes begin with as many lines as a header has at most, of which none ends it. The others are left.
pub record BeginsWithFields (old new : Option (List ℕ)) : Type 0 where
  pub lines : List (List ℕ)
  pub count : length lines ≡ MOST_LINES
  pub passes : Passes old new lines

-- The bytes begin with what is no header that names a length.
abbrev pub BeginsWrong : (old new : Option (List ℕ)) → Type 0
BeginsWrong old new = BeginsWithHeader old new None ⊎ BeginsWithFields old new

-- All bytes that there are were read.
pub record ReadsToEnd (old new : Option (List ℕ)) : Type 0 where
  pub bytes : List ℕ
  pub consumes : Consumes old new bytes
  pub all : IfSome old (λ _. IsAtEnd new)

-- what is read where a header is due
abbrev pub ReadsHeader : (old new : Option (List ℕ)) → Header → Type 0
ReadsHeader old new (Length count) = BeginsWithHeader old new (Some count)
ReadsHeader old new Wrong = BeginsWrong old new
ReadsHeader old new End = ReadsToEnd old new

-- a header that has ended names this length, if it names one
abbrev pub IsEnded : (named : Option ℕ) → Header → Type 0
IsEnded (Some count) header = header ≡ Length count
IsEnded None header = header ≡ Wrong

-- So many bytes were passed over, or all that there were.
pub record Skips (count : ℕ) (old new : Option (List ℕ)) : Type 0 where
  pub bytes : List ℕ
  pub consumes : Consumes old new bytes
  pub all : (length bytes ≡ count) ⊎ IsAtEnd new

-- Some bytes were passed over, none only at the end.
pub record SkipsSome (count : ℕ) (old new : Option (List ℕ)) : Type 0 where
  pub bytes : List ℕ
  pub is_length : length bytes ≡ count
  pub consumes : Consumes old new bytes
  pub none : count ≡ 0 → IsAtEnd new

-- The bytes begin with a message that has this body. The others are left.
pub record BeginsWithMessage (old new : Option (List ℕ)) (body : List ℕ) : Type 0 where
  pub between : Option (List ℕ)
  pub header : BeginsWithHeader old between (Some (length body))
  pub consumes : Consumes between new body

-- The bytes begin with a message whose body is longer than the limit, and that is passed over.
pub record SkipsMessage (limit : ℕ) (old new : Option (List ℕ)) : Type 0 where
  pub count : ℕ
  pub too_long : limit < count
  pub between : Option (List ℕ)
  pub header : BeginsWithHeader old between (Some count)
  pub skips : Skips count between new

-- what is read where a message is due
abbrev pub ReadsMessage : (old new : Option (List ℕ)) (limit : ℕ) → Received → Type 0
ReadsMessage old new limit (received.Message body) = BeginsWithMessage old new body.items × (length body.items ≤ limit)
ReadsMessage old new limit received.WrongHeader = BeginsWrong old new
ReadsMessage old new limit received.TooLong = SkipsMessage limit old new
ReadsMessage old new limit received.End = ReadsToEnd old new

-- the text of a message with this body
abbrev pub message_text : List ℕ → List ℕ
message_text body = (codes "Content-Length: " ++ (decimal (length body) ++ codes "\r\n\r\n")) ++ body
