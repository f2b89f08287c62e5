-- What was written through a buffer.
use Rattle.std.specs.Prelude.{◌≡◌, ℕ, ◌+◌, ◌-◌, List, ◌∷◌, ◌++◌, Option, length, take}
use Rattle.std.specs.Option.{option_map}
use Rattle.std.specs.Io.KnownBytes.{Appends}
use Rattle.justfile_format.specs.declared.buffer.Buffer.{Buffer}

-- the bytes that aren't written yet
abbrev pub held : {W : Type 0} → Buffer W → List ℕ
held b = take b.end b.room.now

-- The bytes that the writer has and then those that are held, if the writer's are known.
--
-- Two numbers precede them, which no write changes: the name of the reference to the writer, and how many bytes the writer had before it got
-- any from the buffer. So a call that promises no more than that it wrote a text can't exchange the reference or take back what the writer
-- had, and who lends the buffer to such a call knows what the writer itself has afterwards.
abbrev pub buffered : {W : Type 0} → (contents : W → Option (List ℕ)) → Buffer W → Option (List ℕ)
buffered contents b =
    option_map (λ bytes. b.writer.ghost_name ∷ (length bytes - b.passed) ∷ (bytes ++ held b)) (contents b.writer.now)

-- The writer, which is still the same one, got the first ones of the bytes that were held, or none or all of them.
pub record PassesOn {W : Type 0} (contents : W → Option (List ℕ)) (old new : Buffer W) : Type 0 where
  pub same_reference : new.writer.ghost_name ≡ old.writer.ghost_name
  pub got : List ℕ
  pub counted : new.passed ≡ old.passed + length got
  pub is : held old ≡ got ++ held new
  pub appended : Appends (contents old.writer.now) (contents new.writer.now) got
