-- Data whose numbers are integers of 64 bits.
use Rattle.std.specs.Prelude.{◌^◌, ◌<◌, negsuc, pos, ⊤}
use Rattle.serde_json.specs.Data.{Num, unsigned, negative, float, Data, null, boolean, number, string, array, object, Items, no_items, item, Members, no_members, member}

-- an unsigned integer of 64 bits, or a negative one
abbrev pub IsInteger : Num → Type 0
IsInteger (unsigned n) = n < 2 ^ 64
IsInteger (negative (pos n)) = ⊥
IsInteger (negative (negsuc n)) = n < 2 ^ 63
IsInteger (float x) = ⊥

-- each number is such an integer
abbrev mutual
  pub HasIntegers : Data → Type 0
  HasIntegers null = ⊤
  HasIntegers (boolean b) = ⊤
  HasIntegers (number n) = IsInteger n
  HasIntegers (string s) = ⊤
  HasIntegers (array ds) = ItemsHaveIntegers ds
  HasIntegers (object ms) = MembersHaveIntegers ms

  pub ItemsHaveIntegers : Items → Type 0
  ItemsHaveIntegers no_items = ⊤
  ItemsHaveIntegers (item d ds) = HasIntegers d × ItemsHaveIntegers ds

  pub MembersHaveIntegers : Members → Type 0
  MembersHaveIntegers no_members = ⊤
  MembersHaveIntegers (member k d ms) = HasIntegers d × MembersHaveIntegers ms
