-- Two sheets have the same chart exactly where they have as many actions and read the same from their starts.
use Rattle.std.specs.Prelude.{ℕ, Option, Some, None}

-- a target's byte from its place: 255 for none
unfoldable pub byte_of : Option ℕ → ℕ
byte_of None = 255
byte_of (Some k) = k
