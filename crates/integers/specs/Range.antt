-- Ranges of whole numbers: definitions, and the laws that callers use in their place.
use Rattle.std.specs.Prelude.{Bool, cond, ◌&&◌, ℕ, ℤ, pos, neg_ℤ, ◌+ℤ◌, ◌-ℤ◌, ◌≤ℤ◌}
use Rattle.std.specs.Int.Signed.{le_z, lt_z}
use Rattle.integers.specs.declared.Range.{Range}
use Rattle.integers.specs.Order.{up}

-- the smaller of two
unfoldable pub smaller : ℤ → ℤ → ℤ
smaller a b = cond (le_z a b) a b

-- the larger of two
unfoldable pub larger : ℤ → ℤ → ℤ
larger a b = cond (le_z a b) b a

-- x is in the range, both bounds included
unfoldable pub contains : Range → ℤ → Bool
contains r x = le_z r.low x && le_z x r.high

-- z is within n of zero, on either side: the test
abbrev pub near : ℕ → ℤ → Bool
near n z = contains (record { low = neg_ℤ (pos n); high = pos n }) z

-- the range holds nothing
unfoldable pub vacant : Range → Bool
vacant r = lt_z r.high r.low

-- what is in both ranges
unfoldable pub meet : Range → Range → Range
meet r q = record { low = larger r.low q.low; high = smaller r.high q.high }

-- how many whole numbers the range holds
unfoldable pub size : Range → ℕ
size r = up (r.high -ℤ r.low +ℤ pos 1)

-- z is within n of zero, on either side
pub record Within (n : ℕ) (z : ℤ) : Type 0 where
  pub above : neg_ℤ (pos n) ≤ℤ z
  pub below : z ≤ℤ pos n

-- both bounds are within n of zero
pub record RangeWithin (n : ℕ) (r : Range) : Type 0 where
  pub low_within : Within n r.low
  pub high_within : Within n r.high
