-- The machine's division, rounded toward zero, and its tests and numbers of 64 bits.
use Rattle.std.specs.Prelude.{◌^◌, ◌<◌, ℤ, nat_abs, T}
use Rattle.std.proofs.Common.{SFits}
use Rattle.std.specs.Int.Signed.{non_neg}
use Rattle.std.specs.Int.{w64}

-- how a negative number's digits are found: one less than its distance from zero fits and is not negative
pub record Natural (z : ℤ) : Type 0 where
  pub fits : SFits w64 z
  pub natural : T (non_neg z)
  pub small : nat_abs z < 2 ^ 63
