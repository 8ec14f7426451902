-- What signed machine numbers of 64 bits give back, and the laws by which code over ranges meets its definitions.
use Rattle.std.specs.Prelude.{ℤ}
use Rattle.std.proofs.Common.{to_z, of_z}
use Rattle.std.specs.Int.{w64}

-- a number as it is read back from its bits
abbrev pub back64 : ℤ → ℤ
back64 z = to_z w64 (of_z w64 z)
