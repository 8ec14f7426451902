-- Numbers that are equal modulo m, over numbers that are not negative: each is the other after some rounds of m.
use Rattle.std.specs.Prelude.{◌≡◌, ℕ, ◌+◌, ◌*◌}

pub record Same (m x y : ℕ) : Type 0 where
  pub of_first_lem : ℕ
  pub of_second_lem : ℕ
  pub meet : x + m * of_first_lem ≡ y + m * of_second_lem
