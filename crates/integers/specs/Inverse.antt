-- The inverse of a carry rule: the old values x whose new value f * x + b lies in a wanted range c..d
-- (document 01: "the whole x with c ≤ f × x + b ≤ d, rounded inward for either sign of f").
use Rattle.std.specs.Prelude.{ℤ, pos, negsuc, ◌+ℤ◌, ◌-ℤ◌, ◌*ℤ◌, ◌≤ℤ◌, ◌<ℤ◌}
use Rattle.integers.specs.declared.Range.{Range}
use Rattle.integers.specs.Division.{floor, ceiling}

-- the new value of a carry rule with factor f and offset b at the old value x
abbrev pub carried : ℤ → ℤ → ℤ → ℤ
carried f b x = (f *ℤ x) +ℤ b

-- the old values that factor f, not 0, and offset b take into the wanted range
unfoldable pub inverse : ℤ → ℤ → Range → Range
inverse (pos m) b r = record { low = ceiling (r.low -ℤ b) (pos m); high = floor (r.high -ℤ b) (pos m) }
inverse (negsuc m) b r = record { low = ceiling (r.high -ℤ b) (negsuc m); high = floor (r.low -ℤ b) (negsuc m) }

-- z is the least whole number with P, and the greatest
pub record Least (P : ℤ → Type 0) (z : ℤ) : Type 0 where
  pub has : P z
  pub first : (x : ℤ) → P x → z ≤ℤ x

pub record Greatest (P : ℤ → Type 0) (z : ℤ) : Type 0 where
  pub has : P z
  pub last : (x : ℤ) → P x → x ≤ℤ z

-- l is the least whole number that meets its side of c ≤ f * x + b ≤ d: the left one for a positive factor, the right one for a negative factor
pub record LowerEnd (f b c d l : ℤ) : Type 0 where
  pub positive : pos 0 <ℤ f → Least (λ x. c ≤ℤ carried f b x) l
  pub negative : f <ℤ pos 0 → Least (λ x. carried f b x ≤ℤ d) l

-- h is the greatest whole number that meets the other side
pub record UpperEnd (f b c d h : ℤ) : Type 0 where
  pub positive : pos 0 <ℤ f → Greatest (λ x. carried f b x ≤ℤ d) h
  pub negative : f <ℤ pos 0 → Greatest (λ x. c ≤ℤ carried f b x) h
