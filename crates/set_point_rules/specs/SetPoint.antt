-- The set-point of a rule (document 02, U8): which old value brings a counter to, or just below, a wanted value. Definitions only.
use Rattle.std.specs.Prelude.{◌≡◌, Bool, cond, ◌&&◌, not, ℕ, ℤ, pos, ◌-ℤ◌, ◌≤ℤ◌, ◌<ℤ◌, Result, Ok, Err}
use Rattle.integers.specs.Range.{near, Within}
use Rattle.integers.specs.Inverse.{carried, Least, Greatest}
use Rattle.model.specs.declared.Rule.{Rule}
use Rattle.model.specs.declared.Rule.TheVariants.{Set, Carry}
use Rattle.set_point_rules.specs.declared.SetPoint.{SetPoint}
use Rattle.set_point_rules.specs.Euclid.{Euclid, quotient, remainder}
use Rattle.answer_rules.specs.declared.Reason.TheVariants.{NoSetPoint}
use Rattle.answer_rules.specs.declared.Refusal.{Refusal}
use Rattle.answer_rules.specs.Refusal.{at}

-- a factor is from -100 to 100 and not 0
unfoldable pub factor_allowed : ℤ → Bool
factor_allowed f = near 100 f && not (near 0 f)

-- factor, offset and wanted value are within their limits, those of offset and value as in sheet version 2
unfoldable pub allowed : ℤ → ℤ → ℤ → Bool
allowed f b y = (factor_allowed f && near 200000000 b) && near 1000000 y

-- x and r of Euclid's division of y - b by f
abbrev pub solution : ℤ → ℤ → ℤ → SetPoint
solution f b y = record { old = quotient (y -ℤ b) f; remainder = remainder (y -ℤ b) f }

-- The answer for a rule and a wanted value y. The source plays no part.
unfoldable pub set_point : Rule → ℤ → Result SetPoint Refusal
set_point (Set b) y = Err (at NoSetPoint 0)
set_point (Carry source f b) y = cond (allowed f b y) (Ok (solution f b y)) (Err (at NoSetPoint 0))

-- what is answered, as a proposition: a carry rule with allowed factor and offset, of whatever source, and y within its bounds
pub data Asked : Rule → ℤ → Type 0 where
  asked : {source : ℕ} {f b y : ℤ} → (f ≡ pos 0 → ⊥) → Within 100 f → Within 200000000 b → Within 1000000 y → Asked (Carry source f b) y

-- What is promised of the answer x, r: y - b = f * x + r with r from 0 to one less than f without its sign, for no other whole numbers; and in
-- a fitter's words: with the old value x the rule gives y - r, and of the old values whose new value is at or below y, x is the greatest
-- for a positive factor and the smallest for a negative one.
pub record Answers (f b y x r : ℤ) : Type 0 where
  pub divided : Euclid (y -ℤ b) f x r
  pub only : (u v : ℤ) → Euclid (y -ℤ b) f u v → (u ≡ x) × (v ≡ r)
  pub gives : carried f b x ≡ y -ℤ r
  pub positive : pos 0 <ℤ f → Greatest (λ z. carried f b z ≤ℤ y) x
  pub negative : f <ℤ pos 0 → Least (λ z. carried f b z ≤ℤ y) x
