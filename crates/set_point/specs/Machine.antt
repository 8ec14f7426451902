-- The machine's side of a set-point: what the division computes on the way fits, and is what was meant.
use Rattle.std.specs.Prelude.{◌≡◌, Bool, true, false, cond, ◌&&◌, ℕ, ℤ, pos, negsuc, ◌-ℤ◌, ◌*ℤ◌, ◌<ℤ◌, Ok, Err}
use Rattle.std.proofs.Common.{sym, subst, ◌∙◌, lit≤, SFits}
use Rattle.std.proofs.Math.Path.{ap}
use Rattle.std.specs.Int.{w64}
use Rattle.integers.specs.declared.Range.{Range}
use Rattle.integers.proofs.Order.{ints}
use Rattle.integers.specs.Range.{Within}
use Rattle.integers.proofs.RangeLaws.{within_sub, within_mul}
use Rattle.integers.specs.Machine.{back64}
use Rattle.integers.proofs.Machine.{within_fits, within_read, within_back}
use Rattle.integers.specs.Inverse.{inverse}
use Rattle.model.specs.declared.Rule.{Rule}
use Rattle.model.specs.declared.Rule.TheVariants.{Set, Carry}
use Rattle.set_point_rules.specs.declared.SetPoint.{SetPoint}
use Rattle.set_point_rules.specs.Euclid.{quotient, remainder}
use Rattle.set_point_rules.proofs.Euclid.{quotient_pos, quotient_neg, quotient_within}
use Rattle.set_point_rules.specs.SetPoint.{allowed, solution, set_point}
use Rattle.answer_rules.specs.declared.Reason.TheVariants.{NoSetPoint}
use Rattle.answer_rules.specs.declared.Refusal.{Refusal}
use Rattle.answer_rules.specs.Refusal.{Checked, at}
use Rattle.answer_rules.specs.Stages.{demand}
use Rattle.answer_rules.proofs.Stages.{demand_where}

-- a conjunction as code finds it: its first part holds, so it is the second; or its first part does not
pub conj_second : {t u : Bool} (a b : Bool) → t ≡ a → t ≡ true → u ≡ b → u ≡ (a && b)
conj_second a b e h k = k ∙ sym (ap (λ (c : Bool). c && b) (sym e ∙ h))

pub conj_first : {t : Bool} (a b : Bool) → t ≡ a → t ≡ false → t ≡ (a && b)
conj_first a b e h = h ∙ sym (ap (λ (c : Bool). c && b) (sym e ∙ h))

-- the wanted value alone, as a range
abbrev pub alone : ℤ → Range
alone y = record { low = y; high = y }

-- the end of its inverse that is the quotient
high_quotient : (f b y : ℤ) → pos 0 <ℤ f → (inverse f b (alone y)).high ≡ quotient (y -ℤ b) f
unfolding inverse
high_quotient (pos m) b y h = sym (quotient_pos (y -ℤ b) (pos m) h)
high_quotient (negsuc m) b y h = absurd h.lt

low_quotient : (f b y : ℤ) → f <ℤ pos 0 → (inverse f b (alone y)).low ≡ quotient (y -ℤ b) f
unfolding inverse
low_quotient (pos m) b y h = absurd (omega ints)
low_quotient (negsuc m) b y h = sym (quotient_neg (y -ℤ b) (negsuc m) h)

-- the same, read back from bits
module _ {f b y : ℤ} {r : Range} (wf : Within 100 f) (wb : Within 200000000 b) (wy : Within 1000000 y) (e : r ≡ inverse (back64 f) (back64 b) (alone (back64 y))) where
  end_read : (z : ℤ) → z ≡ quotient (back64 y -ℤ back64 b) (back64 f) → back64 z ≡ quotient (y -ℤ b) f
  end_read z d =
      let n = within_sub (within_back (lit≤ tt) wy) (within_back (lit≤ tt) wb) in
      let rf = within_read (lit≤ tt) wf in
      let rb = within_read (lit≤ tt) wb in
      let ry = within_read (lit≤ tt) wy in
      within_read (lit≤ tt) (subst (Within 201000000) (sym d) (quotient_within (back64 f) n)) ∙ d ∙ (λ i. quotient (ry i -ℤ rb i) (rf i))

  pub high_old : pos 0 <ℤ back64 f → back64 r.high ≡ quotient (y -ℤ b) f
  high_old h = end_read r.high (ap (λ (q : Range). q.high) e ∙ high_quotient (back64 f) (back64 b) (back64 y) h)

  pub low_old : back64 f <ℤ pos 0 → back64 r.low ≡ quotient (y -ℤ b) f
  low_old h = end_read r.low (ap (λ (q : Range). q.low) e ∙ low_quotient (back64 f) (back64 b) (back64 y) h)

-- Everything that is computed on the way to the remainder fits, read back from bits, and the remainder is what the quotient leaves.
module _ {f b y x : ℤ} (wf : Within 100 f) (wb : Within 200000000 b) (wy : Within 1000000 y) (e : x ≡ quotient (back64 y -ℤ back64 b) (back64 f)) where
  dividend_within : Within 201000000 (back64 y -ℤ back64 b)
  dividend_within = within_sub (within_back (lit≤ tt) wy) (within_back (lit≤ tt) wb)

  old_within : Within 201000000 x
  old_within = subst (Within 201000000) (sym e) (quotient_within (back64 f) dividend_within)

  product_within : Within 20100000000 (back64 f *ℤ back64 x)
  product_within = within_mul (within_back (lit≤ tt) wf) (within_back (lit≤ tt) old_within)

  left_within : Within 20301000000 (back64 (back64 y -ℤ back64 b) -ℤ back64 (back64 f *ℤ back64 x))
  left_within = within_sub (within_back (lit≤ tt) dividend_within) (within_back (lit≤ tt) product_within)

  pub dividend_fits : SFits w64 (back64 y -ℤ back64 b)
  dividend_fits = within_fits dividend_within (lit≤ tt)

  pub product_fits : SFits w64 (back64 f *ℤ back64 x)
  product_fits = within_fits product_within (lit≤ tt)

  pub left_fits : SFits w64 (back64 (back64 y -ℤ back64 b) -ℤ back64 (back64 f *ℤ back64 x))
  left_fits = within_fits left_within (lit≤ tt)

  -- the answer with an old value and a remainder
  abbrev point : ℤ → ℤ → SetPoint
  point z r = record { old = z; remainder = r }

  pub divided : point (back64 x) (back64 (back64 (back64 y -ℤ back64 b) -ℤ back64 (back64 f *ℤ back64 x))) ≡ solution f b y
  unfolding remainder
  divided =
      let n = back64 y -ℤ back64 b in
      let p = back64 f *ℤ back64 x in
      let first = within_read (lit≤ tt) left_within ∙ ap (λ (z : ℤ). z -ℤ back64 p) (within_read (lit≤ tt) dividend_within) in
      let second = ap (λ (z : ℤ). n -ℤ z) (within_read (lit≤ tt) product_within) in
      let old = within_read (lit≤ tt) old_within ∙ e in
      let rf = within_read (lit≤ tt) wf in
      let rb = within_read (lit≤ tt) wb in
      let ry = within_read (lit≤ tt) wy in
      ap (point (back64 x)) (first ∙ second) ∙ ap (λ (z : ℤ). point z (n -ℤ (back64 f *ℤ z))) old ∙ (λ i. solution (rf i) (rb i) (ry i))

-- a rule that is no carry, or one beyond the limits, is refused; any other has what the division gives
pub point_set : {rule : Rule} {b : ℤ} {why : Refusal} (y : ℤ) → rule ≡ Set b → why ≡ at NoSetPoint 0 → Err why ≡ set_point rule y
unfolding set_point
point_set y e q = ap Err q ∙ sym (ap (λ (r : Rule). set_point r y) e)

pub point_beyond : {rule : Rule} {source : ℕ} {f b : ℤ} {t : Bool} {why : Refusal} {r : Checked} (y : ℤ) → rule ≡ Carry source f b → t ≡ allowed f b y
    → r ≡ demand t (at NoSetPoint 0) → r ≡ Err why → Err why ≡ set_point rule y
unfolding set_point
point_beyond {f = f} {b = b} {t = t} y e h d k =
    let (u, q) = demand_where t (at NoSetPoint 0) (sym d ∙ k) in
    ap Err q ∙ sym (ap (λ (r : Rule). set_point r y) e ∙ ap (λ (t : Bool). cond t (Ok (solution f b y)) (Err (at NoSetPoint 0))) (sym h ∙ u))

pub point_divided : {rule : Rule} {source : ℕ} {f b : ℤ} {p : SetPoint} (y : ℤ) → rule ≡ Carry source f b → allowed f b y ≡ true
    → p ≡ solution f b y → Ok p ≡ set_point rule y
unfolding set_point
point_divided {f = f} {b = b} y e h k =
    ap Ok k ∙ sym (ap (λ (r : Rule). set_point r y) e ∙ ap (λ (t : Bool). cond t (Ok (solution f b y)) (Err (at NoSetPoint 0))) h)
