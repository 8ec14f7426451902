-- What is promised of set-points.
use Rattle.std.specs.Prelude.{◌≡◌, refl, Bool, true, false, cond, ◌&&◌, not, List, ℕ, ◌+◌, ◌≤◌, get_or, ℤ, pos, negsuc, nat_abs, ◌-ℤ◌, ◌*ℤ◌, ◌≤ℤ◌, ◌<ℤ◌, Ok, Err}
use Rattle.std.proofs.Common.{sym, ap, subst, ◌∙◌}
use Rattle.integers.specs.Order.{up, dn}
use Rattle.integers.proofs.Order.{ints, eq_out, add_parts, sub_parts}
use Rattle.integers.specs.Range.{near, Within}
use Rattle.integers.proofs.RangeLaws.{within_size, within_out, within_sub, near_within, within_near, near_zero, not_near_zero}
use Rattle.integers.specs.Inverse.{carried, Least, Greatest}
use Rattle.integers.proofs.Inverse.{greatest_pos, least_neg}
use Rattle.systems.proofs.Laws.{both, true_is, is_true}
use Rattle.model.specs.declared.Rule.{Rule}
use Rattle.model.specs.declared.Rule.TheVariants.{Set, Carry}
use Rattle.model.specs.Sheet.{applied, RuleFits, carry_fits}
use Rattle.set_point_rules.specs.declared.SetPoint.{SetPoint}
use Rattle.set_point_rules.specs.Euclid.{Euclid, quotient, remainder}
use Rattle.set_point_rules.proofs.Euclid.{divides, divides_only, quotient_pos, quotient_neg, quotient_within}
use Rattle.set_point_rules.specs.SetPoint.{factor_allowed, allowed, solution, set_point, Asked, asked, Answers}
use Rattle.answer_rules.specs.declared.Reason.TheVariants.{NoSetPoint}
use Rattle.answer_rules.specs.Refusal.{at}

-- the limits as a test and as propositions
pub allowed_limits : (f b y : ℤ) → allowed f b y ≡ true → (f ≡ pos 0 → ⊥) × (Within 100 f × (Within 200000000 b × Within 1000000 y))
unfolding allowed factor_allowed
allowed_limits f b y e =
    let (t, wy) = (both (factor_allowed f && near 200000000 b) (near 1000000 y)).0 (true_is _ e) in
    let (u, wb) = (both (factor_allowed f) (near 200000000 b)).0 t in
    let (wf, n) = (both (near 100 f) (not (near 0 f))).0 u in
    (near_zero f (is_true _ n), (near_within 100 f (is_true _ wf), (near_within 200000000 b (is_true _ wb), near_within 1000000 y (is_true _ wy))))

limits_allowed : {f b y : ℤ} → (f ≡ pos 0 → ⊥) → Within 100 f → Within 200000000 b → Within 1000000 y → allowed f b y ≡ true
unfolding allowed factor_allowed
limits_allowed {f} {b} {y} n wf wb wy =
    rw (not_near_zero f n, within_near 100 f wf, within_near 200000000 b wb, within_near 1000000 y wy, allowed, factor_allowed) refl

-- a carry rule within the limits is answered, by quotient and remainder
pub asked_answered : {source : ℕ} {f b y : ℤ} → Asked (Carry source f b) y
    → set_point (Carry source f b) y ≡ Ok (solution f b y)
unfolding set_point
asked_answered {source} {f} {b} {y} (asked n wf wb wy) =
    ap (λ (t : Bool). cond t (Ok (solution f b y)) (Err (at NoSetPoint 0))) (limits_allowed n wf wb wy)

-- every other rule and wanted value is refused
pub unasked_refused : (rule : Rule) (y : ℤ) → (Asked rule y → ⊥) → set_point rule y ≡ Err (at NoSetPoint 0)
unfolding set_point
unasked_refused (Set b) y h = refl
unasked_refused (Carry source f b) y h = go (allowed f b y) refl
  where
    go : (t : Bool) → allowed f b y ≡ t → cond t (Ok (solution f b y)) (Err (at NoSetPoint 0)) ≡ Err (at NoSetPoint 0)
    go true e = let (n, (wf, (wb, wy))) = allowed_limits f b y e in absurd (h (asked n wf wb wy))
    go false e = refl

-- so what is answered was asked so
pub answered_asked : (rule : Rule) (y x r : ℤ) → set_point rule y ≡ Ok (record { old = x; remainder = r }) → Asked rule y
unfolding set_point
answered_asked (Set b) y x r e = absurd cc
answered_asked (Carry source f b) y x r e = go (allowed f b y) refl e
  where
    go : (t : Bool) → allowed f b y ≡ t → cond t (Ok (solution f b y)) (Err (at NoSetPoint 0)) ≡ Ok (record { old = x; remainder = r }) → Asked (Carry source f b) y
    go true d k = let (n, (wf, (wb, wy))) = allowed_limits f b y d in asked n wf wb wy
    go false d k = absurd cc

-- What is promised holds of quotient and remainder.
quotient_answers : (f b y : ℤ) → (f ≡ pos 0 → ⊥) → Answers f b y (quotient (y -ℤ b) f) (remainder (y -ℤ b) f)
quotient_answers f b y n =
    let x = quotient (y -ℤ b) f in
    let r = remainder (y -ℤ b) f in
    let E = divides (y -ℤ b) f n in
    record {
      divided = E;
      only = λ u v D. divides_only (y -ℤ b) f u v n D;
      gives = eq_out (carried f b x) (y -ℤ r) (omega (ints, E.sum, add_parts (f *ℤ x) b, add_parts (f *ℤ x) r, sub_parts y b, sub_parts y r));
      positive = λ h. subst (Greatest (λ z. carried f b z ≤ℤ y)) (sym (quotient_pos (y -ℤ b) f h)) (greatest_pos f b y h);
      negative = λ h. subst (Least (λ z. carried f b z ≤ℤ y)) (sym (quotient_neg (y -ℤ b) f h)) (least_neg f b y h);
    }

-- and so of every answer
pub set_point_answers : (source : ℕ) (f b y x r : ℤ) → set_point (Carry source f b) y ≡ Ok (record { old = x; remainder = r }) → Answers f b y x r
set_point_answers source f b y x r e = go (answered_asked (Carry source f b) y x r e)
  where
    go : Asked (Carry source f b) y → Answers f b y x r
    go (asked n wf wb wy) =
        let d = asked_answered {source = source} (asked n wf wb wy) in
        let s : ◌≡◌ {A = SetPoint} (solution f b y) (record { old = x; remainder = r }) = cc in
        let p : quotient (y -ℤ b) f ≡ x = ap (λ (p : SetPoint). p.old) s in
        let q : remainder (y -ℤ b) f ≡ r = ap (λ (p : SetPoint). p.remainder) s in
        subst (λ (u : ℤ). Answers f b y u r) p (subst (λ (v : ℤ). Answers f b y (quotient (y -ℤ b) f) v) q (quotient_answers f b y n))

-- In the words of a sheet: where the rule's source has the old value x, the counter's new value is y - r.
pub rule_gives : (source : ℕ) (f b y x r : ℤ) (old : List ℤ) → set_point (Carry source f b) y ≡ Ok (record { old = x; remainder = r }) → get_or old source (pos 0) ≡ x
    → applied (Carry source f b) old ≡ y -ℤ r
unfolding applied
rule_gives source f b y x r old e d = ap (carried f b) d ∙ (set_point_answers source f b y x r e).gives

-- every carry rule of a sheet of either version is answered, for every value that a bound may have
pub fits_asked : {V# source : ℕ} {f b y : ℤ} → RuleFits V# (Carry source f b) → Within 1000000 y → Asked (Carry source f b) y
fits_asked (carry_fits l n wf wb) wy = asked n wf wb wy

-- how large an answer can be
pub answer_small : (source : ℕ) (f b y x r : ℤ) → set_point (Carry source f b) y ≡ Ok (record { old = x; remainder = r }) → Within 201000000 x × Within 99 r
answer_small source f b y x r e = go (answered_asked (Carry source f b) y x r e) (set_point_answers source f b y x r e).divided
  where
    small : (f r : ℤ) → Within 100 f → pos 0 ≤ℤ r → r <ℤ pos (nat_abs f) → up r + dn r ≤ 99
    small (pos m) (pos k) w h l = omega (ints, within_size w)
    small (negsuc m) (pos k) w h l = omega (ints, within_size w)
    small f (negsuc k) w h l = absurd h.le

    go : Asked (Carry source f b) y → Euclid (y -ℤ b) f x r → Within 201000000 x × Within 99 r
    go (asked n wf wb wy) E =
        let q = (divides_only (y -ℤ b) f x r n E).0 in
        (subst (Within 201000000) (sym q) (quotient_within f (within_sub wy wb)), within_out 99 r (small f r wf E.from_zero E.below))
