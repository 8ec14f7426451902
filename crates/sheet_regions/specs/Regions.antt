-- How the code's searches meet the checks 5, 6 and 7.
use Rattle.std.specs.Prelude.{◌≡◌, refl, Bool, false, not, List, ℕ, T, ltb}
use Rattle.std.proofs.Common.{sym, ap, ◌∙◌, arith, ltb→lt, lt→ltb, eq-eqb, ne_eqb}
use Rattle.integers.specs.Range.{vacant, meet}
use Rattle.systems.specs.Search.{all}
use Rattle.systems.proofs.Laws.{same_test}
use Rattle.answer_rules.specs.declared.Reason.{Reason}
use Rattle.answer_rules.specs.declared.Reason.TheVariants.{Start}
use Rattle.answer_rules.specs.Refusal.{Checked, at}
use Rattle.answer_rules.specs.Stages.{demand}
use Rattle.model.specs.Sheet.{region_number}
use Rattle.sheet_bytes.specs.declared.Shape.{Shape}
use Rattle.sheet_bytes.specs.declared.Config.{Config}
use Rattle.sheet_rules.specs.Layout.{counters_of, regions_of, state_at}
use Rattle.sheet_rules.specs.Decode.{range_at, start_of, decode}
use Rattle.sheet_bytes.specs.Three.{Read, config_meant, start_three, start_meant}
use Rattle.sheet_rules.specs.Check.{overlap, covered, check_start}
use Rattle.sheet_rules.proofs.Accepted.{covered_is, regions_count}

-- whether the ranges of a counter meet
abbrev pub meeting : List ℕ → ℕ → ℕ → ℕ → Bool
meeting s i j v = not (vacant (meet (range_at s i v) (range_at s j v)))

-- states that are the same, or not
pub overlap_same : (s : List ℕ) (i j a b : ℕ) {t : Bool} → a ≡ state_at s i → b ≡ state_at s j → a ≡ b → t ≡ all (meeting s i j) (counters_of s) → t ≡ overlap s i j
unfolding overlap
overlap_same s i j a b {t} p q e h = rw (eq-eqb (state_at s i) (state_at s j) (sym p ∙ e ∙ q)) h

pub overlap_other : (s : List ℕ) (i j a b : ℕ) → a ≡ state_at s i → b ≡ state_at s j → (a ≡ b → ⊥) → false ≡ overlap s i j
unfolding overlap
overlap_other s i j a b p q n = rw (ne_eqb (state_at s i) (state_at s j) (λ e. n (p ∙ e ∙ sym q))) refl

-- one region's stage
pub seen_stage : {r : Checked} {t u : Bool} (n : Reason) {p q : ℕ} → r ≡ demand (not t) (at n p) → t ≡ u → p ≡ q → r ≡ demand (not u) (at n q)
seen_stage {r} {t} {u} n {p} {q} e h k = e ∙ ap (λ (x : Bool). demand (not x) (at n p)) h ∙ ap (λ (x : ℕ). demand (not u) (at n x)) k

-- the start's stage
pub start_stage : {s : List ℕ} {shape : Shape} (R : Read s shape) {r : Checked} {x : Config} {i : ℕ} → x ≡ start_three s
    → i ≡ region_number (decode s) (config_meant (counters_of s) x) → r ≡ demand (ltb i shape.regions) (at Start 8) → r ≡ check_start s
unfolding check_start
start_stage {s} {shape} R {r} {x} {i} e h k =
    let y : config_meant (counters_of s) x ≡ start_of s = ap (config_meant (counters_of s)) e ∙ start_meant s R.shaped in
    k
    ∙ ap (λ (m : ℕ). demand (ltb m shape.regions) (at Start 8)) (h ∙ ap (region_number (decode s)) y)
    ∙ ap (λ (m : ℕ). demand (ltb (region_number (decode s) (start_of s)) m) (at Start 8)) R.regions_are
    ∙ ap (λ (t : Bool). demand t (at Start 8)) (same_test (ltb (region_number (decode s) (start_of s)) (regions_of s)) (covered s (start_of s)) (to, from))
  where
    to : T (ltb (region_number (decode s) (start_of s)) (regions_of s)) → T (covered s (start_of s))
    to t =
        let n = regions_count s in
        let l = ltb→lt (region_number (decode s) (start_of s)) (regions_of s) t in
        (covered_is s (start_of s)).1 (omega arith)

    from : T (covered s (start_of s)) → T (ltb (region_number (decode s) (start_of s)) (regions_of s))
    from t =
        let n = regions_count s in
        let l = (covered_is s (start_of s)).0 t in
        lt→ltb (region_number (decode s) (start_of s)) (regions_of s) (omega arith)
