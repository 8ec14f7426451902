-- Two regions of a sheet overlap exactly when some configuration is in both.
use Rattle.std.specs.Prelude.{◌≡◌, refl, ◌↔◌, List, [], ◌∷◌, eqb, length, get_or, pos, Ok}
use Rattle.std.proofs.Math.Path.{sym, subst}
use Rattle.std.proofs.Common.{ap, ◌∙◌, arith, not-suc-le-zero, le_of_suc-le-suc, eqb→eq, T_not}
use Rattle.std.proofs.Math.Bool.{not}
use Prim.Native.Nat.{ℕ, zero, suc, ◌<◌}
use Rattle.std.proofs.Math.Dec.{T, eqb_refl, not_T}
use Rattle.std.proofs.Math.IntN.{ℤ}
use borrow.Author.Tests.{not-true as untrue}
use Rattle.integers.specs.declared.Range.{Range}
use Rattle.integers.specs.Range.{contains, meet, vacant}
use Rattle.integers.proofs.RangeLaws.{meet_contains, vacant_none, vacant_not}
use Rattle.systems.specs.Search.{any, all}
use Rattle.systems.proofs.Laws.{both, is_false, not_true, any_true, all_true}
use Rattle.systems.proofs.Lists.{length_each, get_d_each}
use Rattle.answer_rules.specs.declared.Reason.TheVariants.{Overlap}
use Rattle.answer_rules.specs.Refusal.{at}
use Rattle.answer_rules.specs.Stages.{each}
use Rattle.answer_rules.proofs.Stages.{demand_fine, each_fine}
use Rattle.model.specs.Sheet.{Configuration, within, in_box}
use Rattle.model.specs.Blocks.{empty}
use Rattle.model.proofs.Boxes.{within_cons, in_box_parts}
use Rattle.sheet_rules.specs.Layout.{counters_of, regions_of, state_at, region_place}
use Rattle.sheet_rules.specs.Decode.{listed, range_at, box_at}
use Rattle.sheet_rules.specs.Check.{overlap, check_overlap}

-- values lie within ranges exactly when each lies in its own
pub within_each : (rs : List Range) (xs : List ℤ)
    → T (within rs xs) ↔ ((length xs ≡ length rs) × ((v : ℕ) → v < length rs → T (contains (get_or rs v empty) (get_or xs v (pos 0)))))
unfolding within
within_each [] [] = (λ t. (refl, λ v h. absurd (not-suc-le-zero h)), λ p. tt)
within_each [] (x ∷ xs) = (λ t. absurd t, λ p. let e = p.0 in absurd (omega arith))
within_each (r ∷ rs) [] = (λ t. absurd t, λ p. let e = p.0 in absurd (omega arith))
within_each (r ∷ rs) (x ∷ xs) =
    let w = within_cons r rs x xs in
    let i = within_each rs xs in (
      λ t. let (c, u) = w.0 t in let (e, f) = i.0 u in (ap suc e, more c f),
      λ (e, f). w.1 (f zero (omega arith), i.1 (omega arith, λ v h. f (suc v) (omega arith))),
    )
  where
    more : T (contains r x) → ((v : ℕ) → v < length rs → T (contains (get_or rs v empty) (get_or xs v (pos 0))))
        → (v : ℕ) → v < suc (length rs) → T (contains (get_or (r ∷ rs) v empty) (get_or (x ∷ xs) v (pos 0)))
    more c f zero h = c
    more c f (suc v) h = f v (le_of_suc-le-suc h)

pub within_listed : (f : ℕ → Range) (n : ℕ) (xs : List ℤ)
    → T (within (listed f n) xs) ↔ ((length xs ≡ n) × ((v : ℕ) → v < n → T (contains (f v) (get_or xs v (pos 0)))))
within_listed f n xs =
    let w = within_each (listed f n) xs in
    let l = length_each f n in (
      λ t.
          let (e, g) = w.0 t in
          (e ∙ l, λ v h. subst (λ (r : Range). T (contains r (get_or xs v (pos 0)))) (get_d_each f n empty v h) (g v (omega arith))),
      λ (e, g).
          w.1 (
            e ∙ sym l,
            λ v h. subst (λ (r : Range). T (contains r (get_or xs v (pos 0)))) (sym (get_d_each f n empty v (omega arith))) (g v (omega arith)),
          ),
    )

module _ (s : List ℕ) where
  -- a configuration is in region i
  pub in_box_at : (i : ℕ) (x : Configuration)
      → T (in_box (box_at s i) x)
      ↔ ((state_at s i ≡ x.state) × ((length x.values ≡ counters_of s) × ((v : ℕ) → v < counters_of s → T (contains (range_at s i v) (get_or x.values v (pos 0))))))
  unfolding box_at
  in_box_at i x =
      let p = in_box_parts (box_at s i) x in
      let w = within_listed (range_at s i) (counters_of s) x.values in
      (λ t. let (e, u) = p.0 t in (e, w.0 u), λ (e, u). p.1 (e, w.1 u))

  -- regions with a configuration in common overlap,
  pub overlap_in : (i j : ℕ) (x : Configuration) → T (in_box (box_at s i) x) → T (in_box (box_at s j) x) → T (overlap s i j)
  unfolding overlap
  overlap_in i j x t u =
      let (e, (l, f)) = (in_box_at i x).0 t in
      let (d, (m, g)) = (in_box_at j x).0 u in
      let a = (all_true (λ v. not (vacant (meet (range_at s i v) (range_at s j v)))) (counters_of s)).1
      (λ v h. not_T (vacant (meet (range_at s i v) (range_at s j v)))
      (λ n. vacant_none (meet (range_at s i v) (range_at s j v)) (get_or x.values v (pos 0)) n ((meet_contains (range_at s i v) (range_at s j v) (get_or x.values v (pos 0))).1 (f v h, g v h)))) in
      let q : state_at s i ≡ state_at s j = e ∙ sym d in
      (both (eqb (state_at s i) (state_at s j)) (all (λ v. not (vacant (meet (range_at s i v) (range_at s j v)))) (counters_of s))).1
      (subst (λ (k : ℕ). T (eqb (state_at s i) k)) q (eqb_refl (state_at s i)), a)

  -- and regions that overlap have one.
  pub overlap_out : (i j : ℕ) → T (overlap s i j) → (x : Configuration) × T (in_box (box_at s i) x) × T (in_box (box_at s j) x)
  unfolding overlap
  overlap_out i j t =
      let (e, a) = (both (eqb (state_at s i) (state_at s j)) (all (λ v. not (vacant (meet (range_at s i v) (range_at s j v)))) (counters_of s))).0 t in
      let n = length_each low (counters_of s) in
      let f : (v : ℕ) → v < counters_of s → T (contains (meet (range_at s i v) (range_at s j v)) (get_or (listed low (counters_of s)) v (pos 0))) =
      λ v h. subst (λ (z : ℤ). T (contains (meet (range_at s i v) (range_at s j v)) z)) (sym (get_d_each low (counters_of s) (pos 0) v h))
      (vacant_not (meet (range_at s i v) (range_at s j v)) (is_false (vacant (meet (range_at s i v) (range_at s j v)))
      (T_not (vacant (meet (range_at s i v) (range_at s j v))) ((all_true (λ v. not (vacant (meet (range_at s i v) (range_at s j v)))) (counters_of s)).0 a v h)))) in
      let g : (v : ℕ) → v < counters_of s → T (contains (range_at s i v) (get_or (listed low (counters_of s)) v (pos 0))) × T (contains (range_at s j v) (get_or (listed low (counters_of s)) v (pos 0))) =
      λ v h. (meet_contains (range_at s i v) (range_at s j v) (get_or (listed low (counters_of s)) v (pos 0))).0 (f v h) in (
        record { state = state_at s i; values = listed low (counters_of s) },
        (in_box_at i (record { state = state_at s i; values = listed low (counters_of s) })).1 (refl, (n, λ v h. (g v h).0)),
        (in_box_at j (record { state = state_at s i; values = listed low (counters_of s) })).1 (sym (eqb→eq (state_at s i) (state_at s j) e), (n, λ v h. (g v h).1)),
      )
    where
      low : ℕ → ℤ
      low v = (meet (range_at s i v) (range_at s j v)).low

  pub overlap_exact : (i j : ℕ) → T (overlap s i j) ↔ ((x : Configuration) × T (in_box (box_at s i) x) × T (in_box (box_at s j) x))
  overlap_exact i j = (overlap_out i j, λ (x, t, u). overlap_in i j x t u)

  -- Regions that passed check 6 have no configuration in common.
  pub regions_apart : each (check_overlap s) (regions_of s) ≡ Ok tt → (i j : ℕ) (x : Configuration) → i < j → j < regions_of s
      → T (in_box (box_at s i) x) → T (in_box (box_at s j) x) → ⊥
  unfolding check_overlap
  regions_apart e i j x h k t u =
      let d = each_fine (check_overlap s) (regions_of s) e j k in
      let n = untrue (any (λ i. overlap s i j) j) (demand_fine (not (any (λ i. overlap s i j) j)) (at Overlap (region_place s j)) d) in
      not_true (any (λ i. overlap s i j) j) n ((any_true (λ i. overlap s i j) j).1 (i, h, overlap_in i j x t u))
