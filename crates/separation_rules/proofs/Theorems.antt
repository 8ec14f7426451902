-- What holds of the evidence on the definitions: there is none just when no sequence of whatever length parts the charts, which for charts that obey the chart
-- rules is so just when their bytes are equal; else it is what is promised of it.
use Rattle.std.specs.Prelude.{◌≡◌, refl, ◌↔◌, Bool, true, false, not, ℕ, ◌+◌, ◌-◌, ◌≤◌, ◌<◌, T, length, Option, Some, None}
use Rattle.std.proofs.Common.{sym, ap, ◌∙◌}
use mathlib.Core.List.{List, ◌∷◌}
use native.Mathlib.Omega.{arith}
use Rattle.integers.specs.LittleEndian.{Bytes}
use Rattle.systems.proofs.Laws.{not_tells}
use Rattle.systems.specs.System.{written, reading, same_reading, Below}
use Rattle.systems.specs.Words.{shorter_lists, first_that, Sooner, shorter, as_long}
use Rattle.systems.proofs.Alike.{reading_tells, reading_parts, alike_to_below}
use Rattle.exploration.proofs.Beside.{alike_beside}
use Rattle.systems.specs.Dictionary.{Found, found, nothing, Shorter}
use Rattle.systems.proofs.Dictionary.{search_sequences, sequence_found}
use Rattle.model.specs.Sheet.{Sheet, sheet_reading, WellFormed}
use Rattle.model.specs.Blocks.{blocks, chart_of}
use Rattle.model.specs.Chart.{actions_of, blocks_of, chart_system, chart_reading, ChartRules}
use Rattle.model.proofs.Rounds.{chart_step_out, chart_closed}
use Rattle.model.proofs.ChartRules.{chart_reading_lem}
use Rattle.model.proofs.Theorems.{chart_entries}
use Rattle.chart_equality.proofs.SameBytes.{same_bytes}
use Rattle.separation_rules.specs.Kept.{Kept}
use Rattle.separation_rules.proofs.Kept.{kept_some, kept_below, kept_sooner, kept_written}
use Rattle.separation_rules.specs.Separation.{parts_charts, evidence, bytes_needed, EqualBehaviour, IsEvidence}
use Rattle.separation_rules.specs.Theorems.{Judges, equal, parted}

pub parts_tells : (c d w : List ℕ) → T (parts_charts c d w) ↔ (chart_reading c w ≡ chart_reading d w → ⊥)
unfolding parts_charts
parts_tells c d w =
    let t = reading_tells (chart_reading c w) (chart_reading d w) in
    let n = not_tells (same_reading (chart_reading c w) (chart_reading d w)) in
    (λ p e. n.0 p (t.1 e), λ f. n.1 (λ p. f (t.0 p)))

-- a sequence that does not part the charts reads the same on both
same_unless : (c d w : List ℕ) → (T (parts_charts c d w) → ⊥) → chart_reading c w ≡ chart_reading d w
unfolding parts_charts
same_unless c d w n = (reading_tells (chart_reading c w) (chart_reading d w)).0 (double (same_reading (chart_reading c w) (chart_reading d w)) n)
  where
    double : (b : Bool) → (T (not b) → ⊥) → T b
    double true f = tt
    double false f = f tt

shorter_than : (u w : List ℕ) {n : ℕ} → Sooner u w → length w < n → length u < n
shorter_than u w (shorter h) l = omega arith
shorter_than u w (as_long e b) l = omega arith

-- The evidence is known where a sequence is known that parts the charts with none before it, or that none does.
pub evidence_some : (c d w : List ℕ) → Shorter (actions_of c) (blocks_of c + blocks_of d) w → (chart_reading c w ≡ chart_reading d w → ⊥)
    → ((v : List ℕ) → Sooner v w → chart_reading c v ≡ chart_reading d v) → evidence c d ≡ Some w
unfolding evidence
evidence_some c d w K n f =
    sequence_found (actions_of c) (blocks_of c + blocks_of d) (parts_charts c d) w K ((parts_tells c d w).1 n) (λ v t r. (parts_tells c d v).0 t (f v r))

pub evidence_none : (c d : List ℕ) → EqualBehaviour c d → evidence c d ≡ None
unfolding evidence
evidence_none c d h = go (first_that (parts_charts c d) (shorter_lists (actions_of c) (blocks_of c + blocks_of d))) (search_sequences (actions_of c) (blocks_of c + blocks_of d) (parts_charts c d))
  where
    go : (o : Option (List ℕ)) → Found Sooner (Shorter (actions_of c) (blocks_of c + blocks_of d)) (parts_charts c d) o → o ≡ None
    go None F = refl
    go (Some w) (found K t f) = absurd ((parts_tells c d w).0 t (h w))

-- All that comes before the evidence reads the same on both charts, its own beginnings too: so of its readings the last entries alone differ.
pub same_before : (c d w v : List ℕ) → IsEvidence c d w → Sooner v w → chart_reading c v ≡ chart_reading d v
same_before c d w v I r = same_unless c d v (λ t. I.first v ((parts_tells c d v).0 t) r)

module _ (c d : List ℕ) (R : ChartRules c) (S : ChartRules d) (e : actions_of c ≡ actions_of d) where
  out_first : (b : ℕ) → actions_of c ≤ b → (i : ℕ) → (chart_system c).step b i ≡ None
  unfolding chart_system
  out_first b h i = chart_step_out c b i h

  out_second : (b : ℕ) → actions_of c ≤ b → (i : ℕ) → (chart_system d).step b i ≡ None
  unfolding chart_system
  out_second b h i = chart_step_out d b i (omega arith)

  -- Where no sequence of fewer actions than both charts have blocks parts them, none of whatever length does.
  pub short_enough : ((w : List ℕ) → Below (actions_of c) w → length w ≤ bytes_needed c d → chart_reading c w ≡ chart_reading d w) → EqualBehaviour c d
  unfolding chart_reading chart_system bytes_needed
  short_enough f =
      alike_beside (blocks_of c) (blocks_of d) (actions_of c) (chart_system c) (chart_system d) (closed c R) (closed d S) out_first out_second 0 0
      R.blocks_some S.blocks_some
      (alike_to_below (chart_system c) (chart_system d) (actions_of c) out_first out_second (blocks_of c + blocks_of d - 1) 0 0 (λ w p. f w p.0 p.1))
    where
      closed : (c : List ℕ) → ChartRules c → (a i j : ℕ) → i < blocks_of c → (chart_system c).step a i ≡ Some j → j < blocks_of c
      closed c R a i j h q = chart_closed c R.blocks_few R.targets_right a i j h q

  -- what sequences without actions that the charts lack read decides
  kept_same : {u v : List ℕ} → Kept (actions_of c) u v → chart_reading c u ≡ chart_reading d u → chart_reading c v ≡ chart_reading d v
  unfolding chart_reading reading
  kept_same {u} {v} U q =
      let (l, e) = reading_parts (chart_system c) (chart_system d) u 0 0 q in
      chart_entries c d R S v 0 0 (entries_eq v l (kept_written (chart_system c) (chart_system d) (actions_of c) out_first out_second U 0 0 e))
    where
      entries_eq : (v : List ℕ) → (chart_system c).label 0 ≡ (chart_system d).label 0 → written (chart_system c) v 0 ≡ written (chart_system d) v 0
          → (reading (chart_system c) v 0).entries ≡ (reading (chart_system d) v 0).entries
      entries_eq v l e = λ i. l i ∷ e i

  entries_same : (w : List ℕ) → (chart_reading c w).entries ≡ (chart_reading d w).entries → chart_reading c w ≡ chart_reading d w
  unfolding chart_reading
  entries_same w q = chart_entries c d R S w 0 0 q

  within : (w : List ℕ) → length w ≤ bytes_needed c d → length w < blocks_of c + blocks_of d
  unfolding bytes_needed
  within w l = omega (arith, R.blocks_some)

  needed : (w : List ℕ) → length w < blocks_of c + blocks_of d → length w ≤ bytes_needed c d
  unfolding bytes_needed
  needed w l = omega arith

  -- "Equal" is said only, and always, when no sequence of whatever length parts the charts; what is given parts them, nothing shorter does and nothing
  -- earlier of its length.
  pub evidence_judges : Judges c d (evidence c d)
  unfolding evidence
  evidence_judges = go (first_that (parts_charts c d) (shorter_lists (actions_of c) (blocks_of c + blocks_of d))) (search_sequences (actions_of c) (blocks_of c + blocks_of d) (parts_charts c d))
    where
      go : (o : Option (List ℕ)) → Found Sooner (Shorter (actions_of c) (blocks_of c + blocks_of d)) (parts_charts c d) o → Judges c d o
      go None (nothing f) = equal (short_enough (λ w b l. same_unless c d w (f w (record { short = within w l; of_actions = b }))))
      go (Some w) (found K t f) =
          let n = (parts_tells c d w).0 t in
          let l = K.short in
          parted
          (record {
            of_actions = K.of_actions;
            short = needed w l;
            parts = n;
            entries_differ = λ q. n (entries_same w q);
            first = λ v p r.
                let (u, U) = kept_some (actions_of c) v in
                f u (record { short = shorter_than u w (kept_sooner U r) l; of_actions = kept_below U }) ((parts_tells c d u).1 (λ q. p (kept_same U q))) (kept_sooner U r);
          })

  -- Nothing is found only where the charts are equal in behaviour.
  pub none_equal : evidence c d ≡ None → EqualBehaviour c d
  none_equal q = go (evidence c d) q evidence_judges
    where
      go : (o : Option (List ℕ)) → o ≡ None → Judges c d o → EqualBehaviour c d
      go None q (equal h) = h
      go (Some w) q J = let z : ◌≡◌ {A = ℕ} 0 1 = cc in absurd (omega arith)

  -- Two charts that obey the chart rules, whoever made them, are equal in behaviour just when their bytes are equal.
  pub equal_bytes : Bytes c → Bytes d → EqualBehaviour c d ↔ (c ≡ d)
  equal_bytes B D = (λ h. (same_bytes c d B D R S).1 (e, λ w b. h w), λ q w. ap (λ (x : List ℕ). chart_reading x w) q)

-- Evidence from the charts of two sheets is evidence of the sheets: their readings differ, and no sequence before it does so.
pub sheets_part : (s t : Sheet) → WellFormed s → WellFormed t → length (blocks s) ≤ 255 → length (blocks t) ≤ 255 → (w : List ℕ) → IsEvidence (chart_of s) (chart_of t) w
    → (sheet_reading s w ≡ sheet_reading t w → ⊥) × ((v : List ℕ) → (sheet_reading s v ≡ sheet_reading t v → ⊥) → Sooner v w → ⊥)
sheets_part s t W Y few few' w I = (
  λ e. I.parts (chart_reading_lem s W few w ∙ e ∙ sym (chart_reading_lem t Y few' w)),
  λ v n r. I.first v (λ e. n (sym (chart_reading_lem s W few v) ∙ e ∙ chart_reading_lem t Y few' v)) r,
)
