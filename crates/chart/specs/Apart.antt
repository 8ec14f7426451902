-- Refusal 14 as the code finds it, from a table of classes.
use Rattle.std.specs.Prelude.{◌≡◌, List, ℕ, eqb, Ok, Err}
use Rattle.std.proofs.Common.{sym, ap, ◌∙◌, eq-eqb, ne_eqb}
use Rattle.systems.proofs.Laws.{run_ext}
use Rattle.answer_rules.specs.declared.Reason.TheVariants.{Unparted}
use Rattle.answer_rules.specs.Refusal.{Checked, at}
use Rattle.answer_rules.specs.Stages.{and_then, demand, each}
use Rattle.answer_rules.proofs.Loops.{demand_yes, demand_no}
use Rattle.model.specs.Chart.{blocks_of, record_at, round_class}
use Rattle.chart_bytes.specs.Classes.{entry, Holds}
use Rattle.chart.specs.Check.{class_check, classes_check}

-- 14: one block
pub class_own : (c : List ℕ) (f : ℕ → ℕ) (j : ℕ) → f j ≡ j → class_check c f j ≡ Ok tt
unfolding class_check
class_own c f j e = sym (demand_yes (at Unparted (record_at c j)) (eq-eqb (f j) j e))

pub class_shared : (c : List ℕ) (f : ℕ → ℕ) (j : ℕ) {p : ℕ} → (f j ≡ j → ⊥) → p ≡ record_at c j → class_check c f j ≡ Err (at Unparted p)
unfolding class_check
class_shared c f j n q = sym (ap (λ (x : ℕ). Err (at Unparted x)) q ∙ demand_no (ne_eqb (f j) j n))

pub class_tested : (c : List ℕ) (f : ℕ → ℕ) (j : ℕ) {p : ℕ} {r : Checked} → p ≡ record_at c j → r ≡ demand (eqb (f j) j) (at Unparted p) → r ≡ class_check c f j
unfolding class_check
class_tested c f j q k = k ∙ ap (λ (x : ℕ). demand (eqb (f j) j) (at Unparted x)) q

-- a table of the classes after all rounds gives the definition's answer
pub table_check : (c f : List ℕ) → Holds c (blocks_of c) f → each (class_check c (entry f)) (blocks_of c) ≡ classes_check c
unfolding classes_check class_check
table_check c f h =
    run_ext (Ok tt) and_then (class_check c (entry f)) (class_check c (round_class c (blocks_of c))) (blocks_of c)
    (λ j l. ap (λ (x : ℕ). demand (eqb x j) (at Unparted (record_at c j))) (h.at j l))
