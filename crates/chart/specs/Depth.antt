-- The settling depth of a chart as an answer (document 02, U6): that of an accepted chart, else the refusal of its check.
use Rattle.std.specs.Prelude.{◌≡◌, refl, ◌↔◌, List, ℕ, Result, Ok, Err}
use Rattle.std.proofs.Common.{sym, ap, subst, ◌∙◌}
use Rattle.answer_rules.specs.declared.Refusal.{Refusal}
use Rattle.answer_rules.specs.Refusal.{Checked}
use Rattle.answer_rules.specs.Stages.{and_then}
use Rattle.model.specs.Chart.{ChartRules}
use Rattle.model.specs.ChartDepth.{depth_of, Settles}
use Rattle.model.proofs.ChartDepthLaws.{depth_settles}
use Rattle.chart.specs.Check.{classes_check, form_check, chart_check}
use Rattle.chart.specs.Accepted.{accepted}

-- the refusal, or the depth
unfoldable pub depth_by : Checked → ℕ → Result ℕ Refusal
depth_by (Ok _) d = Ok d
depth_by (Err why) d = Err why

-- The answer.
unfoldable pub chart_depth : List ℕ → Result ℕ Refusal
chart_depth c = depth_by (chart_check c) (depth_of c)

-- Every chart that obeys the chart rules is answered its settling depth,
pub depth_accepted : (c : List ℕ) → ChartRules c → chart_depth c ≡ Ok (depth_of c)
unfolding chart_depth depth_by
depth_accepted c R = ap (λ (k : Checked). depth_by k (depth_of c)) ((accepted c).1 R)

-- and what is answered is that of such a chart.
pub depth_answered : (c : List ℕ) (d : ℕ) → chart_depth c ≡ Ok d → ChartRules c × (d ≡ depth_of c) × Settles c d
unfolding chart_depth depth_by
depth_answered c d e = go (chart_check c) refl e
  where
    go : (r : Checked) → chart_check c ≡ r → depth_by r (depth_of c) ≡ Ok d → ChartRules c × (d ≡ depth_of c) × Settles c d
    go (Ok _) k q =
        let R = (accepted c).0 k in
        let z : depth_of c ≡ d = cc in
        (R, sym z, subst (Settles c) z (depth_settles c R))
    go (Err why) k q = absurd cc

-- a refusal is that of the check, and back
pub depth_refused : (c : List ℕ) (why : Refusal) → (chart_depth c ≡ Err why) ↔ (chart_check c ≡ Err why)
unfolding chart_depth depth_by
depth_refused c why = go (chart_check c) refl
  where
    go : (r : Checked) → chart_check c ≡ r → (depth_by r (depth_of c) ≡ Err why) ↔ (r ≡ Err why)
    go (Ok _) k = (λ e. absurd cc, λ e. absurd cc)
    go (Err why') k = (λ e. cc, λ e. cc)

-- the answer as the code finds it: refused before 14, and the rest
pub depth_form : (c : List ℕ) {why : Refusal} {r : Checked} → r ≡ form_check c → r ≡ Err why → Err why ≡ chart_depth c
unfolding chart_depth chart_check depth_by and_then
depth_form c e h = sym (ap (λ (k : Checked). depth_by (and_then k (classes_check c)) (depth_of c)) (sym e ∙ h))

pub depth_rest : (c : List ℕ) {r : Checked} {d : Result ℕ Refusal} → r ≡ form_check c → r ≡ Ok tt → d ≡ depth_by (classes_check c) (depth_of c) → d ≡ chart_depth c
unfolding chart_depth chart_check and_then
depth_rest c e h k = k ∙ sym (ap (λ (x : Checked). depth_by (and_then x (classes_check c)) (depth_of c)) (sym e ∙ h))

pub depth_done : {r a : Checked} {d e : ℕ} → r ≡ a → r ≡ Ok tt → d ≡ e → Ok d ≡ depth_by a e
unfolding depth_by
depth_done {e = e} h k q = ap Ok q ∙ ap (λ (x : Checked). depth_by x e) (sym k ∙ h)

pub depth_turned : {r a : Checked} {why : Refusal} (e : ℕ) → r ≡ a → r ≡ Err why → Err why ≡ depth_by a e
unfolding depth_by
depth_turned e h k = ap (λ (x : Checked). depth_by x e) (sym k ∙ h)

-- the check, from the depth's answer
pub check_done : (c : List ℕ) {r : Result ℕ Refusal} {d : ℕ} → r ≡ chart_depth c → r ≡ Ok d → Ok tt ≡ chart_check c
unfolding chart_depth depth_by
check_done c {r} {d} e h = go (chart_check c) (sym h ∙ e)
  where
    go : (k : Checked) → Ok d ≡ depth_by k (depth_of c) → Ok tt ≡ k
    go (Ok _) q = refl
    go (Err why) q = absurd cc

pub check_turned : (c : List ℕ) {r : Result ℕ Refusal} {why : Refusal} → r ≡ chart_depth c → r ≡ Err why → Err why ≡ chart_check c
check_turned c {why = why} e h = sym ((depth_refused c why).0 (sym e ∙ h))
