-- Making a chart (document 01): what is checked, what is answered, and what the two lent buffers then hold.
use Rattle.std.specs.Prelude.{◌≡◌, refl, true, not, List, ℕ, ◌≤◌, leb, length, Result, Ok, Err}
use Rattle.std.proofs.Common.{sym, ap, subst, ◌∙◌, le-leb, leb-true}
use Rattle.answer_rules.specs.declared.Reason.TheVariants.{Blocks, Room}
use Rattle.answer_rules.specs.declared.Refusal.{Refusal}
use Rattle.answer_rules.specs.Refusal.{Checked, at}
use Rattle.answer_rules.specs.Stages.{demand}
use Rattle.answer_rules.proofs.Stages.{passed, refused, then_fine, demand_fine, demand_passed, demand_failed}
use Rattle.answer_rules.specs.Run.{overwrite}
use Rattle.model.specs.Sheet.{Sheet}
use Rattle.model.specs.Blocks.{blocks, too_many, chart_of, box_list_of}
use Rattle.sheet_rules.specs.Layout.{bound_size}
use Rattle.sheet_rules.specs.Decode.{decode}
use Rattle.sheet_rules.specs.Check.{sheet_check}
use Rattle.making_rules.specs.Making.{rooms_for, block_checks, make_checks, made_by, written_by, Makes}

pub makes_refused : {checks : Checked} {why : Refusal} (w : ℕ) (s : Sheet) (chart list : List ℕ) → Err why ≡ checks → Makes checks w s (Err why) chart chart list list
unfolding made_by written_by
makes_refused {checks} {why} w s chart list e =
    subst (λ (k : Checked). Makes k w s (Err why) chart chart list list) e (record { answer = refl; chart_left = refl; list_left = refl })

pub makes_done : {checks : Checked} (w : ℕ) (s : Sheet) (n : ℕ) (chart chart' list list' : List ℕ) → Ok tt ≡ checks → length (blocks s) ≡ n
    → chart' ≡ overwrite (chart_of s) chart → list' ≡ overwrite (box_list_of w s) list → Makes checks w s (Ok n) chart chart' list list'
unfolding made_by written_by
makes_done {checks} w s n chart chart' list list' e b p q =
    subst (λ (k : Checked). Makes k w s (Ok n) chart chart' list list') e (record { answer = ap Ok (sym b); chart_left = p; list_left = q })

-- the checks behind those of the sheet
pub many_blocks : (w : ℕ) (s : Sheet) (chart list : ℕ) → too_many s ≡ true → Err (at Blocks 0) ≡ block_checks w s chart list
unfolding block_checks
many_blocks w s chart list e = refused _ (sym (demand_failed (not (too_many s)) (at Blocks 0) (ap not e)))

-- rooms that suffice
pub rooms_pass : (c l chart list : ℕ) → c ≤ chart → l ≤ list → Ok tt ≡ rooms_for c l chart list
unfolding rooms_for
rooms_pass c l chart list h k =
    passed (sym (demand_passed (leb c chart) (at Room c) (le-leb c chart h))) (demand_passed (leb l list) (at Room l) (le-leb l list k))

pub rooms_fit : (c l chart list : ℕ) → rooms_for c l chart list ≡ Ok tt → (c ≤ chart) × (l ≤ list)
unfolding rooms_for
rooms_fit c l chart list e =
    let (p, q) = then_fine (demand (leb c chart) (at Room c)) (demand (leb l list) (at Room l)) e in
    (leb-true c chart (demand_fine (leb c chart) (at Room c) p), leb-true l list (demand_fine (leb l list) (at Room l) q))

-- the checks of a refused sheet, and of an accepted one
pub sheet_refused : (s : List ℕ) (chart list : ℕ) {r : Checked} {why : Refusal} → r ≡ sheet_check s → r ≡ Err why → Err why ≡ make_checks s chart list
unfolding make_checks
sheet_refused s chart list e q = refused (block_checks (bound_size s) (decode s) chart list) (sym e ∙ q)

pub sheet_passed : (s : List ℕ) (chart list : ℕ) {r : Checked} → r ≡ sheet_check s → r ≡ Ok tt → block_checks (bound_size s) (decode s) chart list ≡ make_checks s chart list
unfolding make_checks
sheet_passed s chart list e q = passed (sym e ∙ q) refl

pub makes_by : {checks checks' : Checked} (w : ℕ) (s : Sheet) (r : Result ℕ Refusal) (chart chart' list list' : List ℕ) → checks ≡ checks' → Makes checks w s r chart chart' list list'
    → Makes checks' w s r chart chart' list list'
makes_by w s r chart chart' list list' e M = subst (λ (k : Checked). Makes k w s r chart chart' list list') e M

-- an answer that is the same
pub makes_answer : {checks : Checked} {w : ℕ} {s : Sheet} {r r' : Result ℕ Refusal} {chart chart' list list' : List ℕ} → r' ≡ r → Makes checks w s r chart chart' list list'
    → Makes checks w s r' chart chart' list list'
makes_answer e M = record { answer = e ∙ M.answer; chart_left = M.chart_left; list_left = M.list_left }
