-- The header's refusals as the code finds them, and what a header that passes says.
use Rattle.std.specs.Prelude.{◌≡◌, refl, Bool, true, false, ◌&&◌, List, [], ◌∷◌, ℕ, ◌+◌, ◌*◌, ◌≤◌, ◌<◌, eqb, leb, length, get_or, Ok, Err}
use Rattle.std.specs.List.{starts_with}
use Rattle.std.proofs.Common.{sym, ap, ◌∙◌, arith, mul-le-mul_right, le-leb, leb-true, eqb-true, eq-eqb, ne_eqb}
use Rattle.std.proofs.lemmas.Bool.{lt-leb}
use Rattle.std.proofs.Math.Decide.{ℕ_discrete}
use Rattle.systems.specs.Search.{run}
use Rattle.answer_rules.specs.declared.Reason.TheVariants.{Header, Count, Length}
use Rattle.answer_rules.specs.Refusal.{Checked, at}
use Rattle.answer_rules.specs.Stages.{and_then, demand}
use Rattle.answer_rules.proofs.Stages.{passed, refused, then_fine, demand_fine, demand_by}
use Rattle.answer_rules.proofs.Loops.{demand_yes, demand_no, and_both, and_first, and_second, all_stop}
use Rattle.model.specs.Blocks.{chart_mark}
use Rattle.model.specs.Chart.{actions_of, blocks_of, record_at}
use Rattle.chart_bytes.specs.Header.{marked, mark_check, count_check, length_check, header_check}
use Rattle.chart_bytes.specs.Shape.{Shaped, Counted}

-- mark and version: bytes compared one after the other, as in the definition
in_turn : (p q r s t : Bool) → (p && (q && (r && (s && (t && true))))) ≡ (((((true && p) && q) && r) && s) && t)
in_turn false q r s t = refl
in_turn true false r s t = refl
in_turn true true false s t = refl
in_turn true true true false t = refl
in_turn true true true true false = refl
in_turn true true true true true = refl

eqb_turned : (a b : ℕ) → eqb a b ≡ eqb b a
eqb_turned a b = go (ℕ_discrete a b)
  where
    go : Dec (a ≡ b) → eqb a b ≡ eqb b a
    go (yes e) = eq-eqb a b e ∙ sym (eq-eqb b a (sym e))
    go (no n) = ne_eqb a b n ∙ sym (ne_eqb b a (λ d. n (sym d)))

pub mark_begins : (c : List ℕ) → 7 ≤ length c → starts_with eqb c (66 ∷ 67 ∷ 72 ∷ 1 ∷ 0 ∷ []) ≡ marked c
unfolding marked run
mark_begins (a ∷ b ∷ d ∷ e ∷ f ∷ rest) h =
    in_turn (eqb 66 a) (eqb 67 b) (eqb 72 d) (eqb 1 e) (eqb 0 f)
    ∙ simp (eqb_turned 66 a, eqb_turned 67 b, eqb_turned 72 d, eqb_turned 1 e, eqb_turned 0 f)
mark_begins (a ∷ b ∷ d ∷ e ∷ []) h = absurd (omega arith)
mark_begins (a ∷ b ∷ d ∷ []) h = absurd (omega arith)
mark_begins (a ∷ b ∷ []) h = absurd (omega arith)
mark_begins (a ∷ []) h = absurd (omega arith)
mark_begins [] h = absurd (omega arith)

-- whatever the length: one byte decides, and where four are right the last does
pub mark_wrong : (c : List ℕ) (k : ℕ) → k < 5 → (get_or c k 0 ≡ get_or chart_mark k 0 → ⊥) → false ≡ marked c
unfolding marked
mark_wrong c k h n = sym (all_stop (λ k. eqb (get_or c k 0) (get_or chart_mark k 0)) k 5 (ne_eqb (get_or c k 0) (get_or chart_mark k 0) n) h)

pub mark_last : (c : List ℕ) → get_or c 0 0 ≡ 66 → get_or c 1 0 ≡ 67 → get_or c 2 0 ≡ 72 → get_or c 3 0 ≡ 1 → eqb (get_or c 4 0) 0 ≡ marked c
unfolding marked run
mark_last c p q r s = rw (p, q, r, s) refl

-- a test of two parts, the second made only where the first holds
pub both_made : {a b t : Bool} → a ≡ true → t ≡ b → t ≡ (a && b)
both_made {b = b} h e = e ∙ sym (ap (λ (x : Bool). x && b) h)

pub first_made : {a t : Bool} (b : Bool) → a ≡ false → t ≡ a → t ≡ (a && b)
first_made b h e = e ∙ h ∙ sym (and_first b h)

pub mark_tested : (c : List ℕ) {t : Bool} {r : Checked} → t ≡ (leb 7 (length c) && marked c) → r ≡ demand t (at Header 0) → r ≡ mark_check c
unfolding mark_check
mark_tested c e h = demand_by (at Header 0) h e

pub mark_short : (c : List ℕ) → length c < 7 → Err (at Header 0) ≡ mark_check c
unfolding mark_check
mark_short c h = demand_no (and_first (marked c) (lt-leb 7 (length c) h))

pub mark_bad : (c : List ℕ) {t : Bool} → t ≡ marked c → t ≡ false → Err (at Header 0) ≡ mark_check c
unfolding mark_check
mark_bad c e h = demand_no (and_second (leb 7 (length c)) (sym e ∙ h))

-- the counts
pub blocks_some : (c : List ℕ) → blocks_of c < 256 → leb 1 (blocks_of c) ≡ (leb 1 (blocks_of c) && leb (blocks_of c) 255)
blocks_some c h = go (leb 1 (blocks_of c)) (le-leb (blocks_of c) 255 (omega arith))
  where
    go : (b : Bool) {d : Bool} → d ≡ true → b ≡ (b && d)
    go true e = sym e
    go false e = refl

-- the length
pub length_small : (c : List ℕ) → Counted c → blocks_of c * (2 + actions_of c) ≤ 2550
length_small c k = let m = mul-le-mul_right {m = blocks_of c} {n = 255} (2 + actions_of c) k.blocks_few in omega (arith, k.actions_few)

-- a header whose parts are right passes
pub mark_good : (c : List ℕ) {t : Bool} → 7 ≤ length c → t ≡ marked c → t ≡ true → Ok tt ≡ mark_check c
unfolding mark_check
mark_good c l e h = demand_yes (at Header 0) (and_both (le-leb 7 (length c) l) (sym e ∙ h))

pub actions_none : (c : List ℕ) → actions_of c < 1 → Err (at Count 5) ≡ count_check c
unfolding count_check
actions_none c h =
    refused (demand (leb 1 (blocks_of c) && leb (blocks_of c) 255) (at Count 6)) (sym (demand_no (and_first (leb (actions_of c) 8) (lt-leb 1 (actions_of c) h))))

pub actions_many : (c : List ℕ) → 8 < actions_of c → Err (at Count 5) ≡ count_check c
unfolding count_check
actions_many c h =
    refused (demand (leb 1 (blocks_of c) && leb (blocks_of c) 255) (at Count 6)) (sym (demand_no (and_second (leb 1 (actions_of c)) (lt-leb (actions_of c) 8 h))))

actions_good : (c : List ℕ) → 1 ≤ actions_of c → actions_of c ≤ 8 → demand (leb 1 (actions_of c) && leb (actions_of c) 8) (at Count 5) ≡ Ok tt
actions_good c h l = sym (demand_yes (at Count 5) (and_both (le-leb 1 (actions_of c) h) (le-leb (actions_of c) 8 l)))

pub blocks_none : (c : List ℕ) → 1 ≤ actions_of c → actions_of c ≤ 8 → blocks_of c < 1 → Err (at Count 6) ≡ count_check c
unfolding count_check
blocks_none c h l n = passed (actions_good c h l) (demand_no (and_first (leb (blocks_of c) 255) (lt-leb 1 (blocks_of c) n)))

pub counts_good : (c : List ℕ) → 1 ≤ actions_of c → actions_of c ≤ 8 → 1 ≤ blocks_of c → blocks_of c < 256 → Ok tt ≡ count_check c
unfolding count_check
counts_good c h l n m = passed (actions_good c h l) (demand_yes (at Count 6) (and_both (le-leb 1 (blocks_of c) n) (le-leb (blocks_of c) 255 (omega arith))))

pub length_good : (c : List ℕ) → length c ≡ 7 + blocks_of c * (2 + actions_of c) → Ok tt ≡ length_check c
unfolding length_check record_at
length_good c e = demand_yes (at Length (length c)) (eq-eqb (length c) (7 + blocks_of c * (2 + actions_of c)) e)

pub length_bad : (c : List ℕ) → (length c ≡ 7 + blocks_of c * (2 + actions_of c) → ⊥) → Err (at Length (length c)) ≡ length_check c
unfolding length_check record_at
length_bad c n = demand_no (ne_eqb (length c) (7 + blocks_of c * (2 + actions_of c)) n)

-- what passing says
pub both_true : (a b : Bool) → (a && b) ≡ true → (a ≡ true) × (b ≡ true)
both_true true b e = (refl, e)
both_true false b e = let z : ◌≡◌ {A = ℕ} 0 1 = cc in absurd (omega arith)

pub mark_passed : (c : List ℕ) → mark_check c ≡ Ok tt → (7 ≤ length c) × (marked c ≡ true)
unfolding mark_check
mark_passed c e =
    let (p, q) = both_true (leb 7 (length c)) (marked c) (demand_fine (leb 7 (length c) && marked c) (at Header 0) e) in
    (leb-true 7 (length c) p, q)

pub counts_passed : (c : List ℕ) → 7 ≤ length c → count_check c ≡ Ok tt → Counted c
unfolding count_check
counts_passed c h e =
    let (p, q) = then_fine (demand (leb 1 (actions_of c) && leb (actions_of c) 8) (at Count 5)) (demand (leb 1 (blocks_of c) && leb (blocks_of c) 255) (at Count 6)) e in
    let (s, t) = both_true (leb 1 (actions_of c)) (leb (actions_of c) 8) (demand_fine (leb 1 (actions_of c) && leb (actions_of c) 8) (at Count 5) p) in
    let (u, v) = both_true (leb 1 (blocks_of c)) (leb (blocks_of c) 255) (demand_fine (leb 1 (blocks_of c) && leb (blocks_of c) 255) (at Count 6) q) in
    record {
      header = h;
      actions_some = leb-true 1 (actions_of c) s;
      actions_few = leb-true (actions_of c) 8 t;
      blocks_some = leb-true 1 (blocks_of c) u;
      blocks_few = leb-true (blocks_of c) 255 v;
    }

pub header_passed : (c : List ℕ) → header_check c ≡ Ok tt → (marked c ≡ true) × Shaped c
unfolding header_check length_check
header_passed c e =
    let (m, r) = then_fine (mark_check c) (and_then (count_check c) (length_check c)) e in
    let (k, l) = then_fine (count_check c) (length_check c) r in
    let (h, t) = mark_passed c m in
    let d = counts_passed c h k in (
      t,
      record {
        header = h;
        actions_some = d.actions_some;
        actions_few = d.actions_few;
        blocks_some = d.blocks_some;
        blocks_few = d.blocks_few;
        length_right = eqb-true (length c) (record_at c (blocks_of c)) (demand_fine (eqb (length c) (record_at c (blocks_of c))) (at Length (length c)) l);
      },
    )
