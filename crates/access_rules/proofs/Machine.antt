-- What the code rests on: from the chart that a making wrote to the way, and from its refusals to those of a way.
use Rattle.std.specs.Prelude.{◌≡◌, refl, ℕ, ◌+◌, ◌*◌, ◌-◌, ◌≤◌, ◌<◌, leb, ltb, length, get_or, take, Result, Ok, Err}
use Rattle.std.proofs.Math.Path.{sym, ap, subst}
use Rattle.std.proofs.Common.{◌∙◌, mul-le-mul_right, arith, get_or-take, ltb-true, leb-true, le-ltb}
use Rattle.std.proofs.Math.Bool.{not}
use mathlib.Core.List.{List, []}
use Rattle.std.proofs.lemmas.List.{length-replicate}
use Rattle.integers.specs.LittleEndian.{Bytes}
use Rattle.exploration.specs.FirstWords.{NumberedAsNamed, Along}
use Rattle.answer_rules.specs.declared.Reason.TheVariants.{Blocks, Room, Block}
use Rattle.answer_rules.specs.declared.Refusal.{Refusal}
use Rattle.answer_rules.specs.Refusal.{Checked, at}
use Rattle.answer_rules.specs.Stages.{demand}
use Rattle.answer_rules.proofs.Stages.{passed, refused, then_fine, demand_fine, demand_passed, demand_failed}
use Rattle.answer_rules.specs.Run.{overwrite}
use Rattle.model.specs.Blocks.{too_many, chart_of}
use Rattle.model.specs.Chart.{actions_of, blocks_of, record_at, chart_system}
use Rattle.model.proofs.ChartBytes.{chart_of_actions, chart_of_blocks}
use Rattle.model.proofs.ChartRules.{chart_rules}
use Rattle.model.proofs.ChartWords.{chart_numbered}
use Rattle.model.proofs.Theorems.{minimal_reachable}
use Rattle.sheet_rules.specs.Layout as Layout
use Rattle.sheet_rules.specs.Layout.{bound_size, counters_of}
use Rattle.sheet_rules.specs.Decode.{decode}
use Rattle.sheet_rules.proofs.Shape.{two_or_four, width_few, bounds_le}
use Rattle.sheet_rules.specs.Check.{sheet_check}
use Rattle.sheet_rules.proofs.Accepted.{accepted}
use Rattle.chart_bytes.specs.Shape.{Shaped, Counted}
use Rattle.chart.specs.Accepted.{rules_shaped}
use Rattle.making_rules.specs.Making.{make_checks, made_by, written_by}
use Rattle.making_rules.specs.Claims.{made, chart_left, block_count, chart_length, Suffices}
use Rattle.making_rules.proofs.Proofs.{demand_2, chart_written}
use Rattle.access_rules.specs.Access.{request_checks, way_checks, way_to, answered_by}
use Rattle.access_rules.proofs.Theorems.{along_way}
use Rattle.access_rules.specs.Machine.{Accesses, zeros, Charted}

-- a request on a chart of n blocks
pub request_by : (c : List ℕ) (k room : ℕ) {n : ℕ} {r : Checked} → n ≡ blocks_of c → r ≡ request_checks n k room → r ≡ request_checks (blocks_of c) k room
request_by c k room e q = q ∙ ap (λ (m : ℕ). request_checks m k room) e

fine_refused : {why : Refusal} → ◌≡◌ {A = Checked} (Ok tt) (Err why) → ⊥
fine_refused e = absurd cc

-- a request that is refused, and one that is not
pub accesses_refused : (c : List ℕ) (k : ℕ) (old : List ℕ) {r : Checked} {why : Refusal} → r ≡ request_checks (blocks_of c) k (length old) → r ≡ Err why
    → Accesses c k (Err why) old old
unfolding answered_by written_by
accesses_refused c k old e q =
    let f = sym e ∙ q in
    record {
      word = [];
      along = λ g. absurd (fine_refused (sym g ∙ f));
      answer = ap (λ (x : Checked). answered_by x []) (sym f);
      left = ap (λ (x : Checked). written_by x [] old) (sym f);
    }

pub accesses_done : (c : List ℕ) (k l : ℕ) (w old new : List ℕ) {r : Checked} → r ≡ request_checks (blocks_of c) k (length old) → r ≡ Ok tt
    → Along (chart_system c) k w → l ≡ length w → new ≡ overwrite w old → Accesses c k (Ok l) old new
unfolding answered_by written_by
accesses_done c k l w old new e q A h g =
    let f = sym e ∙ q in
    record {
      word = w;
      along = λ _. A;
      answer = ap Ok h ∙ ap (λ (x : Checked). answered_by x w) (sym f);
      left = g ∙ ap (λ (x : Checked). written_by x w old) (sym f);
    }

-- the same by other checks that say the same, and of another sequence that is the word where they pass
same_accesses : {c : List ℕ} {k : ℕ} {r : Result ℕ Refusal} {old new : List ℕ} (A : Accesses c k r old new) (checks : Checked) (w : List ℕ)
    → request_checks (blocks_of c) k (length old) ≡ checks → (request_checks (blocks_of c) k (length old) ≡ Ok tt → A.word ≡ w)
    → (r ≡ answered_by checks w) × (new ≡ written_by checks w old)
unfolding answered_by written_by
same_accesses {c} {k} {r} {old} {new} A (Ok _) w e f =
    let q = f e in (
      A.answer ∙ ap (λ (x : Checked). answered_by x A.word) e ∙ ap (λ (v : List ℕ). answered_by (Ok tt) v) q,
      A.left ∙ ap (λ (x : Checked). written_by x A.word old) e ∙ ap (λ (v : List ℕ). written_by (Ok tt) v old) q,
    )
same_accesses {c} {k} {r} {old} {new} A (Err why) w e f =
    (A.answer ∙ ap (λ (x : Checked). answered_by x A.word) e, A.left ∙ ap (λ (x : Checked). written_by x A.word old) e)

-- what a request that passes says of its numbers
pub request_passed : (n k room : ℕ) {r : Checked} → r ≡ request_checks n k room → r ≡ Ok tt → (k < n) × (n ≤ room + 1)
unfolding request_checks
request_passed n k room e q =
    let (a, b) = then_fine (demand (ltb k n) (at Block n)) (demand (leb (n - 1) room) (at Room (n - 1))) (sym e ∙ q) in
    let h = leb-true (n - 1) room (demand_fine (leb (n - 1) room) (at Room (n - 1)) b) in
    (ltb-true k n (demand_fine (ltb k n) (at Block n) a), omega arith)

-- Buffers of 2,557 and 6,375 bytes suffice for the chart and the list of every accepted sheet.
suffices : (s : List ℕ) → Bytes s → sheet_check s ≡ Ok tt → block_count s ≤ 255 → Suffices s (block_count s) (zeros 2557) (zeros 6375)
unfolding decode
suffices s B a few =
    let p = length-replicate {A = ℕ} 2557 0 in
    let q = length-replicate {A = ℕ} 6375 0 in
    let W = accepted s B a in
    let n = block_count s in
    let w = width_few (bound_size s) (two_or_four s) in
    let v = bounds_le (bound_size s) (counters_of s) W.counters_few in
    let x = mul-le-mul_right {m = block_count s} {n = 255} (2 + Layout.actions_of s) few in
    let y = mul-le-mul_right {m = block_count s} {n = 255} (1 + 2 * bound_size s * counters_of s) few in
    record { chart_room = omega (arith, W.actions_few); list_room = omega (arith, v, w) }

-- A making in such buffers that is refused is refused as a way is, whatever block is asked for.
refused_made : (s : List ℕ) (k room : ℕ) (why : Refusal) → Bytes s → made s (zeros 2557) (zeros 6375) ≡ Err why
    → way_checks s k room ≡ Err why
unfolding way_checks made_by make_checks
refused_made s k room why B e = go (sheet_check s) refl
  where
    go : (c : Checked) → sheet_check s ≡ c → way_checks s k room ≡ Err why
    go (Err why') d =
        let f = ap (λ (x : Checked). made_by x (decode s)) (refused _ d) ∙ e in
        let u : why' ≡ why = cc in
        sym (refused _ d) ∙ ap Err u
    go (Ok _) a =
        let D = demand_2 s (zeros 2557) (zeros 6375) B in
        let (u, M) = D.only_ground a (suffices s B a) why e in
        let m = (minimal_reachable (decode s) (accepted s B a)).refused_many.1 M in
        sym (passed a (refused _ (sym (demand_failed (not (too_many (decode s))) (at Blocks 0) (ap not m))))) ∙ ap Err (sym u)

pub way_refused : (s : List ℕ) (k : ℕ) (why : Refusal) (old : List ℕ) {m : Result ℕ Refusal} → Bytes s → m ≡ made s (zeros 2557) (zeros 6375) → m ≡ Err why
    → (Err why ≡ answered_by (way_checks s k (length old)) (way_to (decode s) k))
    × (old ≡ written_by (way_checks s k (length old)) (way_to (decode s) k) old)
unfolding answered_by written_by
way_refused s k why old B e q =
    let f = refused_made s k (length old) why B (sym e ∙ q) in
    (ap (λ (x : Checked). answered_by x (way_to (decode s) k)) (sym f), ap (λ (x : Checked). written_by x (way_to (decode s) k) old) (sym f))

pub charted : (s : List ℕ) {n : ℕ} {m : Result ℕ Refusal} {chart' : List ℕ} → Bytes s → length chart' ≡ 2557
    → m ≡ made s (zeros 2557) (zeros 6375) → m ≡ Ok n → chart' ≡ chart_left s (zeros 2557) (zeros 6375) → Charted s chart'
charted s {n} {m} {chart'} B l e q c =
    let d = sym e ∙ q in
    let (k, a, few, room) = (demand_2 s (zeros 2557) (zeros 6375) B).made_only n d in
    let W = accepted s B a in
    record {
      well = W;
      passes = a;
      few = few;
      shaped = rules_shaped (chart_of (decode s)) (chart_rules (decode s) W few);
      front =
          ap (take (chart_length s (block_count s))) c
          ∙ ap (λ (z : ℕ). take (chart_length s z) (chart_left s (zeros 2557) (zeros 6375))) (sym k)
          ∙ chart_written s (zeros 2557) (zeros 6375) n d;
      room = omega (arith, room.chart_room, length-replicate {A = ℕ} 2557 0);
    }

-- the counts of that chart are bytes 5 and 6 of the buffer
module _ {s buffer : List ℕ} (C : Charted s buffer) where
  byte_of : (i : ℕ) → i < 7 → get_or buffer i 0 ≡ get_or (chart_of (decode s)) i 0
  byte_of i h = sym (get_or-take (chart_length s (block_count s)) buffer i 0 (omega arith)) ∙ ap (λ (l : List ℕ). get_or l i 0) C.front

  pub front_counted : Counted buffer
  front_counted =
      let S = C.shaped in
      let a = byte_of 5 (omega arith) in
      let b = byte_of 6 (omega arith) in
      record {
        header = omega (arith, C.room);
        actions_some = omega (arith, S.actions_some);
        actions_few = omega (arith, S.actions_few);
        blocks_some = omega (arith, S.blocks_some);
        blocks_few = omega (arith, S.blocks_few);
      }

  -- so the part of the buffer that they give is the chart
  pub front_length : record_at buffer (blocks_of buffer) ≡ chart_length s (block_count s)
  unfolding record_at decode
  front_length =
      let a = byte_of 5 (omega arith) ∙ chart_of_actions (decode s) in
      let b = byte_of 6 (omega arith) ∙ chart_of_blocks (decode s) in
      ap (λ (n : ℕ). 7 + n * (2 + actions_of buffer)) b ∙ ap (λ (m : ℕ). 7 + block_count s * (2 + m)) a

  pub front_chart : {n : ℕ} → n ≡ record_at buffer (blocks_of buffer) → (n ≤ length buffer) × (take n buffer ≡ chart_of (decode s))
  front_chart e =
      let q = e ∙ front_length in
      (omega (arith, C.room), ap (λ (m : ℕ). take m buffer) q ∙ C.front)

  -- its blocks are numbered as first named
  pub front_asks : {n : ℕ} → n ≡ record_at buffer (blocks_of buffer) → Shaped (take n buffer) × NumberedAsNamed (chart_system (take n buffer)) (blocks_of (take n buffer))
  front_asks e =
      let N = subst (NumberedAsNamed (chart_system (chart_of (decode s)))) (sym (chart_of_blocks (decode s))) (chart_numbered (decode s) C.well C.few) in
      subst (λ (c : List ℕ). Shaped c × NumberedAsNamed (chart_system c) (blocks_of c)) (sym (front_chart e).1) (C.shaped, N)

  -- What was answered and left on it is the way.
  pub front_way : {n : ℕ} → n ≡ record_at buffer (blocks_of buffer) → (k : ℕ) (r : Result ℕ Refusal) (old new : List ℕ) → Accesses (take n buffer) k r old new
      → (r ≡ answered_by (way_checks s k (length old)) (way_to (decode s) k)) × (new ≡ written_by (way_checks s k (length old)) (way_to (decode s) k) old)
  unfolding too_many way_checks
  front_way e k r old new D =
      let A = subst (λ (c : List ℕ). Accesses c k r old new) (front_chart e).1 D in
      let n = block_count s in
      let c = ap (λ (m : ℕ). request_checks m k (length old)) (chart_of_blocks (decode s)) in
      let w = passed C.passes (passed (sym (demand_passed (not (too_many (decode s))) (at Blocks 0) (ap not (le-ltb 255 n C.few)))) refl) in
      same_accesses A (way_checks s k (length old)) (way_to (decode s) k) (c ∙ w) (λ p.
      sym (along_way (decode s) C.well C.few k (request_passed n k (length old) c p).0 A.word (A.along p)))
