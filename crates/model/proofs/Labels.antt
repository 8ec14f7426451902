-- No label of a well-formed sheet, or of a chart that obeys the chart rules, is 65,535: all that the entries of a reading need to tell its first barred action.
use Rattle.std.specs.Prelude.{◌≡◌, List, ℕ, ◌+◌, ◌*◌, ◌≤◌, ◌<◌, length, drop}
use Rattle.std.proofs.Common.{◌∙◌, mul-le-mul_right, arith, get_or-drop}
use Rattle.std.proofs.Math.Decide.{dec_lt}
use Rattle.std.proofs.Math.ListN.{get_or-eq_default}
use Rattle.integers.specs.LittleEndian.{joined, unsigned_at}
use Rattle.systems.specs.Entries.{Plain}
use Rattle.model.specs.Sheet.{Sheet, region_number, region_of, sheet_system, WellFormed}
use Rattle.model.specs.Chart.{actions_of, blocks_of, record_at, label_of, chart_system, ChartRules}
use Rattle.model.proofs.ChartBytes.{label_lt}

pub sheet_plain : (s : Sheet) → WellFormed s → Plain (sheet_system s)
unfolding sheet_system region_of
sheet_plain s W x = label_lt s.regions (region_number s x) W.regions_fit

-- past the last record there is nothing to read
label_past : (c : List ℕ) (i : ℕ) → length c ≡ record_at c (blocks_of c) → blocks_of c ≤ i → label_of c i ≡ 0
unfolding label_of unsigned_at joined record_at
label_past c i l h =
    let m = mul-le-mul_right {m = blocks_of c} {n = i} (2 + actions_of c) h in
    let r = 7 + i * (2 + actions_of c) in
    let p = get_or-drop r c 0 0 ∙ get_or-eq_default c 0 (omega arith) in
    let q = get_or-drop 1 (drop r c) 0 0 ∙ get_or-drop r c 1 0 ∙ get_or-eq_default c 0 (omega arith) in
    omega (arith, p, q)

pub chart_plain : (c : List ℕ) → ChartRules c → Plain (chart_system c)
unfolding chart_system
chart_plain c R i = go (dec_lt i (blocks_of c))
  where
    go : Dec (i < blocks_of c) → label_of c i < 65535
    go (yes h) = R.labels_right i h
    go (no h) = omega (arith, label_past c i R.length_right (omega arith))
