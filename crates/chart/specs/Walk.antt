-- The walk of an action sequence on a chart.
use Rattle.std.specs.Prelude.{◌≡◌, Bool, not, List, ℕ, ◌+◌, ◌<◌, length, get_or, set, IfSome, Result, Ok, Option, Some, None}
use Rattle.std.proofs.Common.{sym, subst}
use Rattle.std.specs.Option.{is_some, unwrap_or}
use Rattle.systems.specs.System.{entry}
use Rattle.answer_rules.specs.declared.Refusal.{Refusal}
use Rattle.answer_rules.specs.declared.Run.{Run}
use Rattle.answer_rules.specs.Run.{noted_at, ran_by, left_by}
use Rattle.answer_rules.specs.Walk as AnyWalk
use Rattle.answer_rules.proofs.Walk as WalkLaws
use Rattle.model.specs.Chart.{blocks_of, label_of, chart_step, chart_system, chart_reading}
use Rattle.chart_bytes.specs.Acting.{took}

-- After i actions the walk is at a block.
pub record Walk (c w old : List ℕ) (i block : ℕ) (first : Option ℕ) (ls : List ℕ) : Type 0 where
  pub block_there : block < blocks_of c
  pub walked : AnyWalk.Walk (chart_system c) 0 w old i block first ls

-- the walk begins with the label of block 0 written
pub walk_start : (c w old : List ℕ) (v : ℕ) → 0 < blocks_of c → 0 < length old → v ≡ label_of c 0 → Walk c w (set old 0 v) 0 0 None (set old 0 v)
unfolding chart_system
walk_start c w old v b h e = record { block_there = b; walked = WalkLaws.walk_start (chart_system c) 0 w old v h e }

-- what stood at the front before does not matter
pub walk_old : (c w old : List ℕ) (v i block : ℕ) (first : Option ℕ) (ls : List ℕ) → Walk c w (set old 0 v) i block first ls → Walk c w old i block first ls
walk_old c w old v i block first ls k = record { block_there = k.block_there; walked = WalkLaws.walk_old (chart_system c) 0 w old v i block first ls k.walked }

-- one action
pub walk_step : (c w old ls : List ℕ) (i block : ℕ) (first next target : Option ℕ) {y v : ℕ} (b : Bool) → Walk c w old i block first ls → i < length w → i + 1 < length ls
    → target ≡ chart_step c (get_or w i 0) block → IfSome target (λ t. t < blocks_of c) → y ≡ unwrap_or target block → v ≡ entry (chart_system c) target
    → is_some target ≡ not b → next ≡ noted_at first i b → Walk c w old (i + 1) y next (set ls (i + 1) v)
unfolding chart_system
walk_step c w old ls i block first next target {y} {v} b k hw hl e t g h q d =
    record {
      block_there = there target t g;
      walked =
          subst (λ (f : Option ℕ). AnyWalk.Walk (chart_system c) 0 w old (i + 1) y f (set ls (i + 1) v)) (sym d)
          (WalkLaws.walk_step (chart_system c) 0 w old ls i v b block y first k.walked hw hl (took (chart_system c) block y e g h q));
    }
  where
    there : (r : Option ℕ) → IfSome r (λ t. t < blocks_of c) → y ≡ unwrap_or r block → y < blocks_of c
    there None t g = subst (λ (n : ℕ). n < blocks_of c) (sym g) k.block_there
    there (Some z) t g = subst (λ (n : ℕ). n < blocks_of c) (sym g) t

-- The walk ends after the last action.
pub walk_done : (c w old ls : List ℕ) (i block : ℕ) (first : Option ℕ) → Walk c w old i block first ls → i ≡ length w → i < length ls
    → (◌≡◌ {A = Result Run Refusal} (Ok (record { entries = length w + 1; barred = first })) (ran_by (Ok tt) (chart_reading c w))) × (ls ≡ left_by (Ok tt) (chart_reading c w) old)
unfolding chart_reading
walk_done c w old ls i block first k e h = WalkLaws.walk_done (chart_system c) 0 w old ls i block first k.walked e h
