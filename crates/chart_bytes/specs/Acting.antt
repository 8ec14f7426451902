-- One action on a chart whose targets are blocks or 255: where it leads, and what it writes.
use Rattle.std.specs.Prelude.{◌≡◌, refl, Bool, true, false, not, List, ℕ, ◌<◌, Option, Some, None}
use Rattle.std.specs.Option.{is_some, unwrap_or}
use Rattle.std.proofs.Common.{sym, ap, ◌∙◌, ⊎_elim, arith}
use Rattle.systems.specs.System.{System, after, entry}
use Rattle.answer_rules.specs.Walk.{is_barred}
use Rattle.answer_rules.specs.Walk as AnyWalk
use Rattle.model.specs.Chart.{actions_of, blocks_of, label_of, target_of, block_named, chart_step, chart_system}
use Rattle.model.specs.Rounds.{TargetsRight}
use Rattle.model.proofs.Rounds.{chart_step_in, named_block, named_barred}

-- an open target is a block
pub open_target : (c : List ℕ) → TargetsRight c → (i a t : ℕ) → i < blocks_of c → a < actions_of c → t ≡ target_of c i a → (t ≡ 255 → ⊥) → t < blocks_of c
open_target c right i a t hi ha e n = ⊎_elim (λ h. omega arith) (λ h. absurd (n (e ∙ h))) (right i a hi ha)

-- a barred action leads nowhere,
pub acts_barred : (c : List ℕ) (block a t : ℕ) → a < actions_of c → t ≡ target_of c block a → t ≡ 255 → None ≡ chart_step c a block
acts_barred c block a t ha e b = sym (chart_step_in c a block ha ∙ ap block_named (sym e) ∙ named_barred t b)

-- an open one leads to its target
pub acts_open : (c : List ℕ) (block a t : ℕ) → a < actions_of c → t ≡ target_of c block a → (t ≡ 255 → ⊥) → t < 256 → Some t ≡ chart_step c a block
acts_open c block a t ha e n h = sym (chart_step_in c a block ha ∙ ap block_named (sym e) ∙ named_block t (omega arith))

-- what is written
pub writes_label : (c : List ℕ) (block : ℕ) {v : ℕ} → v ≡ label_of c block → v ≡ entry (chart_system c) (Some block)
unfolding entry chart_system
writes_label c block e = e

pub writes_barred : (c : List ℕ) → 65535 ≡ entry (chart_system c) None
unfolding entry
writes_barred c = refl

-- What code does with where an action leads: the walk goes there or stays, the entry is written, and it is noted whether the action was barred.
pub took : {X : Type 0} (sys : System X) (x y : X) {o r : Option X} {v : ℕ} {b : Bool} → r ≡ o → y ≡ unwrap_or r x → v ≡ entry sys r → is_some r ≡ not b
    → AnyWalk.Took sys x o y v b
unfolding after entry is_barred
took {X} sys x y {o} {r} e g h k =
    record { leads = g ∙ goes r ∙ ap (after x) e; writes = h ∙ ap (entry sys) e; bars = bars _ r k ∙ ap is_barred e }
  where
    goes : (q : Option X) → unwrap_or q x ≡ after x q
    goes None = refl
    goes (Some z) = refl

    bars : (b : Bool) (q : Option X) → is_some q ≡ not b → b ≡ is_barred q
    bars true None k = refl
    bars true (Some z) k = absurd cc
    bars false None k = absurd cc
    bars false (Some z) k = refl
