-- From the table of the refinement to what is made of it.
use Rattle.std.specs.Prelude.{◌≡◌, refl, true, not, List, ℕ, ◌+◌, ◌*◌, ℤ, Option, None, Some, ok_or, Result, Ok, Err}
use Rattle.std.proofs.Common.{sym, subst, ◌∙◌}
use Rattle.std.proofs.Math.Path.{ap}
use Rattle.std.proofs.Math.ListN.{length}
use Rattle.integers.specs.LittleEndian.{Bytes}
use Rattle.answer_rules.specs.declared.Reason.TheVariants.{Blocks}
use Rattle.answer_rules.specs.declared.Refusal.{Refusal}
use Rattle.answer_rules.specs.Refusal.{at}
use Rattle.answer_rules.specs.Stages.{demand}
use Rattle.answer_rules.proofs.Stages.{passed, demand_passed}
use Rattle.model.specs.Blocks.{blocks, too_many}
use Rattle.refinement.proofs.Completed.{completed_blocks, completed_few}
use Rattle.sheet_bytes.specs.declared.Shape.{Shape}
use Rattle.sheet_rules.specs.Layout.{bound_size}
use Rattle.sheet_bytes.specs.Three.{shape_of, read_of}
use Rattle.sheet_rules.specs.Decode.{decode}
use Rattle.sheet_rules.proofs.Accepted.{stages, accepted}
use Rattle.sheet_rules.specs.Check.{sheet_check}
use Rattle.table_rules.specs.Meaning.{Ready}
use Rattle.table_passes.specs.State.{counters_decoded, actions_decoded}
use Rattle.table_passes.specs.Steps.{Table, Answered}
use Rattle.making_rules.specs.Making.{chart_size, list_size, rooms_for, block_checks}

module _ {s : List ℕ} {shape : Shape} (R : Ready s shape) {c : List ℤ} {h t : List ℕ} {n : ℕ} (D : Table s shape c h t n) where
  pub table_blocks : length (blocks (decode s)) ≡ n
  table_blocks = completed_blocks (decode s) R.well D.completed

  chart_size_lem : 7 + n * (2 + shape.actions) ≡ chart_size (decode s)
  unfolding chart_size
  chart_size_lem =
      ap (λ (k : ℕ). 7 + k * (2 + shape.actions)) (sym table_blocks) ∙ ap (λ (k : ℕ). 7 + length (blocks (decode s)) * (2 + k)) (actions_decoded R)

  list_size_lem : n * (1 + 2 * shape.width * shape.counters) ≡ list_size (bound_size s) (decode s)
  unfolding list_size
  list_size_lem =
      ap (λ (k : ℕ). k * (1 + 2 * shape.width * shape.counters)) (sym table_blocks)
      ∙ ap (λ (k : ℕ). length (blocks (decode s)) * (1 + 2 * k * shape.counters)) R.read.width_is
      ∙ ap (λ (k : ℕ). length (blocks (decode s)) * (1 + 2 * bound_size s * k)) (counters_decoded R)

  few_blocks : demand (not (too_many (decode s))) (at Blocks 0) ≡ Ok tt
  few_blocks = sym (demand_passed (not (too_many (decode s))) (at Blocks 0) (ap not (completed_few (decode s) R.well D.completed)))

  -- so the rooms are those of its blocks
  pub rooms_checked : (chart list : ℕ)
      → rooms_for (7 + n * (2 + shape.actions)) (n * (1 + 2 * shape.width * shape.counters)) chart list ≡ block_checks (bound_size s) (decode s) chart list
  unfolding block_checks
  rooms_checked chart list =
      passed few_blocks
      (ap (λ (k : ℕ). rooms_for k (n * (1 + 2 * shape.width * shape.counters)) chart list) chart_size_lem ∙ ap (λ (k : ℕ). rooms_for (chart_size (decode s)) k chart list) list_size_lem)

-- an accepted sheet is what the refinement is given
pub accepted_ready : (s : List ℕ) → Bytes s → sheet_check s ≡ Ok tt → (shape : Shape) → shape ≡ shape_of s → Ready s shape
accepted_ready s B e shape q =
    subst (Ready s) (sym q) (record { read = read_of (stages s e).shape; well = accepted s B e })

-- what the refinement answered
pub answered_many : {s : List ℕ} {shape : Shape} {c : List ℤ} {h t : List ℕ} {r : Option ℕ} → Answered s shape c h t r → r ≡ None → too_many (decode s) ≡ true
answered_many A e = A.many e

pub answered_table : {s : List ℕ} {shape : Shape} {c : List ℤ} {h t : List ℕ} {r : Option ℕ} (n : ℕ) → Answered s shape c h t r → r ≡ Some n → Table s shape c h t n
answered_table n A e = A.rows n e

-- with a refusal in the place of none
pub none_refused : {r : Option ℕ} {e f : Refusal} {q : Result ℕ Refusal} → q ≡ ok_or r f → q ≡ Err e → (r ≡ None) × (e ≡ f)
none_refused {r = None} x y = (refl, cc)
none_refused {r = Some n} x y = absurd cc
