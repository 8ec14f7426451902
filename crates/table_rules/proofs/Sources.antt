-- Lowest sources and the bounds on rows with a flag up: what the functions that lower them give.
use Rattle.std.specs.Prelude.{◌≡◌, refl, List, ℕ, ◌+◌, ◌≤◌, ◌<◌, length, get_or, set}
use Rattle.std.proofs.Common.{sym, ap, ◌∙◌, arith, get_or-set_same, get_or-set_other}
use Rattle.std.proofs.Math.Decide.{ℕ_discrete}
use Rattle.table_rules.specs.Arrays.{BoundsRoom, source_in}
use Rattle.table_rules.specs.Sources.{LoweredAt, Noting, Opening, Begun}

pub lowered_none : (d : List ℕ) (at k : ℕ) → get_or d at 0 ≤ k → LoweredAt d d at k
lowered_none d at k h = record { own = h; less = omega arith; others = λ p n. refl }

pub lowered_to : (d : List ℕ) (at k : ℕ) → at < length d → k < get_or d at 0 → LoweredAt d (set d at k) at k
lowered_to d at k l h =
    let e = get_or-set_same d at k 0 l in
    record { own = omega arith; less = omega arith; others = λ p n. get_or-set_other d at p k 0 n }

pub noting : {d d' : List ℕ} {i j : ℕ} → j < 255 → LoweredAt d d' (255 + j) i → Noting d d' i j
noting {d} {d'} {i} {j} h L =
    record {
      noted = L.own;
      sources = λ k l. at k (ℕ_discrete k j);
      depths = λ k l. L.others k (λ e. omega arith);
      first = let e = L.others 510 (λ e. omega arith) in omega arith;
      fresh = let e = L.others 511 (λ e. omega arith) in omega arith;
    }
  where
    at : (k : ℕ) → Dec (k ≡ j) → source_in d' k ≤ source_in d k
    at k (yes q) = let a = ap (source_in d') q in let b = ap (source_in d) q in let l = L.less in omega arith
    at k (no q) = let e = L.others (255 + k) (λ z. q (omega arith)) in omega arith

pub opening : {d d₁ d₂ d' : List ℕ} {i j from : ℕ} → i < 255 → j < 255 → LoweredAt d d₁ (255 + j) i → from ≡ source_in d₁ i → LoweredAt d₁ d₂ 510 from → LoweredAt d₂ d' 511 from
    → Opening d d' i j × (source_in d' i ≡ from)
opening {d} {d₁} {d₂} {d'} {i} {j} {from} hi hj L e A B =
    let N = noting hj L in
    let u = same i hi in
    let a = A.own in
    let a' = A.less in
    let b = B.own in
    let b' = B.less in
    let c = B.others 510 (λ z. omega arith) in
    let c' = A.others 511 (λ z. omega arith) in
    let n = N.noted in
    let nf = N.first in
    let ng = N.fresh in
    let v = same j hj in (
      record {
        notes = record {
          noted = omega arith;
          sources = λ k l. let w = N.sources k l in let z = same k l in omega arith;
          depths = λ k l. B.others k (λ z. omega arith) ∙ A.others k (λ z. omega arith) ∙ N.depths k l;
          first = omega arith;
          fresh = omega arith;
        };
        first_from = omega arith;
        fresh_from = omega arith;
      },
      u ∙ sym e,
    )
  where
    same : (k : ℕ) → k < 255 → source_in d' k ≡ source_in d₁ k
    same k l = B.others (255 + k) (λ z. omega arith) ∙ A.others (255 + k) (λ z. omega arith)

pub begun : {d d' : List ℕ} (n : ℕ) → n < 255 → BoundsRoom d → LoweredAt (set (set d n 0) (255 + n) 255) d' 510 n → Begun d d' n
begun {d} {d'} n h room L =
    let u = get_or-set_other (set d n 0) (255 + n) 510 255 0 (λ z. omega arith) in
    let v = get_or-set_other d n 510 0 0 (λ z. omega arith) in
    let l = L.less in
    let o = L.own in
    record {
      own =
          L.others n (λ z. omega arith) ∙ get_or-set_other (set d n 0) (255 + n) n 255 0 (λ z. omega arith) ∙ get_or-set_same d n 0 0 (omega arith);
      depths = λ k b.
          L.others k (λ z. omega arith) ∙ get_or-set_other (set d n 0) (255 + n) k 255 0 (λ z. omega arith) ∙ get_or-set_other d n k 0 0 (λ z. omega arith);
      sources = λ k b.
          L.others (255 + k) (λ z. omega arith) ∙ get_or-set_other (set d n 0) (255 + n) (255 + k) 255 0 (λ z. omega arith)
          ∙ get_or-set_other d n (255 + k) 0 0 (λ z. omega arith);
      first_own = omega arith;
      first = omega arith;
    }
