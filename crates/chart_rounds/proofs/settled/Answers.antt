use Rattle.std.proofs.Common.{◌≡◌, sym, ap, ◌∙◌, ℕ, zero, suc, ◌≤◌, ◌<◌, List, [], ◌∷◌, ◌++◌, length, get_or, take, drop, refl, arith, take-suc, get_or-take, length-take-le}
use Rattle.std.proofs.Math.ListN.{get_or-append}
use Rattle.std.proofs.Math.Decide.{ℕ_discrete}
use Rattle.std.specs.Cmp.Lexicographic.{same_text, other_text}
use Rattle.chart_bytes.specs.Classes.{Differ, settled_same, settled_moved, differ_moved}
use Rattle.chart_rounds.proofs.settled.Goals as goal

-- two tables that differ in their first n entries differ in one of them
differ_in : (n : ℕ) (f g : List ℕ) → n ≤ length f → n ≤ length g → (take n f ≡ take n g → ⊥) → Differ n f g
differ_in zero f g h l d = absurd (d refl)
differ_in (suc n) f g h l d = go (ℕ_discrete (get_or f n 0) (get_or g n 0)) (λ k. differ_in n f g (omega arith) (omega arith) k)
  where
    longer : get_or f n 0 ≡ get_or g n 0 → take n f ≡ take n g → take (suc n) f ≡ take (suc n) g
    longer e q =
        take-suc f n 0 (omega arith)
        ∙ ap (λ (x : List ℕ). x ++ (get_or f n 0 ∷ [])) q
        ∙ ap (λ (y : ℕ). take n g ++ (y ∷ [])) e
        ∙ sym (take-suc g n 0 (omega arith))

    go : Dec (get_or f n 0 ≡ get_or g n 0) → ((take n f ≡ take n g → ⊥) → Differ n f g) → Differ (suc n) f g
    go (no k) r = record { at = n; within = omega arith; differs = k }
    go (yes e) r = let D = r (λ q. d (longer e q)) in record { at = D.at; within = omega (arith, D.within); differs = D.differs }

-- an entry of a table whose first n were replaced
replaced : (n : ℕ) (f g new : List ℕ) → n ≤ length g → new ≡ take n g → (i : ℕ) → i < n → get_or (new ++ drop n f) i 0 ≡ get_or g i 0
replaced n f g new h e i l =
    get_or-append new (drop n f) 0 i (omega (arith, ap length e, length-take-le n g h)) ∙ ap (λ (x : List ℕ). get_or x i 0) e ∙ get_or-take n g i 0 l

pub returns-then-eq : goal.returns-then-eq
returns-then-eq c =
    let n = c.blocks-n.result in
    let f = c.args.f.now in
    let g = c.refine.new.g in
    let e = same_text (take n f) (take n g) c.if-eq.ensures in
    record {
      refined = settled_same c.args.c.now f g n c.blocks-n.ensures.value c.refine.ensures.refined
          (λ i l. sym (get_or-take n f i 0 l) ∙ ap (λ (x : List ℕ). get_or x i 0) e ∙ get_or-take n g i 0 l);
      f_unchanged = λ _. refl;
      differ = λ q. let z : ◌≡◌ {A = ℕ} 0 1 = cc in absurd (omega arith);
    }

pub returns : goal.returns
returns c =
    let n = c.blocks-n.result in
    let f = c.args.f.now in
    let g = c.refine.new.g in
    let new = c.copy_from_slice.new.self in
    let k = replaced n f g new (omega arith) c.copy_from_slice.ensures.after in
    record {
      refined = settled_moved c.args.c.now f g (new ++ drop n f) n c.blocks-n.ensures.value c.refine.ensures.refined k;
      f_unchanged = λ q. let z : ◌≡◌ {A = ℕ} 0 1 = cc in absurd (omega arith);
      differ = λ _.
          differ_moved f g (new ++ drop n f) c.blocks-n.ensures.value
          (differ_in n f g (omega arith) (omega arith) (other_text (take n f) (take n g) c.if-eq.ensures)) k;
    }
