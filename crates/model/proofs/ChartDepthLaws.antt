-- The settling depth of a chart: which rounds it counts, and that it is the least depth at which sequences tell all blocks apart.
use Rattle.std.specs.Prelude.{◌≡◌, refl, not, List, ℕ, zero, suc, ◌≤◌, ◌<◌, eqb}
use Rattle.std.proofs.Common.{sym, subst, ⊎_elim, eq-or-lt_of_le}
use Rattle.std.proofs.Math.Decide.{dec_le, dec_lt}
use native.Mathlib.Omega.{arith}
use Rattle.systems.specs.Search.{least}
use Rattle.systems.specs.System.{reading}
use Rattle.systems.proofs.Laws.{told, true_is, not_true, not_tells, least_least, count_is}
use Rattle.exploration.specs.Counting.{numbers}
use Rattle.exploration.proofs.Counting.{numbers_mem, classes_some}
use Rattle.model.specs.Chart.{blocks_of, label_of, chart_system, round_class, ChartRules}
use Rattle.model.specs.ChartDepth.{parts, depth_of, label_count, depth_limit, ApartIn, AllApartIn, NotBefore, Settles}
use Rattle.model.specs.Rounds.{TargetsRight, Quiet, Parted}
use Rattle.model.proofs.Rounds.{quiet_or, parts_tells, parted_loud, round_tells, round_apart, rounds_alike, rounds_told, quiet_later, quiet_alike, quiet_from, parting_few}

-- the bound for one block
pub limit_single : (c : List ℕ) → blocks_of c ≡ 1 → depth_limit c ≡ 0
unfolding depth_limit label_count
limit_single c e =
    let h = classes_some (λ i j. eqb (label_of c i) (label_of c j)) (numbers (blocks_of c)) 0 ((numbers_mem (blocks_of c) 0).1 (omega arith)) in
    omega arith

-- two blocks are told apart whichever is named first
pub apart_swapped : (c : List ℕ) (k i j : ℕ) → ApartIn c k i j → ApartIn c k j i
apart_swapped c k i j d = record { sequence = d.sequence; of_actions = d.of_actions; short = d.short; differs = λ e. d.differs (sym e) }

-- a pair that no sequence shorter than d tells apart makes d the least
needed_least : (c : List ℕ) (d e : ℕ) → NotBefore c d → AllApartIn c e → d ≤ e
needed_least c d e p f = go (dec_le d e)
  where
    apart : (i j : ℕ) → i < blocks_of c → j < blocks_of c → ApartIn c d i j → ApartIn c e i j
    apart i j hi hj t = pick (dec_lt i j) (dec_lt j i)
      where
        pick : Dec (i < j) → Dec (j < i) → ApartIn c e i j
        pick (yes l) q = f i j l hj
        pick (no l) (yes q) = apart_swapped c e j i (f j i q hi)
        pick (no l) (no q) =
            let z : i ≡ j = omega arith in
            absurd (t.differs (subst (λ (k : ℕ). reading (chart_system c) t.sequence i ≡ reading (chart_system c) t.sequence k) z refl))

    go : Dec (d ≤ e) → d ≤ e
    go (yes h) = h
    go (no h) =
        let s = apart p.one p.other p.one_block p.other_block p.told in
        let b = s.short in
        absurd (s.differs (p.alike_before s.sequence (omega arith)))

module _ (c : List ℕ) (few : blocks_of c ≤ 255) (right : TargetsRight c) where
  -- The depth is known once it is known of so many rounds that they part some blocks, and of the next that it parts none.
  pub depth_is : (r : ℕ) → ((k : ℕ) → k < r → Parted c k) → Quiet c r → depth_of c ≡ r
  unfolding depth_of
  depth_is r f q =
      count_is (parts c) (blocks_of c) r (within (dec_le r (blocks_of c))) (λ k h. (parts_tells c k).1 (f k h))
      (λ k h l t. parted_loud c k ((parts_tells c k).0 t) (quiet_later c few right r k h q))
    where
      within : Dec (r ≤ blocks_of c) → r ≤ blocks_of c
      within (yes h) = h
      within (no h) = absurd (parted_loud c (blocks_of c) (f (blocks_of c) (omega arith)) (quiet_from c few right (blocks_of c) (omega arith)))

  -- where the search for a round that parts nothing ends, all before part something and no round parts any more
  searched : ((k : ℕ) → k < least (λ k. not (parts c k)) (blocks_of c) → Parted c k) × Quiet c (least (λ k. not (parts c k)) (blocks_of c))
  searched =
      let s = least_least (λ k. not (parts c k)) (blocks_of c) in (
        λ k h. ⊎_elim (λ t. (parts_tells c k).0 (true_is (parts c k) t)) (λ t. absurd (s.first k h ((not_tells (parts c k)).1 (not_true (parts c k) t)))) (told (parts c k)),
        ⊎_elim
            (λ e. quiet_from c few right (least (λ k. not (parts c k)) (blocks_of c)) (omega arith))
            (λ l.
            ⊎_elim
            (λ q. q)
            (λ p. absurd ((not_tells (parts c (least (λ k. not (parts c k)) (blocks_of c)))).0 (s.passes l) ((parts_tells c (least (λ k. not (parts c k)) (blocks_of c))).1 p)))
            (quiet_or c (least (λ k. not (parts c k)) (blocks_of c))))
            (eq-or-lt_of_le s.le),
      )

  -- The rounds that part some blocks are the first ones, as many as the depth says, and no later one does.
  pub depth_rounds : ((k : ℕ) → k < depth_of c → Parted c k) × Quiet c (depth_of c)
  depth_rounds =
      subst (λ (d : ℕ). ((k : ℕ) → k < d → Parted c k) × Quiet c d)
      (sym (depth_is (least (λ k. not (parts c k)) (blocks_of c)) searched.0 searched.1)) searched

  -- Where rounds part some blocks, two of them are told apart by no sequence shorter than there are such rounds.
  pub depth_needed : 0 < depth_of c → NotBefore c (depth_of c)
  depth_needed h = go (depth_of c) h depth_rounds.0
    where
      go : (d : ℕ) → 0 < d → ((k : ℕ) → k < d → Parted c k) → NotBefore c d
      go zero l f = absurd (omega arith)
      go (suc k) l f =
          let p = f k (omega arith) in
          record {
            one = p.one;
            other = p.other;
            one_block = p.one_block;
            other_block = p.other_block;
            told = (round_apart c few right (suc k) p.one p.other p.one_block p.other_block).0 p.apart;
            alike_before = λ w b. (round_tells c few right k p.one p.other p.one_block p.other_block).0 p.together w (omega arith);
          }

  -- What sequences of any length tell apart, some of at most that length does.
  pub depth_enough : (i j : ℕ) → i < blocks_of c → j < blocks_of c → (round_class c (blocks_of c) i ≡ round_class c (blocks_of c) j → ⊥) → ApartIn c (depth_of c) i j
  depth_enough i j hi hj n = (round_apart c few right (depth_of c) i j hi hj).0 (λ e. n (still e))
    where
      still : round_class c (depth_of c) i ≡ round_class c (depth_of c) j → round_class c (blocks_of c) i ≡ round_class c (blocks_of c) j
      still e = (rounds_alike c few right i j hi hj).1 ((quiet_alike c few right (depth_of c) depth_rounds.1 i j hi hj).0 e)

  -- The Moore bound.
  pub depth_within : depth_of c ≤ depth_limit c
  unfolding depth_of depth_limit
  depth_within = let h = parting_few c few right (blocks_of c) in omega arith

-- The depth of a chart that obeys the chart rules is what document 02 asks for.
pub depth_settles : (c : List ℕ) → ChartRules c → Settles c (depth_of c)
depth_settles c R =
    let few = R.blocks_few in
    let right = R.targets_right in
    record {
      within = depth_within c few right;
      single = λ e. let h = depth_within c few right in let z = limit_single c e in omega arith;
      all_apart = λ i j h l. depth_enough c few right i j (omega arith) l ((rounds_told c few right i j (omega arith) l).0 (R.told_apart i j h l));
      needed = depth_needed c few right;
      least = λ e f. go e f (dec_lt 0 (depth_of c));
    }
  where
    go : (e : ℕ) → AllApartIn c e → Dec (0 < depth_of c) → depth_of c ≤ e
    go e f (yes h) = needed_least c (depth_of c) e (depth_needed c R.blocks_few R.targets_right h) f
    go e f (no h) = omega arith
