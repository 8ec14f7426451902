-- A pass over the rows, and the loop of passes: what each gives.
use Rattle.std.specs.Prelude.{◌≡◌, true, List, ℕ, ◌+◌, ◌≤◌, ◌<◌, set, ℤ, Option, Some}
use Rattle.std.proofs.Common.{sym, ap, subst, ◌∙◌, inr, add-one, arith}
use Rattle.std.proofs.Math.Decide.{ℕ_discrete, dec_le}
use Rattle.model.specs.Blocks.{too_many}
use Rattle.depth_rules.specs.DepthBound.{Doublings, depth_bound}
use Rattle.refinement.specs.Depth.{Near}
use Rattle.refinement.proofs.Depth.{near_kept, near_deep, deep_zero, deep_le, deep_kept, deep_shrunk}
use Rattle.refinement.specs.SheetTable.{sheet_frame}
use Rattle.refinement.proofs.SheetTable.{sheet_framed}
use Rattle.refinement.proofs.Potential.{falling_refl, falling_trans, measure_pass}
use Rattle.refinement.proofs.Loop.{working_fell}
use Rattle.sheet_bytes.specs.declared.Shape.{Shape}
use Rattle.sheet_rules.specs.Decode.{decode}
use Rattle.table_rules.specs.Arrays.{flag_in, first_in, fresh_in}
use Rattle.table_rules.specs.Marks.{DownBelow, UpBelow, LastRaised}
use Rattle.table_rules.specs.Depths.{SureDepth, sure_known, sure_each, DepthAfter, anew, deeper}
use Rattle.table_rules.specs.Meaning.{Ready, row_in}
use Rattle.depth_bound.specs.Depth.{exact_depth}
use Rattle.depth_bound.specs.Widths.{depth_least, depth_enough}
use Rattle.table_passes.specs.State.{State, Fell, actions_few, actions_decoded, counters_decoded, advance_quiet, state_fresh, state_swept, state_level}
use Rattle.table_passes.specs.Steps.{DeepIn, potential_in, Changed, changed_none, changed_trans, BoundedTo, OrTooMany, rows_are, Turn, measure_in}

-- where action b leads from row j is known to depth k
abbrev pub NearIn : List ℕ → Shape → List ℤ → List ℕ → ℕ → ℕ → ℕ → ℕ → Type 0
NearIn s shape c h n k j b = Near (sheet_frame (decode s)) n (row_in shape.counters c h) k (row_in shape.counters c h j) b

-- A pass over the rows from the last to the first, with the rows below k still to come. The flags of those from k on are down where the potential stayed, and
-- their actions reach as deep as all rows were before the pass. Flags up in them are raised by this pass.
pub record Passing (s : List ℕ) (shape : Shape) (c : List ℤ) (h f : List ℕ) (n : ℕ) (c' : List ℤ) (h' t' f' d' : List ℕ) (k : ℕ) : Type 0 where
  pub state : State s shape c' h' t' f' d' n
  pub fell : Fell shape.counters c h f n c' h' f' n
  pub changed : Changed s shape c h n c' h' n
  pub lowered : potential_in shape c' h' n ≡ potential_in shape c h n → (j : ℕ) → k ≤ j → j < n → DownBelow f' j shape.actions
  pub fresh : (j : ℕ) → k ≤ j → j < n → j < fresh_in d' → DownBelow f' j shape.actions
  pub near : (e : ℕ) → DeepIn s shape c h n e → (j b : ℕ) → k ≤ j → j < n → b < shape.actions → NearIn s shape c' h' n e j b

-- What a pass gives: a state whose flags are down where the potential stays and, while no row is new, rows that are one deeper.
pub record Sweep (s : List ℕ) (shape : Shape) (c : List ℤ) (h f : List ℕ) (n : ℕ) (c' : List ℤ) (h' t' f' d' : List ℕ) (r : ℕ) : Type 0 where
  pub more : n ≤ r
  pub state : State s shape c' h' t' f' d' r
  pub fell : Fell shape.counters c h f n c' h' f' r
  pub changed : Changed s shape c h n c' h' r
  pub lowered : r ≡ n → potential_in shape c' h' n ≡ potential_in shape c h n → (j : ℕ) → j < n → DownBelow f' j shape.actions
  pub deeper : r ≡ n → (e : ℕ) → DeepIn s shape c h n e → DeepIn s shape c' h' n (e + 1)

-- That, or too many blocks.
abbrev pub Swept : List ℕ → Shape → List ℤ → List ℕ → List ℕ → ℕ → List ℤ → List ℕ → List ℕ → List ℕ → List ℕ → Option ℕ → Type 0
Swept s shape c h f n c' h' t' f' d' = OrTooMany s (Sweep s shape c h f n c' h' t' f' d')

-- the flags of the rows behind the last are down
abbrev pub DownAbove : List ℕ → ℕ → ℕ → ℕ → Type 0
DownAbove f actions last n = (j : ℕ) → last < j → j < n → DownBelow f j actions

module _ {s : List ℕ} {shape : Shape} (R : Ready s shape) where
  -- a row whose flags are down
  down_near : {c c' : List ℤ} {h h' t' f' d' : List ℕ} {n : ℕ} → State s shape c' h' t' f' d' n → Changed s shape c h n c' h' n → (j : ℕ) → j < n → DownBelow f' j shape.actions → (e : ℕ)
      → DeepIn s shape c h n e → (b : ℕ) → b < shape.actions → NearIn s shape c' h' n e j b
  down_near {c} {c'} {h} {h'} S C j l D e E b g =
      let A = advance_quiet R S j b l g (D b g) in
      (A.reaches (λ k. e) (deep_shrunk (sheet_frame (decode s)) C.shrunk E)).near e (inr (omega arith))

  pub pass_begin : {c : List ℤ} {h t f d : List ℕ} {n last : ℕ} → State s shape c h t f d n → DownAbove f shape.actions last n → Passing s shape c h f n c h t f (set d 511 255) (last + 1)
  pass_begin {c} {h} {f = f} {n = n} S down =
      record {
        state = state_fresh R S 255;
        fell = falling_refl (potential_in shape c h n) (flag_in f) n;
        changed = changed_none;
        lowered = λ e j l m. down j (omega arith) m;
        fresh = λ j l m q. down j (omega arith) m;
        near = λ e E j b l m g. down_near {c = c} {h = h} S changed_none j m (down j (omega arith) m) e E b g;
      }

  module _ {c c' : List ℤ} {h f h' t' f' d' : List ℕ} {n k : ℕ} (m : ℕ) (P : Passing s shape c h f n c' h' t' f' d' k) (hm : m + 1 ≡ k) (hn : m < n) where
    -- row m has its flags down
    pub pass_down : DownBelow f' m shape.actions → Passing s shape c h f n c' h' t' f' d' m
    pass_down z =
        record {
          state = P.state;
          fell = P.fell;
          changed = P.changed;
          lowered = λ e j l q. at e j l q (ℕ_discrete j m);
          fresh = λ j l q v. fresh_at j l q v (ℕ_discrete j m);
          near = λ e E j b l q g. near_at e E j b l q g (ℕ_discrete j m);
        }
      where
        at : potential_in shape c' h' n ≡ potential_in shape c h n → (j : ℕ) → m ≤ j → j < n → Dec (j ≡ m) → DownBelow f' j shape.actions
        at e j l q (yes d) = subst (λ (v : ℕ). DownBelow f' v shape.actions) (sym d) z
        at e j l q (no d) = P.lowered e j (omega arith) q

        fresh_at : (j : ℕ) → m ≤ j → j < n → j < fresh_in d' → Dec (j ≡ m) → DownBelow f' j shape.actions
        fresh_at j l q v (yes d) = subst (λ (v : ℕ). DownBelow f' v shape.actions) (sym d) z
        fresh_at j l q v (no d) = P.fresh j (omega arith) q v

        near_at : (e : ℕ) → DeepIn s shape c h n e → (j b : ℕ) → m ≤ j → j < n → b < shape.actions → Dec (j ≡ m) → NearIn s shape c' h' n e j b
        near_at e E j b l q g (yes d) = subst (λ (v : ℕ). NearIn s shape c' h' n e v b) (sym d) (down_near {c = c} {h = h} P.state P.changed m hn z e E b g)
        near_at e E j b l q g (no d) = P.near e E j b (omega arith) q g

    module _ {c'' : List ℤ} {h'' t'' f'' d'' : List ℕ} {r : ℕ} (T : Turn s shape c' h' f' d' n c'' h'' t'' f'' d'' m r) where
      -- it had its turn, and no row is new
      pub pass_turned : r ≤ n → Passing s shape c h f n c'' h'' t'' f'' d'' m
      pass_turned l =
          let few = P.state.working.few in
          let x = T.more in
          let d : r ≡ n = omega arith in
          let C = subst (Changed s shape c' h' n c'' h'') d T.changed in
          let F = subst (Fell shape.counters c' h' f' n c'' h'' f'') d T.fell in
          let u = P.fell.falls in
          let v = F.falls in
          record {
            state = subst (State s shape c'' h'' t'' f'' d'') d T.state;
            fell = falling_trans P.fell F;
            changed = changed_trans (omega arith) (omega arith) P.changed C;
            lowered = λ e j q w b g. down F d (omega arith) (omega arith) j q w b g (ℕ_discrete j m);
            fresh = λ j q w v b g. fresh_at (T.bounded d) j q w v b g (ℕ_discrete j m);
            near = λ e E j b q w g. near_at C d e E j b q w g (ℕ_discrete j m);
          }
        where
          down : Fell shape.counters c' h' f' n c'' h'' f'' n → r ≡ n → potential_in shape c'' h'' n ≡ potential_in shape c' h' n → potential_in shape c' h' n ≡ potential_in shape c h n → (j : ℕ)
              → m ≤ j → j < n → (b : ℕ) → b < shape.actions → Dec (j ≡ m) → flag_in f'' j b ≡ 0
          down F d e e' j q w b g (yes z) =
              let few = P.state.working.few in
              ap (λ (v : ℕ). flag_in f'' v b) z ∙ T.lowered (subst (λ (v : ℕ). potential_in shape c'' h'' v ≡ potential_in shape c' h' n) (sym d) e) b g
          down F d e e' j q w b g (no z) = let a = actions_few R in F.flags_down e j b w (omega arith) (P.lowered e' j (omega arith) w b g)

          fresh_at : BoundedTo shape f' d' n f'' d'' m shape.actions → (j : ℕ) → m ≤ j → j < n → j < fresh_in d'' → (b : ℕ) → b < shape.actions → Dec (j ≡ m) → flag_in f'' j b ≡ 0
          fresh_at B j q w v b g (yes z) =
              ap (λ (u : ℕ). flag_in f'' u b) z ∙ B.own (omega arith) b g
          fresh_at B j q w v b g (no z) = let x = B.less in B.kept j b w g v (P.fresh j (omega arith) w (omega arith) b g)

          near_at : Changed s shape c' h' n c'' h'' n → r ≡ n → (e : ℕ) → DeepIn s shape c h n e → (j b : ℕ) → m ≤ j → j < n → b < shape.actions → Dec (j ≡ m) → NearIn s shape c'' h'' n e j b
          near_at C d e E j b q w g (yes z) =
              subst (λ (v : ℕ). NearIn s shape c'' h'' n e v b) (sym z) (T.near d e (deep_shrunk (sheet_frame (decode s)) P.changed.shrunk E) b g)
          near_at C d e E j b q w g (no z) =
              near_kept (sheet_frame (decode s)) {row = row_in shape.counters c' h'} {r = row_in shape.counters c' h' j} {r' = row_in shape.counters c'' h'' j} C.shrunk.represents
              (C.shrunk.represents j w) (C.shrunk.inside j w) (P.near e E j b (omega arith) w g)

      -- or one is
      pub swept_new : n < r → Swept s shape c h f n c'' h'' t'' f'' d'' (Some r)
      swept_new l =
          rows_are
          (record {
            more = omega arith;
            state = T.state;
            fell = falling_trans P.fell T.fell;
            changed = changed_trans (omega arith) (omega arith) P.changed T.changed;
            lowered = λ e. absurd (omega arith);
            deeper = λ e. absurd (omega arith);
          })

  -- all rows with a flag up are passed
  pub swept : {c c' : List ℤ} {h f h' t' f' d' : List ℕ} {n k : ℕ} → Passing s shape c h f n c' h' t' f' d' k → k ≤ first_in d' → Swept s shape c h f n c' h' t' f' (set d' 510 (fresh_in d')) (Some n)
  swept {c} {c'} {h} {h' = h'} {f' = f'} {d' = d'} {n = n} {k = p} P le =
      rows_are
      (record {
        more = omega arith;
        state = state_swept R P.state (fresh_in d') (λ j l v. quiet j l v (dec_le p j));
        fell = P.fell;
        changed = P.changed;
        lowered = λ q z j l. lower z j l (dec_le p j);
        deeper = λ q k D i l.
            rw (add-one k)
            (near_deep (sheet_frame (decode s)) (sheet_framed (decode s) R.well) {row = row_in shape.counters c' h'} i (P.state.working.sound.rows i l)
            (λ a g. near_at k D i a l (omega (arith, actions_decoded R)) (dec_le p i)));
      })
    where
      quiet : (j : ℕ) → j < n → j < fresh_in d' → Dec (p ≤ j) → DownBelow f' j shape.actions
      quiet j l v (yes q) = P.fresh j q l v
      quiet j l v (no q) = P.state.lowest j l (omega arith)

      lower : potential_in shape c' h' n ≡ potential_in shape c h n → (j : ℕ) → j < n → Dec (p ≤ j) → DownBelow f' j shape.actions
      lower z j l (yes q) = P.lowered z j q l
      lower z j l (no q) = P.state.lowest j l (omega arith)

      near_at : (k : ℕ) → DeepIn s shape c h n k → (i a : ℕ) → i < n → a < shape.actions → Dec (p ≤ i) → NearIn s shape c' h' n k i a
      near_at k D i a l g (yes q) = P.near k D i a q l g
      near_at k D i a l g (no q) = down_near {c = c} {h = h} P.state P.changed i l (P.state.lowest i l (omega arith)) k D a g

-- The loop of passes: a state whose rows are all so deep. Where they were as deep as the depth bound asks before the last pass, a flag that is up now is younger
-- than that: there are too many blocks.
pub record Sweeping (s : List ℕ) (shape : Shape) (c : List ℤ) (h t f d : List ℕ) (n m depth before : ℕ) : Type 0 where
  pub state : State s shape c h t f d n
  pub deep : DeepIn s shape c h n depth
  pub ground : exact_depth shape.counters n m ≤ before → (k : ℕ) → k < n → UpBelow f k shape.actions → too_many (decode s) ≡ true

module _ {s : List ℕ} {shape : Shape} (R : Ready s shape) where
  zero_deep : {c : List ℤ} {h t f d : List ℕ} {n : ℕ} → State s shape c h t f d n → DeepIn s shape c h n 0
  zero_deep {c} {h} S i l = deep_zero (sheet_frame (decode s)) (sheet_framed (decode s) R.well) {row = row_in shape.counters c h} i (S.working.sound.rows i l)

  pub sweeping_first : {c : List ℤ} {h t f d : List ℕ} {n : ℕ} (m : ℕ) → State s shape c h t f d n → Sweeping s shape c h t f d n m 0 0
  sweeping_first {n = n} m S =
      record { state = S; deep = zero_deep S; ground = λ l. let g = depth_least shape.counters n m in absurd (omega arith) }

  module _ {c : List ℤ} {h t f d : List ℕ} {n m depth before : ℕ} (Q : Sweeping s shape c h t f d n m depth before) where
    -- a flag is up, and all rows were deep enough before the last pass
    pub sweeping_exact : {o : Option ℕ} {k : ℕ} → LastRaised f shape.actions n o → o ≡ Some k → exact_depth shape.counters n m ≤ before → too_many (decode s) ≡ true
    sweeping_exact {k = k} L l e = Q.ground e k (L.few k l) (L.found k l)

    -- what is known of all rows is true
    pub sweeping_sure : {e : ℕ} → SureDepth d n depth e → DeepIn s shape c h n e
    sweeping_sure sure_known = Q.deep
    sweeping_sure (sure_each A) = λ i l. deep_le (sheet_frame (decode s)) {row = row_in shape.counters c h} i (A i l) (Q.state.working.deep i l)

    module _ {c' : List ℤ} {h' t' f' d' : List ℕ} {r e : ℕ} (D : DeepIn s shape c h n e) (W : Sweep s shape c h f n c' h' t' f' d' r) where
      -- a new row where all were 255 deep
      pub sweeping_many : n < r → 254 < e → too_many (decode s) ≡ true
      sweeping_many l b = W.changed.grown l (λ i w. deep_le (sheet_frame (decode s)) {row = row_in shape.counters c h} i b (D i w))

      -- a smaller measure
      pub sweeping_less : {o : Option ℕ} {k : ℕ} → LastRaised f shape.actions n o → o ≡ Some k → measure_in shape c' h' f' r < measure_in shape c h f n
      unfolding measure_in
      sweeping_less {k = k} L e =
          let l = L.few k e in
          let (b, g, u) = L.found k e in
          let F = W.fell in
          measure_pass (potential_in shape c h n) (potential_in shape c' h' r) (flag_in f) (flag_in f') shape.actions n r k b l g u F.falls
          (λ z j a q w.
          let x = F.rows_stay z in
          W.lowered x (subst (λ (v : ℕ). potential_in shape c' h' v ≡ potential_in shape c h n) x z) j (omega arith) a w)

      -- a flag that is up after a pass without a new row, before which all rows were deep enough
      pub sweeping_ground : Doublings (decode s) m → r ≡ n → exact_depth shape.counters n m ≤ e → (k : ℕ) → k < n → UpBelow f' k shape.actions → too_many (decode s) ≡ true
      sweeping_ground G x l k q (b, g, u) =
          let y = depth_least shape.counters n m in
          let z = depth_enough shape.counters n m in
          let v : depth_bound (decode s).counters n m ≤ e = subst (λ (w : ℕ). depth_bound w n m ≤ e) (counters_decoded R) (omega arith) in
          working_fell (decode s) R.well m e G Q.state.working D (omega arith) v
          (subst (λ (w : ℕ). State s shape c' h' t' f' d' w) x W.state).working W.changed.shrunk
          (λ o. let w = W.lowered x o k q b g in omega arith)

      -- on to the next pass
      pub sweeping_on : Doublings (decode s) m → (n < r → e ≤ 254) → {d'' : List ℕ} {depth' : ℕ} → DepthAfter d' d'' n r e depth' → Sweeping s shape c' h' t' f' d'' r m depth' e
      sweeping_on G o {d''} (anew l L) =
          let S = W.state in
          let b = o l in
          let y = depth_least shape.counters r m in
          record {
            state =
                state_level R S d'' n e (omega arith)
                (λ j w. deep_kept (sheet_frame (decode s)) {row = row_in shape.counters c h} {row' = row_in shape.counters c' h'} j W.more w W.changed.shrunk.represents (W.changed.shrunk.inside j w) (D j w)) L;
            deep = zero_deep S;
            ground = λ q. absurd (omega arith);
          }
      sweeping_on G o {d''} (deeper r' l q u) =
          let y = W.more in
          let x : r ≡ n = omega arith in
          record {
            state = subst (λ (v : List ℕ). State s shape c' h' t' f' v r) (sym q) W.state;
            deep =
                subst (λ (v : ℕ). DeepIn s shape c' h' v r') (sym x)
                (λ i w. deep_le (sheet_frame (decode s)) {row = row_in shape.counters c' h'} i u (W.deeper x e D i w));
            ground = λ v k w. sweeping_ground G x (subst (λ (z : ℕ). exact_depth shape.counters z m ≤ e) x v) k (omega arith);
          }
