-- The claims hold of every making, by the definitions that the contracts cite.
use Rattle.std.specs.Prelude.{◌≡◌, refl, ◌↔◌, Bool, true, false, not, List, ℕ, ◌≤◌, ◌<◌, T, length, get_or, take, drop, Result, Ok, Err}
use Rattle.std.proofs.Common.{sym, ap, subst, ◌∙◌, arith, take_at, get_or-take, ext_get_or, ltb-false, le-ltb, lt-ltb}
use Rattle.std.proofs.Math.Decide.{dec_le}
use Rattle.integers.specs.LittleEndian.{Bytes}
use Rattle.systems.specs.System.{Reading, reading, Below}
use Rattle.exploration.specs.Explored.{Many}
use Rattle.answer_rules.specs.declared.Reason.TheVariants.{Blocks}
use Rattle.answer_rules.specs.declared.Refusal.{Refusal}
use Rattle.answer_rules.specs.Refusal.{Checked, at}
use Rattle.answer_rules.specs.Stages.{demand}
use Rattle.answer_rules.proofs.Stages.{passed, then_fine, demand_fine, demand_passed}
use Rattle.answer_rules.specs.Run.{overwrite, run_checks, ran_by, left_by}
use Rattle.model.specs.Sheet.{Configuration, Box, Region, Sheet, in_box, sheet_reading, Each, WellFormed}
use Rattle.model.specs.Blocks.{class_of, blocks, block_at, too_many, chart_of, box_list_of}
use Rattle.model.specs.Chart.{chart_system, record_at}
use Rattle.model.proofs.ChartBytes.{chart_of_length}
use Rattle.model.proofs.ChartRules.{block_alike}
use Rattle.model.specs.BoxList.{listed_box, RangeHeld, BoundsHeld}
use Rattle.model.proofs.BoxList.{boxes_listed}
use Rattle.model.specs.Theorems.{MinimalReachable}
use Rattle.model.proofs.Theorems.{minimal_reachable, chart_right, charts_tell, sheet_entries}
use Rattle.sheet_rules.specs.Layout.{bound_size, counters_of, actions_of, regions_of}
use Rattle.sheet_rules.specs.Decode.{decode, range_at, box_at, region_at}
use Rattle.sheet_rules.proofs.Shape.{two_or_four, width_few}
use Rattle.sheet_rules.proofs.Listed.{each_listed, range_held}
use Rattle.sheet_rules.specs.Check.{sheet_check}
use Rattle.sheet_rules.proofs.Accepted.{accepted}
use Rattle.sheet_rules.specs.RunSheet.{sheet_run_check, sheet_ran, sheet_left}
use Rattle.chart.specs.Check.{chart_check}
use Rattle.chart.specs.OfSheet.{chart_accepted, runs_agree}
use Rattle.chart.specs.RunChart.{chart_ran, chart_left as runLeft}
use Rattle.making_rules.specs.Making.{chart_size, list_size, block_checks, make_checks, made_by, written_by}
use Rattle.making_rules.proofs.Making.{many_blocks, rooms_fit, rooms_pass, sheet_passed}
use Rattle.making_rules.specs.Claims.{made, chart_left, list_left, block_count, chart_length, Suffices, system_of, ReadAlike, InListed, BoxesRight, SameBehaviour, Demand2, Demand3}

-- what an answer says of the checks
made_fine : (c : Checked) (s : Sheet) (n : ℕ) → made_by c s ≡ Ok n → (c ≡ Ok tt) × (n ≡ length (blocks s))
unfolding made_by
made_fine (Ok _) s n e = (refl, sym same)
  where
    same : length (blocks s) ≡ n
    same = cc
made_fine (Err why) s n e = absurd cc

made_refused : (c : Checked) (s : Sheet) (why : Refusal) → made_by c s ≡ Err why → c ≡ Err why
unfolding made_by
made_refused (Ok _) s why e = absurd cc
made_refused (Err why') s why e = let d : why' ≡ why = cc in ap Err d

-- a making that was not refused
record Makes (s : List ℕ) (n : ℕ) (chart list : List ℕ) : Type 0 where
  pub passes : make_checks s (length chart) (length list) ≡ Ok tt
  pub count : n ≡ block_count s
  pub accepts : sheet_check s ≡ Ok tt
  pub few : block_count s ≤ 255
  pub room : Suffices s (block_count s) chart list

makes : (s chart list : List ℕ) (n : ℕ) → made s chart list ≡ Ok n → Makes s n chart list
unfolding make_checks block_checks too_many chart_size list_size decode
makes s chart list n e =
    let (f, k) = made_fine (make_checks s (length chart) (length list)) (decode s) n e in
    let (a, r) = then_fine (sheet_check s) _ f in
    let (b, q) = then_fine (demand (not (too_many (decode s))) (at Blocks 0)) _ r in
    let (x, y) = rooms_fit (chart_size (decode s)) (list_size (bound_size s) (decode s)) (length chart) (length list) q in
    record {
      passes = f;
      count = k;
      accepts = a;
      few = ltb-false 255 (block_count s) (was_false (too_many (decode s)) (demand_fine _ (at Blocks 0) b));
      room = record { chart_room = omega arith; list_room = omega arith };
    }
  where
    was_false : (t : Bool) → not t ≡ true → t ≡ false
    was_false true d = let z : ◌≡◌ {A = ℕ} 0 1 = cc in absurd (omega arith)
    was_false false d = refl

-- an accepted sheet with at most 255 blocks passes all checks in buffers that suffice,
checks_pass : (s chart list : List ℕ) → sheet_check s ≡ Ok tt → block_count s ≤ 255 → Suffices s (block_count s) chart list
    → make_checks s (length chart) (length list) ≡ Ok tt
unfolding make_checks block_checks too_many chart_size list_size decode
checks_pass s chart list a few room =
    sym
    (passed a
    (passed (sym (demand_passed (not (too_many (decode s))) (at Blocks 0) (ap not (le-ltb 255 (block_count s) few))))
    (rooms_pass (chart_size (decode s)) (list_size (bound_size s) (decode s)) (length chart) (length list) room.chart_room room.list_room)))

-- and one with more is refused 9, whatever the buffers are
checks_many : (s chart list : List ℕ) → sheet_check s ≡ Ok tt → 255 < block_count s → make_checks s (length chart) (length list) ≡ Err (at Blocks 0)
unfolding too_many
checks_many s chart list a many =
    sym (many_blocks (bound_size s) (decode s) (length chart) (length list) (lt-ltb 255 (block_count s) many) ∙ sheet_passed s (length chart) (length list) refl a)

made_done : (s chart list : List ℕ) → sheet_check s ≡ Ok tt → block_count s ≤ 255 → Suffices s (block_count s) chart list → made s chart list ≡ Ok (block_count s)
unfolding made_by
made_done s chart list a few room = ap (λ (c : Checked). made_by c (decode s)) (checks_pass s chart list a few room)

-- how long the chart is
chart_length_lem : (s : List ℕ) → length (chart_of (decode s)) ≡ chart_length s (block_count s)
unfolding record_at decode chart_of
chart_length_lem s = chart_of_length (decode s)

-- the front of the chart's buffer is the chart
pub chart_written : (s chart list : List ℕ) (n : ℕ) → made s chart list ≡ Ok n → take (chart_length s n) (chart_left s chart list) ≡ chart_of (decode s)
unfolding written_by overwrite
chart_written s chart list n e =
    let M = makes s chart list n e in
    ap (λ (c : Checked). take (chart_length s n) (written_by c (chart_of (decode s)) chart)) M.passes
    ∙ take_at (chart_of (decode s)) (drop (length (chart_of (decode s))) chart) (chart_length s n) (chart_length_lem s ∙ ap (chart_length s) (sym M.count))

-- a refused making leaves a buffer as it was
left_unchanged : (c : Checked) (s : Sheet) (why : Refusal) (front old : List ℕ) → made_by c s ≡ Err why → written_by c front old ≡ old
unfolding written_by
left_unchanged c s why front old e = ap (λ (d : Checked). written_by d front old) (made_refused c s why e)

-- as many bytes as a bound takes hold the bounds that were read
bounds_held : (s : List ℕ) → Bytes s → BoundsHeld (bound_size s) (decode s)
unfolding decode region_at box_at
bounds_held s B =
    each_listed {P = λ (r : Region). Each (RangeHeld (bound_size s)) r.box.ranges} (region_at s) (regions_of s) (λ i h.
    each_listed {P = RangeHeld (bound_size s)} (range_at s i) (counters_of s) (λ v k. range_held s i v B))

-- the list's buffer holds the classes of the blocks
pub box_written : (s chart list : List ℕ) (n : ℕ) → Bytes s → made s chart list ≡ Ok n → (i : ℕ) → i < n
    → listed_box (bound_size s) (counters_of s) (list_left s chart list) i ≡ class_of (decode s) (block_at (decode s) i)
unfolding written_by overwrite decode
box_written s chart list n B e i h =
    let M = makes s chart list n e in
    let k = M.count in
    let w = width_few (bound_size s) (two_or_four s) in
    ap (λ (c : Checked). listed_box (bound_size s) (counters_of s) (written_by c (box_list_of (bound_size s) (decode s)) list) i) M.passes
    ∙ boxes_listed (bound_size s) (decode s) (accepted s B M.accepts) (omega arith) (bounds_held s B) i (drop (length (box_list_of (bound_size s) (decode s))) list) (omega arith)

-- so what the theorems say of classes holds of the listed boxes
boxes_right_of : (s chart list : List ℕ) (n : ℕ) → Bytes s → made s chart list ≡ Ok n → BoxesRight s n (chart_left s chart list) (list_left s chart list)
boxes_right_of s chart list n B e =
    record {
      box_reached = λ i h. let (r, (b, t)) = M.blocks_reached i (small i h) in (block_at (decode s) i, r, out i h (block_at (decode s) i) t);
      box_exact =
          λ i x y h r t.
          let E = M.boxes_exact i x (small i h) in
          let a = reads i y h t in (
            λ u. let (c, b) = E.0 (into i h x u) in (c, λ w. sym (b w) ∙ a w),
            λ (c, b). out i h x (E.1 (c, λ w. a w ∙ sym (b w))),
          );
      box_of_block =
          λ i y h r t w.
          ap (λ (c : List ℕ). reading (chart_system c) w i) (chart_written s chart list n e)
          ∙ sym (block_alike (decode s) W K.few i (small i h) w)
          ∙ reads i y h t w;
      one_box =
          λ x r.
          let (i, (h, t)) = M.reached_blocks K.few x r in
          let l : i < n = large i h in
          (i, l, out i l x t, λ j k u. M.one_block j i x (small j k, into j k x u) (h, t));
    }
  where
    K : Makes s n chart list
    K = makes s chart list n e

    W : WellFormed (decode s)
    W = accepted s B K.accepts

    M : MinimalReachable (decode s)
    M = minimal_reachable (decode s) W

    small : (i : ℕ) → i < n → i < block_count s
    small i h = subst (λ (k : ℕ). i < k) K.count h

    large : (i : ℕ) → i < block_count s → i < n
    large i h = subst (λ (k : ℕ). i < k) (sym K.count) h

    into : (i : ℕ) → i < n → (x : Configuration) → InListed s (list_left s chart list) i x → T (in_box (class_of (decode s) (block_at (decode s) i)) x)
    into i h x t = subst (λ (b : Box). T (in_box b x)) (box_written s chart list n B e i h) t

    out : (i : ℕ) → i < n → (x : Configuration) → T (in_box (class_of (decode s) (block_at (decode s) i)) x) → InListed s (list_left s chart list) i x
    out i h x t = subst (λ (b : Box). T (in_box b x)) (sym (box_written s chart list n B e i h)) t

    reads : (i : ℕ) (y : Configuration) → (h : i < n) → InListed s (list_left s chart list) i y → ReadAlike s (block_at (decode s) i) y
    reads i y h t = ((M.boxes_exact i y (small i h)).0 (into i h y t)).1

-- a run on the sheet that was accepted
run_read : (s w : List ℕ) (k : ℕ) → sheet_check s ≡ Ok tt → run_checks (actions_of s) w k ≡ sheet_run_check s w k
unfolding sheet_run_check
run_read s w k a = passed a refl

runs_of : (s : List ℕ) → Bytes s → sheet_check s ≡ Ok tt → block_count s ≤ 255 → (w entries : List ℕ)
    → (chart_ran (chart_of (decode s)) w (length entries) ≡ sheet_ran s w (length entries)) × (runLeft (chart_of (decode s)) w entries ≡ sheet_left s w entries)
unfolding sheet_ran sheet_left decode
runs_of s B a few w entries =
    let (p, q) = runs_agree (decode s) (accepted s B a) few w entries in
    let e = run_read s w (length entries) a in
    (sym p ∙ ap (λ (c : Checked). ran_by c (sheet_reading (decode s) w)) e, sym q ∙ ap (λ (c : Checked). left_by c (sheet_reading (decode s) w) entries) e)

-- an accepted sheet that is refused in buffers that suffice
refusal : {v w : Refusal} → ◌≡◌ {A = Checked} (Err v) (Err w) → v ≡ w
refusal e = cc

only_ground_of : (s chart list : List ℕ) → Bytes s → sheet_check s ≡ Ok tt → (block_count s ≤ 255 → Suffices s (block_count s) chart list)
    → (why : Refusal) → made s chart list ≡ Err why
    → (why ≡ at Blocks 0) × Many (system_of s) (decode s).start 256
unfolding too_many
only_ground_of s chart list B a room why e = go (dec_le (block_count s) 255)
  where
    go : Dec (block_count s ≤ 255) → (why ≡ at Blocks 0) × Many (system_of s) (decode s).start 256
    go (yes few) = let d = made_done s chart list a few (room few) in absurd cc
    go (no many) =
        let c = made_refused (make_checks s (length chart) (length list)) (decode s) why e in
        let r = checks_many s chart list a (omega arith) in
        (refusal (sym c ∙ r), (minimal_reachable (decode s) (accepted s B a)).refused_many.0 (lt-ltb 255 (block_count s) (omega arith)))

pub demand_2 : (s chart list : List ℕ) → Bytes s → Demand2 s (made s chart list) chart list (chart_left s chart list) (list_left s chart list)
demand_2 s chart list B =
    record {
      chart_accepted = λ n e.
          let M = makes s chart list n e in
          subst (λ (c : List ℕ). chart_check c ≡ Ok tt) (sym (chart_written s chart list n e)) (chart_accepted (decode s) (accepted s B M.accepts) M.few);
      chart_right = λ n e.
          let M = makes s chart list n e in
          (chart_right (decode s) (accepted s B M.accepts) M.few, chart_written s chart list n e);
      runs_alike = λ n e w entries.
          let M = makes s chart list n e in
          subst
          (λ (c : List ℕ). (chart_ran c w (length entries) ≡ sheet_ran s w (length entries)) × (runLeft c w entries ≡ sheet_left s w entries))
          (sym (chart_written s chart list n e))
          (runs_of s B M.accepts M.few w entries);
      boxes_right = λ n e. boxes_right_of s chart list n B e;
      entries_tell = λ a. sheet_entries (decode s) (decode s) (accepted s B a) (accepted s B a);
      blocks_minimal = λ a. minimal_reachable (decode s) (accepted s B a);
      made_few = made_done s chart list;
      made_only = λ n e. let M = makes s chart list n e in (M.count, M.accepts, M.few, M.room);
      only_ground = only_ground_of s chart list B;
      refused_unchanged = λ why e. (
        left_unchanged (make_checks s (length chart) (length list)) (decode s) why (chart_of (decode s)) chart e,
        left_unchanged (make_checks s (length chart) (length list)) (decode s) why (box_list_of (bound_size s) (decode s)) list e,
      );
    }

-- byte i of what stands at the front of a buffer
front_byte : (c buffer : List ℕ) (n i : ℕ) → take n buffer ≡ c → i < n → get_or buffer i 0 ≡ get_or c i 0
front_byte c buffer n i e h = sym (get_or-take n buffer i 0 h) ∙ ap (λ (l : List ℕ). get_or l i 0) e

-- Lists at the front of two buffers are equal just when they are as long and have the same bytes there.
same_bytes : (c d chart₁ chart₂ : List ℕ) (m n : ℕ) → length c ≡ m → length d ≡ n → take m chart₁ ≡ c → take n chart₂ ≡ d
    → (c ≡ d) ↔ ((m ≡ n) × ((i : ℕ) → i < m → get_or chart₁ i 0 ≡ get_or chart₂ i 0))
same_bytes c d chart₁ chart₂ m n l k p q = (
  λ e.
      let f : m ≡ n = sym l ∙ ap length e ∙ k in
      (f, λ i h. front_byte c chart₁ m i p h ∙ ap (λ (x : List ℕ). get_or x i 0) e ∙ sym (front_byte d chart₂ n i q (omega arith))),
  λ (f, b).
      ext_get_or 0 c d (l ∙ f ∙ sym k) (λ i h.
      let h' : i < m = omega arith in
      sym (front_byte c chart₁ m i p h') ∙ b i h' ∙ front_byte d chart₂ n i q (omega arith)),
)

-- accepted sheets that behave alike have equal readings
readings_same : (s t : List ℕ) → Bytes s → Bytes t → sheet_check s ≡ Ok tt → sheet_check t ≡ Ok tt → SameBehaviour s t
    → (w : List ℕ) → Below (actions_of s) w → sheet_reading (decode s) w ≡ sheet_reading (decode t) w
unfolding sheet_reading
readings_same s t B D a b h w o = sheet_entries (decode s) (decode t) (accepted s B a) (accepted t D b) w (decode s).start (decode t).start (h.1 w o)

pub demand_3 : (s t chart₁ list₁ chart₂ list₂ : List ℕ) → Bytes s → Bytes t
    → Demand3 s t (made s chart₁ list₁) (made t chart₂ list₂) chart₁ list₁ chart₂ list₂ (chart_left s chart₁ list₁) (chart_left t chart₂ list₂)
unfolding decode
demand_3 s t chart₁ list₁ chart₂ list₂ B D =
    record {
      equal_charts = λ a b f g u v.
          let p = made_done s chart₁ list₁ a f u in
          let q = made_done t chart₂ list₂ b g v in
          let e =
          same_bytes (chart_of (decode s)) (chart_of (decode t)) (chart_left s chart₁ list₁) (chart_left t chart₂ list₂) (chart_length s (block_count s))
          (chart_length t (block_count t)) (chart_length_lem s) (chart_length_lem t) (chart_written s chart₁ list₁ (block_count s) p) (chart_written t chart₂ list₂ (block_count t) q) in
          let k = charts_tell (decode s) (decode t) (accepted s B a) (accepted t D b) f g in
          let r = readings_same s t B D a b in
          (p, q, (λ h. let (n, l) = k.0 (e.1 h) in (n, λ w o. ap (λ (z : Reading). z.entries) (l w o)), λ h. e.0 (k.1 (h.0, r h))));
      equal_barred = λ a b h w o. ap (λ (z : Reading). z.barred) (readings_same s t B D a b h w o);
    }

-- the same of answers and buffers that are what the contracts say
pub demand_2_of : (s chart list : List ℕ) {m : Result ℕ Refusal} {chart' list' : List ℕ} → Bytes s → m ≡ made s chart list → chart' ≡ chart_left s chart list → list' ≡ list_left s chart list
    → Demand2 s m chart list chart' list'
demand_2_of s chart list B p u v = subst (λ (x : Result ℕ Refusal × List ℕ × List ℕ). Demand2 s x.0 chart list x.1 x.2) (λ i. (sym p i, sym u i, sym v i)) (demand_2 s chart list B)

pub demand_3_of : (s t chart₁ list₁ chart₂ list₂ : List ℕ) {m₁ m₂ : Result ℕ Refusal} {chart₁' chart₂' : List ℕ} → Bytes s → Bytes t
    → m₁ ≡ made s chart₁ list₁ → m₂ ≡ made t chart₂ list₂ → chart₁' ≡ chart_left s chart₁ list₁ → chart₂' ≡ chart_left t chart₂ list₂
    → Demand3 s t m₁ m₂ chart₁ list₁ chart₂ list₂ chart₁' chart₂'
demand_3_of s t chart₁ list₁ chart₂ list₂ B D p q u v =
    subst (λ (x : Result ℕ Refusal × Result ℕ Refusal × List ℕ × List ℕ). Demand3 s t x.0 x.1 chart₁ list₁ chart₂ list₂ x.2 x.3) (λ i. (sym p i, sym q i, sym u i, sym v i))
    (demand_3 s t chart₁ list₁ chart₂ list₂ B D)
