-- Two systems on numbers side by side, as one system: the numbers of the second stand behind those of the first. So the Moore bound speaks of two systems too.
use Rattle.std.specs.Prelude.{ℕ, zero, suc, ◌+◌, ◌-◌, ◌≤◌, ◌<◌, ◌≡◌, refl, ◌↔◌, Bool, true, false, ◌&&◌, T, eqb, Option, Some, None, option_map}
use Rattle.std.proofs.Common.{arith, sym, ap, subst, ◌∙◌, lt-ltb, le-ltb}
use Rattle.std.proofs.Math.Decide.{dec_lt}
use Rattle.systems.specs.Search.{all}
use Rattle.systems.proofs.Laws.{both, all_true, eqb_tells}
use Rattle.systems.specs.System.{System, Alike}
use Rattle.systems.specs.Alike.{Both, both_barred, both_open, AlikeTo}
use Rattle.systems.proofs.Alike.{both_right, both_left, alike_to_zero, alike_to_suc, bisimilar_alike}
use Rattle.exploration.proofs.Moore.{alike_numbers}
use Rattle.exploration.specs.Beside.{side}

-- two steps are both barred, or lead to numbers that agree
unfoldable both_agree : (ℕ → ℕ → Bool) → Option ℕ → Option ℕ → Bool
both_agree e None None = true
both_agree e None (Some y) = false
both_agree e (Some x) None = false
both_agree e (Some x) (Some y) = e x y

-- a test of equivalence to a depth, by a system's actions below a bound
unfoldable agree_to : System ℕ → ℕ → ℕ → ℕ → ℕ → Bool
agree_to s actions zero i j = eqb (s.label i) (s.label j)
agree_to s actions (suc k) i j = eqb (s.label i) (s.label j) && all (λ a. both_agree (agree_to s actions k) (s.step a i) (s.step a j)) actions

agree_both : (e : ℕ → ℕ → Bool) (R : ℕ → ℕ → Type 0) → ((i j : ℕ) → T (e i j) ↔ R i j) → (o u : Option ℕ) → T (both_agree e o u) ↔ Both R o u
unfolding both_agree
agree_both e R t None None = (λ _. both_barred, λ _. tt)
agree_both e R t None (Some y) = (λ q. absurd q, λ b. let (x, p, r) = both_left (Some y) b refl in let z : ◌≡◌ {A = ℕ} 0 1 = cc in absurd (omega arith))
agree_both e R t (Some x) None = (λ q. absurd q, λ b. let (y, p, r) = both_right (Some x) b refl in let z : ◌≡◌ {A = ℕ} 0 1 = cc in absurd (omega arith))
agree_both e R t (Some x) (Some y) =
    (λ q. both_open ((t x y).0 q), λ b. let (y', p, r) = both_right (Some x) b refl in let z : y ≡ y' = cc in (t x y).1 (subst (R x) (sym z) r))

agree_tells : (s : System ℕ) (actions : ℕ) → ((a : ℕ) → actions ≤ a → (i : ℕ) → s.step a i ≡ None) → (k i j : ℕ) → T (agree_to s actions k i j) ↔ AlikeTo k s s i j
unfolding agree_to
agree_tells s actions bars zero i j = (
  λ t. (alike_to_zero s s i j).1 ((eqb_tells (s.label i) (s.label j)).0 t),
  λ h. (eqb_tells (s.label i) (s.label j)).1 ((alike_to_zero s s i j).0 h),
)
agree_tells s actions bars (suc k) i j =
    let step : (a : ℕ) → T (both_agree (agree_to s actions k) (s.step a i) (s.step a j)) ↔ Both (AlikeTo k s s) (s.step a i) (s.step a j) =
    λ a. agree_both (agree_to s actions k) (AlikeTo k s s) (λ x y. agree_tells s actions bars k x y) (s.step a i) (s.step a j) in
    let pair = both (eqb (s.label i) (s.label j)) (all (λ a. both_agree (agree_to s actions k) (s.step a i) (s.step a j)) actions) in
    let each = all_true (λ a. both_agree (agree_to s actions k) (s.step a i) (s.step a j)) actions in (
      λ t.
          (alike_to_suc s s k i j).1
          ((eqb_tells (s.label i) (s.label j)).0 (pair.0 t).0, λ a. pick a (λ l. (step a).0 (each.0 (pair.0 t).1 a l)) (dec_lt a actions)),
      λ h. let (l, f) = (alike_to_suc s s k i j).0 h in pair.1 ((eqb_tells (s.label i) (s.label j)).1 l, each.1 (λ a b. (step a).1 (f a))),
    )
  where
    pick : {R : ℕ → ℕ → Type 0} (a : ℕ) → (a < actions → Both R (s.step a i) (s.step a j)) → Dec (a < actions) → Both R (s.step a i) (s.step a j)
    pick a f (yes l) = f l
    pick a f (no l) = rw (bars a (omega arith) i, bars a (omega arith) j) both_barred

pub side_left : {A : Type 0} (n : ℕ) (f g : ℕ → A) (i : ℕ) → i < n → side n f g i ≡ f i
unfolding side
side_left n f g i h = rw (lt-ltb i n h, side) refl

pub side_right : {A : Type 0} (n : ℕ) (f g : ℕ → A) (j : ℕ) → side n f g (n + j) ≡ g j
unfolding side
side_right n f g j = rw (le-ltb (n + j) n (omega arith), side) (ap g (omega arith))

-- an action of the second system, whose numbers stand behind n
abbrev shifted : ℕ → System ℕ → ℕ → ℕ → Option ℕ
shifted n t a j = option_map (λ k. n + k) (t.step a j)

-- the system of the two: the numbers below n are those of the first, and n + j is number j of the second
unfoldable beside : ℕ → System ℕ → System ℕ → System ℕ
beside n s t = record { label = side n s.label t.label; step = λ a. side n (s.step a) (shifted n t a) }

module _ (n m actions : ℕ) (s t : System ℕ) (closed : (a i j : ℕ) → i < n → s.step a i ≡ Some j → j < n) (closed' : (a i j : ℕ) → i < m → t.step a i ≡ Some j → j < m)
    (bars : (a : ℕ) → actions ≤ a → (i : ℕ) → s.step a i ≡ None) (bars' : (a : ℕ) → actions ≤ a → (i : ℕ) → t.step a i ≡ None) where
  left_label : (i : ℕ) → i < n → (beside n s t).label i ≡ s.label i
  unfolding beside
  left_label i h = side_left n s.label t.label i h

  right_label : (j : ℕ) → (beside n s t).label (n + j) ≡ t.label j
  unfolding beside
  right_label j = side_right n s.label t.label j

  left_step : (a i : ℕ) → i < n → (beside n s t).step a i ≡ s.step a i
  unfolding beside
  left_step a i h = side_left n (s.step a) (shifted n t a) i h

  right_step : (a j : ℕ) → (beside n s t).step a (n + j) ≡ shifted n t a j
  unfolding beside
  right_step a j = side_right n (s.step a) (shifted n t a) j

  -- the numbers of the two read in it what they read by themselves
  left_alike : (i : ℕ) → i < n → Alike s (beside n s t) i i
  left_alike i h =
      bisimilar_alike s (beside n s t)
      (record { label = λ x y r. ap s.label r.1 ∙ sym (left_label y (omega (arith, r.0, r.1))); next = λ x y r a. next x y r a (s.step a x) refl })
      i i (h, refl)
    where
      next : (x y : ℕ) → (x < n) × (x ≡ y) → (a : ℕ) (o : Option ℕ) → s.step a x ≡ o → Both (λ x y. (x < n) × (x ≡ y)) (s.step a x) ((beside n s t).step a y)
      next x y r a None e =
          let f = left_step a y (omega (arith, r.0, r.1)) ∙ ap (s.step a) (sym r.1) ∙ e in
          rw (e, f) both_barred
      next x y r a (Some z) e =
          let f = left_step a y (omega (arith, r.0, r.1)) ∙ ap (s.step a) (sym r.1) ∙ e in
          rw (e, f) (both_open (closed a x z r.0 e, refl))

  right_alike : (j : ℕ) → Alike t (beside n s t) j (n + j)
  right_alike j =
      bisimilar_alike t (beside n s t)
      (record { label = λ x y r. sym (right_label x) ∙ ap (beside n s t).label r; next = λ x y r a. next x y r a (t.step a x) refl }) j (n + j) refl
    where
      next : (x y : ℕ) → n + x ≡ y → (a : ℕ) (o : Option ℕ) → t.step a x ≡ o → Both (λ x y. n + x ≡ y) (t.step a x) ((beside n s t).step a y)
      next x y r a None e =
          let f = ap ((beside n s t).step a) (sym r) ∙ right_step a x ∙ ap (option_map (λ k. n + k)) e in
          rw (e, f) both_barred
      next x y r a (Some z) e =
          let f = ap ((beside n s t).step a) (sym r) ∙ right_step a x ∙ ap (option_map (λ k. n + k)) e in
          rw (e, f) (both_open refl)

  both_bar : (a : ℕ) → actions ≤ a → (z : ℕ) → (beside n s t).step a z ≡ None
  both_bar a h z = go (dec_lt z n)
    where
      go : Dec (z < n) → (beside n s t).step a z ≡ None
      go (yes l) = left_step a z l ∙ bars a h z
      go (no l) =
          let k : n + (z - n) ≡ z = omega arith in
          ap ((beside n s t).step a) (sym k) ∙ right_step a (z - n) ∙ ap (option_map (λ k. n + k)) (bars' a h (z - n))

  both_closed : (a z y : ℕ) → z < n + m → (beside n s t).step a z ≡ Some y → y < n + m
  both_closed a z y h e = go (dec_lt z n)
    where
      behind : (o : Option ℕ) → ((k : ℕ) → o ≡ Some k → k < m) → option_map (λ k. n + k) o ≡ Some y → y < n + m
      behind None f q = let x : ◌≡◌ {A = ℕ} 0 1 = cc in absurd (omega arith)
      behind (Some k) f q = let x : n + k ≡ y = cc in omega (arith, f k refl)

      go : Dec (z < n) → y < n + m
      go (yes l) = omega (arith, closed a z y l (sym (left_step a z l) ∙ e))
      go (no l) =
          let k : n + (z - n) ≡ z = omega arith in
          behind (t.step a (z - n)) (λ k q. closed' a (z - n) k (omega arith) q) (sym (right_step a (z - n)) ∙ ap ((beside n s t).step a) k ∙ e)

  -- The Moore bound for two systems: a depth one less than the numbers of both is enough.
  pub alike_beside : (i j : ℕ) → i < n → j < m → AlikeTo (n + m - 1) s t i j → Alike s t i j
  alike_beside i j hi hj h w =
      left_alike i hi w
      ∙ alike_numbers (beside n s t) (n + m) (n + m - 1) (agree_to (beside n s t) actions) both_closed
      (λ k x y hx hy. agree_tells (beside n s t) actions both_bar k x y) (omega arith) i (n + j) (omega arith) (omega arith)
      (λ v l. sym (left_alike i hi v) ∙ h v l ∙ right_alike j v) w
      ∙ sym (right_alike j w)
