-- Flags: what the functions that raise and look for them give.
use Rattle.std.specs.Prelude.{◌≡◌, refl, true, false, List, ℕ, ◌+◌, ◌*◌, ◌-◌, ◌≤◌, ◌<◌, length, get_or, set}
use Rattle.std.proofs.Common.{sym, ap, subst, ◌∙◌, arith, eq-eqb, ne_eqb, length-set, get_or-set_same, get_or-set_other}
use Rattle.std.proofs.Math.Decide.{ℕ_discrete, dec_le}
use Rattle.table_rules.specs.Arrays.{FlagsRoom, target_in, flag_in}
use Rattle.table_rules.specs.Marks.{raised_by, StoredFrom, RaisedAt, RaisedTo, RowRaised, RowRaisedTo, DownBelow, AnyRaised, DownFrom}

pub raised_up : (target i old : ℕ) → target ≡ i → 1 ≡ raised_by target i old
unfolding raised_by
raised_up target i old e = rw (eq-eqb target i e, raised_by) refl

pub raised_left : (target i old : ℕ) → (target ≡ i → ⊥) → old ≡ raised_by target i old
unfolding raised_by
raised_left target i old n = rw (ne_eqb target i n, raised_by) refl

-- a flag that is down then was so before, and its target is another
pub raised_down : (target i old : ℕ) → raised_by target i old ≡ 0 → (old ≡ 0) × (target ≡ i → ⊥)
raised_down target i old e = go (ℕ_discrete target i)
  where
    go : Dec (target ≡ i) → (old ≡ 0) × (target ≡ i → ⊥)
    go (yes q) = let u = raised_up target i old q in absurd (omega arith)
    go (no q) = (raised_left target i old q ∙ e, q)

pub stored_none : (g : ℕ → ℕ) (f : List ℕ) (to : ℕ) → StoredFrom g f f to 0
stored_none g f to = record { same_length = refl; done = λ j h. absurd (omega arith); before = λ p h. refl; behind = λ p h. refl }

pub stored_more : {g : ℕ → ℕ} {f f' : List ℕ} {to : ℕ} (k v : ℕ) → to + k < length f → StoredFrom g f f' to k → v ≡ g k → StoredFrom g f (set f' (to + k) v) to (k + 1)
stored_more {g} {f} {f'} {to} k v h S e =
    record {
      same_length = length-set f' (to + k) v ∙ S.same_length;
      done = λ j l. go j l (ℕ_discrete j k);
      before = λ p l. get_or-set_other f' (to + k) p v 0 (λ q. omega arith) ∙ S.before p l;
      behind = λ p l. get_or-set_other f' (to + k) p v 0 (λ q. omega arith) ∙ S.behind p (omega arith);
    }
  where
    go : (j : ℕ) → j < k + 1 → Dec (j ≡ k) → get_or (set f' (to + k) v) (to + j) 0 ≡ g j
    go j l (yes q) = ap (λ (m : ℕ). get_or (set f' (to + k) v) (to + m) 0) q ∙ get_or-set_same f' (to + k) v 0 (omega (arith, S.same_length)) ∙ e ∙ sym (ap g q)
    go j l (no q) = get_or-set_other f' (to + k) (to + j) v 0 (λ z. q (omega arith)) ∙ S.done j (omega arith)

pub raised_none : (t : List ℕ) (i from n : ℕ) (f : List ℕ) → RaisedTo t i from n f f 0
raised_none t i from n f = record { same_length = refl; pairs = λ k c q h l. absurd (omega arith); later = λ k c h l. refl; below = λ k c h l. refl }

-- there is no such row
pub raised_nobody : (t : List ℕ) (i from n : ℕ) (f : List ℕ) (b : ℕ) → n ≤ from → RaisedTo t i from n f f b
raised_nobody t i from n f b l = record { same_length = refl; pairs = λ k c q h m. absurd (omega arith); later = λ k c h m. refl; below = λ k c h m. refl }

pub raised_more : {t : List ℕ} {i from n : ℕ} {f f₁ f₂ : List ℕ} (b : ℕ) → n ≤ 255 → from ≤ n → RaisedTo t i from n f f₁ b → RaisedAt t (255 * b + from) i (n - from) f₁ f₂
    → RaisedTo t i from n f f₂ (b + 1)
raised_more {t} {i} {from} {n} {f} {f₁} {f₂} b few le R P =
    record {
      same_length = P.same_length ∙ R.same_length;
      pairs = λ k c q h m. go k c q h m (ℕ_discrete c b);
      later = λ k c h m. P.behind (255 * c + k) (omega arith) ∙ R.later k c h (omega arith);
      below = λ k c q h. under k c q h (dec_le c b);
    }
  where
    under : (k c : ℕ) → k < from → k < n → Dec (c ≤ b) → flag_in f₂ k c ≡ flag_in f k c
    under k c q h (yes m) = P.before (255 * c + k) (omega arith) ∙ R.below k c q h
    under k c q h (no m) = P.behind (255 * c + k) (omega arith) ∙ R.below k c q h

    here : (k : ℕ) → from ≤ k → k < n → flag_in f₂ k b ≡ raised_by (target_in t k b) i (flag_in f₁ k b)
    here k q h =
        let e : 255 * b + from + (k - from) ≡ 255 * b + k = omega arith in
        ap (λ (p : ℕ). get_or f₂ p 0) (sym e) ∙ P.done (k - from) (omega arith) ∙ ap (λ (p : ℕ). raised_by (get_or t p 0) i (get_or f₁ p 0)) e

    go : (k c : ℕ) → from ≤ k → k < n → c < b + 1 → Dec (c ≡ b) → flag_in f₂ k c ≡ raised_by (target_in t k c) i (flag_in f k c)
    go k c q h m (yes z) =
        subst (λ (u : ℕ). flag_in f₂ k u ≡ raised_by (target_in t k u) i (flag_in f k u)) (sym z)
        (here k q h ∙ ap (raised_by (target_in t k b) i) (R.later k b h (omega arith)))
    go k c q h m (no z) = P.before (255 * c + k) (omega arith) ∙ R.pairs k c q h (omega arith)

pub row_none : (f : List ℕ) (k : ℕ) → RowRaisedTo f f k 0
row_none f k = record { same_length = refl; own = λ b h. absurd (omega arith); others = λ j b h n. refl }

pub row_more : {f f' : List ℕ} {k : ℕ} (c : ℕ) → FlagsRoom f → k < 255 → c < 8 → RowRaisedTo f f' k c → RowRaisedTo f (set f' (255 * c + k) 1) k (c + 1)
row_more {f} {f'} {k} c room h l R =
    record {
      same_length = length-set f' (255 * c + k) 1 ∙ R.same_length;
      own = λ b m. go b m (ℕ_discrete b c);
      others = λ j b m n. get_or-set_other f' (255 * c + k) (255 * b + j) 1 0 (λ q. n (omega arith)) ∙ R.others j b m n;
    }
  where
    go : (b : ℕ) → b < c + 1 → Dec (b ≡ c) → flag_in (set f' (255 * c + k) 1) k b ≡ 1
    go b m (yes q) = ap (λ (u : ℕ). flag_in (set f' (255 * c + k) 1) k u) q ∙ get_or-set_same f' (255 * c + k) 1 0 (omega (arith, R.same_length))
    go b m (no q) = get_or-set_other f' (255 * c + k) (255 * b + k) 1 0 (λ z. q (omega arith)) ∙ R.own b (omega arith)

pub row_all : {f f' : List ℕ} {k c : ℕ} → 8 ≤ c → RowRaisedTo f f' k c → RowRaised f f' k
row_all l R = record { own = λ b h. R.own b (omega arith); others = R.others }

pub below_more : (f : List ℕ) (k b : ℕ) → DownBelow f k b → flag_in f k b ≡ 0 → DownBelow f k (b + 1)
below_more f k b N e c h = go (ℕ_discrete c b)
  where
    go : Dec (c ≡ b) → flag_in f k c ≡ 0
    go (yes q) = ap (flag_in f k) q ∙ e
    go (no q) = N c (omega arith)

pub any_here : {f : List ℕ} {actions k : ℕ} (b : ℕ) → b < actions → 0 < flag_in f k b → AnyRaised f actions k true
any_here b h u = record { up = λ e. (b, h, u); down = λ e. let z : ◌≡◌ {A = ℕ} 0 1 = cc in absurd (omega arith) }

pub any_none : {f : List ℕ} {actions k : ℕ} (b : ℕ) → actions ≤ b → DownBelow f k b → AnyRaised f actions k false
any_none b l N = record { up = λ e. let z : ◌≡◌ {A = ℕ} 0 1 = cc in absurd (omega arith); down = λ e c h. N c (omega arith) }

pub from_more : (f : List ℕ) (actions k n : ℕ) → 0 < k → DownFrom f actions k n → DownBelow f (k - 1) actions → DownFrom f actions (k - 1) n
from_more f actions k n p N e i l h = go (ℕ_discrete i (k - 1))
  where
    go : Dec (i ≡ k - 1) → DownBelow f i actions
    go (yes q) = subst (λ (m : ℕ). DownBelow f m actions) (sym q) e
    go (no q) = N i (omega arith) h
