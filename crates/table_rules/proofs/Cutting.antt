-- What the code tells of a cut of a row, and of storing it.
use Rattle.std.specs.Prelude.{◌≡◌, refl, Bool, true, false, ◌&&◌, List, ℕ, ◌+◌, ◌<◌, ℤ}
use Rattle.std.proofs.Common.{sym, ap, subst, ◌∙◌, arith}
use Rattle.std.specs.Ordering.{int_eq}
use Rattle.std.proofs.lemmas.Bool.Decides.{Decides-int_eq, not_from_Decides}
use Rattle.integers.specs.declared.Range.{Range}
use Rattle.sheet_bytes.specs.declared.Ranges.{Ranges}
use Rattle.sheet_bytes.specs.declared.Rules.{Rules}
use Rattle.sheet_bytes.specs.Cuts.{cut_three, cuts_three}
use Rattle.table_rules.specs.Arrays.{ranges_in, source_in, put_ranges}
use Rattle.table_rules.specs.Marks.{RaisedTo}
use Rattle.table_rules.specs.Padding.{PaddedRanges, PaddedRules}
use Rattle.table_rules.proofs.Padding.{one_cut}
use Rattle.table_rules.specs.Sources.{LoweredAt}
use Rattle.table_rules.proofs.Sources.{opening}
use Rattle.table_rules.specs.Cutting.{Same, Cuttable, cut_to, CutRow, Settled, settled_cut}

pub same_yes : {A : Type 0} {x y : A} → x ≡ y → Same x y true
same_yes {A} {x} {y} e = record { yes = λ q. e; no = λ q. let z : ◌≡◌ {A = ℕ} 0 1 = cc in absurd (omega arith) }

pub same_no : {A : Type 0} {x y : A} → (x ≡ y → ⊥) → Same x y false
same_no {A} {x} {y} n = record { yes = λ q. let z : ◌≡◌ {A = ℕ} 0 1 = cc in absurd (omega arith); no = λ q. n }

pub range_same_yes : (a b : Range) → a.low ≡ b.low → a.high ≡ b.high → Same a b true
range_same_yes a b e f = same_yes (λ i. record { low = e i; high = f i })

pub range_low_no : (a b : Range) → (a.low ≡ b.low → ⊥) → Same a b false
range_low_no a b n = same_no (λ e. n (ap (λ (r : Range). r.low) e))

pub range_high_no : (a b : Range) → (a.high ≡ b.high → ⊥) → Same a b false
range_high_no a b n = same_no (λ e. n (ap (λ (r : Range). r.high) e))

pub first_no : (a b : Ranges) {r : Bool} → Same a.first b.first r → r ≡ false → Same a b false
first_no a b S e = same_no (λ q. S.no e (ap (λ (k : Ranges). k.first) q))

pub second_no : (a b : Ranges) {r : Bool} → Same a.second b.second r → r ≡ false → Same a b false
second_no a b S e = same_no (λ q. S.no e (ap (λ (k : Ranges). k.second) q))

pub third_tells : (a b : Ranges) {p q r : Bool} → Same a.first b.first p → p ≡ true → Same a.second b.second q → q ≡ true → Same a.third b.third r → Same a b r
third_tells a b P e Q f S =
    record {
      yes = λ g. let x = P.yes e in let y = Q.yes f in let z = S.yes g in λ i. record { first = x i; second = y i; third = z i };
      no = λ g q. S.no g (ap (λ (k : Ranges). k.third) q);
    }

-- what `==` tells of numbers, ranges, and three ranges
int_told : (x y : ℤ) → Same x y (int_eq x y)
int_told x y = record { yes = (Decides-int_eq x y).0; no = not_from_Decides (int_eq x y) (Decides-int_eq x y) }

abbrev pub range_eq : Range → Range → Bool
range_eq a b = int_eq a.low b.low && int_eq a.high b.high

range_told : (a b : Range) → Same a b (range_eq a b)
range_told a b = go (int_eq a.low b.low) (int_eq a.high b.high) (int_told a.low b.low) (int_told a.high b.high)
  where
    go : (p q : Bool) → Same a.low b.low p → Same a.high b.high q → Same a b (p && q)
    go true true P Q = range_same_yes a b (P.yes refl) (Q.yes refl)
    go true false P Q = range_high_no a b (Q.no refl)
    go false q P Q = range_low_no a b (P.no refl)

pub ranges_told : (a b : Ranges) {r : Bool} → r ≡ (range_eq a.first b.first && (range_eq a.second b.second && range_eq a.third b.third)) → Same a b r
ranges_told a b e =
    subst (Same a b) (sym e)
    (go (range_eq a.first b.first) (range_eq a.second b.second) (range_eq a.third b.third) (range_told a.first b.first) (range_told a.second b.second) (range_told a.third b.third))
  where
    go : (p q r : Bool) → Same a.first b.first p → Same a.second b.second q → Same a.third b.third r → Same a b (p && (q && r))
    go true true r P Q R = third_tells a b P refl Q refl R
    go true false r P Q R = second_no a b Q refl
    go false q r P Q R = first_no a b P refl

-- the only counter's rule is all there is to do
pub cut_by_only : {V# : ℕ} {rules : Rules} {wanted : Ranges} (b r : Ranges) → Cuttable V# rules wanted → V# ≡ 1 → r ≡ cut_three rules.first wanted.first b → r ≡ cuts_three rules wanted b
cut_by_only {rules = rules} {wanted = wanted} b r K e d =
    d ∙ sym (one_cut rules wanted b (subst (λ (v : ℕ). PaddedRules v rules) e K.rules_padded) (subst (λ (v : ℕ). PaddedRanges v wanted) e K.wanted_padded))

module _ (rules : Rules) (c : List ℤ) (i j : ℕ) (old wanted q : Ranges) (e : old ≡ ranges_in c i) (d : wanted ≡ ranges_in c j) (g : q ≡ cuts_three rules wanted old) where
  cut_is : q ≡ cut_to rules c i j
  unfolding cut_to
  cut_is = cc

  pub cut_kept : {r : Bool} → Same q old r → r ≡ true → CutRow rules c c i j false
  cut_kept S t =
      record {
        kept = λ z. (refl, sym cut_is ∙ S.yes t ∙ e);
        changed = λ z. let k : ◌≡◌ {A = ℕ} 0 1 = cc in absurd (omega arith);
      }

  pub cut_changed : {r : Bool} (c' : List ℤ) → Same q old r → r ≡ false → c' ≡ put_ranges c i q → CutRow rules c c' i j true
  cut_changed c' S t p =
      record {
        kept = λ z. let k : ◌≡◌ {A = ℕ} 0 1 = cc in absurd (omega arith);
        changed = λ z. (p ∙ ap (put_ranges c i) cut_is, λ k. S.no t (cut_is ∙ k ∙ sym e));
      }

pub settled_raised : {rules : Rules} {actions : ℕ} {c c' : List ℤ} {t f f' d d₁ d₂ d' : List ℕ} {n i j from : ℕ} → i < 255 → j < 255 → (cut_to rules c i j ≡ ranges_in c i → ⊥)
    → c' ≡ put_ranges c i (cut_to rules c i j) → LoweredAt d d₁ (255 + j) i → from ≡ source_in d₁ i → LoweredAt d₁ d₂ 510 from → LoweredAt d₂ d' 511 from → RaisedTo t i from n f f' actions
    → Settled rules actions c t f d n i j c' f' d'
settled_raised {actions = actions} {t = t} {f = f} {f' = f'} {n = n} {i = i} hi hj ne ec L e A B U =
    let (O, q) = opening hi hj L e A B in
    settled_cut ne ec O (subst (λ (k : ℕ). RaisedTo t i k n f f' actions) (sym q) U)
