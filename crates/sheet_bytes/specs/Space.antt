-- Configurations and boxes of three counters, as the code computes with them, against the model's lists.
use Rattle.std.specs.Prelude.{◌≡◌, refl, Bool, true, false, ◌&&◌, List, [], ◌∷◌, ℕ, zero, suc, ◌≤◌, ◌<◌, length, get_or, take, ℤ, pos, ◌*ℤ◌}
use Rattle.std.proofs.Common.{sym, subst, ◌∙◌, not-suc-le-zero, le_of_suc-le-suc, zero-lt-suc, arith, lit≤, eq-eqb, ne_eqb, SFits}
use Rattle.std.proofs.Math.Path.{ap}
use Rattle.std.specs.Int.{w64}
use Rattle.integers.specs.Range.{contains, Within}
use Rattle.integers.proofs.RangeLaws.{within_add, within_mul, within_zero, within_wider}
use Rattle.integers.proofs.Machine.{within_fits}
use Rattle.integers.specs.Inverse.{carried}
use Rattle.systems.proofs.Lists.{length_each, get_d_each}
use Rattle.model.specs.declared.Rule.{Rule}
use Rattle.model.specs.declared.Rule.TheVariants.{Set, Carry}
use Rattle.model.specs.Sheet.{Configuration, Box, Region, nowhere, place_in, region_number, within, in_box, applied, updated, landing, RuleFits, set_fits, carry_fits, Each, each_none, each_more}
use Rattle.sheet_bytes.specs.declared.Shape.{Shape}
use Rattle.sheet_bytes.specs.declared.Ranges.{Ranges}
use Rattle.sheet_bytes.specs.declared.RegionBox.{RegionBox}
use Rattle.sheet_bytes.specs.declared.Values.{Values}
use Rattle.sheet_bytes.specs.declared.Config.{Config}
use Rattle.sheet_bytes.specs.declared.Rules.{Rules}
use Rattle.sheet_bytes.specs.declared.RegionMove.{RegionMove}
use Rattle.sheet_rules.specs.Layout.{counters_of, regions_of}
use Rattle.sheet_rules.specs.Decode.{box_at, region_at, decode}
use Rattle.sheet_bytes.specs.Three.{Read, box_three, box_meant_lem, firsts, ranges_meant, values_meant, rules_meant, box_meant, config_meant}

-- a test of the first counter decides where it fails, and where there is no other
pub first_out : (n : ℕ) (r : Ranges) (x : Values) → 1 ≤ n → contains r.first x.first ≡ false → false ≡ within (ranges_meant n r) (values_meant n x)
unfolding within firsts
first_out zero r x h e = absurd (omega arith)
first_out (suc n) r x h e = rw e refl

pub only_first : (n : ℕ) (r : Ranges) (x : Values) → n ≡ 1 → contains r.first x.first ≡ true → true ≡ within (ranges_meant n r) (values_meant n x)
unfolding within firsts
only_first zero r x h e = absurd (omega arith)
only_first (suc zero) r x h e = rw e refl
only_first (suc (suc n)) r x h e = absurd (omega arith)

pub second_out : (n : ℕ) (r : Ranges) (x : Values) → 1 ≤ n → (n ≡ 1 → ⊥) → contains r.first x.first ≡ true → contains r.second x.second ≡ false
    → false ≡ within (ranges_meant n r) (values_meant n x)
unfolding within firsts
second_out zero r x h k d e = absurd (omega arith)
second_out (suc zero) r x h k d e = absurd (k refl)
second_out (suc (suc n)) r x h k d e = rw (d, e) refl

pub only_second : (n : ℕ) (r : Ranges) (x : Values) → n ≡ 2 → contains r.first x.first ≡ true → contains r.second x.second ≡ true
    → true ≡ within (ranges_meant n r) (values_meant n x)
unfolding within firsts
only_second zero r x h d e = absurd (omega arith)
only_second (suc zero) r x h d e = absurd (omega arith)
only_second (suc (suc zero)) r x h d e = rw (d, e) refl
only_second (suc (suc (suc n))) r x h d e = absurd (omega arith)

pub third_last : (n : ℕ) (r : Ranges) (x : Values) → 1 ≤ n → n ≤ 3 → (n ≡ 1 → ⊥) → (n ≡ 2 → ⊥) → contains r.first x.first ≡ true
    → contains r.second x.second ≡ true → contains r.third x.third ≡ within (ranges_meant n r) (values_meant n x)
unfolding within firsts
third_last zero r x h l j k d e = absurd (omega arith)
third_last (suc zero) r x h l j k d e = absurd (j refl)
third_last (suc (suc zero)) r x h l j k d e = absurd (k refl)
third_last (suc (suc (suc zero))) r x h l j k d e = rw (d, e) (ap (λ (b : Bool). b) (and_right (contains r.third x.third)))
  where
    and_right : (b : Bool) → b ≡ (b && true)
    and_right true = refl
    and_right false = refl
third_last (suc (suc (suc (suc n)))) r x h l j k d e = absurd (omega arith)

-- the state decides first
pub state_out : (n : ℕ) (b : RegionBox) (x : Config) → (b.state ≡ x.state → ⊥) → false ≡ in_box (box_meant n b) (config_meant n x)
unfolding in_box
state_out n b x h = rw (ne_eqb b.state x.state h) refl

pub state_in : (n : ℕ) (b : RegionBox) (x : Config) (t : Bool) → b.state ≡ x.state → t ≡ within (ranges_meant n b.ranges) (values_meant n x.values)
    → t ≡ in_box (box_meant n b) (config_meant n x)
unfolding in_box
state_in n b x t e h = rw (eq-eqb b.state x.state e) h

-- A rule that the code can apply to three counters without overflow, and values that it can be applied to.
pub data RuleSafe : Rule → Type 0 where
  set_safe : {offset : ℤ} → Within 200000000 offset → RuleSafe (Set offset)
  carry_safe : {source : ℕ} {factor offset : ℤ} → source < 3 → (factor ≡ pos 0 → ⊥) → Within 100 factor → Within 200000000 offset → RuleSafe (Carry source factor offset)

pub record RulesSafe (r : Rules) : Type 0 where
  pub first_safe : RuleSafe r.first
  pub second_safe : RuleSafe r.second
  pub third_safe : RuleSafe r.third

pub record ValuesWithin (n : ℕ) (x : Values) : Type 0 where
  pub first_within : Within n x.first
  pub second_within : Within n x.second
  pub third_within : Within n x.third

abbrev pub all_three : Values → List ℤ
all_three x = x.first ∷ x.second ∷ x.third ∷ []

pub three_within : {n : ℕ} {x : Values} → ValuesWithin n x → (v : ℕ) → Within n (get_or (all_three x) v (pos 0))
three_within w zero = w.first_within
three_within w (suc zero) = w.second_within
three_within w (suc (suc zero)) = w.third_within
three_within {n} w (suc (suc (suc v))) = within_zero n

-- the code's landing, on three counters
unfoldable pub land_three : RegionMove → Config → Config
land_three m x =
    record {
      state = m.target;
      values = record {
        first = applied m.rules.first (all_three x.values);
        second = applied m.rules.second (all_three x.values);
        third = applied m.rules.third (all_three x.values);
      };
    }

-- a rule of a sheet with n counters reads only the first n
applied_firsts : (n : ℕ) (rule : Rule) (x : Values) → n ≤ 3 → RuleFits n rule → applied rule (all_three x) ≡ applied rule (values_meant n x)
unfolding applied firsts
applied_firsts n rule x h (set_fits w) = refl
applied_firsts n rule x h (carry_fits {source = v} {factor = f} {offset = b} k z w u) = ap (carried f b) (go n v h k)
  where
    go : (m u : ℕ) → m ≤ 3 → u < m → get_or (all_three x) u (pos 0) ≡ get_or (take m (all_three x)) u (pos 0)
    go zero u l p = absurd (not-suc-le-zero p)
    go (suc m) zero l p = refl
    go (suc zero) (suc u) l p = absurd (not-suc-le-zero (le_of_suc-le-suc p))
    go (suc (suc m)) (suc zero) l p = refl
    go (suc (suc zero)) (suc (suc u)) l p = absurd (not-suc-le-zero (le_of_suc-le-suc (le_of_suc-le-suc p)))
    go (suc (suc (suc m))) (suc (suc zero)) l p = refl
    go (suc (suc (suc m))) (suc (suc (suc u))) l p = absurd (omega arith)

-- The code's landing stands for the model's.
meant_values : (k : ℕ) (m : RegionMove) (x : Config) → k ≤ 3 → Each (RuleFits k) (rules_meant k m.rules)
    → values_meant k (land_three m x).values ≡ updated (rules_meant k m.rules) (values_meant k x.values)
unfolding land_three updated firsts
meant_values zero m x l f = refl
meant_values (suc zero) m x l (each_more p each_none) = let a = applied_firsts 1 m.rules.first x.values l p in cc
meant_values (suc (suc zero)) m x l (each_more p (each_more q each_none)) =
    let a = applied_firsts 2 m.rules.first x.values l p in
    let b = applied_firsts 2 m.rules.second x.values l q in
    cc
meant_values (suc (suc (suc zero))) m x l (each_more p (each_more q (each_more r each_none))) = refl
meant_values (suc (suc (suc (suc k)))) m x l f = absurd (omega arith)

pub land_meant : (n : ℕ) (m : RegionMove) (x : Config) → n ≤ 3 → Each (RuleFits n) (rules_meant n m.rules)
    → config_meant n (land_three m x) ≡ landing m.target (rules_meant n m.rules) (config_meant n x)
unfolding land_three landing
land_meant n m x h e = let q = meant_values n m x h e in λ i. record { state = m.target; values = q i }

-- everything that applying a rule computes fits
module _ (f b x : ℤ) (wf : Within 100 f) (wb : Within 200000000 b) (wx : Within 1000000 x) where
  pub product_fits : SFits w64 (f *ℤ x)
  product_fits = within_fits (within_mul wf wx) (lit≤ tt)

  pub carried_within : Within 300000000 (carried f b x)
  carried_within = within_add (within_mul wf wx) wb

  pub carried_fits : SFits w64 (carried f b x)
  carried_fits = within_fits carried_within (lit≤ tt)

-- what a safe rule gives from values within bounds
pub safe_within : (rule : Rule) (x : Values) → RuleSafe rule → ValuesWithin 1000000 x → Within 300000000 (applied rule (all_three x))
unfolding applied
safe_within rule x (set_safe w) v = within_wider 300000000 (lit≤ tt) w
safe_within rule x (carry_safe {source = i} {factor = f} {offset = b} l z wf wb) v = carried_within f b (get_or (all_three x) i (pos 0)) wf wb (three_within v i)

-- a rule within a sheet's limits is safe
pub fits_safe : {n : ℕ} {rule : Rule} → n ≤ 3 → RuleFits n rule → RuleSafe rule
fits_safe h (set_fits w) = set_safe w
fits_safe h (carry_fits {source = v} k z w u) = let l : v < 3 = omega arith in carry_safe l z w u

-- the first region with the configuration
place_is : (rs : List Region) (x : Configuration) (i : ℕ) → i ≤ length rs → ((k : ℕ) → k < i → in_box (get_or rs k nowhere).box x ≡ false)
    → (i < length rs → in_box (get_or rs i nowhere).box x ≡ true) → i ≡ place_in rs x
unfolding place_in
place_is [] x i h f t = omega arith
place_is (r ∷ rs) x zero h f t = rw (t (zero-lt-suc (length rs)), place_in) refl
place_is (r ∷ rs) x (suc i) h f t =
    let e = place_is rs x i (le_of_suc-le-suc h) (λ k l. f (suc k) (omega arith)) (λ l. t (omega arith)) in
    rw (f 0 (zero-lt-suc i), place_in) (ap suc e)

-- what the search for a configuration's region has found so far: none of the regions below i
abbrev pub NoneBelow : List ℕ → Configuration → ℕ → Type 0
NoneBelow s x i = (k : ℕ) → k < i → in_box (box_at s k) x ≡ false

module _ (s : List ℕ) (x : Configuration) where
  box_listed : (i : ℕ) → i < regions_of s → (get_or (decode s).regions i nowhere).box ≡ box_at s i
  unfolding decode region_at
  box_listed i h = ap (λ (r : Region). r.box) (get_d_each (region_at s) (regions_of s) nowhere i h)

  pub region_found : (i : ℕ) → i < regions_of s → NoneBelow s x i → in_box (box_at s i) x ≡ true → i ≡ region_number (decode s) x
  unfolding region_number decode
  region_found i h f t =
      let l = length_each (region_at s) (regions_of s) in
      place_is (decode s).regions x i (omega arith) (λ k m. ap (λ (b : Box). in_box b x) (box_listed k (omega arith)) ∙ f k m)
      (λ m. ap (λ (b : Box). in_box b x) (box_listed i h) ∙ t)

  pub region_missing : (i : ℕ) → i ≡ regions_of s → NoneBelow s x i → i ≡ region_number (decode s) x
  unfolding region_number decode
  region_missing i h f =
      let l = length_each (region_at s) (regions_of s) in
      place_is (decode s).regions x i (omega arith) (λ k m. ap (λ (b : Box). in_box b x) (box_listed k (omega arith)) ∙ f k m) (λ m. absurd (omega arith))

-- what is known of a safe rule once its kind is
pub record CarrySafe (source : ℕ) (factor offset : ℤ) : Type 0 where
  pub source_few : source < 3
  pub factor_within : Within 100 factor
  pub offset_within : Within 200000000 offset

pub carry_parts : (rule : Rule) (v : ℕ) (f b : ℤ) → rule ≡ Carry v f b → RuleSafe rule → CarrySafe v f b
carry_parts rule v f b e (set_safe {offset = o} w) = let z : ◌≡◌ {A = ℕ} 0 1 = cc in absurd (omega arith)
carry_parts rule v f b e (carry_safe {source = i} {factor = g} {offset = o} l z wf wb) =
    let p : i ≡ v = cc in
    let q : g ≡ f = cc in
    let r : o ≡ b = cc in
    record { source_few = omega arith; factor_within = subst (Within 100) q wf; offset_within = subst (Within 200000000) r wb }

pub applied_set : (rule : Rule) (b : ℤ) (old : List ℤ) → rule ≡ Set b → b ≡ applied rule old
unfolding applied
applied_set rule b old e = ap (λ (r : Rule). applied r old) (sym e)

pub applied_carry : (rule : Rule) (v : ℕ) (f b z : ℤ) (old : List ℤ) → rule ≡ Carry v f b → z ≡ get_or old v (pos 0) → carried f b z ≡ applied rule old
unfolding applied
applied_carry rule v f b z old e h = ap (carried f b) h ∙ ap (λ (r : Rule). applied r old) (sym e)

-- the landing by its three values
pub land_parts : (m : RegionMove) (x : Config) (a b d : ℤ) → a ≡ applied m.rules.first (all_three x.values) → b ≡ applied m.rules.second (all_three x.values)
    → d ≡ applied m.rules.third (all_three x.values)
    → ◌≡◌ {A = Config} (record { state = m.target; values = record { first = a; second = b; third = d } }) (land_three m x)
unfolding land_three
land_parts m x a b d p q r = λ i. record { state = m.target; values = record { first = p i; second = q i; third = r i } }

-- what a test of region i's box says
pub box_told : {s : List ℕ} {shape : Shape} (R : Read s shape) (i : ℕ) (x : Config) {b : RegionBox} {t v : Bool} → b ≡ box_three s i
    → t ≡ in_box (box_meant shape.counters b) (config_meant shape.counters x) → t ≡ v → in_box (box_at s i) (config_meant (counters_of s) x) ≡ v
box_told {s} {shape} R i x {b} {t} {v} e h k =
    let y = config_meant (counters_of s) x in
    ap (λ (d : Box). in_box d y) (sym (box_meant_lem s R.shaped i) ∙ ap (box_meant (counters_of s)) (sym e))
    ∙ ap (λ (n : ℕ). in_box (box_meant n b) (config_meant n x)) (sym R.counters_are)
    ∙ sym h
    ∙ k
