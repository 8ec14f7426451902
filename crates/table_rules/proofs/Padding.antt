-- Structs of three counters in a sheet of V: what counters that the sheet lacks have, that landings and cuts keep it, and what follows for bounds and meaning.
use Rattle.std.specs.Prelude.{◌≡◌, refl, Bool, true, false, cond, List, [], ◌∷◌, ℕ, zero, suc, ◌≤◌, ◌<◌, T, get_or, set, ℤ, pos, negsuc}
use Rattle.std.proofs.Common.{sym, ap, ap₂, subst, ◌∙◌, not-suc-le-zero, le_of_suc-le-suc, arith}
use Rattle.integers.proofs.Order.{ints}
use Rattle.integers.specs.declared.Range.{Range}
use Rattle.integers.specs.Range.{contains, meet, Within, RangeWithin}
use Rattle.integers.proofs.RangeLaws.{contains_le, within_size, within_out, within_zero}
use Rattle.integers.specs.Inverse.{inverse}
use Rattle.systems.proofs.Laws.{is_true}
use Rattle.model.specs.declared.Rule.{Rule}
use Rattle.model.specs.declared.Rule.TheVariants.{Set, Carry}
use Rattle.model.specs.Sheet.{within, applied, updated, RuleFits, carry_fits, RangeFits, Each, each_more}
use Rattle.model.specs.Blocks.{empty, emptied, cut, cuts}
use Rattle.model.proofs.Boxes.{within_cons}
use Rattle.sheet_bytes.specs.declared.Ranges.{Ranges}
use Rattle.sheet_bytes.specs.declared.Values.{Values}
use Rattle.sheet_bytes.specs.declared.Config.{Config}
use Rattle.sheet_bytes.specs.declared.Rules.{Rules}
use Rattle.sheet_bytes.specs.declared.RegionMove.{RegionMove}
use Rattle.sheet_rules.specs.Layout.{counters_of}
use Rattle.sheet_bytes.specs.Three.{firsts, ranges_meant, values_meant, rules_meant, padded_out, zero_range, zero_rule, box_three, start_three, open_three}
use Rattle.sheet_bytes.specs.Space.{RulesSafe, ValuesWithin, fits_safe, land_three, all_three}
use Rattle.sheet_bytes.specs.Cuts.{empty_three, narrow_three, cut_three, cuts_three}
use Rattle.sheet_bytes.specs.Bounds.{RangesWithin, RulesFit}
use Rattle.table_rules.specs.Padding.{PaddedValues, PaddedRanges, PaddedRules}

-- what is read from a sheet is padded
pub box_padded : (s : List ℕ) (i : ℕ) → PaddedRanges (counters_of s) (box_three s i).ranges
unfolding box_three
box_padded s i = record { second_zero = λ h. padded_out _ _ _ 1 h; third_zero = λ h. padded_out _ _ _ 2 h }

pub start_padded : (s : List ℕ) → PaddedValues (counters_of s) (start_three s).values
unfolding start_three
start_padded s = record { second_zero = λ h. padded_out _ _ _ 1 h; third_zero = λ h. padded_out _ _ _ 2 h }

pub move_padded : (V# : ℕ) (p : List ℕ) → PaddedRules V# (open_three V# p).rules
move_padded V# p = record { second_zero = λ h. padded_out _ _ _ 1 h; third_zero = λ h. padded_out _ _ _ 2 h }

-- a landing by padded rules is padded
pub land_padded : (V# : ℕ) (m : RegionMove) (x : Config) → PaddedRules V# m.rules → PaddedValues V# (land_three m x).values
unfolding land_three applied
land_padded V# m x P =
    record {
      second_zero = λ h. ap (λ (r : Rule). applied r (all_three x.values)) (P.second_zero h);
      third_zero = λ h. ap (λ (r : Rule). applied r (all_three x.values)) (P.third_zero h);
    }

-- padded ranges of one meaning are the same
pub padded_same : (V# : ℕ) (q r : Ranges) → 1 ≤ V# → V# ≤ 3 → PaddedRanges V# q → PaddedRanges V# r → ranges_meant V# q ≡ ranges_meant V# r → q ≡ r
unfolding firsts
padded_same zero q r h l P Q e = absurd (omega arith)
padded_same (suc zero) q r h l P Q e =
    let a : q.first ≡ r.first = cc in
    let b = P.second_zero (omega arith) ∙ sym (Q.second_zero (omega arith)) in
    let d = P.third_zero (omega arith) ∙ sym (Q.third_zero (omega arith)) in
    λ i. record { first = a i; second = b i; third = d i }
padded_same (suc (suc zero)) q r h l P Q e =
    let a : q.first ≡ r.first = cc in
    let b : q.second ≡ r.second = cc in
    let d = P.third_zero (omega arith) ∙ sym (Q.third_zero (omega arith)) in
    λ i. record { first = a i; second = b i; third = d i }
padded_same (suc (suc (suc zero))) q r h l P Q e =
    let a : q.first ≡ r.first = cc in
    let b : q.second ≡ r.second = cc in
    let d : q.third ≡ r.third = cc in
    λ i. record { first = a i; second = b i; third = d i }
padded_same (suc (suc (suc (suc n)))) q r h l P Q e = absurd (omega arith)

-- bounds of ranges and values that count, and of those that do not
range_fits : {r : Range} → RangeFits r → RangeWithin 1000000 r
range_fits f = record { low_within = f.low_fits; high_within = f.high_fits }

zero_fits : {r : Range} → r ≡ zero_range → RangeWithin 1000000 r
zero_fits e = subst (RangeWithin 1000000) (sym e) (record { low_within = within_zero 1000000; high_within = within_zero 1000000 })

zero_within : {z : ℤ} → z ≡ pos 0 → Within 1000000 z
zero_within e = subst (Within 1000000) (sym e) (within_zero 1000000)

value_fits : {r : Range} (z : ℤ) → RangeFits r → T (contains r z) → Within 1000000 z
value_fits {r} (pos n) f t =
    let (l, h) = (contains_le r (pos n)).0 t in
    let b = within_size f.high_fits in
    within_out 1000000 (pos n) (omega ints)
value_fits {r} (negsuc n) f t =
    let (l, h) = (contains_le r (negsuc n)).0 t in
    let b = within_size f.low_fits in
    within_out 1000000 (negsuc n) (omega ints)

pub ranges_within : (V# : ℕ) (r : Ranges) → 1 ≤ V# → V# ≤ 3 → Each RangeFits (ranges_meant V# r) → PaddedRanges V# r → RangesWithin 1000000 r
unfolding firsts
ranges_within zero r h l f P = absurd (omega arith)
ranges_within (suc zero) r h l (each_more a f) P =
    record { first_within = range_fits a; second_within = zero_fits (P.second_zero (omega arith)); third_within = zero_fits (P.third_zero (omega arith)) }
ranges_within (suc (suc zero)) r h l (each_more a (each_more b f)) P =
    record { first_within = range_fits a; second_within = range_fits b; third_within = zero_fits (P.third_zero (omega arith)) }
ranges_within (suc (suc (suc zero))) r h l (each_more a (each_more b (each_more d f))) P =
    record { first_within = range_fits a; second_within = range_fits b; third_within = range_fits d }
ranges_within (suc (suc (suc (suc n)))) r h l f P = absurd (omega arith)

pub values_within : (V# : ℕ) (r : Ranges) (x : Values) → 1 ≤ V# → V# ≤ 3 → Each RangeFits (ranges_meant V# r) → T (within (ranges_meant V# r) (values_meant V# x))
    → PaddedValues V# x → ValuesWithin 1000000 x
unfolding firsts
values_within zero r x h l f t P = absurd (omega arith)
values_within (suc zero) r x h l (each_more a f) t P =
    let (u, v) = (within_cons r.first [] x.first []).0 t in
    record { first_within = value_fits x.first a u; second_within = zero_within (P.second_zero (omega arith)); third_within = zero_within (P.third_zero (omega arith)) }
values_within (suc (suc zero)) r x h l (each_more a (each_more b f)) t P =
    let (u, v) = (within_cons r.first (r.second ∷ []) x.first (x.second ∷ [])).0 t in
    let (w, z) = (within_cons r.second [] x.second []).0 v in
    record { first_within = value_fits x.first a u; second_within = value_fits x.second b w; third_within = zero_within (P.third_zero (omega arith)) }
values_within (suc (suc (suc zero))) r x h l (each_more a (each_more b (each_more d f))) t P =
    let (u, v) = (within_cons r.first (r.second ∷ r.third ∷ []) x.first (x.second ∷ x.third ∷ [])).0 t in
    let (w, z) = (within_cons r.second (r.third ∷ []) x.second (x.third ∷ [])).0 v in
    let (y, o) = (within_cons r.third [] x.third []).0 z in
    record { first_within = value_fits x.first a u; second_within = value_fits x.second b w; third_within = value_fits x.third d y }
values_within (suc (suc (suc (suc n)))) r x h l f t P = absurd (omega arith)

-- a cut of three ranges stands for the model's cut
narrow_meant : (n k : ℕ) (q : Range) (b : Ranges) → k < n → n ≤ 3
    → ranges_meant n (narrow_three k q b) ≡ set (ranges_meant n b) k (meet (get_or (ranges_meant n b) k empty) q)
unfolding narrow_three firsts
narrow_meant zero k q b h l = absurd (not-suc-le-zero h)
narrow_meant (suc zero) zero q b h l = refl
narrow_meant (suc zero) (suc k) q b h l = absurd (not-suc-le-zero (le_of_suc-le-suc h))
narrow_meant (suc (suc zero)) zero q b h l = refl
narrow_meant (suc (suc zero)) (suc zero) q b h l = refl
narrow_meant (suc (suc zero)) (suc (suc k)) q b h l = absurd (not-suc-le-zero (le_of_suc-le-suc (le_of_suc-le-suc h)))
narrow_meant (suc (suc (suc zero))) zero q b h l = refl
narrow_meant (suc (suc (suc zero))) (suc zero) q b h l = refl
narrow_meant (suc (suc (suc zero))) (suc (suc zero)) q b h l = refl
narrow_meant (suc (suc (suc zero))) (suc (suc (suc k))) q b h l = absurd (omega arith)
narrow_meant (suc (suc (suc (suc n)))) k q b h l = absurd (omega arith)

cut_meant : (V# : ℕ) (rule : Rule) (w : Range) (b : Ranges) → RuleFits V# rule → V# ≤ 3 → ranges_meant V# (cut_three rule w b) ≡ cut rule w (ranges_meant V# b)
unfolding cut_three cut firsts emptied
cut_meant V# (Set offset) w b f h = go V# (contains w offset) h
  where
    go : (n : ℕ) (t : Bool) → n ≤ 3 → ranges_meant n (cond t b empty_three) ≡ elim t [ true ↦ ranges_meant n b | false ↦ emptied (ranges_meant n b) ]
    go n true l = refl
    go zero false l = refl
    go (suc zero) false l = refl
    go (suc (suc zero)) false l = refl
    go (suc (suc (suc zero))) false l = refl
    go (suc (suc (suc (suc n)))) false l = absurd (omega arith)
cut_meant V# (Carry source factor offset) w b (carry_fits l n p q) h = narrow_meant V# source (inverse factor offset w) b l h

-- the rule of a counter that the sheet lacks cuts nothing
zero_cut : {rule : Rule} {w : Range} (b : Ranges) → rule ≡ zero_rule → w ≡ zero_range → cut_three rule w b ≡ b
unfolding cut_three contains
zero_cut {rule} {w} b e f = ap₂ (λ (r : Rule) (q : Range). cut_three r q b) e f

module _ (r : Rules) (w b : Ranges) where
  pub one_cut : PaddedRules 1 r → PaddedRanges 1 w → cuts_three r w b ≡ cut_three r.first w.first b
  unfolding cuts_three
  one_cut P Q =
      zero_cut (cut_three r.second w.second (cut_three r.first w.first b)) (P.third_zero (omega arith)) (Q.third_zero (omega arith))
      ∙ zero_cut (cut_three r.first w.first b) (P.second_zero (omega arith)) (Q.second_zero (omega arith))

  two_cuts : PaddedRules 2 r → PaddedRanges 2 w → cuts_three r w b ≡ cut_three r.second w.second (cut_three r.first w.first b)
  unfolding cuts_three
  two_cuts P Q =
      zero_cut (cut_three r.second w.second (cut_three r.first w.first b)) (P.third_zero (omega arith)) (Q.third_zero (omega arith))

-- All cuts of three ranges stand for the model's.
pub cuts_meant : (V# : ℕ) (r : Rules) (w b : Ranges) → 1 ≤ V# → V# ≤ 3 → Each (RuleFits V#) (rules_meant V# r) → PaddedRules V# r → PaddedRanges V# w
    → ranges_meant V# (cuts_three r w b) ≡ cuts (rules_meant V# r) (ranges_meant V# w) (ranges_meant V# b)
unfolding firsts cuts cuts_three
cuts_meant zero r w b h l f P Q = absurd (omega arith)
cuts_meant (suc zero) r w b h l (each_more p f) P Q = ap (ranges_meant 1) (one_cut r w b P Q) ∙ cut_meant 1 r.first w.first b p l
cuts_meant (suc (suc zero)) r w b h l (each_more p (each_more q f)) P Q =
    ap (ranges_meant 2) (two_cuts r w b P Q) ∙ cut_meant 2 r.second w.second (cut_three r.first w.first b) q l
    ∙ ap (cut r.second w.second) (cut_meant 2 r.first w.first b p l)
cuts_meant (suc (suc (suc zero))) r w b h l (each_more p (each_more q (each_more d f))) P Q =
    cut_meant 3 r.third w.third (cut_three r.second w.second (cut_three r.first w.first b)) d l
    ∙ ap (cut r.third w.third)
    (cut_meant 3 r.second w.second (cut_three r.first w.first b) q l ∙ ap (cut r.second w.second) (cut_meant 3 r.first w.first b p l))
cuts_meant (suc (suc (suc (suc n)))) r w b h l f P Q = absurd (omega arith)

-- A cut that keeps something of its set rules keeps padded ranges padded.
narrow_padded : (V# k : ℕ) (q : Range) (b : Ranges) → k < V# → PaddedRanges V# b → PaddedRanges V# (narrow_three k q b)
unfolding narrow_three
narrow_padded V# zero q b h P = record { second_zero = P.second_zero; third_zero = P.third_zero }
narrow_padded V# (suc zero) q b h P = record { second_zero = λ l. absurd (omega arith); third_zero = P.third_zero }
narrow_padded V# (suc (suc k)) q b h P = record { second_zero = P.second_zero; third_zero = λ l. absurd (omega arith) }

cut_padded : (V# : ℕ) (rule : Rule) (w : Range) (b : Ranges) (old : List ℤ) → RuleFits V# rule → T (contains w (applied rule old)) → PaddedRanges V# b
    → PaddedRanges V# (cut_three rule w b)
unfolding cut_three applied
cut_padded V# (Set offset) w b old f t P =
    subst (λ (k : Bool). PaddedRanges V# (cond k b empty_three)) (sym (is_true (contains w offset) t)) P
cut_padded V# (Carry source factor offset) w b old (carry_fits l n p q) t P = narrow_padded V# source (inverse factor offset w) b l P

pub cuts_padded : (V# : ℕ) (r : Rules) (w b : Ranges) (old : List ℤ) → 1 ≤ V# → V# ≤ 3 → Each (RuleFits V#) (rules_meant V# r) → PaddedRules V# r → PaddedRanges V# w
    → T (within (ranges_meant V# w) (updated (rules_meant V# r) old)) → PaddedRanges V# b → PaddedRanges V# (cuts_three r w b)
unfolding firsts updated cuts_three
cuts_padded zero r w b old h l f P Q t B = absurd (omega arith)
cuts_padded (suc zero) r w b old h l (each_more p f) P Q t B =
    let (u, v) = (within_cons w.first [] (applied r.first old) []).0 t in
    subst (PaddedRanges 1) (sym (one_cut r w b P Q)) (cut_padded 1 r.first w.first b old p u B)
cuts_padded (suc (suc zero)) r w b old h l (each_more p (each_more q f)) P Q t B =
    let (u, v) = (within_cons w.first (w.second ∷ []) (applied r.first old) (applied r.second old ∷ [])).0 t in
    let (y, z) = (within_cons w.second [] (applied r.second old) []).0 v in
    subst (PaddedRanges 2) (sym (two_cuts r w b P Q))
    (cut_padded 2 r.second w.second (cut_three r.first w.first b) old q y (cut_padded 2 r.first w.first b old p u B))
cuts_padded (suc (suc (suc zero))) r w b old h l (each_more p (each_more q (each_more d f))) P Q t B =
    record { second_zero = λ e. absurd (omega arith); third_zero = λ e. absurd (omega arith) }
cuts_padded (suc (suc (suc (suc n)))) r w b old h l f P Q t B = absurd (omega arith)

-- rules that fit are safe
pub rules_safe : {r : Rules} → RulesFit r → RulesSafe r
rules_safe f =
    record { first_safe = fits_safe (omega arith) f.first_fits; second_safe = fits_safe (omega arith) f.second_fits; third_safe = fits_safe (omega arith) f.third_fits }
