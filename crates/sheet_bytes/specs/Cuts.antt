-- The code's cuts of three ranges, and that they have the volume of the model's preimages.
use Rattle.std.specs.Prelude.{◌≡◌, refl, Bool, true, false, cond, List, [], ◌∷◌, ℕ, zero, suc, ◌≤◌, ◌<◌, get_or, set, ℤ, pos}
use Rattle.std.proofs.Common.{sym, ap, subst, ◌∙◌, arith}
use Rattle.integers.specs.declared.Range.{Range}
use Rattle.integers.specs.Range.{contains, meet, Within}
use Rattle.integers.specs.Inverse.{inverse}
use Rattle.model.specs.declared.Rule.{Rule}
use Rattle.model.specs.declared.Rule.TheVariants.{Set, Carry}
use Rattle.model.specs.Sheet.{RuleFits, set_fits, carry_fits}
use Rattle.model.specs.Blocks.{empty, emptied, cut}
use Rattle.sheet_bytes.specs.declared.Ranges.{Ranges}
use Rattle.sheet_bytes.specs.declared.Rules.{Rules}

-- all three ranges
abbrev pub all_three : Ranges → List Range
all_three b = b.first ∷ b.second ∷ b.third ∷ []

-- the range of one counter cut by another range
unfoldable pub narrow_three : ℕ → Range → Ranges → Ranges
narrow_three zero q b = record { first = meet b.first q; second = b.second; third = b.third }
narrow_three (suc zero) q b = record { first = b.first; second = meet b.second q; third = b.third }
narrow_three (suc (suc k)) q b = record { first = b.first; second = b.second; third = meet b.third q }

abbrev pub empty_three : Ranges
empty_three = record { first = empty; second = empty; third = empty }

-- the old values that a rule takes into a wanted range
unfoldable pub cut_three : Rule → Range → Ranges → Ranges
cut_three (Set offset) w b = cond (contains w offset) b empty_three
cut_three (Carry source factor offset) w b = narrow_three source (inverse factor offset w) b

unfoldable pub cuts_three : Rules → Ranges → Ranges → Ranges
cuts_three r w b = cut_three r.third w.third (cut_three r.second w.second (cut_three r.first w.first b))

narrow_list : (k : ℕ) (q : Range) (b : Ranges) → k < 3 → all_three (narrow_three k q b) ≡ set (all_three b) k (meet (get_or (all_three b) k empty) q)
unfolding narrow_three
narrow_list zero q b h = refl
narrow_list (suc zero) q b h = refl
narrow_list (suc (suc zero)) q b h = refl
narrow_list (suc (suc (suc k))) q b h = absurd (omega arith)

-- a cut of three is the model's cut of their list
pub cut_list : {V# : ℕ} (rule : Rule) (w : Range) (b : Ranges) → RuleFits V# rule → V# ≤ 3 → all_three (cut_three rule w b) ≡ cut rule w (all_three b)
unfolding cut_three cut emptied
cut_list (Set offset) w b f h = go (contains w offset)
  where
    go : (t : Bool) → ◌≡◌ {A = List Range} (all_three (cond t b empty_three)) (elim t [ true ↦ all_three b | false ↦ emptied (all_three b) ])
    go true = refl
    go false = refl
cut_list (Carry source factor offset) w b (carry_fits l n p q) h = narrow_list source (inverse factor offset w) b (omega arith)

pub fits_wider : {n m : ℕ} {rule : Rule} → n ≤ m → RuleFits n rule → RuleFits m rule
fits_wider h (set_fits w) = set_fits w
fits_wider {m = m} h (carry_fits {source = s} l n p q) = let k : s < m = omega arith in carry_fits k n p q

-- how the code makes a cut
pub narrow_first : (k : ℕ) (q : Range) (b : Ranges) (x : Range) → k ≡ 0 → x ≡ meet b.first q
    → ◌≡◌ {A = Ranges} (record { first = x; second = b.second; third = b.third }) (narrow_three k q b)
unfolding narrow_three
narrow_first k q b x e f = subst (λ (k : ℕ). ◌≡◌ {A = Ranges} (record { first = x; second = b.second; third = b.third }) (narrow_three k q b)) (sym e) (λ i. record { first = f i; second = b.second; third = b.third })

pub narrow_second : (k : ℕ) (q : Range) (b : Ranges) (x : Range) → k ≡ 1 → x ≡ meet b.second q
    → ◌≡◌ {A = Ranges} (record { first = b.first; second = x; third = b.third }) (narrow_three k q b)
unfolding narrow_three
narrow_second k q b x e f = subst (λ (k : ℕ). ◌≡◌ {A = Ranges} (record { first = b.first; second = x; third = b.third }) (narrow_three k q b)) (sym e) (λ i. record { first = b.first; second = f i; third = b.third })

pub narrow_third : (k : ℕ) (q : Range) (b : Ranges) (x : Range) → (k ≡ 0 → ⊥) → (k ≡ 1 → ⊥) → x ≡ meet b.third q
    → ◌≡◌ {A = Ranges} (record { first = b.first; second = b.second; third = x }) (narrow_three k q b)
unfolding narrow_three
narrow_third zero q b x d e f = absurd (d refl)
narrow_third (suc zero) q b x d e f = absurd (e refl)
narrow_third (suc (suc k)) q b x d e f = λ i. record { first = b.first; second = b.second; third = f i }

pub cut_kept : {rule : Rule} {offset : ℤ} (w : Range) (b : Ranges) → rule ≡ Set offset → contains w offset ≡ true → b ≡ cut_three rule w b
unfolding cut_three
cut_kept {rule} {offset} w b e d = subst (λ (r : Rule). b ≡ cut_three r w b) (sym e) (sym (ap (λ (t : Bool). cond t b empty_three) d))

pub cut_gone : {rule : Rule} {offset : ℤ} {r : Ranges} (w : Range) (b : Ranges) → rule ≡ Set offset → contains w offset ≡ false → r ≡ empty_three → r ≡ cut_three rule w b
unfolding cut_three
cut_gone {rule} {offset} {r} w b e d f = f ∙ subst (λ (x : Rule). empty_three ≡ cut_three x w b) (sym e) (sym (ap (λ (t : Bool). cond t b empty_three) d))

pub cut_carried : {rule : Rule} {source : ℕ} {factor offset : ℤ} {q : Range} {r : Ranges} (w : Range) (b : Ranges) → rule ≡ Carry source factor offset
    → q ≡ inverse factor offset w → r ≡ narrow_three source q b → r ≡ cut_three rule w b
unfolding cut_three
cut_carried {rule} {source} {factor} {offset} {q} {r} w b e d f =
    f ∙ ap (λ (x : Range). narrow_three source x b) d ∙ ap (λ (x : Rule). cut_three x w b) (sym e)

-- what dividing by the factor asks
pub carry_limits : {rule : Rule} {source : ℕ} {factor offset : ℤ} → RuleFits 3 rule → rule ≡ Carry source factor offset
    → ((factor ≡ pos 0 → ⊥) × Within 100 factor) × Within 200000000 offset
carry_limits {rule} {source} {factor} {offset} f e = go (subst (RuleFits 3) e f)
  where
    go : RuleFits 3 (Carry source factor offset) → ((factor ≡ pos 0 → ⊥) × Within 100 factor) × Within 200000000 offset
    go (carry_fits l n p q) = ((n, p), q)

pub cuts_made : {x y z : Ranges} (r : Rules) (w b : Ranges) → x ≡ cut_three r.first w.first b → y ≡ cut_three r.second w.second x
    → z ≡ cut_three r.third w.third y → z ≡ cuts_three r w b
unfolding cuts_three
cuts_made r w b e f g = cc
