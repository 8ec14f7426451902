-- The code's cuts of three ranges have the volume of the model's preimages.
use Rattle.std.specs.Prelude.{◌≡◌, refl, Bool, true, false, cond, List, [], ◌∷◌, ◌++◌, ℕ, zero, suc, ◌*◌, ◌≤◌, eqb, length, get_or, set}
use Rattle.std.proofs.Common.{sym, ap, subst, ◌∙◌, arith, mul_assoc, zero-mul, length-append, length-set}
use Rattle.std.proofs.Math.ListN.{get_or-append}
use Rattle.std.proofs.lemmas.List.{set-append_left}
use Rattle.integers.specs.declared.Range.{Range}
use Rattle.integers.specs.Range.{contains, meet, size}
use Rattle.integers.specs.Inverse.{inverse}
use Rattle.systems.specs.Lists.{collect}
use Rattle.model.specs.declared.Rule.{Rule}
use Rattle.model.specs.declared.Rule.TheVariants.{Set, Carry}
use Rattle.model.specs.Sheet.{RuleFits, carry_fits, Each, each_none, each_more}
use Rattle.model.specs.Blocks.{empty, emptied, cut, cuts, volume}
use Rattle.model.proofs.Boxes.{cuts_exact, emptied_none, length_emptied}
use Rattle.model.proofs.Finite.{volume_none}
use Rattle.sheet_bytes.specs.declared.Ranges.{Ranges}
use Rattle.sheet_bytes.specs.declared.RegionBox.{RegionBox}
use Rattle.sheet_bytes.specs.declared.RegionMove.{RegionMove}
use Rattle.sheet_rules.specs.Decode.{listed}
use Rattle.sheet_bytes.specs.Three.{padded, zero_range, ranges_three, rules_three}
use Rattle.sheet_bytes.specs.Cuts.{all_three, cut_three, cuts_three, cut_list, fits_wider}

-- how many of the configurations within b a move takes into a wanted box
unfoldable pub share_three : Ranges → RegionMove → RegionBox → ℕ
share_three b m w = cond (eqb m.target w.state) (volume (all_three (cuts_three m.rules w.ranges b))) 0

each_wider : {n m : ℕ} {rules : List Rule} → n ≤ m → Each (RuleFits n) rules → Each (RuleFits m) rules
each_wider h each_none = each_none
each_wider h (each_more f fs) = each_more (fits_wider h f) (each_wider h fs)

-- nothing is taken from emptied ranges
cuts_emptied : (rules : List Rule) (wanted rs : List Range) → Each (RuleFits (length rs)) rules → length rules ≡ length wanted → 1 ≤ length rs
    → volume (cuts rules wanted (emptied rs)) ≡ 0
cuts_emptied rules wanted rs f l h =
    volume_none (cuts rules wanted (emptied rs))
    (λ ys t. emptied_none rs ys h ((cuts_exact rules wanted (emptied rs) ys f l (length_emptied rs) h).0 t).0)

volume_append : (rs zs : List Range) → volume (rs ++ zs) ≡ volume rs * volume zs
unfolding volume
volume_append [] zs = omega arith
volume_append (r ∷ rs) zs = let i = volume_append rs zs in ap (λ (k : ℕ). size r * k) i ∙ sym (mul_assoc (size r) (volume rs) (volume zs))

-- ranges that no rule reads are a factor of the volume
cuts_append : (rules : List Rule) (wanted rs zs : List Range) → Each (RuleFits (length rs)) rules → length rules ≡ length wanted → 1 ≤ length rs
    → volume (cuts rules wanted (rs ++ zs)) ≡ volume (cuts rules wanted rs) * volume zs
unfolding cuts cut
cuts_append [] wanted rs zs f l h = volume_append rs zs
cuts_append (rule ∷ rules) [] rs zs f l h = absurd (omega arith)
cuts_append (Set offset ∷ rules) (w ∷ wanted) rs zs (each_more p f) l h = go (contains w offset) (λ k. cuts_append rules wanted rs zs f k h)
  where
    go : (t : Bool) → (length rules ≡ length wanted → volume (cuts rules wanted (rs ++ zs)) ≡ volume (cuts rules wanted rs) * volume zs)
        → volume (cuts rules wanted (elim t [ true ↦ rs ++ zs | false ↦ emptied (rs ++ zs) ]))
        ≡ volume (cuts rules wanted (elim t [ true ↦ rs | false ↦ emptied rs ])) * volume zs
    go true i = i (omega arith)
    go false i =
        let a = cuts_emptied rules wanted rs f (omega arith) h in
        let n = length-append rs zs in
        let b = cuts_emptied rules wanted (rs ++ zs) (each_wider (omega arith) f) (omega arith) (omega arith) in
        b ∙ sym (ap (λ (k : ℕ). k * volume zs) a ∙ zero-mul (volume zs))
cuts_append (Carry source factor offset ∷ rules) (w ∷ wanted) rs zs (each_more (carry_fits s n p q) f) l h =
    let r = meet (get_or rs source empty) (inverse factor offset w) in
    let m = length-set rs source r in
    let g = get_or-append rs zs empty source s in
    let a = set-append_left rs zs source r s in
    let i = cuts_append rules wanted (set rs source r) zs (subst (λ (k : ℕ). Each (RuleFits k) rules) (sym m) f) (omega arith) (omega arith) in
    ap (λ (x : Range). volume (cuts rules wanted (set (rs ++ zs) source (meet x (inverse factor offset w))))) g
    ∙ ap (λ (x : List Range). volume (cuts rules wanted x)) a
    ∙ i

-- a range 0..0 holds one number
volume_zeros : (volume (zero_range ∷ []) ≡ 1) × (volume (zero_range ∷ zero_range ∷ []) ≡ 1)
unfolding volume size
volume_zeros = (refl, refl)

times_one : (k n : ℕ) → n ≡ 1 → k * n ≡ k
times_one k n e = ap (λ (m : ℕ). k * m) e ∙ omega arith

-- the cuts of three have the volume of the model's cuts
pub cuts_volume : (n : ℕ) (rules : ℕ → Rule) (wanted rs : ℕ → Range) → Each (RuleFits n) (listed rules n) → 1 ≤ n → n ≤ 3
    → volume (all_three (cuts_three (rules_three rules n) (ranges_three wanted n) (ranges_three rs n))) ≡ volume (cuts (listed rules n) (listed wanted n) (listed rs n))
unfolding cuts_three cut_three contains padded collect cuts
cuts_volume zero rules wanted rs f g h = absurd (omega arith)
cuts_volume (suc zero) rules wanted rs (each_more p f) g h =
    ap volume (cut_list (rules 0) (wanted 0) (ranges_three rs 1) p h)
    ∙ cuts_append (rules 0 ∷ []) (wanted 0 ∷ []) (rs 0 ∷ []) (zero_range ∷ zero_range ∷ []) (each_more p f) refl g
    ∙ times_one _ _ volume_zeros.1
cuts_volume (suc (suc zero)) rules wanted rs (each_more p (each_more q f)) g h =
    ap volume
    (cut_list (rules 1) (wanted 1) (cut_three (rules 0) (wanted 0) (ranges_three rs 2)) q h ∙ ap (cut (rules 1) (wanted 1)) (cut_list (rules 0) (wanted 0) (ranges_three rs 2) p h))
    ∙ cuts_append (rules 0 ∷ rules 1 ∷ []) (wanted 0 ∷ wanted 1 ∷ []) (rs 0 ∷ rs 1 ∷ []) (zero_range ∷ []) (each_more p (each_more q f)) refl g
    ∙ times_one _ _ volume_zeros.0
cuts_volume (suc (suc (suc zero))) rules wanted rs (each_more p (each_more q (each_more r f))) g h =
    ap volume
    (cut_list (rules 2) (wanted 2) (cut_three (rules 1) (wanted 1) (cut_three (rules 0) (wanted 0) (ranges_three rs 3))) r h
    ∙ ap (cut (rules 2) (wanted 2))
    (cut_list (rules 1) (wanted 1) (cut_three (rules 0) (wanted 0) (ranges_three rs 3)) q h ∙ ap (cut (rules 1) (wanted 1)) (cut_list (rules 0) (wanted 0) (ranges_three rs 3) p h)))
cuts_volume (suc (suc (suc (suc n)))) rules wanted rs f g h = absurd (omega arith)

-- and three ranges that of the list
pub ranges_volume : (n : ℕ) (rs : ℕ → Range) → 1 ≤ n → n ≤ 3 → volume (all_three (ranges_three rs n)) ≡ volume (listed rs n)
unfolding padded collect
ranges_volume zero rs g h = absurd (omega arith)
ranges_volume (suc zero) rs g h = volume_append (rs 0 ∷ []) (zero_range ∷ zero_range ∷ []) ∙ times_one _ _ volume_zeros.1
ranges_volume (suc (suc zero)) rs g h = volume_append (rs 0 ∷ rs 1 ∷ []) (zero_range ∷ []) ∙ times_one _ _ volume_zeros.0
ranges_volume (suc (suc (suc zero))) rs g h = refl
ranges_volume (suc (suc (suc (suc n)))) rs g h = absurd (omega arith)
