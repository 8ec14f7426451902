-- Lists of what a sheet has of a kind, and the bytes that its bounds take.
use Rattle.std.proofs.Common.{subst, arith}
use Rattle.std.specs.Prelude.{List, [], ◌∷◌, ◌++◌, ℕ, zero, suc, ◌<◌}
use Rattle.integers.specs.LittleEndian.{Bytes}
use Rattle.integers.proofs.LittleEndian.{signed_held}
use Rattle.systems.specs.Lists.{collect}
use Rattle.systems.proofs.Lists.{length_each, get_d_each}
use Rattle.model.specs.Sheet.{Each, each_none, each_more}
use Rattle.model.proofs.Classes.{each_at}
use Rattle.model.specs.BoxList.{RangeHeld}
use Rattle.sheet_rules.specs.Layout.{bound_size, low_place, high_place}
use Rattle.sheet_rules.specs.Decode.{listed, range_at}
use Rattle.sheet_rules.proofs.Shape.{two_or_four, width_few}

-- one more at the end of a list
pub each_snoc : {A : Type 0} {P : A → Type 0} {l : List A} {a : A} → Each P l → P a → Each P (l ++ (a ∷ []))
each_snoc each_none h = each_more h each_none
each_snoc (each_more g e) h = each_more g (each_snoc e h)

-- what holds of f 0, .., f (n - 1) holds of each in their list
pub each_listed : {A : Type 0} {P : A → Type 0} (f : ℕ → A) (n : ℕ) → ((v : ℕ) → v < n → P (f v)) → Each P (listed f n)
unfolding collect
each_listed f zero h = each_none
each_listed f (suc n) h = each_snoc (each_listed f n (λ v k. h v (omega arith))) (h n (omega arith))

-- and the other way round
pub each_of : {A : Type 0} {P : A → Type 0} (f : ℕ → A) (n : ℕ) → Each P (listed f n) → (v : ℕ) → v < n → P (f v)
each_of {A} {P} f n e v h = subst P (get_d_each f n (f v) v h) (each_at e v (f v) (omega (arith, length_each f n)))

-- as many bytes as a bound takes hold it
pub range_held : (s : List ℕ) (i v : ℕ) → Bytes s → RangeHeld (bound_size s) (range_at s i v)
unfolding range_at
range_held s i v b =
    let n = width_few (bound_size s) (two_or_four s) in
    record { low_held = signed_held (bound_size s) s (low_place s i v) (omega arith) b; high_held = signed_held (bound_size s) s (high_place s i v) (omega arith) b }
