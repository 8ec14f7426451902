-- What the entries of a reading tell by themselves (document 02, U5): where no label is 65,535, the first barred action. So two readings are equal just when
-- they have the same entries in the same order.
use Rattle.std.specs.Prelude.{ℕ, suc, ◌≡◌, refl, List, [], ◌∷◌, Option, Some, None, option_map}
use Rattle.std.proofs.Common.{arith, sym, ap, ◌∙◌, ne_eqb}
use Rattle.systems.specs.System.{System, after, entry, written, earliest, first_barred, reading}
use Rattle.systems.proofs.Alike.{reading_eq}
use Rattle.systems.specs.Entries.{Plain, first_skipped}

-- The first barred action is the first that wrote 65,535.
pub barred_told : {X : Type 0} (s : System X) → Plain s → (w : List ℕ) (x : X) → first_barred s w x ≡ first_skipped (written s w x)
unfolding first_barred written earliest entry first_skipped
barred_told s p [] x = refl
barred_told {X} s p (a ∷ w) x = go (s.step a x) (barred_told s p w (after x (s.step a x)))
  where
    go : (o : Option X) → first_barred s w (after x o) ≡ first_skipped (written s w (after x o))
        → earliest o (first_barred s w (after x o)) ≡ first_skipped (entry s o ∷ written s w (after x o))
    go None r = refl
    go (Some y) r = let h = p y in rw (ne_eqb (s.label y) 65535 (λ e. omega arith), first_skipped) (ap (option_map suc) r)

-- Readings with the same entries are equal: the same action is the first barred one, or nothing is barred in both.
pub entries_tell : {X Y : Type 0} (s : System X) (t : System Y) → Plain s → Plain t → (w : List ℕ) (x : X) (y : Y)
    → (reading s w x).entries ≡ (reading t w y).entries → reading s w x ≡ reading t w y
unfolding reading
entries_tell s t p q w x y e =
    let k : s.label x ∷ written s w x ≡ t.label y ∷ written t w y = e in
    let l : written s w x ≡ written t w y = cc in
    reading_eq e (barred_told s p w x ∙ ap first_skipped l ∙ sym (barred_told t q w y))
