-- The reading before U5 of document 02, which ended at its first barred action. It stands here for one theorem alone: which configurations are equivalent did
-- not change, and so no class, no block and no chart did.
use Rattle.std.specs.Prelude.{ℕ, suc, ◌≡◌, refl, ◌↔◌, List, [], ◌∷◌, Option, Some, None, option_map}
use Rattle.std.proofs.Common.{sym, ap}
use Rattle.systems.specs.System.{System, Alike}
use Rattle.systems.specs.Alike.{Both, both_barred, both_open}
use Rattle.systems.proofs.Alike.{map_suc_inj, map_suc_zero, alike_label, alike_next, bisimilar_alike}
use Rattle.systems.specs.Former.{Ended, ended, former}

ended_eq : {r q : Ended} → r.labels ≡ q.labels → r.barred ≡ q.barred → r ≡ q
ended_eq p q = λ i. record { labels = p i; barred = q i }

-- the two configurations read the same by the former reading
abbrev FormerAlike : {X Y : Type 0} → System X → System Y → X → Y → Type 0
FormerAlike s t x y = (w : List ℕ) → former s w x ≡ former t w y

-- related steps go on to equal former readings, under equal labels,
ended_both : {X Y : Type 0} {R : X → Y → Type 0} {l m : ℕ} (f : X → Ended) (g : Y → Ended) {o : Option X} {u : Option Y}
    → ((x : X) (y : Y) → R x y → f x ≡ g y) → l ≡ m → Both R o u → ended l o f ≡ ended m u g
unfolding ended
ended_both f g h e both_barred = ended_eq (ap (λ (l : ℕ). l ∷ []) e) refl
ended_both {l} {m} f g h e (both_open {x = x} {y = y} r) =
    let p = ap (λ (z : Ended). z.labels) (h x y r) in
    ended_eq (cc) (ap (λ (z : Ended). option_map suc z.barred) (h x y r))

-- and come from related steps
both_ended : {X Y : Type 0} (s : System X) (t : System Y) (l m : ℕ) (o : Option X) (u : Option Y)
    → ((w : List ℕ) → ended l o (former s w) ≡ ended m u (former t w)) → Both (FormerAlike s t) o u
unfolding ended
both_ended s t l m None None h = both_barred
both_ended s t l m None (Some y) h = absurd (map_suc_zero (former t [] y).barred (sym (ap (λ (z : Ended). z.barred) (h []))))
both_ended s t l m (Some x) None h = absurd (map_suc_zero (former s [] x).barred (ap (λ (z : Ended). z.barred) (h [])))
both_ended s t l m (Some x) (Some y) h =
    both_open (λ w.
    let p : l ∷ (former s w x).labels ≡ m ∷ (former t w y).labels = ap (λ (z : Ended). z.labels) (h w) in
    ended_eq (cc) (map_suc_inj (former s w x).barred (former t w y).barred (ap (λ (z : Ended). z.barred) (h w))))

-- Configurations are equivalent under the reading exactly when they were under the former one.
pub equivalence_unchanged : {X Y : Type 0} (s : System X) (t : System Y) (x : X) (y : Y) → Alike s t x y ↔ ((w : List ℕ) → former s w x ≡ former t w y)
unfolding former
equivalence_unchanged {X} {Y} s t x y = (λ h w. to x y h w, λ h. bisimilar_alike s t (record { label = label; next = next }) x y h)
  where
    to : (x : X) (y : Y) → Alike s t x y → (w : List ℕ) → former s w x ≡ former t w y
    to x y h [] = ended_eq (ap (λ (l : ℕ). l ∷ []) (alike_label s t x y h)) refl
    to x y h (a ∷ w) = ended_both (former s w) (former t w) (λ x' y' r. to x' y' r w) (alike_label s t x y h) (alike_next s t x y h a)

    label : (x : X) (y : Y) → FormerAlike s t x y → s.label x ≡ t.label y
    label x y h = let p : s.label x ∷ [] ≡ t.label y ∷ [] = ap (λ (z : Ended). z.labels) (h []) in cc

    next : (x : X) (y : Y) → FormerAlike s t x y → (a : ℕ) → Both (FormerAlike s t) (s.step a x) (t.step a y)
    next x y h a = both_ended s t (s.label x) (t.label y) (s.step a x) (t.step a y) (λ w. h (a ∷ w))
