-- Rules one after another: what becomes of a counter along a sequence of open moves, each given by its list of rules.
use Rattle.std.specs.Prelude.{◌≡◌, refl, ◌↔◌, ◌⊎◌, List, [], ◌∷◌, ◌++◌, ℕ, zero, suc, ◌+◌, ◌*◌, ◌^◌, ◌≤◌, ◌<◌, get_or, ℤ, pos, negsuc, neg_ℤ, ◌+ℤ◌, ◌-ℤ◌, ◌*ℤ◌}
use Rattle.std.proofs.Common.{sym, ap, subst, ◌∙◌, inl, inr, zero-add, suc-add, mul-le-mul_left, mul-le-mul_right, arith}
use Rattle.std.proofs.Math.Nat.{two-pow-succ, pow-le-pow_right}
use Rattle.std.proofs.Math.Decide.{ℕ_discrete, dec_lt}
use Rattle.std.proofs.Math.IntN.{+ℤ_assoc}
use Rattle.integers.specs.Order.{up, dn}
use Rattle.integers.proofs.Order.{eq_out, add_parts, sub_parts, mul_up, mul_dn, mul_size, mul_neg}
use Rattle.integers.proofs.RangeLaws.{within_zero}
use Rattle.integers.specs.Inverse.{carried}
use Rattle.model.specs.declared.Rule.{Rule}
use Rattle.model.specs.declared.Rule.TheVariants.{Set, Carry}
use Rattle.model.specs.Sheet.{applied, updated, RuleFits, set_fits, carry_fits, Each, each_none, each_more}
use Rattle.depth_rules.specs.Composition.{updated_by, through, rule_at, composed, followed, great_factor, great, met_by, greats, sign, distance, Close, close_none, close_more, Reads, reads_none, reads_one, IsUnit}

-- products of integers, and a carry rule after another
times_assoc : (a b c : ℤ) → a *ℤ (b *ℤ c) ≡ (a *ℤ b) *ℤ c
times_assoc a b c = eq_out (a *ℤ (b *ℤ c)) ((a *ℤ b) *ℤ c) (simp (mul_up, mul_dn) (omega arith))

times_one : (a : ℤ) → a *ℤ pos 1 ≡ a
times_one a = eq_out (a *ℤ pos 1) a (omega (arith, mul_up a (pos 1), mul_dn a (pos 1)))

times_plus : (a b c : ℤ) → a *ℤ (b +ℤ c) ≡ (a *ℤ b) +ℤ (a *ℤ c)
times_plus a b c =
    let s = add_parts b c in
    let p = ap (λ (z : ℕ). up a * z) s in
    let q = ap (λ (z : ℕ). dn a * z) s in
    let r = simp (mul_up, mul_dn) at (add_parts (a *ℤ b) (a *ℤ c)) in
    eq_out (a *ℤ (b +ℤ c)) ((a *ℤ b) +ℤ (a *ℤ c)) (omega (arith, mul_up a (b +ℤ c), mul_dn a (b +ℤ c)))

carried_carried : (f b g c x : ℤ) → carried f b (carried g c x) ≡ carried (f *ℤ g) (carried f b c) x
carried_carried f b g c x =
    ap (λ (z : ℤ). z +ℤ b) (times_plus f (g *ℤ x) c)
    ∙ +ℤ_assoc (f *ℤ (g *ℤ x)) (f *ℤ c) b
    ∙ ap (λ (z : ℤ). z +ℤ carried f b c) (times_assoc f g x)

carried_same : (f b : ℤ) → carried f b (pos 0) ≡ b
carried_same f b = eq_out (carried f b (pos 0)) b (omega (arith, add_parts (f *ℤ pos 0) b, mul_up f (pos 0), mul_dn f (pos 0)))

carried_none : (x : ℤ) → carried (pos 1) (pos 0) x ≡ x
carried_none x = eq_out (carried (pos 1) (pos 0) x) x (omega (arith, add_parts (pos 1 *ℤ x) (pos 0), mul_up (pos 1) x, mul_dn (pos 1) x))

-- a rule read through a factor and an offset gives what they make of its value
pub through_applied : (f b : ℤ) (r : Rule) (old : List ℤ) → applied (through f b r) old ≡ carried f b (applied r old)
unfolding applied through
through_applied f b (Set value) old = refl
through_applied f b (Carry source g c) old = sym (carried_carried f b g c (get_or old source (pos 0)))

-- the new value of a counter is its rule's
pub updated_at : (rules : List Rule) (old : List ℤ) (v : ℕ) → get_or (updated rules old) v (pos 0) ≡ applied (rule_at rules v) old
unfolding updated applied
updated_at [] old v = refl
updated_at (r ∷ rules) old zero = refl
updated_at (r ∷ rules) old (suc v) = updated_at rules old v

-- a rule of the new values, as a rule of the old ones
pub composed_applied : (r : Rule) (rules : List Rule) (old : List ℤ) → applied (composed r rules) old ≡ applied r (updated rules old)
unfolding applied composed
composed_applied (Set value) rules old = refl
composed_applied (Carry source f b) rules old = through_applied f b (rule_at rules source) old ∙ ap (carried f b) (sym (updated_at rules old source))

-- What the moves leave in counter v is what its rule along them gives from the values before.
pub followed_applied : (moves : List (List Rule)) (v : ℕ) (old : List ℤ) → applied (followed moves v) old ≡ get_or (updated_by moves old) v (pos 0)
unfolding followed updated_by applied
followed_applied [] v old = carried_none (get_or old v (pos 0))
followed_applied (rules ∷ moves) v old = composed_applied (followed moves v) rules old ∙ followed_applied moves v (updated rules old)

-- a product of factors other than 0 is other than 0
factors : (a b : ℤ) → (a ≡ pos 0 → ⊥) → (b ≡ pos 0 → ⊥) → a *ℤ b ≡ pos 0 → ⊥
factors a b h g e =
    let s = simp mul_up at (ap up e) in
    let t = simp mul_dn at (ap dn e) in
    go a b h g s t
  where
    go : (a b : ℤ) → (a ≡ pos 0 → ⊥) → (b ≡ pos 0 → ⊥) → up a * up b + dn a * dn b ≡ 0 → up a * dn b + dn a * up b ≡ 0 → ⊥
    go (pos zero) b h g s t = h refl
    go (pos (suc m)) (pos zero) h g s t = g refl
    go (pos (suc m)) (pos (suc n)) h g s t = omega arith
    go (pos (suc m)) (negsuc n) h g s t = omega arith
    go (negsuc m) (pos zero) h g s t = g refl
    go (negsuc m) (pos (suc n)) h g s t = omega arith
    go (negsuc m) (negsuc n) h g s t = omega arith

-- a property of each rule, and of setting to 0, is one of the rule at any place
pub rule_at_lem : {P : Rule → Type 0} {rules : List Rule} → Each P rules → P (Set (pos 0)) → (v : ℕ) → P (rule_at rules v)
rule_at_lem each_none z v = z
rule_at_lem (each_more p e) z zero = p
rule_at_lem (each_more p e) z (suc v) = rule_at_lem e z v

fits_reads : {V# : ℕ} {r : Rule} → RuleFits V# r → Reads V# r
fits_reads (set_fits o) = reads_none
fits_reads (carry_fits l n f o) = reads_one l n

rule_reads : {V# : ℕ} {rules : List Rule} → Each (RuleFits V#) rules → (v : ℕ) → Reads V# (rule_at rules v)
rule_reads f v = fits_reads (rule_at_lem f (set_fits (within_zero 200000000)) v)

through_reads : {V# : ℕ} (f b : ℤ) {r : Rule} → (f ≡ pos 0 → ⊥) → Reads V# r → Reads V# (through f b r)
unfolding through
through_reads f b n reads_none = reads_none
through_reads f b n (reads_one {factor = g} l m) = reads_one l (factors f g n m)

composed_reads : {V# : ℕ} {r : Rule} {rules : List Rule} → Each (RuleFits V#) rules → Reads V# r → Reads V# (composed r rules)
unfolding composed
composed_reads f reads_none = reads_none
composed_reads f (reads_one {source} {factor} {offset} l n) = through_reads factor offset n (rule_reads f source)

some : pos 1 ≡ pos 0 → ⊥
some e = let z = ap up e in omega arith

pub followed_reads : {V# : ℕ} {moves : List (List Rule)} (v : ℕ) → Each (Each (RuleFits V#)) moves → v < V# → Reads V# (followed moves v)
unfolding followed
followed_reads v each_none h = reads_one h some
followed_reads v (each_more f e) h = composed_reads f (followed_reads v e h)

-- Along moves that fit, a counter that is not set reads one below V#, times a factor other than 0.
pub followed_fits : {V# : ℕ} {moves : List (List Rule)} {u : ℕ} {F β : ℤ} (v : ℕ) → Each (Each (RuleFits V#)) moves → v < V# → followed moves v ≡ Carry u F β
    → (u < V#) × (F ≡ pos 0 → ⊥)
followed_fits {V#} {u} {F} {β} v e h q = go (subst (Reads V#) q (followed_reads v e h))
  where
    go : Reads V# (Carry u F β) → (u < V#) × (F ≡ pos 0 → ⊥)
    go (reads_one l n) = (l, n)

-- A counter that the last moves set is set.
pub followed_set : {o : ℤ} (left right : List (List Rule)) (v : ℕ) → followed right v ≡ Set o → followed (left ++ right) v ≡ Set o
unfolding followed composed
followed_set [] right v e = e
followed_set (rules ∷ left) right v e = ap (λ (r : Rule). composed r rules) (followed_set left right v e)

-- one carry after another, read through a third
through_through : (f b g c : ℤ) (r : Rule) → through f b (through g c r) ≡ through (f *ℤ g) (carried f b c) r
unfolding through
through_through f b g c (Set value) = ap {B = Rule} (λ (z : ℤ). Set z) (carried_carried f b g c value)
through_through f b g c (Carry source h d) =
    let p = times_assoc f g h in
    let q = carried_carried f b g c d in
    cc

through_composed : (f b : ℤ) (r : Rule) (rules : List Rule) → composed (through f b r) rules ≡ through f b (composed r rules)
unfolding composed through
through_composed f b (Set value) rules = refl
through_composed f b (Carry source g c) rules = sym (through_through f b g c (rule_at rules source))

-- reading through a factor and an offset leaves the source
through_met : (f b : ℤ) (r : Rule) (rules : List Rule) → met_by (through f b r) rules ≡ met_by r rules
unfolding met_by through
through_met f b (Set value) rules = refl
through_met f b (Carry source g c) rules = refl

-- A counter along two sequences of moves is the one that it reads, along the first, read through its rule along the second.
pub followed_split : {u : ℕ} {F β : ℤ} (left right : List (List Rule)) (v : ℕ) → followed right v ≡ Carry u F β
    → followed (left ++ right) v ≡ through F β (followed left u)
unfolding followed through
followed_split {F} {β} [] right v e =
    let p = times_one F in
    let q = carried_same F β in
    cc
followed_split {u} {F} {β} (rules ∷ left) right v e =
    ap (λ (r : Rule). composed r rules) (followed_split left right v e) ∙ through_composed F β (followed left u) rules

-- the factors that it meets are those of both
pub greats_split : {u : ℕ} {F β : ℤ} (left right : List (List Rule)) (v : ℕ) → followed right v ≡ Carry u F β
    → greats (left ++ right) v ≡ greats left u + greats right v
unfolding greats
greats_split [] right v e = omega arith
greats_split {u} {F} {β} (rules ∷ left) right v e =
    let i = greats_split left right v e in
    let p = ap (λ (r : Rule). met_by r rules) (followed_split left right v e) in
    let q = through_met F β (followed left u) rules in
    omega arith

great_none : (f : ℤ) → great_factor f ≡ 0 → IsUnit f
unfolding great_factor
great_none (pos zero) e = absurd (omega arith)
great_none (pos (suc zero)) e = inl refl
great_none (pos (suc (suc n))) e = absurd (omega arith)
great_none (negsuc zero) e = inr refl
great_none (negsuc (suc n)) e = absurd (omega arith)

unit_times : (f g : ℤ) → IsUnit f → IsUnit g → IsUnit (f *ℤ g)
unit_times f g (inl p) (inl q) = inl (ap (λ (z : ℤ). z *ℤ g) p ∙ ap (λ (z : ℤ). pos 1 *ℤ z) q)
unit_times f g (inl p) (inr q) = inr (ap (λ (z : ℤ). z *ℤ g) p ∙ ap (λ (z : ℤ). pos 1 *ℤ z) q)
unit_times f g (inr p) (inl q) = inr (ap (λ (z : ℤ). z *ℤ g) p ∙ ap (λ (z : ℤ). negsuc 0 *ℤ z) q)
unit_times f g (inr p) (inr q) = inl (ap (λ (z : ℤ). z *ℤ g) p ∙ ap (λ (z : ℤ). negsuc 0 *ℤ z) q)

-- a rule with factor 1 or -1, or none
data OfUnit : Rule → Type 0 where
  unit_none : {value : ℤ} → OfUnit (Set value)
  unit_one : {source : ℕ} {factor offset : ℤ} → IsUnit factor → OfUnit (Carry source factor offset)

great_unit : (r : Rule) → great r ≡ 0 → OfUnit r
unfolding great
great_unit (Set value) e = unit_none
great_unit (Carry source factor offset) e = unit_one (great_none factor e)

through_unit : (f b : ℤ) {r : Rule} → IsUnit f → OfUnit r → OfUnit (through f b r)
unfolding through
through_unit f b i unit_none = unit_none
through_unit f b i (unit_one {factor = g} j) = unit_one (unit_times f g i j)

composed_unit : {r : Rule} (rules : List Rule) → OfUnit r → met_by r rules ≡ 0 → OfUnit (composed r rules)
unfolding composed met_by
composed_unit rules unit_none e = unit_none
composed_unit rules (unit_one {source} {factor} {offset} i) e = through_unit factor offset i (great_unit (rule_at rules source) e)

followed_unit : (moves : List (List Rule)) (v : ℕ) → greats moves v ≡ 0 → OfUnit (followed moves v)
unfolding followed greats
followed_unit [] v e = unit_one (inl refl)
followed_unit (rules ∷ moves) v e = composed_unit rules (followed_unit moves v (omega arith)) (omega arith)

-- A counter that meets no great factor reads another times 1 or -1.
pub units : {u : ℕ} {F β : ℤ} (moves : List (List Rule)) (v : ℕ) → greats moves v ≡ 0 → followed moves v ≡ Carry u F β → (F ≡ pos 1) ⊎ (F ≡ negsuc 0)
units {u} {F} {β} moves v e q = go (subst OfUnit q (followed_unit moves v e))
  where
    go : OfUnit (Carry u F β) → IsUnit F
    go (unit_one i) = i

-- a factor 1 or -1 after which a factor other than 0 keeps its sign is 1
sign_kept : (f g : ℤ) → (f ≡ pos 0 → ⊥) → IsUnit g → sign f ≡ sign (f *ℤ g) → g ≡ pos 1
unfolding sign
sign_kept f g n (inl q) e = q
sign_kept f g n (inr q) e = absurd (go f n (e ∙ ap (λ (z : ℤ). sign (f *ℤ z)) q))
  where
    go : (f : ℤ) → (f ≡ pos 0 → ⊥) → sign f ≡ sign (f *ℤ negsuc 0) → ⊥
    go (pos zero) n e = n refl
    go (pos (suc k)) n e =
        let p : suc k * 1 ≡ suc k = omega arith in
        let z : ◌≡◌ {A = ℕ} 0 1 = e ∙ ap (λ (m : ℕ). sign (neg_ℤ (pos m))) p in
        omega arith
    go (negsuc k) n e = omega arith

-- A part that brings a counter back to the one that it starts from, with no great factor and the same sign, adds a number to it.
pub loop_one : {u : ℕ} {F β F' β' : ℤ} (left right : List (List Rule)) (v : ℕ) → followed right v ≡ Carry u F β → (F ≡ pos 0 → ⊥)
    → followed (left ++ right) v ≡ Carry u F' β' → greats (left ++ right) v ≡ greats right v → sign F ≡ sign F'
    → (c : ℤ) × (followed left u ≡ Carry u (pos 1) c)
unfolding through
loop_one {u} {F} {β} {F'} {β'} left right v e n d g s =
    go (followed left u) (sym (followed_split left right v e) ∙ d) (followed_unit left u (omega (arith, greats_split left right v e)))
  where
    go : (r : Rule) → through F β r ≡ Carry u F' β' → OfUnit r → (c : ℤ) × (r ≡ Carry u (pos 1) c)
    go (Set value) q i = let z : ◌≡◌ {A = ℕ} 0 1 = cc in absurd (omega arith)
    go (Carry source f b) q (unit_one i) =
        let p : F *ℤ f ≡ F' = cc in
        let k = sign_kept F f n i (s ∙ ap sign (sym p)) in
        (b, cc)

met_unit : (r : Rule) {rules : List Rule} → Each (λ r. great r ≡ 0) rules → met_by r rules ≡ 0
unfolding met_by great
met_unit (Set value) p = refl
met_unit (Carry source factor offset) p = rule_at_lem {P = λ r. great r ≡ 0} p refl source

-- Along rules with factors 1 and -1 no counter meets another factor.
pub greats_units : {moves : List (List Rule)} → Each (Each (λ r. great r ≡ 0)) moves → (v : ℕ) → greats moves v ≡ 0
unfolding greats
greats_units each_none v = refl
greats_units (each_more {l = moves} p e) v = let i = greats_units e v in let m = met_unit (followed moves v) p in omega arith

-- a distance below n, by its two sides
pub distance_below : (x y : ℤ) (n : ℕ) → (distance x y < n) ↔ ((up x + dn y < up y + dn x + n) × (up y + dn x < up x + dn y + n))
unfolding distance
distance_below x y n = go (y -ℤ x) (sub_parts y x)
  where
    go : (z : ℤ) → up z + (dn y + up x) ≡ dn z + (up y + dn x)
        → (up z + dn z < n) ↔ ((up x + dn y < up y + dn x + n) × (up y + dn x < up x + dn y + n))
    go (pos k) e = omega arith
    go (negsuc k) e = omega arith

-- only a number itself lies at distance 0
pub distance_none : (x y : ℤ) → distance x y ≡ 0 → x ≡ y
distance_none x y e = let (l, g) = (distance_below x y 1).0 (omega arith) in eq_out x y (omega arith)

pub distance_same : (x : ℤ) → distance x x ≡ 0
distance_same x = let h = (distance_below x x 1).1 (omega arith, omega arith) in omega arith

minus_same : (a b c : ℤ) → (a +ℤ b) -ℤ (c +ℤ b) ≡ a -ℤ c
minus_same a b c =
    eq_out ((a +ℤ b) -ℤ (c +ℤ b)) (a -ℤ c) (omega (arith, sub_parts (a +ℤ b) (c +ℤ b), sub_parts a c, add_parts a b, add_parts c b))

-- a carry rule multiplies distances
pub distance_carried : (f b x y : ℤ) → distance (carried f b x) (carried f b y) ≡ (up f + dn f) * distance x y
unfolding distance
distance_carried f b x y =
    let e : carried f b y -ℤ carried f b x ≡ f *ℤ (y -ℤ x) =
    minus_same (f *ℤ y) b (f *ℤ x) ∙ sym (times_plus f y (neg_ℤ x) ∙ ap (λ (z : ℤ). (f *ℤ y) +ℤ z) (mul_neg f x)) in
    ap (λ (z : ℤ). up z + dn z) e ∙ mul_size f (y -ℤ x)

power_add : (g k : ℕ) → 2 ^ (g + k) ≡ 2 ^ g * 2 ^ k
power_add zero k = rw (zero-add k) (omega arith)
power_add (suc g) k = let i = power_add g k in rw (suc-add g k, two-pow-succ (g + k), two-pow-succ g) (omega arith)

-- a great factor at least doubles
great_size : (f : ℤ) → (f ≡ pos 0 → ⊥) → 2 ^ great_factor f ≤ up f + dn f
unfolding great_factor
great_size (pos zero) n = absurd (n refl)
great_size (pos (suc zero)) n = omega arith
great_size (pos (suc (suc k))) n = omega arith
great_size (negsuc zero) n = omega arith
great_size (negsuc (suc k)) n = omega arith

great_one : (f : ℤ) → great_factor f ≤ 1
unfolding great_factor
great_one (pos zero) = omega arith
great_one (pos (suc zero)) = omega arith
great_one (pos (suc (suc k))) = omega arith
great_one (negsuc zero) = omega arith
great_one (negsuc (suc k)) = omega arith

-- what one move does to the distance of the values that a rule after it reads
record Stepped (r : Rule) (rules : List Rule) (xs ys : List ℤ) (u : ℕ) : Type 0 where
  source : ℕ
  factor : ℤ
  offset : ℤ
  by : ℕ
  reads : r ≡ Carry source factor offset
  one : met_by r rules ≤ 1
  grows : 2 ^ met_by r rules ≤ by
  after : distance (get_or (updated rules xs) source (pos 0)) (get_or (updated rules ys) source (pos 0)) ≡ by * distance (get_or xs u (pos 0)) (get_or ys u (pos 0))

stepped : {V# u : ℕ} {F β : ℤ} (r : Rule) (rules : List Rule) (xs ys : List ℤ) → Each (RuleFits V#) rules → composed r rules ≡ Carry u F β → Stepped r rules xs ys u
unfolding composed through met_by great applied
stepped (Set value) rules xs ys p e = let z : ◌≡◌ {A = ℕ} 0 1 = cc in absurd (omega arith)
stepped {V#} {u} {F} {β} (Carry source G c) rules xs ys p e = go (rule_at rules source) refl (rule_reads p source) e
  where
    go : (q : Rule) → rule_at rules source ≡ q → Reads V# q → through G c q ≡ Carry u F β → Stepped (Carry source G c) rules xs ys u
    go (Set value) h i e = let z : ◌≡◌ {A = ℕ} 0 1 = cc in absurd (omega arith)
    go (Carry w f b) h (reads_one l n) e =
        let k : w ≡ u = cc in
        let m : great (rule_at rules source) ≡ great_factor f = ap great h in
        let a : (zs : List ℤ) → get_or (updated rules zs) source (pos 0) ≡ carried f b (get_or zs u (pos 0)) =
        λ zs. updated_at rules zs source ∙ ap (λ (q : Rule). applied q zs) h ∙ ap (λ (j : ℕ). carried f b (get_or zs j (pos 0))) k in
        record {
          source = source;
          factor = G;
          offset = c;
          by = up f + dn f;
          reads = refl;
          one = omega (arith, great_one f);
          grows = subst (λ (j : ℕ). 2 ^ j ≤ up f + dn f) (sym m) (great_size f n);
          after =
              ap (λ (z : ℤ). distance z (get_or (updated rules ys) source (pos 0))) (a xs)
              ∙ ap (λ (z : ℤ). distance (carried f b (get_or xs u (pos 0))) z) (a ys)
              ∙ distance_carried f b (get_or xs u (pos 0)) (get_or ys u (pos 0));
        }

few : {V# m u : ℕ} {F β : ℤ} (v : ℕ) (rules : List Rule) (moves : List (List Rule)) {xs ys : List ℤ} → Each (Each (RuleFits V#)) (rules ∷ moves)
    → Close m (rules ∷ moves) xs ys → followed (rules ∷ moves) v ≡ Carry u F β
    → distance (get_or xs u (pos 0)) (get_or ys u (pos 0)) * 2 ^ greats (rules ∷ moves) v < 2 ^ suc m
unfolding followed greats
few {m} {u} v rules [] {xs} {ys} (each_more p e) (close_more c d) q =
    let s = stepped (Carry v (pos 1) (pos 0)) rules xs ys p q in
    let o : met_by (Carry v (pos 1) (pos 0)) rules + 0 ≤ 1 = omega (arith, s.one) in
    let g = pow-le-pow_right {n = 2} (omega arith) o in
    let l = mul-le-mul_left (distance (get_or xs u (pos 0)) (get_or ys u (pos 0))) g in
    let b = c u in
    omega (arith, two-pow-succ m)
few {m} {u} v rules (next ∷ moves) {xs} {ys} (each_more p e) (close_more c d) q =
    let s = stepped (followed (next ∷ moves) v) rules xs ys p q in
    let i = few {u = s.source} v next moves e d s.reads in
    let D = distance (get_or xs u (pos 0)) (get_or ys u (pos 0)) in
    let G = 2 ^ greats (next ∷ moves) v in
    let w = ap (λ (z : ℕ). z * G) s.after in
    let l = mul-le-mul_left D (mul-le-mul_right G s.grows) in
    rw (power_add (met_by (followed (next ∷ moves) v) rules) (greats (next ∷ moves) v)) (omega arith)

-- Where values stay less than 2 ^ m apart before each move, a counter that reads one in which they differ meets at most m great factors.
pub greats_few : {V# m u : ℕ} {F β : ℤ} {moves : List (List Rule)} {xs ys : List ℤ} (v : ℕ) → Close m moves xs ys → Each (Each (RuleFits V#)) moves
    → followed moves v ≡ Carry u F β → (get_or xs u (pos 0) ≡ get_or ys u (pos 0) → ⊥) → greats moves v ≤ m
unfolding greats
greats_few v close_none f q n = omega arith
greats_few {m} {u} {xs} {ys} v (close_more {rules} {moves} c d) f q n = go (dec_lt m (greats (rules ∷ moves) v)) (ℕ_discrete (distance (get_or xs u (pos 0)) (get_or ys u (pos 0))) 0)
  where
    go : Dec (m < greats (rules ∷ moves) v) → Dec (distance (get_or xs u (pos 0)) (get_or ys u (pos 0)) ≡ 0) → greats (rules ∷ moves) v ≤ m
    go (no h) z = omega arith
    go (yes h) (yes z) = absurd (n (distance_none (get_or xs u (pos 0)) (get_or ys u (pos 0)) z))
    go (yes h) (no z) =
        let b = few v rules moves f (close_more c d) q in
        let p : 2 ^ suc m ≤ 2 ^ greats (rules ∷ moves) v = pow-le-pow_right {n = 2} (omega arith) h in
        let o : 1 ≤ distance (get_or xs u (pos 0)) (get_or ys u (pos 0)) = omega arith in
        let k = mul-le-mul_right (2 ^ greats (rules ∷ moves) v) o in
        absurd (omega arith)
