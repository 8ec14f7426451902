-- Rules one after another: what becomes of a counter along a sequence of open moves, each given by its list of rules.
use Rattle.std.specs.Prelude.{◌≡◌, ◌⊎◌, List, [], ◌∷◌, ℕ, zero, suc, ◌+◌, ◌^◌, ◌<◌, get_or, ℤ, pos, negsuc, ◌-ℤ◌, ◌*ℤ◌}
use Rattle.integers.specs.Order.{up, dn}
use Rattle.integers.specs.Inverse.{carried}
use Rattle.model.specs.declared.Rule.{Rule}
use Rattle.model.specs.declared.Rule.TheVariants.{Set, Carry}
use Rattle.model.specs.Sheet.{updated}

-- the values after the moves
unfoldable pub updated_by : List (List Rule) → List ℤ → List ℤ
updated_by [] old = old
updated_by (rules ∷ moves) old = updated_by moves (updated rules old)

-- factor * value + offset of what a rule gives, as a rule
unfoldable pub through : ℤ → ℤ → Rule → Rule
through factor offset (Set value) = Set (carried factor offset value)
through factor offset (Carry source f b) = Carry source (factor *ℤ f) (carried factor offset b)

-- the rule of a counter; a counter that has none is set to 0
abbrev pub rule_at : List Rule → ℕ → Rule
rule_at rules v = get_or rules v (Set (pos 0))

-- a rule that reads what other rules give, as a rule of the values before
unfoldable pub composed : Rule → List Rule → Rule
composed (Set value) rules = Set value
composed (Carry source factor offset) rules = through factor offset (rule_at rules source)

-- counter v after the moves, as a rule of the values before
unfoldable pub followed : List (List Rule) → ℕ → Rule
followed [] v = Carry v (pos 1) (pos 0)
followed (rules ∷ moves) v = composed (followed moves v) rules

-- 0 for the factors 1 and -1, else 1
unfoldable pub great_factor : ℤ → ℕ
great_factor (pos zero) = 1
great_factor (pos (suc zero)) = 0
great_factor (pos (suc (suc n))) = 1
great_factor (negsuc zero) = 0
great_factor (negsuc (suc n)) = 1

-- 1 for a rule whose factor is other than 1 and -1, else 0
unfoldable pub great : Rule → ℕ
great (Set value) = 0
great (Carry source factor offset) = great_factor factor

-- the same for the rule whose value a rule reads
unfoldable pub met_by : Rule → List Rule → ℕ
met_by (Set value) rules = 0
met_by (Carry source factor offset) rules = great (rule_at rules source)

-- how many factors other than 1 and -1 counter v meets on its way
unfoldable pub greats : List (List Rule) → ℕ → ℕ
greats [] v = 0
greats (rules ∷ moves) v = met_by (followed moves v) rules + greats moves v

-- 1 for a negative number, else 0
unfoldable pub sign : ℤ → ℕ
sign (pos n) = 0
sign (negsuc n) = 1

-- how far two numbers lie apart
unfoldable pub distance : ℤ → ℤ → ℕ
distance x y = up (y -ℤ x) + dn (y -ℤ x)

-- before each of the moves no counter's values lie 2 ^ m or more apart
pub data Close (m : ℕ) : List (List Rule) → List ℤ → List ℤ → Type 0 where
  close_none : {xs ys : List ℤ} → Close m [] xs ys
  close_more : {rules : List Rule} {moves : List (List Rule)} {xs ys : List ℤ} → ((u : ℕ) → distance (get_or xs u (pos 0)) (get_or ys u (pos 0)) < 2 ^ m)
      → Close m moves (updated rules xs) (updated rules ys) → Close m (rules ∷ moves) xs ys

-- a rule that reads an old value reads one below V#, times a factor other than 0
pub data Reads (V# : ℕ) : Rule → Type 0 where
  reads_none : {value : ℤ} → Reads V# (Set value)
  reads_one : {source : ℕ} {factor offset : ℤ} → source < V# → (factor ≡ pos 0 → ⊥) → Reads V# (Carry source factor offset)

-- a factor that counts for none is 1 or -1
abbrev pub IsUnit : ℤ → Type 0
IsUnit f = (f ≡ pos 1) ⊎ (f ≡ negsuc 0)
