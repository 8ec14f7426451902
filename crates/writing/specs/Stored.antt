-- Bytes stored one behind the other in a buffer.
use Rattle.std.specs.Prelude.{◌≡◌, refl, List, [], ◌∷◌, ◌++◌, ℕ, suc, ◌+◌, ◌*◌, ◌≤◌, ◌<◌, length, set, drop}
use Rattle.std.proofs.Common.{sym, ap, ◌∙◌, add-zero, zero-add, mul-le-mul_right, add-one, arith}
use Rattle.std.proofs.lemmas.List.Edits.{sets, sets-eq}
use Rattle.std.proofs.Math.Seq.{length-sets}
use Rattle.systems.specs.Lists.{collect}
use Rattle.answer_rules.specs.Run.{overwrite}

-- the buffer d after the bytes b were stored from a place on
unfoldable pub stored : List ℕ → ℕ → List ℕ → List ℕ
stored d at b = sets d at b

pub stored_length : (d : List ℕ) (at : ℕ) (b : List ℕ) → length (stored d at b) ≡ length d
unfolding stored
stored_length d at b = length-sets d at b

pub stored_none : (d : List ℕ) (at : ℕ) → d ≡ stored d at []
unfolding stored
stored_none d at = refl

pub stored_one : (d : List ℕ) (at x : ℕ) → set d at x ≡ stored d at (x ∷ [])
unfolding stored
stored_one d at x = refl

pub stored_two : (d : List ℕ) (at x y : ℕ) → set (set d at x) (at + 1) y ≡ stored d at (x ∷ y ∷ [])
unfolding stored
stored_two d at x y = ap (λ (k : ℕ). set (set d at x) k y) (add-one at)

-- what is stored behind what was stored
pub stored_append : (b b' d : List ℕ) (at : ℕ) → stored (stored d at b) (at + length b) b' ≡ stored d at (b ++ b')
unfolding stored
stored_append [] b' d at = ap (λ (k : ℕ). sets d k b') (add-zero at)
stored_append (x ∷ b) b' d at =
    let e : at + suc (length b) ≡ suc at + length b = omega arith in
    ap (λ (k : ℕ). sets (sets (set d at x) (suc at) b) k b') e ∙ stored_append b b' (set d at x) (suc at)

pub stored_behind : (b b' d e f : List ℕ) (at place : ℕ) → e ≡ stored d at b → f ≡ stored e place b' → place ≡ at + length b → f ≡ stored d at (b ++ b')
stored_behind b b' d e f at place p q r = q ∙ ap (λ (l : List ℕ). stored l place b') p ∙ ap (λ (k : ℕ). stored (stored d at b) k b') r ∙ stored_append b b' d at

-- one more piece
pub stored_more : (g : ℕ → List ℕ) (d e f : List ℕ) (at place k : ℕ) → e ≡ stored d at (collect g k) → f ≡ stored e place (g k) → place ≡ at + length (collect g k)
    → f ≡ stored d at (collect g (k + 1))
unfolding collect
stored_more g d e f at place k p q r = stored_behind (collect g k) (g k) d e f at place p q r ∙ ap (λ (m : ℕ). stored d at (collect g m)) (sym (add-one k))

pub stored_start : (g : ℕ → List ℕ) (d : List ℕ) (at : ℕ) → d ≡ stored d at (collect g 0)
unfolding collect
stored_start g d at = stored_none d at

-- what is stored from the front on is written over it
pub stored_front : (b d : List ℕ) → length b ≤ length d → stored d 0 b ≡ overwrite b d
unfolding stored overwrite
stored_front b d h = sets-eq b d 0 (omega arith) ∙ ap (λ (k : ℕ). b ++ drop k d) (zero-add (length b))

-- n records of w bytes: where record k ends, where the next one begins, and that the places are small
pub rows_le : (k n w : ℕ) → k < n → k * w + w ≤ n * w
rows_le k n w h = omega (arith, mul-le-mul_right w h)

pub rows_more : (k w : ℕ) → (k + 1) * w ≡ k * w + w
rows_more k w = omega arith

pub rows_small : (n w : ℕ) → n ≤ 255 → w ≤ 25 → n * w ≤ 6375
rows_small n w h l = omega (arith, mul-le-mul_right w h)
