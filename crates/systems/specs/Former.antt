-- The reading before U5 of document 02, which ended at its first barred action. It stands here for one theorem alone: which configurations are equivalent did
-- not change, and so no class, no block and no chart did.
use Rattle.std.specs.Prelude.{ℕ, suc, List, [], ◌∷◌, Option, Some, None, option_map}
use Rattle.systems.specs.System.{System}

-- the labels up to the first barred action, and its index, or none
pub record Ended : Type 0 where
  pub labels : List ℕ
  pub barred : Option ℕ

unfoldable pub ended : {X : Type 0} → ℕ → Option X → (X → Ended) → Ended
ended l None rest = record { labels = l ∷ []; barred = Some 0 }
ended l (Some y) rest = record { labels = l ∷ (rest y).labels; barred = option_map suc (rest y).barred }

unfoldable pub former : {X : Type 0} → System X → List ℕ → X → Ended
former s [] x = record { labels = s.label x ∷ []; barred = None }
former s (a ∷ w) x = ended (s.label x) (s.step a x) (former s w)
