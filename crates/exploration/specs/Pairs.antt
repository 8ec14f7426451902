-- A breadth-first search over pairs of configurations of two systems, up to equivalence (Hopcroft and Karp): a queue of pairs, each with the word that leads to
-- it from the two starts. What is known at each place of the search. Definitions only.
use Rattle.std.specs.Prelude.{ℕ, ◌<◌, ◌≡◌, List, [], ◌∷◌, ◌++◌}
use Rattle.systems.specs.System.{System, Reading, reading, Below}
use Rattle.systems.specs.Words.{ended, Sooner}
use Rattle.systems.specs.Alike.{Both}
use Rattle.systems.specs.Dictionary.{NoLater}
use Rattle.exploration.specs.FirstWords.{Earlier}

-- a pair of configurations, and the word that leads to both
pub record Pair (X Y : Type 0) : Type 0 where
  pub left : X
  pub right : Y
  pub word : List ℕ

-- Two configurations are joined by the pairs of the queue whose words are no later than w: there is a chain of such pairs from one to the other. So whatever
-- agrees on each of these pairs agrees on the two.
pub record Joined {X Y : Type 0} (q : ℕ → Pair X Y) (m : ℕ) (w : List ℕ) (x : X) (y : Y) : Type 0 where
  pub agree : (f : X → Reading) (g : Y → Reading) → ((k : ℕ) → k < m → NoLater (q k).word w → f (q k).left ≡ g (q k).right) → f x ≡ g y

-- the same by all pairs of the queue
pub record JoinedAll {X Y : Type 0} (q : ℕ → Pair X Y) (m : ℕ) (x : X) (y : Y) : Type 0 where
  pub agree : (f : X → Reading) (g : Y → Reading) → ((k : ℕ) → k < m → f (q k).left ≡ g (q k).right) → f x ≡ g y

-- where a pair of the queue comes from: an action of an earlier pair, which was looked at before action a of pair h
pub record Origin {X Y : Type 0} (q : ℕ → Pair X Y) (k h a : ℕ) : Type 0 where
  pub parent : ℕ
  pub action : ℕ
  pub before : parent < k
  pub word_is : (q k).word ≡ (q parent).word ++ (action ∷ [])
  pub earlier : Earlier parent action h a

module _ {X Y : Type 0} (s : System X) (t : System Y) (x₀ : X) (y₀ : Y) (actions : ℕ) where
  -- what holds of each pair: its word has actions of the systems alone and leads to both, and the two have one label
  pub record Held (p : Pair X Y) : Type 0 where
    pub of_actions : Below actions p.word
    pub left_led : ended s p.word x₀ ≡ p.left
    pub right_led : ended t p.word y₀ ≡ p.right
    pub labels : s.label p.left ≡ t.label p.right

  -- The queue has m pairs, and their actions were looked at, in order, up to action a of pair h.
  pub record Visited (q : ℕ → Pair X Y) (m h a : ℕ) : Type 0 where
    pub some : 0 < m
    pub first : q 0 ≡ record { left = x₀; right = y₀; word = [] }
    pub held : (k : ℕ) → k < m → Held (q k)
    pub origin : (k : ℕ) → 0 < k → k < m → Origin q k h a
    pub rising : (j k : ℕ) → j < k → k < m → Sooner (q j).word (q k).word
    -- what was looked at is barred on both sides, or leads to configurations that are joined by pairs with words no later
    pub looked : (k b : ℕ) → k < m → b < actions → Earlier k b h a
        → Both (Joined q m ((q k).word ++ (b ∷ []))) (s.step b (q k).left) (t.step b (q k).right)

-- The first word, by length and then in dictionary order, that reads differently from two configurations: a shortest separating word.
pub record FirstSeparating {X Y : Type 0} (s : System X) (t : System Y) (x : X) (y : Y) (w : List ℕ) : Type 0 where
  pub parts : reading s w x ≡ reading t w y → ⊥
  pub first : (v : List ℕ) → Sooner v w → reading s v x ≡ reading t v y
