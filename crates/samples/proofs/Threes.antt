-- A list of samples read from the front, three numbers at a time.
use Prim.Native.Nat.{ℕ, suc, ◌+◌, ◌*◌, ◌^◌, ◌/◌, ◌<◌}
use mathlib.Core.List.{List, [], ◌∷◌, ◌++◌}
use mathlib.Core.Path.{◌≡◌, refl, ◌∙◌, ap}
use native.Mathlib.Omega.{arith}
use lib.ListN.{length, length-append}
use lib.Ieee.{Float}
use Rattle.samples.specs.Samples.{samples_of, sample_of}

many : (n : ℕ) → suc (suc (suc n)) < 3 → ⊥
many n h = omega arith

-- the next sample, and those after it
pub next_sample : (x rest : List Float) → length x ≡ 3 → samples_of (x ++ rest) ≡ sample_of x ∷ samples_of rest
unfolding samples_of
next_sample [] rest h = absurd (omega arith)
next_sample (a ∷ []) rest h = absurd (omega arith)
next_sample (a ∷ b ∷ []) rest h = absurd (omega arith)
next_sample (a ∷ b ∷ c ∷ []) rest h = refl
next_sample (a ∷ b ∷ c ∷ d ∷ x) rest h = absurd (omega arith)

-- no sample is left
pub no_sample : (xs : List Float) → length xs < 3 → samples_of xs ≡ []
unfolding samples_of
no_sample [] h = refl
no_sample (x ∷ []) h = refl
no_sample (x ∷ y ∷ []) h = refl
no_sample (x ∷ y ∷ z ∷ xs) h = absurd (many (length xs) h)

-- A walk in parts of `size` numbers has taken k samples of the list and has `rest` left.
pub record Walked (list : List Float) (size k : ℕ) (rest : List Float) : Type 0 where
  pub three : size ≡ 3
  pub all : 3 * k + length rest ≡ length list

pub walk_starts : {list : List Float} {size : ℕ} {rest : List Float} → size ≡ 3 → rest ≡ list → Walked list size 0 rest
walk_starts e r = record { three = e; all = omega (arith, ap length r) }

-- A turn of the walk: the i-th part is x.
pub record Turn (size k : ℕ) (rest : List Float) (i : ℕ) (x : List Float) (size' k' : ℕ) (rest' : List Float) : Type 0 where
  pub same : size' ≡ size
  pub cut : rest ≡ x ++ rest'
  pub long : length x ≡ size
  pub counts : i ≡ k
  pub next : k' ≡ k + 1

-- It is what `chunks_exact` under `enumerate` tells of its next item.
pub turn_of :
    {size k : ℕ} {rest : List Float} {i : ℕ} {x : List Float} {size' k' : ℕ} {rest' : List Float} {R : Type 0} →
    ((size' ≡ size) × ((rest ≡ x ++ rest') × (length x ≡ size)) × R) × (i ≡ k) × (k' ≡ k + 1) × (i + 1 < 2 ^ 64) → Turn size k rest i x size' k' rest'
turn_of h = record { same = h.0.0; cut = h.0.1.0; long = h.0.1.1; counts = h.1; next = h.2 }

module _ {list : List Float} {size k : ℕ} {rest : List Float} (w : Walked list size k rest) where
  module _ {i : ℕ} {x : List Float} {size' k' : ℕ} {rest' : List Float} (turn : Turn size k rest i x size' k' rest') where
    pub walk_next : Walked list size' k' rest'
    walk_next = record { three = turn.same ∙ w.three; all = omega (arith, w.all, w.three, turn, length-append x rest', ap length turn.cut) }

    pub walk_sample : samples_of rest ≡ sample_of x ∷ samples_of rest'
    walk_sample = rw turn.cut (next_sample x rest' (turn.long ∙ w.three))

  -- nothing that makes a sample is left
  module _ (h : length rest < size) where
    pub walk_over : samples_of rest ≡ []
    walk_over = no_sample rest (omega (arith, w.three))

    pub walk_ends : k ≡ length list / 3
    walk_ends = omega (arith, w.all, w.three)
