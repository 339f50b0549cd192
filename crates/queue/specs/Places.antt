-- Document 01, "PRM query": "Breadth-first .. in index order, neighbours ascending". The queue as a list; taken milestones stay in it.
use Rattle.std.specs.Prelude.{ℕ, ◌+◌, Bool, false, ◌||◌, cond, List, [], ◌∷◌, ◌++◌, eqb}

-- the numbers, from i on, of the flags that are set
unfoldable pub numbers_of : ℕ → List Bool → List ℕ
numbers_of i [] = []
numbers_of i (f ∷ fs) = let later = numbers_of (i + 1) fs in cond f (i ∷ later) later

-- a place of the queue: a milestone's number, and from where it was reached: 0 is the start, p + 1 the place p
pub record Place : Type 0 where
  pub number : ℕ
  pub from : ℕ

-- a milestone is queued; taken ones stay in the list, so each is queued once
unfoldable pub queued_of : List Place → ℕ → Bool
queued_of [] v = false
queued_of (p ∷ ps) v = eqb p.number v || queued_of ps v

-- each of the milestones that isn't queued yet is queued, as reached from f
unfoldable pub push_of : ℕ → List Place → List ℕ → List Place
push_of f q [] = q
push_of f q (v ∷ vs) = push_of f (cond (queued_of q v) q (q ++ (record { number = v; from = f } ∷ []))) vs
