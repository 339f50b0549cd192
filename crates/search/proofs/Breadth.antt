-- The search's loop: what holds when a place of the queue is reached, and what a turn does.
use Prim.Native.Nat.{ℕ, zero, suc, ◌+◌, ◌-◌, ◌<◌, ◌≤◌}
use mathlib.Core.Bool.{Bool, true, false}
use mathlib.Core.List.{List}
use mathlib.Core.Path.{◌≡◌, refl, ◌∙◌}
use native.Mathlib.Omega.{arith}
use borrow.Author.Tests.{lt-ltb, le-ltb}
use lib.ListN.{length}
use Rattle.std.specs.List.{All}
use Rattle.queue.specs.Places.{Place, push_of}
use Rattle.queue.proofs.Places.{push_low}
use Rattle.search.specs.Search.{place_at, nothing, here, search_of}
use Rattle.search.specs.Query.{Numbers}

module _ (goal : ℕ → Bool) (next : ℕ → List ℕ) (n : ℕ) (first : List Place) where
  pub record Seeking (q : List Place) (p : ℕ) : Type 0 where
    pub low : Numbers n q
    -- the whole search is the search from here
    pub is : search_of 256 goal next first 0 ≡ search_of (256 - p) goal next q p

  pub seeking_starts : Numbers n first → Seeking first 0
  seeking_starts low = record { low = low; is = refl }

  module _ {q : List Place} {p : ℕ} (h : Seeking q p) where
    -- the number that is taken at this place
    module _ (few : length q ≤ 256) (more : p < length q) (u : ℕ) (taken : (place_at q p).number ≡ u) where
      pub seeking_goal : goal u ≡ true → search_of 256 goal next first 0 ≡ here q p
      unfolding search_of
      seeking_goal e =
          let k : 256 - p ≡ suc (256 - (p + 1)) = omega arith in
          h.is ∙ rw k (rw (taken, lt-ltb p (length q) more, e))

      pub seeking_next : (new : List Place) → goal u ≡ false → All (λ (v : ℕ). v < n) (next u) → new ≡ push_of (p + 1) q (next u) → Seeking new (p + 1)
      unfolding search_of
      seeking_next new e low is =
          let k : 256 - p ≡ suc (256 - (p + 1)) = omega arith in
          rw is
          (record {
            low = push_low (p + 1) n q (next u) h.low low;
            is = h.is ∙ rw k (rw (taken, lt-ltb p (length q) more, e));
          })

    pub seeking_ends : length q ≤ p → search_of 256 goal next first 0 ≡ nothing
    unfolding search_of
    seeking_ends e = h.is ∙ at_end (256 - p)
      where
        at_end : (fuel : ℕ) → search_of fuel goal next q p ≡ nothing
        at_end zero = refl
        at_end (suc fuel) = rw (le-ltb p (length q) e)
