-- What the tables of a queue hold: places in order, and a mark for each milestone that is queued.
use Rattle.std.specs.Prelude.{ℕ, ◌<◌, Bool, false, List, ◌≡◌, get_or, length, count_by}
use Rattle.legs.specs.Bits.{leg_at}
use Rattle.roadmap.specs.View.{span_of}
use Rattle.queue.specs.Places.{Place, queued_of}
use Rattle.queue.specs.declared.Queue.TheInside.{Inside}

-- a place of two columns, and the first n of them
abbrev pub place_in : List ℕ → List ℕ → ℕ → Place
place_in order from p = record { number = get_or order p 0; from = get_or from p 0 }

unfoldable pub queue_of : List ℕ → List ℕ → ℕ → List Place
queue_of order from n = span_of 0 n (place_in order from)

-- the places of a queue
abbrev pub places_of : Inside → List Place
places_of q = queue_of q.order q.from q.count

-- marks and columns hold a queue of milestones
pub record Held (q : Inside) : Type 0 where
  pub marked : length q.marks ≡ 256
  pub packed : length q.seen ≡ 4
  pub ordered : length q.order ≡ 256
  pub backed : length q.from ≡ 256
  -- a milestone is marked exactly if it is queued
  pub is : (v : ℕ) → v < 256 → get_or q.marks v false ≡ queued_of (places_of q) v
  -- a row of bits has the same marks
  pub same : (v : ℕ) → v < 256 → leg_at q.seen 0 v ≡ get_or q.marks v false
  -- there are as many marks as places
  pub count : count_by (λ (marked : Bool). marked) q.marks ≡ q.count
