-- Laws of the queue in tables.
use Prim.Native.Nat.{ℕ, ◌+◌, ◌<◌, ◌≤◌}
use mathlib.Core.Bool.{Bool, true, false, ◌||◌, cond, or-true, or-false}
use mathlib.Core.List.{List, [], ◌∷◌, ◌++◌}
use mathlib.Core.Path.{◌≡◌, refl, sym, ◌∙◌, ap, ap₂}
use native.Mathlib.Omega.{arith}
use native.Mathlib.Decide.{ℕ_discrete}
use native.Mathlib.Numerals.{add-one}
use borrow.Author.Tests.{eq-eqb, ne_eqb}
use lib.Dec.{eqb}
use lib.ListN.{length, get_or, set, replicate, length-set, get_or-replicate}
use lib.Seq.{get_or-set_same, get_or-set_other}
use Rattle.std.specs.List.{count_by, All}
use Rattle.std.proofs.lemmas.List.Sums.{count_by-le-length, sum_by-set}
use Rattle.legs.specs.Bits.{leg_at, Marked}
use Rattle.legs.proofs.Square.{cleared}
use Rattle.roadmap.specs.View.{span_of}
use Rattle.roadmap.proofs.Span.{span_snoc, span_same, span_long, span_get}
use Rattle.queue.specs.Places.{Place, queued_of, push_of}
use Rattle.queue.specs.Queue.{place_in, queue_of, places_of, Held}
use Rattle.queue.specs.declared.Queue.TheInside.{Inside}
use Rattle.queue.proofs.Places.{with_place, queued_more, push_yes, push_not}

-- the empty queue
abbrev pub empty : Inside
empty = record { marks = replicate 256 false; seen = replicate 4 0; order = replicate 256 0; from = replicate 256 0; count = 0 }

pub empty_held : Held empty
unfolding queue_of span_of queued_of
empty_held =
    record {
      marked = refl;
      packed = refl;
      ordered = refl;
      backed = refl;
      is = λ v h. get_or-replicate 256 v false false h;
      same = λ v h. cleared 4 0 v ∙ sym (get_or-replicate 256 v false false h);
      count = refl;
    }

-- there is room for each milestone once
pub held_few : (q : Inside) → Held q → q.count ≤ 256
held_few q held = omega (arith, count_by-le-length (λ (marked : Bool). marked) q.marks, held.marked, held.count)

-- what a caller has of the places that it sees
module _ (q : Inside) (places : List Place) (is : places_of q ≡ places) where
  pub places_long : length places ≡ q.count
  unfolding queue_of
  places_long = sym (ap length is) ∙ span_long 0 q.count (place_in q.order q.from)

  pub place_is : (p : ℕ) (d : Place) → p < q.count → get_or places p d ≡ place_in q.order q.from p
  unfolding queue_of
  place_is p d h =
      let e : 0 + p ≡ p = omega arith in
      ap (λ (l : List Place). get_or l p d) (sym is) ∙ span_get 0 q.count (place_in q.order q.from) p d h ∙ ap (place_in q.order q.from) e

  pub number_low : (n p : ℕ) → All (λ (x : Place). x.number < n) places → p < q.count → get_or q.order p 0 < n
  number_low n p low h =
      let here = place_in q.order q.from p in
      let x : (get_or places p here).number < n = low p here (omega (arith, places_long)) in
      rw (place_is p here h) at x

-- one place more
queue_more : (order from : List ℕ) (k : ℕ) → queue_of order from (k + 1) ≡ queue_of order from k ++ (place_in order from k ∷ [])
unfolding queue_of
queue_more order from k =
    let e : 0 + k ≡ k = omega arith in
    rw (add-one k) (span_snoc 0 k (place_in order from) ∙ ap (λ (j : ℕ). span_of 0 k (place_in order from) ++ (place_in order from j ∷ [])) e)

-- a milestone that is not marked has a place left
module _ (q : Inside) (held : Held q) (v : ℕ) (low : v < 256) (e : get_or q.marks v false ≡ false) where
  count_more : count_by (λ (marked : Bool). marked) (set q.marks v true) ≡ q.count + 1
  count_more =
      let sum = sum_by-set (λ (marked : Bool). cond marked 1 0) q.marks v true false (omega (arith, held.marked)) in
      let none : cond (get_or q.marks v false) 1 0 ≤ 0 = rw e (omega arith) in
      omega (arith, sum, none, held.count)

  pub room : q.count < 256
  room = omega (arith, count_more, count_by-le-length (λ (marked : Bool). marked) (set q.marks v true), length-set q.marks v true, held.marked)

module _ (q : Inside) (held : Held q) (v f : ℕ) (low : v < 256) where
  pub held_yes : get_or q.marks v false ≡ true → push_of f (places_of q) (v ∷ []) ≡ places_of q
  held_yes e = push_yes f (places_of q) v (sym (held.is v low) ∙ e)

  module _ (e : get_or q.marks v false ≡ false) (seen : List ℕ) (bit : Marked q.seen 0 v seen) where
    -- the tables after the stores
    abbrev pub pushed : Inside
    pushed = record { marks = set q.marks v true; seen = seen; order = set q.order q.count v; from = set q.from q.count f; count = q.count + 1 }

    entry_old : (p : ℕ) → p < q.count → place_in pushed.order pushed.from p ≡ place_in q.order q.from p
    entry_old p h = rw (get_or-set_other q.order q.count p v 0 (λ z. omega arith), get_or-set_other q.from q.count p f 0 (λ z. omega arith))

    entry_new : place_in pushed.order pushed.from q.count ≡ record { number = v; from = f }
    entry_new =
        let h = room q held v low e in
        rw (get_or-set_same q.order q.count v 0 (omega (arith, held.ordered)), get_or-set_same q.from q.count f 0 (omega (arith, held.backed)))

    places_more : places_of pushed ≡ with_place f (places_of q) v
    unfolding queue_of
    places_more =
        queue_more pushed.order pushed.from q.count
        ∙ ap₂ (λ (l : List Place) (x : Place). l ++ (x ∷ []))
        (span_same 0 q.count (place_in pushed.order pushed.from) (place_in q.order q.from) (λ j a b. entry_old j (omega arith))) entry_new

    marks_same : (w : ℕ) → w < 256 → get_or (set q.marks v true) w false ≡ queued_of (places_of q) w || eqb v w
    marks_same w hw =
        elim (ℕ_discrete w v) [
          | yes p ↦ rw (p, get_or-set_same q.marks v true false (omega (arith, held.marked)), eq-eqb v v refl) (sym (or-true (queued_of (places_of q) v)))
          | no p ↦ rw (get_or-set_other q.marks v w true false p, ne_eqb v w (λ z. p (sym z)), held.is w hw) (sym (or-false (queued_of (places_of q) w)))
        ]

    seen_same : (w : ℕ) → w < 256 → leg_at seen 0 w ≡ get_or (set q.marks v true) w false
    seen_same w hw =
        bit.is 0 w (omega arith) hw ∙ elim (ℕ_discrete w v) [
          | yes p ↦ rw (p, get_or-set_same q.marks v true false (omega (arith, held.marked)), eq-eqb v v refl) (or-true (leg_at q.seen 0 v))
          | no p ↦ rw (get_or-set_other q.marks v w true false p, ne_eqb w v p, held.same w hw) (or-false (get_or q.marks w false))
        ]

    pub held_more : Held pushed
    held_more =
        record {
          marked = length-set q.marks v true ∙ held.marked;
          packed = bit.long ∙ held.packed;
          ordered = length-set q.order q.count v ∙ held.ordered;
          backed = length-set q.from q.count f ∙ held.backed;
          is = λ w hw. marks_same w hw ∙ sym (ap (λ (l : List Place). queued_of l w) places_more ∙ queued_more f (places_of q) v w);
          same = seen_same;
          count = count_more q held v low e;
        }

    pub held_not : places_of pushed ≡ push_of f (places_of q) (v ∷ [])
    held_not = places_more ∙ sym (push_not f (places_of q) v (sym (held.is v low) ∙ e))
