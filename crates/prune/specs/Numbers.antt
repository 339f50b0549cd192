-- Document 01, "Adding a keep-out": the rest are renumbered from 0.
use Rattle.std.specs.Prelude.{ℕ, ◌<◌, not, Option, Some, None, List, ◌≡◌, length, get_or}
use Rattle.state.specs.Rows.{state_at}
use Rattle.state.specs.declared.State.{State}
use Rattle.keep_out.specs.Covers.{covers_of}
use Rattle.keep_out.specs.declared.KeepOut.{KeepOut}
use Rattle.roadmap.specs.Keep.{keep_of}
use Rattle.roadmap.specs.View.{span_of}

-- the numbers of a table
abbrev pub itself : ℕ → ℕ
itself o = o

-- the former numbers, below i, of the states that stay; the new ones are their places in this list
unfoldable pub stayed_of : KeepOut → List State → ℕ → List ℕ
stayed_of k states i = keep_of (λ (o : ℕ). not (covers_of k (state_at states o))) (span_of 0 i itself)

-- `new` has at each of these former numbers the new one, and at any other none
pub record Numbers (old : List ℕ) (new : List (Option ℕ)) (i : ℕ) : Type 0 where
  pub below : (j : ℕ) → j < length old → get_or old j 0 < i
  pub back : (j : ℕ) → j < length old → get_or new (get_or old j 0) None ≡ Some j
  pub there : (o j : ℕ) → get_or new o None ≡ Some j → (j < length old) × (get_or old j 0 ≡ o)
