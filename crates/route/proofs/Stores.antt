-- Memory that is filled from the back, a state at a time.
use Prim.Native.Nat.{ℕ, ◌+◌, ◌≤◌}
use mathlib.Core.List.{List, [], ◌∷◌, ◌++◌}
use mathlib.Core.Path.{◌≡◌, refl}
use borrow.Rule.Slice.PartMut.{put_mid}
use native.Mathlib.Omega.{arith}
use lib.ListN.{length, take, drop}
use lib.Seq.{drop-drop, take-append-le, take-take, drop_at, length-take-le}
use lib.Ieee.{Float}
use Rattle.state.specs.declared.State.{State}
use Rattle.route.specs.Written.{flat_of, put_of, written_of}

-- one state more in front of those that are written
pub placed :
    (old : List Float) (p n : ℕ) (s : State) (after : List State) (out : List Float) → p + 3 ≤ length old →
    out ≡ take (p + 3) old ++ (flat_of after ++ drop n old) → put_of out p s ≡ take p old ++ (flat_of (s ∷ after) ++ drop n old)
unfolding put_of flat_of
placed old p n s after out h e =
    let l : length (take (p + 3) old) ≡ p + 3 = length-take-le (p + 3) old h in
    let a : take p out ≡ take p old = rw (e, take-append-le p (take (p + 3) old) (flat_of after ++ drop n old) (omega arith)) (take-take p (p + 3) old (omega arith)) in
    let b : drop (p + 3) out ≡ flat_of after ++ drop n old = rw e (drop_at (take (p + 3) old) (flat_of after ++ drop n old) (p + 3) l) in
    rw (a, b)

-- three numbers in place of those from p on
pub put_in : (out ys : List Float) (p k : ℕ) (s : State) → k ≡ 3 → ys ≡ s.az ∷ s.el ∷ s.feed ∷ [] → put_mid p k out ys ≡ put_of out p s
unfolding put_of
put_in out ys p k s e f = rw (e, f, drop-drop 3 p out)

-- no route, nothing written
pub nothing_written : (old : List Float) → written_of [] old ≡ old
unfolding written_of flat_of
nothing_written old = refl
