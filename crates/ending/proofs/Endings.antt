-- The route where the trees joined, from what its two parts wrote.
use Prim.Native.Nat.{ℕ, ◌+◌, ◌*◌}
use mathlib.Core.List.{List, ◌++◌}
use mathlib.Core.Path.{◌≡◌, ◌∙◌, ap₂}
use native.Mathlib.Omega.{arith}
use lib.ListN.{length, take, drop, length-append}
use lib.Ieee.{Float}
use Rattle.route.specs.Path.{path_of, upwards_of}
use Rattle.route.specs.Written.{flat_of, Wrote, Appended}
use Rattle.route.proofs.Upwards.{written_on}
use Rattle.turn.specs.declared.Ends.TheVariants.{Joined}
use Rattle.turn.specs.Trees.{Trees}
use Rattle.ending.specs.Ending.{end_path, newest, WroteEnd}

-- the trees joined
pub end_joined :
    (t : Trees) (old : List Float) (k up : ℕ) (mid new : List Float) → Wrote t.start (newest t.start) old k mid → Appended t.goal (newest t.goal) k mid up new → WroteEnd Joined t old (k + up) new
unfolding end_path
end_joined t old k up mid new w a =
    let path = path_of t.start (newest t.start) in
    let more = upwards_of t.goal (newest t.goal) in
    let memory : new ≡ take (3 * length path) mid ++ (flat_of more ++ drop (3 * (length path + length more)) mid) =
    a.memory ∙ ap₂ (λ (x y : ℕ). take (3 * x) mid ++ (flat_of more ++ drop (3 * (x + y)) mid)) w.count a.count in
    record { count = omega (arith, w.count, a.count, length-append path more); memory = written_on path more old mid new w.memory memory }
