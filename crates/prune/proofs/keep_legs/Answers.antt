use mathlib.Core.Path.{sym}
use native.Mathlib.Omega.{arith}
use Rattle.prune.proofs.Stood.{kept_all, kept_hit, kept_gone, kept_free, kept_at, joins_same, joins_more}
use Rattle.prune.proofs.keep_legs.Goals as goal
use Rattle.prune.proofs.keep_legs.Goals.{in-Some-at+then-not-hits, in-Some-at+else-not-hits, in_default-at}

pub link-requires : goal.link-requires
link-requires c =
    let below = kept_at c.args.map.now c.args.segment _ _ c.requires.2 c.requires.3 c.in-Some.ensures c.in-Some-at.is in
    (omega arith, omega (arith, below))

pub stood-preserved : goal.stood-preserved
stood-preserved c =
    let a = c.args in
    let so_far = c.stood.invariant in
    let many = c.requires.2 in
    let table = c.requires.3 in
    let next = c.in-Some.ensures in
    elim c.match-at-o.branch [
      | in-Some-at+then-not-hits w ↦
          rw w.legs-is
          (joins_more _ _ _ _ _ _ _ so_far w.link.ensures (kept_at a.map.now a.segment _ _ many table next w.in-Some-at.is)
          (kept_free a.map.now a.segment _ _ many table next w.in-Some-at.is (sym w.if-not-hits.ensures)))
      | in-Some-at+else-not-hits w ↦ rw w.legs-is (joins_same _ _ _ _ _ so_far (kept_hit a.map.now a.segment _ _ many table next (sym w.if-not-hits.ensures)))
      | in_default-at w ↦ rw w.legs-is (joins_same _ _ _ _ _ so_far (kept_gone a.map.now a.segment _ _ many table next w.in_default-at.is))
    ]

pub returns : goal.returns
returns c = joins_same _ _ _ _ _ c.stood.invariant (kept_all c.args.map.now c.args.segment _ _ c.requires.2 c.requires.3 c.in_default.ensures)
