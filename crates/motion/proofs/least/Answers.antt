use mathlib.Core.Path.{refl, sym, ◌∙◌}
use native.Mathlib.Omega.{arith}
use borrow.Author.Rules.{rules}
use Rattle.motion.specs.Points.{least_of}
use Rattle.motion.proofs.Search.{search_here, search_past, not_last}
use Rattle.motion.proofs.least.Goals as goal

pub numbers-init : goal.numbers-init
unfolding least_of
numbers-init c = (search rules, refl)

pub numbers-smaller : goal.numbers-smaller
numbers-smaller c = let p = not_last _ _ c.requires c.numbers.invariant.0 c.if-q-n.false in omega arith

pub numbers-preserved : goal.numbers-preserved
numbers-preserved c = let p = not_last _ _ c.requires c.numbers.invariant.0 c.if-q-n.false in (omega arith, c.numbers.invariant.1 ∙ search_past _ _ p c.if-q-n.false)

pub returns : goal.returns
returns c = record { is = sym (c.numbers.invariant.1 ∙ search_here _ _ _ c.if-q-n.true); small = c.numbers.invariant.0 }
