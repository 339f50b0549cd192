use Rattle.std.proofs.Common.{rules, arith, refl, ◌+◌}
use Rattle.std.proofs.lemmas.Iterator.{YieldsList-from_range}
use Rattle.std.proofs.lemmas.Iterator.Search.{any_from_yields_List}
use Rattle.keep_out.specs.Covers.{covers_of}
use Rattle.motion.specs.Points.{part_way}
use Rattle.prune.proofs.meets.Goals as goal

pub returns : goal.returns
unfolding part_way
returns c = any_from_yields_List (λ i. covers_of c.args.k (part_way c.args.from c.args.to c.args.steps i)) _ _ _ c.any.ensures.ran (YieldsList-from_range 1 (c.args.steps + 1) c.args.steps refl (omega arith)) (λ x b q h. search rules)
