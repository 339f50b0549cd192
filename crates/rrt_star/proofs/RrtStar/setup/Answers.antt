use mathlib.Core.Bool.{true, false, ◌&&◌}
use mathlib.Core.Path.{◌≡◌, sym}
use native.Mathlib.Omega.{arith}
use Rattle.fields.specs.Ranges.{good_length}
use Rattle.laws.specs.Cases.{and_left, and_right}
use Rattle.rrt_star.proofs.Setups.{setup_refused, setup_done}
use Rattle.rrt_star.proofs.RrtStar.setup.Goals as goal
use Rattle.rrt_star.proofs.RrtStar.setup.Goals.{Joined-then-not-setting, then-not-setting-via-then-not-setting, then-not-setting-via-else-not-setting+then-not-is_good}

bad : (c : Joined-then-not-setting) → c.new-setting.result.ready && good_length c.args.search_radius ≡ false
bad c =
    elim c.then-not-setting.branch [
      | then-not-setting-via-then-not-setting w ↦ and_left _ _ (let e : c.new-setting.result.ready ≡ false = grind arith in e)
      | then-not-setting-via-else-not-setting+then-not-is_good w ↦ and_right _ _ (let e : c.new-setting.result.ready ≡ true = grind arith in e) (sym w.if-not-is_good.ensures)
    ]

pub returns-then-not-setting : goal.returns-then-not-setting
returns-then-not-setting c = setup_refused _ _ _ _ _ _ _ _ _ c.new-setting.ensures (bad (goal.at.returns-then-not-setting c).Joined-then-not-setting)

pub returns : goal.returns
returns c =
    let ready : c.new-setting.result.ready ≡ true = grind arith in
    setup_done c.args.self.now _ _ _ _ _ _ _ _ c.new-setting.ensures ready (sym c.if-not-is_good.ensures) _ c.rooted-self.ensures
