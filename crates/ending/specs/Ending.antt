-- Document 01, "RRT-Connect": how a run ends. The trees join: root to connection, then connection to goal root, the connection once.
use Rattle.std.specs.Prelude.{ℕ, ◌-◌, Bool, true, false, List, [], ◌++◌, ◌≡◌, length, Float}
use Rattle.answer.specs.declared.Answer.{Answer}
use Rattle.answer.specs.declared.Answer.TheVariants as answer
use Rattle.state.specs.declared.State.{State}
use Rattle.tree.specs.Table.{Nodes}
use Rattle.route.specs.Path.{path_of, upwards_of}
use Rattle.route.specs.Written.{written_of}
use Rattle.turn.specs.declared.Ends.{Ends}
use Rattle.turn.specs.declared.Ends.TheVariants.{GoesOn, Full, Goal, Joined}
use Rattle.turn.specs.Trees.{Trees, size_of}

abbrev pub goes_on_of : Ends → Bool
goes_on_of GoesOn = true
goes_on_of Full = false
goes_on_of Goal = false
goes_on_of Joined = false

abbrev pub answer_of : Ends → Answer
answer_of GoesOn = answer.SamplesEnded
answer_of Full = answer.Full
answer_of Goal = answer.Done
answer_of Joined = answer.Done

-- the newest node
abbrev pub newest : Nodes → ℕ
newest nodes = size_of nodes - 1

unfoldable pub end_path : Ends → Trees → List State
end_path GoesOn t = []
end_path Full t = []
end_path Goal t = path_of t.start (newest t.start)
end_path Joined t = path_of t.start (newest t.start) ++ upwards_of t.goal (newest t.goal)

-- the route was written, and n is the number of its states
pub record WroteEnd (ends : Ends) (t : Trees) (old : List Float) (n : ℕ) (new : List Float) : Type 0 where
  pub count : n ≡ length (end_path ends t)
  pub memory : new ≡ written_of (end_path ends t) old
