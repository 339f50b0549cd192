-- Document 01, "Examples on both sides": every row of the table holds, by computation.
use Rattle.std.specs.Prelude.{T}
use Rattle.std.specs.Float.Ieee.{add, sub, mul, div, lt, le, of_int, of_bits, to_bits}
use Rattle.state.specs.Ranges.{inside_of, within_of, coordinate_of, good_state, at_most_of, good_span}
use Rattle.fields.specs.Ranges.{good_limits, good_length, good_goal}
use Rattle.state.specs.Distance.{apart_of, wider_of, distance_of}
use Rattle.state.specs.Steering.{interpolate_of, steer_by_of, steer_of}
use Rattle.fields.specs.Satisfied.{satisfied_of}
use Rattle.keep_out.specs.Covers.{covers_of, covered_of}
use Rattle.keep_out.specs.Good.{good_keep_out}
use Rattle.keep_out_table.specs.Good.{all_good, good_table}
use Rattle.keep_out_table.specs.Table.{keep_outs_of, empty_table}
use Rattle.mount.specs.Good.{good_mount}
use Rattle.motion.specs.Valid.{valid_of}
use Rattle.motion.specs.Points.{quotient_of, search_of, least_of, steps_of, part_way, part_ways, tested_of, checked_at, checked_of}
use Rattle.motion.specs.Accepts.{all_valid, accepted_of, accepts_of}
use Rattle.samples.specs.Samples.{good_samples, samples_of}
use Rattle.tree.specs.Table.{grown_of, root_of}
use Rattle.nearest.specs.Nearest.{nearest_from, nearest_of}
use Rattle.step.specs.Step.{step_from, step_of}
use Rattle.route.specs.Path.{climb_of, path_of, ancestors_of, upwards_of}
use Rattle.route.specs.Written.{flat_of, written_of}
use Rattle.plan.specs.Setup.{good_setup, setting_of, setup_with}
use Rattle.plan.specs.Solve.{ended_of, solve_with}
use Rattle.plan.specs.KeepOut.{longer_of}
use Rattle.rrt.specs.Planner.{setup_of}
use Rattle.rrt_run.specs.Run.{after_of, run_of}
use Rattle.rrt.specs.Solve.{solve_of}
use Rattle.extend.specs.Extend.{after_step, extend_of}
use Rattle.turn.specs.Turn.{connect_ends_of, by_verdict, turn_of}
use Rattle.round.specs.Round.{round_of}
use Rattle.ending.specs.Ending.{end_path}
use Rattle.rrt_connect.specs.Planner as planner
use Rattle.connect_run.specs.Run as run
use Rattle.rrt_connect.specs.Solve as connect
use Rattle.neighbours.specs.Neighbours.{neighbours_from, neighbours_of}
use Rattle.choice.specs.Parent.{cost_via, is_better, choose_from, choose_of}
use Rattle.rewire.specs.Rewiring.{cost_under, moves, rewire_of}
use Rattle.star.specs.Grow as grow
use Rattle.star.specs.Grow.{added_of, grow_of}
use Rattle.star_run.specs.Run as star-run
use Rattle.rrt_star.specs.Planner as star
use Rattle.rrt_star.specs.Solve as star-solve
use Rattle.roadmap.specs.Map.{milestone_at, mark_of, add_of, flags_of}
use Rattle.roadmap.specs.View.{span_of}
use Rattle.construct.specs.Construct as roadmap
use Rattle.queue.specs.Places as queue
use Rattle.search.specs.Search as search
use Rattle.search.specs.Query as search-query
use Rattle.prune.specs.Hit.{meets_of, hit_among, hit_of}
use Rattle.prune.specs.Prune.{left_of, leaves_of, pruned_of}
use Rattle.prm.specs.Planner as prm
use Rattle.prm.specs.Construct as prm-construct
use Rattle.prm.specs.Query as prm-query
use Rattle.prm.specs.Adding as prm-adding
use Rattle.examples.specs.Words.{same, same_state, same_lists}
use Rattle.examples.specs.Examples.{counts, points_are, writes, gives, planned_by, connected_by, rewired_by, hangs, charted_by, asked_of, joins, stands, takes_all, holds, all_hold, examples}

pub examples_hold : T (all_hold examples)
unfolding examples all_hold holds counts points_are writes gives planned_by same same_state same_lists distance_of wider_of apart_of interpolate_of steer_by_of steer_of satisfied_of inside_of within_of coordinate_of good_state at_most_of good_span good_limits good_length good_goal covers_of covered_of all_good good_table keep_outs_of empty_table valid_of good_mount quotient_of search_of least_of steps_of part_way part_ways tested_of checked_at checked_of all_valid accepted_of accepts_of good_samples samples_of grown_of root_of nearest_from nearest_of step_from step_of climb_of path_of flat_of written_of good_setup setting_of setup_with setup_of after_of run_of ended_of solve_with solve_of connected_by ancestors_of upwards_of after_step extend_of connect_ends_of by_verdict turn_of round_of end_path planner.setup_of run.after_of run.run_of connect.solve_of rewired_by hangs neighbours_from neighbours_of cost_via is_better choose_from choose_of cost_under moves rewire_of added_of grow.after_step grow_of star-run.after_of star-run.run_of star.setup_of star-solve.solve_of charted_by asked_of joins span_of milestone_at mark_of add_of flags_of roadmap.joined_of roadmap.run_of roadmap.construct_of queue.numbers_of search.connections_of search.neighbours_of search.place_at queue.queued_of queue.push_of search.search_of search-query.goal_of search-query.sought_of search-query.tree_of search-query.route_of search-query.query_of prm.setup_of prm.goals_of prm-construct.construct_of prm-query.found_of prm-query.query_of stands takes_all good_keep_out longer_of meets_of hit_among hit_of left_of leaves_of pruned_of prm-adding.add_of prm-adding.added_all add sub mul div lt le of_int of_bits to_bits
examples_hold = tt
