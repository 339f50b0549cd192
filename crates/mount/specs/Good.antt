-- Document 01, "The mount": which mounts are taken.
use Rattle.std.specs.Prelude.{Bool, ◌&&◌}
use Rattle.fields.specs.Ranges.{good_limits, good_length}
use Rattle.keep_out_table.specs.Good.{good_table}
use Rattle.mount.specs.declared.Mount.{Mount}

-- limits, segment length and keep-outs have good numbers
unfoldable pub good_mount : Mount → Bool
good_mount m = good_limits m.limits && good_length m.segment && good_table m.table
