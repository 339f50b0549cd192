-- The mount of what is not set up yet. No call reads its numbers.
use Rattle.std.specs.Float.{binary64}
use Rattle.std.specs.Float.Ieee.{of_bits}
use Rattle.state.specs.declared.State.{State}
use Rattle.keep_out_table.specs.Table.{empty_table}
use Rattle.mount.specs.declared.Mount.{Mount}

-- limits of no width, a segment length of 1, and no keep-out
unfoldable pub no_mount : Mount
no_mount =
    let zero : State = record { az = of_bits binary64 0; el = of_bits binary64 0; feed = of_bits binary64 0 } in
    record { limits = record { low = zero; high = zero }; segment = record { value = of_bits binary64 0x3ff0_0000_0000_0000 }; table = empty_table }
