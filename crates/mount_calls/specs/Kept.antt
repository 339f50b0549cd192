-- What a call on the mount leaves of it: a setup that is accepted replaces it, and everything else keeps it.
use Rattle.std.specs.Prelude.{cond, Option, Some, List, Float}
use Rattle.keep_out_table.specs.declared.KeepOuts.{KeepOuts}
use Rattle.mount.specs.Good.{good_mount}
use Rattle.mount.specs.declared.Mount.{Mount}
use Rattle.grammar.specs.declared.Verb.{Verb}
use Rattle.grammar.specs.declared.Verb.TheVariants.{Setup}
use Rattle.given.specs.Given.{limits_in, length_at}

-- "mount setup LIM SEG KO*"
unfoldable pub setup_from : Option Mount → List Float → KeepOuts → Option Mount
setup_from kept l table =
    let mount : Mount = record { limits = limits_in l; segment = length_at l 6; table = table } in
    cond (good_mount mount) (Some mount) kept

unfoldable pub call_of : Option Mount → Verb → List Float → KeepOuts → Option Mount
call_of kept Setup l table = setup_from kept l table
call_of kept _ l table = kept
