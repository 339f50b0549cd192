-- The mount before any setup: none.
use Rattle.std.specs.Prelude.{Option, None}
use Rattle.mount.specs.declared.Mount.{Mount}

abbrev pub none_of : Option Mount
none_of = None
