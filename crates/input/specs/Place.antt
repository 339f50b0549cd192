-- Where a reader stands among the bytes of its buffer.
use Rattle.std.specs.Prelude.{ℕ, ◌+◌, Bool, false, cond, ltb}
use Rattle.input.specs.declared.Reader.{Reader}

pub record Place : Type 0 where
  pub at : ℕ
  pub end : ℕ
  pub ended : Bool

abbrev pub place_of : Reader → Place
place_of r = record { at = r.at; end = r.end; ended = r.ended }

-- before the first byte: none has been read
unfoldable pub new_of : Place
new_of = record { at = 0; end = 0; ended = false }

-- past the next byte; the last is not passed
unfoldable pub next_of : Place → Place
next_of p = cond (ltb p.at p.end) (record { at = p.at + 1; end = p.end; ended = p.ended }) p
