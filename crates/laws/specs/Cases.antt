-- The value of a conjunction or a disjunction whose parts are known.
use Rattle.std.specs.Prelude.{Bool, true, false, ◌&&◌, ◌||◌, ◌≡◌}

pub and_true : (a b : Bool) → a ≡ true → b ≡ true → a && b ≡ true
and_true a b p q = rw (p, q)

pub and_left : (a b : Bool) → a ≡ false → a && b ≡ false
and_left a b p = rw p

pub and_right : (a b : Bool) → a ≡ true → b ≡ false → a && b ≡ false
and_right a b p q = rw (p, q)

pub and_rest : (a b : Bool) → a ≡ true → a && b ≡ b
and_rest a b p = rw p

pub or_left : (a b : Bool) → a ≡ true → a || b ≡ true
or_left a b p = rw p

pub or_right : (a b : Bool) → a ≡ false → a || b ≡ b
or_right a b p = rw p
