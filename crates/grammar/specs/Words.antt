-- The call scripts, "Input": the two words that a line starts with. A word that is none of the names is `None`.
use Rattle.std.specs.Borrow.{Bor}
use Rattle.std.specs.Prelude.{ℕ, Bool, cond, List, [], ◌∷◌, Option, Some, None, codes}
use Rattle.std.specs.Str.{bytes_eq}
use Prim.Native.String.{String}
use Rattle.grammar.specs.declared.Planner.{Planner}
use Rattle.grammar.specs.declared.Planner.TheVariants.{Mount, Rrt, Connect, Star, Prm}
use Rattle.grammar.specs.declared.Verb.{Verb}
use Rattle.grammar.specs.declared.Verb.TheVariants.{Setup, Keepout, Solve, Construct, Goals, Query, Tables, Distance, Between, Steer, Valid, Steps, Motion}

-- what the first of the rows with that word names
abbrev pub value_in : {A : Type 0} → List ℕ → List (Bor (List ℕ) × A) → Option A
value_in word [] = None
value_in word (row ∷ rows) = cond (bytes_eq word row.0.now) (Some row.1) (value_in word rows)

-- whether the word is a name, which is ASCII
abbrev pub is_word : List ℕ → String → Bool
is_word word name = bytes_eq word (codes name)

abbrev pub planner_named : List ℕ → Option Planner
planner_named word =
    cond (is_word word "mount") (Some Mount)
    (cond (is_word word "rrt") (Some Rrt)
    (cond (is_word word "connect") (Some Connect)
    (cond (is_word word "star") (Some Star)
    (cond (is_word word "prm") (Some Prm) None))))

abbrev pub verb_named : List ℕ → Option Verb
verb_named word =
    cond (is_word word "setup") (Some Setup)
    (cond (is_word word "keepout") (Some Keepout)
    (cond (is_word word "solve") (Some Solve)
    (cond (is_word word "construct") (Some Construct)
    (cond (is_word word "goals") (Some Goals)
    (cond (is_word word "query") (Some Query)
    (cond (is_word word "tables") (Some Tables)
    (cond (is_word word "distance") (Some Distance)
    (cond (is_word word "between") (Some Between)
    (cond (is_word word "steer") (Some Steer)
    (cond (is_word word "valid") (Some Valid)
    (cond (is_word word "steps") (Some Steps)
    (cond (is_word word "motion") (Some Motion) None))))))))))))
