-- Laws of what stays of a list.
use Prim.Native.Nat.{ℕ, zero, suc, ◌≤◌, ◌<◌}
use mathlib.Core.Bool.{Bool, true, ◌&&◌}
use mathlib.Core.List.{List, [], ◌∷◌, ◌++◌}
use mathlib.Core.Path.{◌≡◌, refl}
use native.Mathlib.Omega.{arith}
use lib.ListN.{length, get_or, take}
use Rattle.laws.specs.Order.{whether}
use Rattle.roadmap.specs.Keep.{keep_of}

module _ {A : Type 0} where
  pub keep_append : (f : A → Bool) (xs ys : List A) → keep_of f (xs ++ ys) ≡ keep_of f xs ++ keep_of f ys
  unfolding keep_of
  keep_append f [] ys = refl
  keep_append f (x ∷ xs) ys = whether (f x) (λ e. rw (e, keep_append f xs ys)) (λ e. rw (e, keep_append f xs ys))

  -- what the second test leaves of what the first leaves
  pub keep_keep : (f g : A → Bool) (xs : List A) → keep_of g (keep_of f xs) ≡ keep_of (λ (x : A). f x && g x) xs
  unfolding keep_of
  keep_keep f g [] = refl
  keep_keep f g (x ∷ xs) =
      whether (f x) (λ p. whether (g x) (λ q. rw (p, q, keep_keep f g xs)) (λ q. rw (p, q, keep_keep f g xs))) (λ p. rw (p, keep_keep f g xs))

  pub fewer : (f : A → Bool) (xs : List A) → length (keep_of f xs) ≤ length xs
  unfolding keep_of
  fewer f [] = omega arith
  fewer f (x ∷ xs) = whether (f x) (λ e. rw e (omega (arith, fewer f xs))) (λ e. rw e (omega (arith, fewer f xs)))

none : (i : ℕ) → i < 0 → ⊥
none i h = omega arith

-- the i-th of a list stands at its place among those that stay, and the order is kept
module _ {A : Type 0} (f : A → Bool) (d : A) where
  pub kept_at : (xs : List A) (i : ℕ) → i < length xs → f (get_or xs i d) ≡ true → get_or (keep_of f xs) (length (keep_of f (take i xs))) d ≡ get_or xs i d
  unfolding keep_of
  kept_at [] i h e = absurd (none i h)
  kept_at (x ∷ xs) zero h e = rw e
  kept_at (x ∷ xs) (suc i) h e =
      let later = kept_at xs i (omega arith) e in
      whether (f x) (λ p. rw (p, later)) (λ p. rw (p, later))

  pub kept_within : (xs : List A) (i : ℕ) → i < length xs → f (get_or xs i d) ≡ true → length (keep_of f (take i xs)) < length (keep_of f xs)
  unfolding keep_of
  kept_within [] i h e = absurd (none i h)
  kept_within (x ∷ xs) zero h e = rw e (omega arith)
  kept_within (x ∷ xs) (suc i) h e =
      let later = kept_within xs i (omega arith) e in
      whether (f x) (λ p. rw p (omega (arith, later))) (λ p. rw p later)

  pub kept_before : (xs : List A) (j i : ℕ) → j < i → i < length xs → f (get_or xs j d) ≡ true → length (keep_of f (take j xs)) < length (keep_of f (take i xs))
  unfolding keep_of
  kept_before [] j i l h e = absurd (none i h)
  kept_before (x ∷ xs) j zero l h e = absurd (none j l)
  kept_before (x ∷ xs) zero (suc i) l h e = rw e (omega arith)
  kept_before (x ∷ xs) (suc j) (suc i) l h e =
      let later = kept_before xs j i (omega arith) (omega arith) e in
      whether (f x) (λ p. rw p (omega (arith, later))) (λ p. rw p later)
