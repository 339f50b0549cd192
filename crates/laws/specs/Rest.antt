-- A walk over the first n entries of a table from the front. What is asked of the entries is f; at i, f of them all is f of those that are left.
-- Laws for any list and any f.
use Rattle.std.specs.Prelude.{◌≡◌, refl, List, [], ◌∷◌, map, ℕ, zero, suc, ◌+◌, ◌≤◌, ◌<◌, min, length, take, drop, get_or}
use Rattle.std.proofs.Common.{sym, ◌∙◌, ap, add-one, arith, drop_of_length-le, length-take, drop-cons, get_or-take, length-take-le, take_all}
use Rattle.std.proofs.Math.Decide.{dec_le}
use Rattle.std.proofs.lemmas.List.{length-map}

module _ {A : Type 0} where
  pub rest_none : (n : ℕ) (l : List A) (i : ℕ) → n ≤ i → drop i (take n l) ≡ []
  rest_none n l i h = let e : length (take n l) ≤ i = omega (arith, length-take n l) in drop_of_length-le (take n l) e

  pub rest_more : (n : ℕ) (l : List A) (i : ℕ) (d : A) → i < n → n ≤ length l → drop i (take n l) ≡ get_or l i d ∷ drop (i + 1) (take n l)
  rest_more n l i d h k =
      let e : i < length (take n l) = omega (arith, length-take-le n l k) in
      rw (add-one, drop-cons (take n l) i d, get_or-take n l i d)

-- What holds at i of a walk.
abbrev pub Left : {A B : Type 0} → (List A → B) → ℕ → List A → ℕ → Type 0
Left f n l i = f (take n l) ≡ f (drop i (take n l))

module _ {A B : Type 0} (f : List A → B) (n : ℕ) (l : List A) (i : ℕ) where
  pub left_more : (d : A) → i < n → n ≤ length l → Left f n l i → f (take n l) ≡ f (get_or l i d ∷ drop (i + 1) (take n l))
  left_more d h k w = w ∙ ap f (rest_more n l i d h k)

  pub left_none : n ≤ i → Left f n l i → f (take n l) ≡ f []
  left_none h w = w ∙ ap f (rest_none n l i h)

-- What owning a table tells is of its entries' machine values: there are as many entries.
pub mapped : (X Y : Type 0) (f : X → Y) (l : List X) (n : ℕ) → length (map f l) ≡ n → length l ≡ n
mapped X Y f l n p = sym (length-map l f) ∙ p

-- within a list it does not matter what stands past its end
pub within : {A : Type 0} (l : List A) (k : ℕ) (d e : A) → k < length l → get_or l k d ≡ get_or l k e
within [] k d e h = absurd (none k h)
  where
    none : (k : ℕ) → k < 0 → ⊥
    none k h = omega arith
within (x ∷ l) zero d e h = refl
within (x ∷ l) (suc k) d e h = let p : k < length l = omega arith in within l k d e p

-- an entry of the table, read from the list of its first n
pub held : {A : Type 0} (l : List A) (n k : ℕ) (d e : A) → k < n → n ≤ length l → get_or l k d ≡ get_or (take n l) k e
held l n k d e h w =
    let p : k < length (take n l) = omega (arith, length-take-le n l w) in
    sym (get_or-take n l k d h) ∙ within (take n l) k d e p

-- a count beyond the table reads as the table's end
pub take_most : {A : Type 0} (n m k : ℕ) (l : List A) → length l ≡ m → k ≡ min n m → take n l ≡ take k l
take_most n m k l e h =
    elim (dec_le n m) [
      | yes p ↦ (let q : n ≡ k = omega arith in rw q)
      | no p ↦ (let a : length l ≤ n = omega arith in let b : length l ≤ k = omega arith in take_all n l a ∙ sym (take_all k l b))
    ]
