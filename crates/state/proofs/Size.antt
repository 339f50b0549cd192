-- The size of a number, by its bits without the sign's, and what it does to a running number that is not below zero.
use Prim.Native.Nat.{ℕ, zero, suc, ◌+◌, ◌*◌, ◌%◌, ◌≤◌, ◌<◌}
use mathlib.Core.Bool.{Bool, true, false, not, cond}
use mathlib.Core.Path.{◌≡◌, refl, sym, ◌∙◌, ap, subst}
use native.Mathlib.Nat.{zero-mul, mul-one, mul-pos, mod-eq_of_lt, add-mod_left}
use native.Mathlib.Omega.{arith}
use borrow.Author.Tests.{lt-ltb, le-ltb, ltb-false}
use lib.Dec.{T, ltb}
use lib.Bits.{bit_and, and_mask}
use lib.Ieee.{Float, nan, inf, fin, binary64, up, down, below, sub, neg, lt, eq, ne, fits, is_nan, nan_bits, of_bits, to_bits}
use lib.Ieee.Bits.{of_bits-to_bits, to_bits-lt, nan_bits_is}
use lib.Ieee.Fits.{sub-fits, up_pos}
use lib.Ieee.Compare.{differs_from_itself}
use Rattle.state.specs.Distance.{apart_of, wider_of}

kept : (m x : Float) → lt m x ≡ false → wider_of m x ≡ m
unfolding wider_of
kept m x e = rw e

took : (m x : Float) → lt m x ≡ true → wider_of m x ≡ x
unfolding wider_of
took m x e = rw e

unfoldable pub size_of : Float → Float
size_of nan = nan
size_of (inf s) = inf false
size_of (fin s m e) = fin false m e

-- ---- the bits
resign : (s t : Bool) (m : ℕ) (e : _) → T (fits binary64 (fin s m e)) → T (fits binary64 (fin t m e))
unfolding fits
resign s t zero e h = h
resign s t (suc m) e h = h

regroup : (t a b : ℕ) → t + a + b ≡ t + (0 + a + b)
regroup t a b = omega arith

signed : (m : ℕ) (e : _) → to_bits binary64 (fin true m e) ≡ 9223372036854775808 + to_bits binary64 (fin false m e)
unfolding to_bits
signed m e = regroup 9223372036854775808 _ _

half : (x y : ℕ) → x ≡ 9223372036854775808 + y → x < 2 * 9223372036854775808 → y < 9223372036854775808
half x y e h = omega arith

plain : (m : ℕ) (e : _) → T (fits binary64 (fin false m e)) → to_bits binary64 (fin false m e) < 9223372036854775808
plain m e h = half _ _ (signed m e) (to_bits-lt binary64 (fin true m e) (resign false true m e h))

pub masked : (v : Float) → T (fits binary64 v) → is_nan v ≡ false → of_bits binary64 (bit_and (to_bits binary64 v) 9223372036854775807) ≡ size_of v
unfolding size_of is_nan
masked nan h e = absurd (subst T e tt)
masked (inf true) h e = unfold of_bits to_bits in refl
masked (inf false) h e = unfold of_bits to_bits in refl
masked (fin false m e) h _ =
    ap (of_bits binary64) (and_mask (to_bits binary64 (fin false m e)) 63 ∙ mod-eq_of_lt (plain m e h)) ∙ of_bits-to_bits binary64 (fin false m e) h
masked (fin true m e) h _ =
    let k = resign true false m e h in
    ap (of_bits binary64)
    (and_mask (to_bits binary64 (fin true m e)) 63
    ∙ ap (λ (x : ℕ). x % 9223372036854775808) (signed m e)
    ∙ add-mod_left 9223372036854775808 (to_bits binary64 (fin false m e))
    ∙ mod-eq_of_lt (plain m e k))
    ∙ of_bits-to_bits binary64 (fin false m e) k

pub some_number : (v : Float) → eq v v ≡ true → is_nan v ≡ false
unfolding is_nan eq
some_number nan e = absurd (subst T (sym e) tt)
some_number (inf s) e = refl
some_number (fin s m d) e = refl

pub no_number : (v : Float) → eq v v ≡ false → v ≡ nan
unfolding ne
no_number v e = differs_from_itself v (subst (λ (b : Bool). T (not b)) (sym e) tt)

-- ---- the order
none : (x y a : ℕ) → ltb a (0 * x * y) ≡ false
none x y a = rw (zero-mul x, zero-mul y) (le-ltb a 0 (omega arith))

not_under : (x d : ℕ) → ltb (x * 1) (0 * d) ≡ false
not_under x d = rw (zero-mul d) (le-ltb (x * 1) 0 (omega arith))

nothing : (u d : ℕ) → ltb 0 (0 * u * 1 + 0 * d) ≡ false
nothing u d = rw (zero-mul u, zero-mul d) (le-ltb 0 0 (omega arith))

some : (x d : ℕ) → 0 < x → ltb 0 (x * 1 + 0 * d) ≡ true
some x d h = rw (mul-one x, zero-mul d) (lt-ltb 0 (x + 0) (omega arith))

-- what is not above nothing is nothing
gone : (x d : ℕ) → ltb 0 (x * 1 + 0 * d) ≡ false → x ≡ 0
gone x d h = let k : x * 1 + 0 * d ≤ 0 = ltb-false 0 (x * 1 + 0 * d) h in omega (arith, mul-one x, zero-mul d)

pick : (t : Bool) (x y u d : ℕ) → x ≡ 0 → below true (x * y) t (0 * u * d) ≡ false
pick true x y u d h = rw (h, zero-mul y, zero-mul u, zero-mul d) (le-ltb 0 0 (omega arith))
pick false x y u d h = rw (h, zero-mul y, zero-mul u, zero-mul d) (le-ltb 0 0 (omega arith))

-- a number that is not below zero is below no zero
under : (m : Float) (t : Bool) (e : _) → lt m (of_bits binary64 0) ≡ false → lt m (fin t 0 e) ≡ false
unfolding lt of_bits
under nan t e h = refl
under (inf s) t e h = h
under (fin false n d) false e h = none (up e) (down d) (n * up d * down e)
under (fin false n d) true e h = refl
under (fin true n d) t e h = pick t (n * up d) (down e) (up e) (down d) (gone (n * up d) (down d) h)

pub size_up : (v : Float) → lt (size_of v) (of_bits binary64 0) ≡ false
unfolding lt of_bits size_of
size_up nan = refl
size_up (inf s) = refl
size_up (fin s m e) = not_under (m * up e) (down e)

module _ (m : Float) (h : lt m (of_bits binary64 0) ≡ false) where
  -- for the running number it is the same whether a zero has a sign
  pub wider_size : (v : Float) → is_nan v ≡ false → wider_of m (cond (lt v (of_bits binary64 0)) (neg v) v) ≡ wider_of m (size_of v)
  unfolding lt of_bits size_of neg is_nan
  wider_size nan k = absurd (subst T k tt)
  wider_size (inf true) k = refl
  wider_size (inf false) k = refl
  wider_size (fin false n e) k = ap (λ (b : Bool). wider_of m (cond b (fin true n e) (fin false n e))) (not_under (n * up e) (down e))
  wider_size (fin true zero e) k =
      ap (λ (b : Bool). wider_of m (cond b (fin false 0 e) (fin true 0 e))) (nothing (up e) (down e))
      ∙ kept m (fin true 0 e) (under m true e h)
      ∙ sym (kept m (fin false 0 e) (under m false e h))
  wider_size (fin true (suc n) e) k =
      ap (λ (b : Bool). wider_of m (cond b (fin false (suc n) e) (fin true (suc n) e))) (some (suc n * up e) (down e) (mul-pos (omega arith) (up_pos e)))

-- ---- what the code does with the difference v of a and b
module _ (a b : Float) (is : eq (sub binary64 a b) (sub binary64 a b) ≡ true) where
  masks : of_bits binary64 (bit_and (to_bits binary64 (sub binary64 a b)) 9223372036854775807) ≡ size_of (sub binary64 a b)
  masks = masked (sub binary64 a b) (sub-fits binary64 a b) (some_number (sub binary64 a b) is)

  pub has_bits : T (not (is_nan (sub binary64 a b)))
  has_bits = subst (λ (x : Bool). T (not x)) (sym (some_number (sub binary64 a b) is)) tt

  sized : (v : Float) → is_nan v ≡ false → is_nan (size_of v) ≡ false
  unfolding is_nan size_of
  sized nan e = e
  sized (inf s) e = refl
  sized (fin s m d) e = refl

  pub of_bits_number : T (not (nan_bits binary64 (bit_and (to_bits binary64 (sub binary64 a b)) 9223372036854775807)))
  of_bits_number =
      subst (λ (x : Bool). T (not x))
      (sym (nan_bits_is binary64 (bit_and (to_bits binary64 (sub binary64 a b)) 9223372036854775807) ∙ ap is_nan masks ∙ sized _ (some_number (sub binary64 a b) is)))
      tt

  module _ (m : Float) (h : lt m (of_bits binary64 0) ≡ false) where
    wides : wider_of m (apart_of a b) ≡ wider_of m (of_bits binary64 (bit_and (to_bits binary64 (sub binary64 a b)) 9223372036854775807))
    unfolding apart_of
    wides = wider_size m h (sub binary64 a b) (some_number (sub binary64 a b) is) ∙ ap (wider_of m) (sym masks)

    pub larger :
        let f = of_bits binary64 (bit_and (to_bits binary64 (sub binary64 a b)) 9223372036854775807) in
        lt m f ≡ true → (f ≡ wider_of m (apart_of a b)) × (lt f (of_bits binary64 0) ≡ false)
    larger e = (sym (wides ∙ took m _ e), ap (λ (x : Float). lt x (of_bits binary64 0)) masks ∙ size_up (sub binary64 a b))

    pub no_larger :
        let f = of_bits binary64 (bit_and (to_bits binary64 (sub binary64 a b)) 9223372036854775807) in
        lt m f ≡ false → m ≡ wider_of m (apart_of a b)
    no_larger e = sym (wides ∙ kept m _ e)

-- no number is the larger
beside_nan : (m : Float) → lt m nan ≡ false
unfolding lt
beside_nan nan = refl
beside_nan (inf s) = refl
beside_nan (fin s n e) = refl

apart_nan : (v : Float) → v ≡ nan → cond (lt v (of_bits binary64 0)) (neg v) v ≡ nan
unfolding lt
apart_nan v e = rw e

pub no_number_larger : (a b m : Float) → eq (sub binary64 a b) (sub binary64 a b) ≡ false → m ≡ wider_of m (apart_of a b)
unfolding apart_of
no_number_larger a b m e =
    sym (ap (wider_of m) (apart_nan (sub binary64 a b) (no_number (sub binary64 a b) e)) ∙ kept m nan (beside_nan m))
