-- One division of two whole numbers that a binary64 holds exactly rounds their quotient once; a minus sign before it changes the sign alone.
use mathlib.Core.Bool.{Bool, true, false, cond}
use mathlib.Core.Path.{◌≡◌, refl, sym, ◌∙◌, ap, subst}
use Prim.Native.Nat.{ℕ, zero, suc, ◌+◌, ◌*◌, ◌^◌, ◌≤◌, ◌<◌}
use native.Mathlib.Nat.{lt_irrefl, mul-one, zero-mul, mul-pos, mul_assoc, mul_comm, mul_right_comm}
use borrow.Author.Tests.{ne_eqb}
use lib.Dec.{T, eqb, ltb}
use lib.IntN.{ℤ, pos}
use lib.Ieee.{Float, nan, inf, fin, Format, binary64, prec, emax, low, up, down, odd, units, round, neg, div, of_int}
use lib.Ieee.Back.{round_whole}
use lib.Ieee.Exact.{HasValue}
use lib.Ieee.Fits.{down_pos, round_is}
use lib.Ieee.Scale.{round_same}

-- ---- the sign
neg_odd : (d q k l : ℕ) → neg (odd d false q k l) ≡ odd d true q k l
unfolding odd neg
neg_odd d zero k l = refl
neg_odd d (suc q) k l = refl

neg_units : (f : Format) (q k : ℕ) → neg (units f false q k) ≡ units f true q k
unfolding units
neg_units f q k = go (ltb (q * 2 ^ k) (2 ^ (low f + suc (emax f))))
  where
    go : (b : Bool)
        → neg (cond b (odd (suc (prec f)) false q k (low f)) (inf false)) ≡ cond b (odd (suc (prec f)) true q k (low f)) (inf true)
    go true = neg_odd (suc (prec f)) q k (low f)
    go false = unfold neg in refl

pub negated_rounding : (f : Format) (a b : ℕ) → neg (round f false a b) ≡ round f true a b
negated_rounding f a b = ap neg (round_is f false a b) ∙ neg_units f _ _ ∙ sym (round_is f true a b)

-- ---- the division
-- a whole number above 0 has a digit that is not 0
no_zero : (n : ℕ) (d : ℤ) (b : ℕ) → n * up d * 1 ≡ b * down d → 0 < b → n ≡ 0 → ⊥
no_zero n d b v h z =
    lt_irrefl 0
    (subst (λ (x : ℕ). 0 < x) (sym v ∙ ap (λ (y : ℕ). y * up d * 1) z ∙ ap (λ (y : ℕ). y * 1) (zero-mul (up d)) ∙ zero-mul 1)
    (mul-pos h (down_pos d)))

-- a / 1 over b / 1 is a / b, whatever the powers of two that the two are written with
crossed : (m n u v w z a b : ℕ) → m * u * 1 ≡ a * w → n * v * 1 ≡ b * z → m * u * z * b ≡ a * (n * v * w)
crossed m n u v w z a b p q =
    ap (λ (x : ℕ). x * z * b) (sym (mul-one (m * u)) ∙ p)
    ∙ ap (λ (x : ℕ). x * b) (mul_assoc a w z)
    ∙ mul_assoc a (w * z) b
    ∙ ap (λ (x : ℕ). a * x)
    (ap (λ (x : ℕ). x * b) (mul_comm w z) ∙ mul_right_comm z w b ∙ ap (λ (x : ℕ). x * w) (mul_comm z b ∙ sym q ∙ mul-one (n * v)))

divides : (f : Format) (x y : Float) (a b : ℕ) → HasValue x false a 1 → HasValue y false b 1 → 0 < b → div f x y ≡ round f false a b
unfolding div
divides f (fin false m e) (fin false n d) a b p q h =
    let nz : n ≡ 0 → ⊥ = no_zero n d b q.1 h in
    ap (λ (t : Bool). cond t (cond (eqb m 0) nan (inf false)) (round f false (m * up e * down d) (n * up d * down e))) (ne_eqb n 0 nz)
    ∙ round_same f false (m * up e * down d) (n * up d * down e) a b (below q.1) h
    (crossed m n (up e) (up d) (down e) (down d) a b p.1 q.1)
  where
    below : n * up d * 1 ≡ b * down d → 0 < n * up d * down e
    below v = mul-pos (subst (λ (x : ℕ). 0 < x) (sym v ∙ mul-one (n * up d)) (mul-pos h (down_pos d))) (down_pos e)
divides f nan y a b p q h = elim p [ ]
divides f (inf _) y a b p q h = elim p [ ]
divides f (fin true m e) y a b p q h = absurd (subst T p.0 tt)
divides f (fin false m e) nan a b p q h = elim q [ ]
divides f (fin false m e) (inf _) a b p q h = elim q [ ]
divides f (fin false m e) (fin true n d) a b p q h = absurd (subst T q.0 tt)

pub one_division_rounds_once : (a b : ℕ) → a ≤ 2 ^ 53 → b ≤ 2 ^ 53 → 0 < b
    → div binary64 (of_int binary64 (pos a)) (of_int binary64 (pos b)) ≡ round binary64 false a b
unfolding of_int
one_division_rounds_once a b A B h =
    divides binary64 (round binary64 false a 1) (round binary64 false b 1) a b (round_whole binary64 false a A) (round_whole binary64 false b B) h
