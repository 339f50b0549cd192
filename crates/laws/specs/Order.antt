-- The order of numbers that are not negative, an infinity included: `lt b a ≡ false` reads a ≤ b. Distances are such numbers.
use Rattle.std.specs.Prelude.{◌*◌, ◌<◌, Bool, true, false, not, ◌≡◌, refl, T, Float}
use Rattle.std.proofs.Common.{sym, ◌∙◌, subst, arith, le-ltb, ltb-true, ltb-false}
use Rattle.std.specs.Float.{nan, inf, fin}
use Rattle.std.specs.Float.Ieee.{up, down, lt}
use Rattle.std.specs.Float.Ieee.Fits.{down_pos}
use Rattle.std.specs.Float.Ieee.Positive.{through}

-- a test is passed or not
pub whether : {X : Type 0} (t : Bool) → (t ≡ true → X) → (t ≡ false → X) → X
whether true f g = f refl
whether false f g = g refl

pub clash : {X : Type 0} (t : Bool) → t ≡ true → t ≡ false → X
clash t p q = absurd (subst T (sym p ∙ q) tt)

-- no NaN, and no sign: 0 and above, an infinity included
unfoldable pub good : Float → Bool
good nan = false
good (inf s) = not s
good (fin s m e) = not s

no : false ≡ true → ⊥
no e = subst T (sym e) tt

-- a ≤ b and b ≤ c give a ≤ c
pub at_most : (c a b : Float) → good c ≡ true → good a ≡ true → good b ≡ true → lt b a ≡ false → lt c b ≡ false → lt c a ≡ false
unfolding good lt
at_most nan a b p q r h k = absurd (no p)
at_most (inf true) a b p q r h k = absurd (no p)
at_most (inf false) nan b p q r h k = absurd (no q)
at_most (inf false) (inf t) b p q r h k = refl
at_most (inf false) (fin t n d) b p q r h k = refl
at_most (fin true m e) a b p q r h k = absurd (no p)
at_most (fin false m e) nan b p q r h k = absurd (no q)
at_most (fin false m e) (inf true) b p q r h k = absurd (no q)
at_most (fin false m e) (inf false) nan p q r h k = absurd (no r)
at_most (fin false m e) (inf false) (inf true) p q r h k = absurd (no r)
at_most (fin false m e) (inf false) (inf false) p q r h k = absurd (no (sym k))
at_most (fin false m e) (inf false) (fin true l g) p q r h k = absurd (no r)
at_most (fin false m e) (inf false) (fin false l g) p q r h k = absurd (no (sym h))
at_most (fin false m e) (fin true n d) b p q r h k = absurd (no q)
at_most (fin false m e) (fin false n d) nan p q r h k = absurd (no r)
at_most (fin false m e) (fin false n d) (inf true) p q r h k = absurd (no r)
at_most (fin false m e) (fin false n d) (inf false) p q r h k = absurd (no (sym k))
at_most (fin false m e) (fin false n d) (fin true l g) p q r h k = absurd (no r)
at_most (fin false m e) (fin false n d) (fin false l g) p q r h k =
    le-ltb (m * up e * down d) (n * up d * down e)
    (through (n * up d) (l * up g) (m * up e) (down d) (down g) (down e) (down_pos g) (ltb-false _ _ h) (ltb-false _ _ k))

-- a < b and b < a do not both hold
pub not_both : (a b : Float) → lt a b ≡ true → good a ≡ true → good b ≡ true → lt b a ≡ false
unfolding good lt
not_both nan b h p q = absurd (no p)
not_both (inf true) b h p q = absurd (no p)
not_both (inf false) nan h p q = absurd (no q)
not_both (inf false) (inf true) h p q = absurd (no q)
not_both (inf false) (inf false) h p q = refl
not_both (inf false) (fin t n d) h p q = absurd (no h)
not_both (fin true m e) b h p q = absurd (no p)
not_both (fin false m e) nan h p q = absurd (no q)
not_both (fin false m e) (inf true) h p q = absurd (no q)
not_both (fin false m e) (inf false) h p q = refl
not_both (fin false m e) (fin true n d) h p q = absurd (no q)
not_both (fin false m e) (fin false n d) h p q =
    let k : m * up e * down d < n * up d * down e = ltb-true _ _ h in
    le-ltb (n * up d * down e) (m * up e * down d) (omega arith)

-- a number is not below itself
pub self : (a : Float) → good a ≡ true → lt a a ≡ false
self a p = whether (lt a a) (λ e. not_both a a e p p) (λ e. e)

-- a < b and b ≤ c give a < c
pub under : (a b c : Float) → good a ≡ true → good b ≡ true → good c ≡ true → lt a b ≡ true → lt c b ≡ false → lt a c ≡ true
under a b c p q r h k = whether (lt a c) (λ e. e) (λ e. clash (lt a b) h (at_most a b c p q r k e))

-- a ≤ b and b < c give a < c
pub over : (a b c : Float) → good a ≡ true → good b ≡ true → good c ≡ true → lt b a ≡ false → lt b c ≡ true → lt a c ≡ true
over a b c p q r h k = whether (lt a c) (λ e. e) (λ e. clash (lt b c) k (at_most b c a q r p e h))

-- what is strictly larger than such a number is one
pub beyond : (m x : Float) → good m ≡ true → lt m x ≡ true → good x ≡ true
unfolding good lt
beyond nan x p h = absurd (no p)
beyond (inf true) x p h = absurd (no p)
beyond (inf false) nan p h = h
beyond (inf false) (inf t) p h = absurd (no h)
beyond (inf false) (fin t n d) p h = absurd (no h)
beyond (fin true m e) x p h = absurd (no p)
beyond (fin false m e) nan p h = h
beyond (fin false m e) (inf t) p h = h
beyond (fin false m e) (fin true n d) p h = h
beyond (fin false m e) (fin false n d) p h = refl
