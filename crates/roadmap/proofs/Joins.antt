-- The legs of a new milestone, mark by mark.
use Prim.Native.Nat.{ℕ, ◌+◌, ◌<◌}
use mathlib.Core.Bool.{Bool, true, false, ◌&&◌, ◌||◌, or-false, and_comm}
use mathlib.Core.List.{List}
use mathlib.Core.Path.{◌≡◌, refl, sym, ◌∙◌, ap}
use native.Mathlib.Omega.{arith}
use native.Mathlib.Decide.{ℕ_discrete, dec_lt}
use borrow.Author.Tests.{eq-eqb, ne_eqb, lt-ltb, le-ltb}
use lib.Dec.{eqb, ltb}
use Rattle.legs.specs.Bits.{leg_at, Linked}
use Rattle.roadmap.specs.View.{Joins}

pub regroup : (l x y p q : Bool) → l || x || y || p || q ≡ l || (x || p) || (y || q)
regroup true x y p q = refl
regroup false true y p q = refl
regroup false false true true q = refl
regroup false false true false q = refl
regroup false false false p q = refl

next : (a l e f : Bool) → e ≡ e && f → a && ((l || e) && f) ≡ (a && (l && f)) || (a && e)
next false l e f p = refl
next true true true true p = refl
next true true false true p = refl
next true true true false p = sym p
next true true false false p = refl
next true false e f p = sym p

pub nothing : (l x y : Bool) → l ≡ l || (x && false) || (y && false)
nothing true x y = refl
nothing false true true = refl
nothing false true false = refl
nothing false false true = refl
nothing false false false = refl

ltb_more : (b j : ℕ) → ltb b (j + 1) ≡ ltb b j || eqb b j
ltb_more b j = elim (dec_lt b j) [ yes p ↦ rw (lt-ltb b (j + 1) (omega arith), lt-ltb b j p) | no p ↦ over (ℕ_discrete b j) p ]
  where
    over : Dec (b ≡ j) → (b < j → ⊥) → ltb b (j + 1) ≡ ltb b j || eqb b j
    over (yes e) p = rw (lt-ltb b (j + 1) (omega arith), le-ltb b j (omega arith), eq-eqb b j e)
    over (no e) p = rw (le-ltb b (j + 1) (omega arith), le-ltb b j (omega arith), ne_eqb b j e)

module _ (old : List ℕ) (n : ℕ) (f : ℕ → Bool) where
  pub joins_none : Joins old n 0 f old
  joins_none = record { long = refl; is = λ a b ha hb. rw (le-ltb b 0 (omega arith), le-ltb a 0 (omega arith)) (nothing (leg_at old a b) (eqb a n) (eqb b n)) }

  -- at j, the flag counts
  here : (j b : ℕ) → f j ≡ true → eqb b j ≡ eqb b j && f b
  here j b t = elim (ℕ_discrete b j) [ yes e ↦ rw (eq-eqb b j e, e, t) | no e ↦ rw (ne_eqb b j e) ]

  pub joins_yes : (j : ℕ) (now now' : List ℕ) → Joins old n j f now → Linked now n j now' → f j ≡ true → Joins old n (j + 1) f now'
  joins_yes j now now' p q t =
      record {
        long = q.long ∙ p.long;
        is = λ a b ha hb. q.is a b ha hb ∙ ap (λ (x : Bool). x || (eqb a n && eqb b j) || (eqb a j && eqb b n)) (p.is a b ha hb)
            ∙ ap (λ (x : Bool). leg_at old a b || (eqb a n && (ltb b j && f b)) || (eqb b n && (ltb a j && f a)) || (eqb a n && eqb b j) || x) (and_comm (eqb a j) (eqb b n))
            ∙ regroup (leg_at old a b) (eqb a n && (ltb b j && f b)) (eqb b n && (ltb a j && f a)) (eqb a n && eqb b j) (eqb b n && eqb a j)
            ∙ sym (rw (ltb_more b j, ltb_more a j, next (eqb a n) (ltb b j) (eqb b j) (f b) (here j b t), next (eqb b n) (ltb a j) (eqb a j) (f a) (here j a t)));
      }

  over : (j b : ℕ) → f j ≡ false → ltb b j && f b ≡ (ltb b j || eqb b j) && f b
  over j b t = elim (ℕ_discrete b j) [ yes e ↦ rw (e, t) (both (ltb j j) (eqb j j)) | no e ↦ rw (ne_eqb b j e, or-false (ltb b j)) ]
    where
      both : (x y : Bool) → x && false ≡ (x || y) && false
      both true y = refl
      both false true = refl
      both false false = refl

  pub joins_not : (j : ℕ) (now : List ℕ) → Joins old n j f now → f j ≡ false → Joins old n (j + 1) f now
  joins_not j now p t = record { long = p.long; is = λ a b ha hb. p.is a b ha hb ∙ rw (ltb_more b j, ltb_more a j, over j b t, over j a t) }
