-- The way up from a node: what one turn of the loop that writes it does, and what stands in the memory then.
use Prim.Native.Nat.{ℕ, zero, suc, ◌+◌, ◌-◌, ◌*◌, ◌≤◌, ◌<◌}
use mathlib.Core.List.{List, [], ◌∷◌, ◌++◌, append_assoc, append-nil}
use mathlib.Core.Path.{◌≡◌, refl, sym, ◌∙◌, ap, ap₂, subst}
use native.Mathlib.Omega.{arith}
use borrow.Author.Tests.{lt-ltb, le-ltb}
use lib.ListN.{length, take, drop, length-append, take-append-drop}
use lib.Seq.{take_at, drop-append-add, length-take-le, drop-drop}
use lib.Ieee.{Float}
use Rattle.state.specs.declared.State.{State}
use Rattle.state.specs.Rows.{state_at}
use Rattle.tree.specs.Table.{Nodes, parent_at}
use Rattle.route.specs.Path.{ancestors_of, upwards_of}
use Rattle.route.specs.Written.{flat_of, put_of, written_of, Appended}

pub flat_append : (a b : List State) → flat_of (a ++ b) ≡ flat_of a ++ flat_of b
unfolding flat_of
flat_append [] b = refl
flat_append (s ∷ a) b = ap (λ (l : List Float). s.az ∷ s.el ∷ s.feed ∷ l) (flat_append a b)

pub flat_long : (l : List State) → length (flat_of l) ≡ 3 * length l
unfolding flat_of
flat_long [] = refl
flat_long (s ∷ l) = omega (arith, flat_long l)

-- one state more behind those that are written
pub placed_behind :
    (old : List Float) (from k : ℕ) (s : State) (done : List State) (out : List Float) → length done ≡ k → 3 * from ≤ length old →
    out ≡ take (3 * from) old ++ (flat_of done ++ drop (3 * (from + k)) old) →
    put_of out (3 * (from + k)) s ≡ take (3 * from) old ++ (flat_of (done ++ (s ∷ [])) ++ drop (3 * (from + (k + 1))) old)
unfolding put_of
placed_behind old from k s done out len room e =
    let q = 3 * (from + k) in
    let front = take (3 * from) old ++ flat_of done in
    let rest = drop q old in
    let split : out ≡ front ++ rest = e ∙ sym (append_assoc (take (3 * from) old) (flat_of done) rest) in
    let long : length front ≡ q = omega (arith, length-append (take (3 * from) old) (flat_of done), length-take-le (3 * from) old room, flat_long done) in
    let a : take q out ≡ front = ap (take q) split ∙ take_at front rest q long in
    let l : q + 3 ≡ length front + 3 = omega arith in
    let b : drop (q + 3) out ≡ drop 3 rest = ap (drop (q + 3)) split ∙ ap (λ (x : ℕ). drop x (front ++ rest)) l ∙ drop-append-add front rest 3 in
    let m : q + 3 ≡ 3 * (from + (k + 1)) = omega arith in
    let c : drop 3 rest ≡ drop (3 * (from + (k + 1))) old = drop-drop 3 q old ∙ ap (λ (x : ℕ). drop x old) m in
    let one : flat_of (s ∷ []) ≡ s.az ∷ s.el ∷ s.feed ∷ [] = flat_one s in
    rw (a, b, c, flat_append done (s ∷ []), one)
    (append_assoc (take (3 * from) old) (flat_of done) (s.az ∷ s.el ∷ s.feed ∷ drop (3 * (from + (k + 1))) old)
    ∙ ap (λ (l : List Float). take (3 * from) old ++ l) (sym (append_assoc (flat_of done) (s.az ∷ s.el ∷ s.feed ∷ []) (drop (3 * (from + (k + 1))) old))))
  where
    flat_one : (s : State) → flat_of (s ∷ []) ≡ s.az ∷ s.el ∷ s.feed ∷ []
    flat_one s = unfold flat_of in refl

-- The way up from the node `node` of `count`: k states are written, the last of them that of the node `at`, whose parent is `parent`.
pub record Upped (nodes : Nodes) (node count from : ℕ) (old : List Float) (parent k : ℕ) (out : List Float) : Type 0 where
  pub at : ℕ
  pub done : List State
  pub up : parent_at nodes at ≡ parent
  pub many : length done ≡ k
  pub is : upwards_of nodes node ≡ done ++ ancestors_of (count - 1 - k) nodes at
  pub memory : out ≡ take (3 * from) old ++ (flat_of done ++ drop (3 * (from + k)) old)

module _ {nodes : Nodes} {count : ℕ} (whole : length nodes.states ≡ count) where
  pub up_starts : {node from : ℕ} {old : List Float} {parent : ℕ} → parent_at nodes node ≡ parent → Upped nodes node count from old parent 0 old
  unfolding upwards_of flat_of
  up_starts {node} {from} {old} e =
      let z : 3 * (from + 0) ≡ 3 * from = omega arith in
      let y : count - 1 - 0 ≡ count - 1 = omega arith in
      record { at = node; done = []; up = e; many = refl; is = rw (whole, y); memory = sym (rw z (take-append-drop (3 * from) old)) }

  module _ {node from : ℕ} {old : List Float} {parent k : ℕ} {out : List Float} (w : Upped nodes node count from old parent k out) where
    -- one step up, to a parent that is a node
    module _ (h : k + 1 < count) (l : parent < count) where
      goes_on : ancestors_of (count - 1 - k) nodes w.at ≡ state_at nodes.states parent ∷ ancestors_of (count - 1 - (k + 1)) nodes parent
      unfolding ancestors_of
      goes_on = let f : count - 1 - k ≡ suc (count - 1 - (k + 1)) = omega arith in rw (f, w.up, whole, lt-ltb parent count l)

      pub up_turn :
          {p : ℕ} {s : State} {new : List Float} → 3 * from ≤ length old → parent_at nodes parent ≡ p → state_at nodes.states parent ≡ s →
          new ≡ put_of out (3 * (from + k)) s → Upped nodes node count from old p (k + 1) new
      up_turn {p} {s} {new} room e is-s n =
          let rest = ancestors_of (count - 1 - (k + 1)) nodes parent in
          record {
            at = parent;
            done = w.done ++ (s ∷ []);
            up = e;
            many = omega (arith, length-append w.done (s ∷ []), w.many);
            is = w.is ∙ ap (λ (l : List State). w.done ++ l) goes_on ∙ ap (λ (x : State). w.done ++ (x ∷ rest)) is-s ∙ sym (append_assoc w.done (s ∷ []) rest);
            memory = n ∙ placed_behind old from k s w.done out w.many room w.memory;
          }

    upped : k < count → ancestors_of (count - 1 - k) nodes w.at ≡ [] → Appended nodes node from old k out
    upped h e =
        let all : upwards_of nodes node ≡ w.done = w.is ∙ ap (λ (l : List State). w.done ++ l) e ∙ append-nil w.done in
        record {
          count = sym (ap length all ∙ w.many);
          memory = w.memory ∙ ap (λ (l : List State). take (3 * from) old ++ (flat_of l ++ drop (3 * (from + k)) old)) (sym all);
          few = omega arith;
        }

    -- at a parent that is no node, or after all other nodes
    pub up_ends : k < count → count ≤ parent → Appended nodes node from old k out
    up_ends h l = upped h (none (count - 1 - k))
      where
        none : (f : ℕ) → ancestors_of f nodes w.at ≡ []
        none zero = unfold ancestors_of in refl
        none (suc f) = unfold ancestors_of in rw (w.up, whole, le-ltb parent count l)

    pub up_all : {n : ℕ} → k ≡ n → n + 1 ≡ count → Appended nodes node from old n out
    unfolding ancestors_of
    up_all e q =
        let f : count - 1 - k ≡ 0 = omega arith in
        subst (λ (x : ℕ). Appended nodes node from old x out) e (upped (omega arith) (rw f))

-- a route with another behind it
pub written_on :
    (path more : List State) (old mid new : List Float) → mid ≡ written_of path old →
    new ≡ take (3 * length path) mid ++ (flat_of more ++ drop (3 * (length path + length more)) mid) → new ≡ written_of (path ++ more) old
unfolding written_of
written_on path more old mid new is e =
    let k = length path in
    let long : length (flat_of path) ≡ 3 * k = flat_long path in
    let a : take (3 * k) mid ≡ flat_of path = ap (take (3 * k)) is ∙ take_at (flat_of path) (drop (3 * k) old) (3 * k) long in
    let l : 3 * (k + length more) ≡ length (flat_of path) + 3 * length more = omega arith in
    let m : 3 * k + 3 * length more ≡ 3 * length (path ++ more) = omega (arith, length-append path more) in
    let b : drop (3 * (k + length more)) mid ≡ drop (3 * length (path ++ more)) old =
    ap (drop (3 * (k + length more))) is ∙ ap (λ (x : ℕ). drop x (flat_of path ++ drop (3 * k) old)) l
    ∙ drop-append-add (flat_of path) (drop (3 * k) old) (3 * length more) ∙ drop-drop (3 * length more) (3 * k) old ∙ ap (λ (x : ℕ). drop x old) m in
    e ∙ ap₂ (λ (x y : List Float). x ++ (flat_of more ++ y)) a b
    ∙ sym (append_assoc (flat_of path) (flat_of more) (drop (3 * length (path ++ more)) old))
    ∙ ap (λ (x : List Float). x ++ drop (3 * length (path ++ more)) old) (sym (flat_append path more))
