-- The queue as a tree under the start, grown place by place.
use Prim.Native.Nat.{ℕ, ◌+◌, ◌≤◌, ◌<◌}
use mathlib.Core.List.{List, [], ◌∷◌, ◌++◌}
use mathlib.Core.Path.{◌≡◌, refl, sym, ◌∙◌, ap}
use native.Mathlib.Omega.{arith}
use lib.ListN.{length, get_or, take}
use Rattle.std.proofs.lemmas.List.{map-append, take_all, take_more}
use Rattle.state.specs.declared.State.{State}
use Rattle.tree.specs.Table.{Nodes, nodes_of, grown_of, root_of, rooted_of, pushed_of}
use Rattle.tree.specs.declared.Tree.{Tree}
use Rattle.tree.proofs.Push.{push_grows, push_sized, rooted_is}
use Rattle.queue.specs.Places.{Place}
use Rattle.search.specs.Query.{tree_of}

module _ (start : State) (at : ℕ → State) where
  tree_root : root_of start ≡ tree_of start at []
  unfolding root_of tree_of
  tree_root = refl

  tree_more : (q : List Place) (p : Place) → tree_of start at (q ++ (p ∷ [])) ≡ grown_of (tree_of start at q) (at p.number) p.from
  unfolding tree_of grown_of
  tree_more q p = rw (map-append (λ (p : Place). at p.number) q (p ∷ []), map-append (λ (p : Place). p.from) q (p ∷ []))

  -- what holds when the place k is reached: the tree has the places before it, under its root
  pub record Growing (q : List Place) (tree : Tree) (k : ℕ) : Type 0 where
    pub many : tree.count ≡ k + 1
    pub sized : length tree.nodes ≡ 512
    pub is : nodes_of tree ≡ tree_of start at (take k q)

  pub growing_starts : (q : List Place) (tree : Tree) → tree ≡ rooted_of start → Growing q tree 0
  unfolding rooted_of
  growing_starts q tree e = rw e (record { many = refl; sized = refl; is = rooted_is start ∙ tree_root })

  module _ {q : List Place} {tree : Tree} {k : ℕ} (h : Growing q tree k) where
    pub growing_more : (s : State) (p : Place) → k < length q → k < 511 → get_or q k p ≡ p → s ≡ at p.number → Growing q (pushed_of tree s p.from) (k + 1)
    unfolding pushed_of
    growing_more s p more room here e =
        record {
          many = ap (λ (n : ℕ). n + 1) h.many;
          sized = push_sized tree s p.from ∙ h.sized;
          is =
              push_grows tree s p.from (omega (arith, h.many, h.sized))
              ∙ ap (λ (x : Nodes). grown_of x s p.from) h.is
              ∙ ap (λ (x : State). grown_of (tree_of start at (take k q)) x p.from) e
              ∙ sym (tree_more (take k q) p)
              ∙ ap (tree_of start at) (sym (take_more q k p more ∙ ap (λ (x : Place). take k q ++ (x ∷ [])) here));
        }

    -- all places are in the tree
    pub grown_all : length q ≤ k → nodes_of tree ≡ tree_of start at q
    grown_all e = h.is ∙ ap (tree_of start at) (take_all k q e)
