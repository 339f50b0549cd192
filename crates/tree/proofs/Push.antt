-- A table with one node more, and the first tables.
use Prim.Native.Nat.{ℕ, ◌<◌}
use mathlib.Core.Path.{◌≡◌, refl}
use lib.ListN.{length, length-set}
use Rattle.std.proofs.lemmas.List.{take_more_set, map-append}
use Rattle.state.specs.declared.State.{State}
use Rattle.tree.specs.declared.Tree.{Tree}
use Rattle.tree.specs.Table.{nodes_in, nodes_of, grown_of, pushed_of, root_of, rooted_of, no_nodes, none_of}

pub push_grows : (t : Tree) (s : State) (parent : ℕ) → t.count < length t.nodes → nodes_of (pushed_of t s parent) ≡ grown_of (nodes_of t) s parent
unfolding nodes_of nodes_in pushed_of grown_of
push_grows t s parent h = rw (take_more_set t.nodes t.count _ h) (simp map-append)

-- no place more and none less
pub push_sized : (t : Tree) (s : State) (parent : ℕ) → length (pushed_of t s parent).nodes ≡ length t.nodes
unfolding pushed_of
push_sized t s parent = length-set _ _ _

-- a root alone
pub rooted_is : (s : State) → nodes_of (rooted_of s) ≡ root_of s
unfolding nodes_of nodes_in rooted_of root_of
rooted_is s = refl

-- no node at all
pub none_is : nodes_of none_of ≡ no_nodes
unfolding nodes_of nodes_in none_of
none_is = refl
