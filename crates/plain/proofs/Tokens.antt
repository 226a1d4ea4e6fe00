-- Tokens of types: replacing in the words of a type is replacing in the type, an unknown is among its tokens where it stands
-- in it, and what is left after it is what stands behind it.
use mathlib.Core.Bool.{Bool, true, false}
use mathlib.Core.List.{List, [], ◌∷◌, ◌++◌, append_assoc}
use mathlib.Core.Path.{◌≡◌, refl, ap, ◌∙◌}
use Prim.Native.Nat.{ℕ, zero, suc, ◌+◌, ◌≤◌}
use native.Mathlib.Omega.{arith}
use lib.ListN.{length}
use Rattle.unification.specs.Ty.{Leaf, Int, String, Bytes, Fact, Kind, Record, Union, Ty, leaf, node, Var, Error, Row, ε, cell, row_len}
use Rattle.plain_theory.specs.Words.{leaf_spelled, kind_tag, head_spelled, spelled, row_spelled}
use Rattle.plain.specs.Tokens.{short, owed, instead_of, swapped, among, behind}
use Rattle.std.specs.Prelude.{None, Option, Some}

-- ---- One token

pub swapped_short : (x : ℕ) (ts : List ℕ) (a b : ℕ) (ws : List ℕ) → short a ≡ true → swapped x ts (a ∷ b ∷ ws) ≡ a ∷ swapped x ts (b ∷ ws)
unfolding swapped
swapped_short x ts a b ws e = rw e

pub swapped_long : (x : ℕ) (ts : List ℕ) (a b : ℕ) (ws : List ℕ) → short a ≡ false → swapped x ts (a ∷ b ∷ ws) ≡ instead_of x ts a b ++ swapped x ts ws
unfolding swapped
swapped_long x ts a b ws e = rw e

pub among_short : (x a b : ℕ) (ws : List ℕ) → short a ≡ true → among x (a ∷ b ∷ ws) ≡ among x (b ∷ ws)
unfolding among
among_short x a b ws e = rw e

-- ---- What is left after so many

pub behind_none : (ws : List ℕ) → behind ws 0 ≡ Some ws
unfolding behind
behind_none [] = refl
behind_none (a ∷ []) = refl
behind_none (a ∷ b ∷ ws) = refl

pub behind_short : (a : ℕ) (ws : List ℕ) (n : ℕ) → short a ≡ true → behind (a ∷ ws) (suc n) ≡ behind ws n
unfolding behind
behind_short a [] n e = rw e
behind_short a (b ∷ ws) n e = rw e

pub behind_long : (a b : ℕ) (ws : List ℕ) (n : ℕ) → short a ≡ false → behind (a ∷ b ∷ ws) (suc n) ≡ behind ws (owed a b + n)
unfolding behind
behind_long a b ws n e = rw e

pub behind_cut : (a n : ℕ) → short a ≡ false → behind (a ∷ []) (suc n) ≡ None
unfolding behind
behind_cut a n e = rw e

pub behind_empty : (n : ℕ) → behind [] (suc n) ≡ None
unfolding behind
behind_empty n = refl

abbrev pub Enough : List ℕ → ℕ → Option (List ℕ) → Type 0
Enough ws n None = Unit {0}
Enough ws n (Some v) = n + length v ≤ length ws

more_enough : (a : ℕ) (ws : List ℕ) (n m : ℕ) (o : Option (List ℕ)) → n ≤ m + 1 → Enough ws m o → Enough (a ∷ ws) n o
more_enough a ws n m None h e = tt
more_enough a ws n m (Some v) h e = omega arith

enough_none : (n : ℕ) → Enough [] n (behind [] n)
enough_none zero = rw (behind_none []) (omega arith)
enough_none (suc n) = rw (behind_empty n) tt

enough_one : (a n : ℕ) → Enough (a ∷ []) n (behind (a ∷ []) n)
enough_one a zero = rw (behind_none (a ∷ [])) (omega arith)
enough_one a (suc n) = go (short a) refl
  where
    go : (b : Bool) → short a ≡ b → Enough (a ∷ []) (suc n) (behind (a ∷ []) (suc n))
    go true e = rw (behind_short a [] n e) (more_enough a [] (suc n) n (behind [] n) (omega arith) (enough_none n))
    go false e = rw (behind_cut a n e) tt

enough_two : (a b : ℕ) (ws : List ℕ) (n : ℕ) → ((m : ℕ) → Enough (b ∷ ws) m (behind (b ∷ ws) m)) → ((m : ℕ) → Enough ws m (behind ws m))
    → Enough (a ∷ b ∷ ws) n (behind (a ∷ b ∷ ws) n)
enough_two a b ws zero f g = rw (behind_none (a ∷ b ∷ ws)) (omega arith)
enough_two a b ws (suc n) f g = go (short a) refl
  where
    go : (c : Bool) → short a ≡ c → Enough (a ∷ b ∷ ws) (suc n) (behind (a ∷ b ∷ ws) (suc n))
    go true e = rw (behind_short a (b ∷ ws) n e) (more_enough a (b ∷ ws) (suc n) n (behind (b ∷ ws) n) (omega arith) (f n))
    go false e = rw (behind_long a b ws n e)
        (more_enough a (b ∷ ws) (suc n) n (behind ws (owed a b + n)) (omega arith)
        (more_enough b ws n (owed a b + n) (behind ws (owed a b + n)) (omega arith) (g (owed a b + n))))

-- Each takes a word at least.
pub behind_enough : (ws : List ℕ) (n : ℕ) → Enough ws n (behind ws n)
behind_enough [] n = enough_none n
behind_enough (a ∷ []) n = enough_one a n
behind_enough (a ∷ b ∷ ws) n = enough_two a b ws n (λ m. behind_enough (b ∷ ws) m) (λ m. behind_enough ws m)

-- ---- The tokens of types

leaf_behind : (p : Leaf) (ws : List ℕ) (n : ℕ) → behind (leaf_spelled p ++ ws) (suc n) ≡ behind ws n
unfolding leaf_spelled short owed
leaf_behind Int ws n = behind_short 1 ws n refl
leaf_behind String ws n = behind_short 2 ws n refl
leaf_behind Bytes ws n = behind_short 3 ws n refl
leaf_behind (Fact p) ws n = let same : 0 + n ≡ n = omega arith in behind_long 4 p ws n refl ∙ ap (behind ws) same

head_behind : (k : Kind) (key label : ℕ) (ws : List ℕ) (n : ℕ) → behind (head_spelled k key label ++ ws) (suc n) ≡ behind ws (suc n)
unfolding head_spelled short owed
head_behind Record key label ws n = let one : 1 + n ≡ suc n = omega arith in behind_long 9 key ws n refl ∙ ap (behind ws) one
head_behind Union key label ws n =
    let one : 1 + n ≡ suc n = omega arith in
    behind_long 10 label (9 ∷ key ∷ ws) n refl ∙ ap (behind (9 ∷ key ∷ ws)) one ∙ behind_long 9 key ws n refl ∙ ap (behind ws) one

node_behind : (k : Kind) (m : ℕ) (ws : List ℕ) (n : ℕ) → behind (kind_tag k ∷ m ∷ ws) (suc n) ≡ behind ws (m + n)
unfolding kind_tag short owed
node_behind Record m ws n = behind_long 5 m ws n refl
node_behind Union m ws n = behind_long 6 m ws n refl

pub var_long : short 7 ≡ false
unfolding short
var_long = refl

var_owes : (x : ℕ) → owed 7 x ≡ 0
unfolding owed
var_owes x = refl

pub error_short : short 8 ≡ true
unfolding short
error_short = refl

mutual
  unfolding spelled row_len

  pub type_behind : (t : Ty) (ws : List ℕ) (n : ℕ) → behind (spelled t ++ ws) (suc n) ≡ behind ws n
  type_behind (leaf p) ws n = leaf_behind p ws n
  type_behind (node k r) ws n = node_behind k (row_len r) (row_spelled r k ++ ws) n ∙ row_behind r k ws n
  type_behind (Var x) ws n = let same : 0 + n ≡ n = omega arith in
      behind_long 7 x ws n var_long ∙ ap (λ (m : ℕ). behind ws m) (ap (λ (m : ℕ). m + n) (var_owes x) ∙ same)
  type_behind Error ws n = behind_short 8 ws n error_short

  row_behind : (r : Row) (k : Kind) (ws : List ℕ) (n : ℕ) → behind (row_spelled r k ++ ws) (row_len r + n) ≡ behind ws n
  row_behind ε k ws n = let same : 0 + n ≡ n = omega arith in ap (behind ws) same
  row_behind (cell key label t r) k ws n =
      let some_more : suc (row_len r) + n ≡ suc (row_len r + n) = omega arith in
      rw (some_more, append_assoc (head_spelled k key label) (spelled t ++ row_spelled r k) ws, append_assoc (spelled t) (row_spelled r k) ws)
      (head_behind k key label (spelled t ++ (row_spelled r k ++ ws)) (row_len r + n)
      ∙ type_behind t (row_spelled r k ++ ws) (row_len r + n) ∙ row_behind r k ws n)
